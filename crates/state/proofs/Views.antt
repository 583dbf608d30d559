-- What is shown of a draft in a state is a transaction that is made over its document and selection.
use Rattle.std.proofs.Common.{◌≡◌, inl, inr, Bool, true, false, Option, Some, None, is_some, refl, subst, sym}
use Rattle.std.specs.Option.{unwrap_or}
use Rattle.change_desc.specs.Sections.{lengths, spelled}
use Rattle.selection.specs.Selections.{SelectionView, moved_selection}
use Rattle.transaction.specs.declared.draft.Draft.{Draft}
use Rattle.values.specs.declared.val.Val.{Val}
use Rattle.values.specs.Declarations.{Declarations}
use Rattle.values.specs.Views.{IsTransaction, TransactionView}
use Rattle.filters.specs.Shown.{allowed}
use Rattle.facet_slots.specs.Making.{IsMade, IsWholeOrCut}
use Rattle.facet_slots.specs.Stepping.{State}
use Rattle.state.specs.Cutting.{allows_several}
use Rattle.state.specs.Moving.{transaction_of}

true-false : true ≡ false → ⊥
true-false e = cc

whole-or-cut : (several : Bool) (whole : SelectionView) → IsWholeOrCut (allowed several whole) whole
whole-or-cut true whole = inl refl
whole-or-cut false whole = inr refl

-- where none is given, the old selection is mapped
mapped : (several : Bool) (given : Option SelectionView) (moved : SelectionView) → is_some given ≡ false → IsWholeOrCut (allowed several (unwrap_or given moved)) moved
mapped several None moved e = whole-or-cut several moved
mapped several (Some s) moved e = absurd (true-false e)

pub is-made : (d : Declarations) (old : State) (draft : Draft Val) (view : TransactionView) → view ≡ transaction_of d old draft → IsTransaction view → IsMade old.scene view
is-made d old draft view e is = subst (IsMade old.scene) (sym e) (record {
  is = subst IsTransaction e is;
  start = refl;
  start_selection = refl;
  selection = mapped (allows_several old) draft.selection (moved_selection (lengths spelled draft.changes) old.scene.selection);
})
