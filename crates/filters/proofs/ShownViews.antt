-- What rules are shown of a draft.
use Rattle.std.proofs.Common.{◌≡◌, ℕ, ◌≤◌, List, filter_map, length, refl, sym, subst, arith}
use Rattle.std.specs.List.{AllByRecursion}
use Rattle.change_desc.specs.Sections.{spelled, apply, new_size}
use Rattle.change_set.proofs.Sizes.{length-apply}
use Rattle.cm_plain.specs.declared.kept_effect.KeptEffect.{KeptEffect}
use Rattle.selection.specs.Selections.{IsSelection, LieIn}
use Rattle.transaction.specs.declared.draft.Draft.{Draft}
use Rattle.values.specs.declared.val.Val.{Val}
use Rattle.values.specs.InRange.{IsKeptInRange, IsNoteInRange, IsShownInRange}
use Rattle.values.specs.Views.{IsTransaction}
use Rattle.filters.specs.Shown.{new_selection, shown_effect, shown_of}
use Rattle.filters.specs.Starts.{IsStart, StartsIn, StartView}

pub is-transaction : (s : StartView) (inverted : List KeptEffect) (d : Draft Val) → IsStart s → StartsIn s d → IsSelection s.selection → IsSelection (new_selection s d) →
    LieIn (new_size spelled d.changes) (new_selection s d).ranges → AllByRecursion IsShownInRange (filter_map shown_effect d.effects) → AllByRecursion IsKeptInRange inverted →
    AllByRecursion IsNoteInRange d.annotations → IsTransaction (shown_of s inverted d)
is-transaction s inverted d start h before after inside effects kept notes =
    let e : length (apply d.changes s.document) ≡ new_size spelled d.changes = length-apply d.changes s.document h.is_draft.starts in
    record {
      starts = h.is_draft.starts;
      document = refl;
      short = omega (arith, start.short, start.limit);
      new_short = omega (arith, e, h.short, start.limit);
      start_is_selection = before;
      is_selection = after;
      start_inside = start.inside;
      inside = subst (λ n. LieIn n (new_selection s d).ranges) (sym e) inside;
      effects = effects;
      inverted = kept;
      annotations = notes;
    }
