-- A draft of which some changes are kept.
use Rattle.std.proofs.Common.{◌≡◌, ℕ, ◌≤◌, ◌<◌, Option, Some, None, Ok, Err, sym, ap, subst, ◌∙◌, arith}
use Rattle.change_desc.specs.declared.section.Section.{Section}
use Rattle.change_desc.specs.Sections.{spelled, counted, old_size, new_size}
use Rattle.std.specs.Prelude.{List, length}
use Rattle.transaction.specs.declared.draft.Draft.{Draft}
use Rattle.transaction.specs.declared.error.TransactionError.TheVariants.{TooLong}
use Rattle.transaction.specs.Merging.{Changes, SelectionIn}
use Rattle.transaction.proofs.Meetings.{is_long, not_long}
use Rattle.values.specs.declared.val.Val.{Val}
use Rattle.values.specs.Rules.{Rules}
use Rattle.values.specs.Views.{AreWithin}
use Rattle.filters.specs.Starts.{IsStart, StartsIn, StartView}
use Rattle.filters.specs.Outcomes.{Outcome, unless}
use Rattle.filters.specs.Guards.{reduced, way_back, with_parts}
use Rattle.filters.specs.PrivateParts.{AreParts, LeadsBack}

module _ (rules : Rules) (start : StartView) (kept dropped : Changes) (d : Draft Val) (n : ℕ) (e : n ≡ new_size spelled kept) where
  pub parts-refused : start.max < n → with_parts rules start kept dropped d ≡ Err (TooLong n start.max)
  parts-refused l = ap (λ o. unless o (reduced rules start kept (way_back kept dropped) d)) (is_long start.max n kept e l)

  pub parts-ok : (back : List (Section ℕ)) (out : Draft Val) → n ≤ start.max → back ≡ way_back kept dropped → out ≡ reduced rules start kept back d →
      with_parts rules start kept dropped d ≡ Ok out
  parts-ok back out l b v =
      ap (λ o. unless o (reduced rules start kept (way_back kept dropped) d)) (not_long start.max n kept e l) ∙
      ap Ok (sym (v ∙ ap (λ w. reduced rules start kept w d) b))

  pub parts-start : (out : Draft Val) (back : List (Section ℕ)) → n ≤ start.max → StartsIn start d → AreParts d.changes kept dropped → LeadsBack d.changes kept back →
      out ≡ reduced rules start kept back d → SelectionIn (new_size counted back) out.selection → StartsIn start out
  parts-start out back l h p b v i =
      let changes : out.changes ≡ kept = ap (λ w. w.changes) v in
      record {
        is_draft = record {
          starts = ap old_size changes ∙ (p.starts ∙ h.is_draft.starts);
          inside = subst (λ m. SelectionIn m out.selection) (b.ends ∙ ap (new_size spelled) (sym changes)) i;
        };
        short = subst (λ c. new_size spelled c ≤ start.max) (sym changes) (omega (arith, e, l));
      }

  pub back-within : (back : List (Section ℕ)) → n ≤ start.max → IsStart start → StartsIn start d → LeadsBack d.changes kept back → AreWithin back
  back-within back l s h b = record { short = omega (arith, b.starts, h.short, s.limit); new_short = omega (arith, b.ends, e, l, s.limit) }

pub parts-by : (rules : Rules) (start : StartView) (kept left dropped gone : Changes) (d : Draft Val) (o : Outcome) → kept ≡ left → dropped ≡ gone →
    with_parts rules start kept dropped d ≡ o → with_parts rules start left gone d ≡ o
parts-by rules start kept left dropped gone d o e f h =
    ap (λ k. with_parts rules start k gone d) (sym e) ∙ (ap (λ g. with_parts rules start kept g d) (sym f) ∙ h)
