use Rattle.std.proofs.Common.{◌≡◌, ℕ, List, refl, ap, sym, subst, ◌∙◌}
use Rattle.change_desc.specs.declared.section.Section.{Section}
use Rattle.change_desc.specs.Sections.{apply, spelled, counted, lengths, old_size, IsSet}
use Rattle.change_desc.specs.Map.{map_over}
use Rattle.change_desc.proofs.Lengths.{spelled_sizes, map_over-lengths}
use Rattle.change_desc.proofs.Merges.{old_size-map_over, old_size-lengths, apply-map_over}
use Rattle.change_set.specs.Texts.{written}
use Rattle.change_set.proofs.Written.{written-map_over}
use Rattle.change_set.proofs.Composed.{filled-is, filled-total, filled-is_set}
use Rattle.change_set.proofs.change_set.ChangeSet.map.Goals as goal

pub mapped_lengths-requires : goal.mapped_lengths-requires
mapped_lengths-requires c = record { meet = c.requires.meet; fits = c.requires.fits }

pub filled-requires : goal.filled-requires
filled-requires c =
    let s : List (Section (List ℕ)) = map_over spelled c.args.self.now c.args.over.now c.args.before in
    let e : c.sections.result.now ≡ lengths spelled s = c.sections.ensures ∙ c.in_ok-lengths.ensures in
    let f : c.in_ok-text.text.characters ≡ written s = c.in_ok-text.ensures ∙ sym (written-map_over c.args.self.now c.args.over.now c.args.before c.requires.meet) in
    filled-total s c.sections.result.now c.in_ok-text.text.characters e f

pub invariant_of-result : goal.invariant_of-result
invariant_of-result c =
    let s : List (Section (List ℕ)) = map_over spelled c.args.self.now c.args.over.now c.args.before in
    let e : c.sections.result.now ≡ lengths spelled s = c.sections.ensures ∙ c.in_ok-lengths.ensures in
    let f : c.in_ok-text.text.characters ≡ written s = c.in_ok-text.ensures ∙ sym (written-map_over c.args.self.now c.args.over.now c.args.before c.requires.meet) in
    subst (IsSet spelled) (sym (c.in_ok-sections.ensures ∙ filled-is s c.sections.result.now c.in_ok-text.text.characters e f))
    (filled-is_set s (lengths spelled s) refl (subst (IsSet counted) (c.lengths.view_is ∙ c.in_ok-lengths.ensures) c.lengths.invariant))

pub returns : goal.returns
returns c =
    let s : List (Section (List ℕ)) = map_over spelled c.args.self.now c.args.over.now c.args.before in
    let e : c.sections.result.now ≡ lengths spelled s = c.sections.ensures ∙ c.in_ok-lengths.ensures in
    let f : c.in_ok-text.text.characters ≡ written s = c.in_ok-text.ensures ∙ sym (written-map_over c.args.self.now c.args.over.now c.args.before c.requires.meet) in
    let w = c.in_ok-sections.ensures ∙ filled-is s c.sections.result.now c.in_ok-text.text.characters e f in
    record {
      mapped = w;
      starts = ap old_size w ∙ old_size-map_over spelled c.args.self.now c.args.over.now c.args.before c.requires.meet;
      merges = λ other doc h l.
          ap (λ r. apply r (apply other doc)) (w ∙ ap (λ r. map_over spelled c.args.self.now r c.args.before) (sym h)) ∙
          apply-map_over other c.args.self.now c.args.before doc l (sym c.requires.meet ∙ (ap old_size (sym h) ∙ (old_size-lengths spelled other ∙ l)));
      described = ap (lengths spelled) w ∙ map_over-lengths spelled spelled_sizes c.args.self.now c.args.over.now c.args.before;
    }
