use Rattle.std.proofs.Common.{◌≡◌, ℕ, List, refl, ap, sym, subst, ◌∙◌}
use Rattle.change_desc.specs.declared.section.Section.{Section}
use Rattle.change_desc.proofs.Applies.{apply-compose}
use Rattle.change_desc.proofs.Lengths.{spelled_sizes, compose-lengths}
use Rattle.change_desc.specs.Sections.{apply, spelled, counted, lengths, old_size, new_size, IsSet}
use Rattle.change_desc.specs.Compose.{compose}
use Rattle.change_set.proofs.Sizes.{old_size-compose, new_size-compose}
use Rattle.change_desc.specs.Laws.{CutsAreShared}
use Rattle.change_set.specs.Texts.{written}
use Rattle.change_set.proofs.SharedCuts.{cuts_are_shared}
use Rattle.change_set.proofs.Composed.{filled-is, filled-total, filled-is_set}
use Rattle.change_set.proofs.change_set.ChangeSet.compose.Goals as goal

pub composed_text-requires : goal.composed_text-requires
composed_text-requires c = c.requires

pub filled-requires : goal.filled-requires
filled-requires c =
    let s : List (Section (List ℕ)) = compose spelled c.args.self.now c.args.next.now in
    let e : c.sections.result.now ≡ lengths spelled s = c.sections.ensures ∙ c.in_ok-lengths.ensures in
    let f : c.in_ok-text.text.characters ≡ written s = c.in_ok-text.ensures in
    filled-total s c.sections.result.now c.in_ok-text.text.characters e f

pub invariant_of-result : goal.invariant_of-result
invariant_of-result c =
    let s : List (Section (List ℕ)) = compose spelled c.args.self.now c.args.next.now in
    let e : c.sections.result.now ≡ lengths spelled s = c.sections.ensures ∙ c.in_ok-lengths.ensures in
    let f : c.in_ok-text.text.characters ≡ written s = c.in_ok-text.ensures in
    subst (IsSet spelled) (sym (c.in_ok-sections.ensures ∙ filled-is s c.sections.result.now c.in_ok-text.text.characters e f))
    (filled-is_set s (lengths spelled s) refl (subst (IsSet counted) (c.lengths.view_is ∙ c.in_ok-lengths.ensures) c.lengths.invariant))

pub returns : goal.returns
returns c =
    let s : List (Section (List ℕ)) = compose spelled c.args.self.now c.args.next.now in
    let e : c.sections.result.now ≡ lengths spelled s = c.sections.ensures ∙ c.in_ok-lengths.ensures in
    let f : c.in_ok-text.text.characters ≡ written s = c.in_ok-text.ensures in
    let w = c.in_ok-sections.ensures ∙ filled-is s c.sections.result.now c.in_ok-text.text.characters e f in
    record {
      both = w;
      starts = ap old_size w ∙ old_size-compose c.args.self.now c.args.next.now c.requires;
      ends = ap (new_size spelled) w ∙ new_size-compose c.args.self.now c.args.next.now c.requires;
      in_turn = λ doc l. ap (λ r. apply r doc) w ∙ apply-compose c.args.self.now c.args.next.now doc l c.requires;
      shared = subst (CutsAreShared c.args.self.now c.args.next.now) (sym w) (cuts_are_shared c.args.self.now c.args.next.now c.requires);
      described = ap (lengths spelled) w ∙ compose-lengths spelled spelled_sizes c.args.self.now c.args.next.now;
    }
