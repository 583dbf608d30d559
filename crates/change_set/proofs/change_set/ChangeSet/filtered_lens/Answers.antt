use Rattle.std.proofs.Common.{◌≡◌, ℕ, [], ap, sym, subst, ◌∙◌}
use Rattle.change_desc.specs.Sections.{Sections, spelled, old_size, new_size}
use Rattle.change_set.specs.declared.half.Half.TheVariants.{Kept, Dropped}
use Rattle.change_set.specs.Protected.{AreJoined}
use Rattle.change_set.specs.Protection.{half_from, taking}
use Rattle.change_set.proofs.FilterSizes.{half-same}
use Rattle.change_set.proofs.change_set.ChangeSet.filtered_lens.Goals as goal

pub returns-clause-kept : goal.returns-clause-kept
returns-clause-kept c =
    let given = c.args.protected.now in
    let rs = c.as_slice.result.now in
    let a : Sections = c.args.self.now in
    let e : c.as_slice-sections.result.now ≡ a = c.as_slice-sections.ensures ∙ c.self.view_is in
    let j : AreJoined given rs = subst (AreJoined given) (sym c.as_slice.ensures.value) c.in_ok-ranges.ensures in
    c.half_len-kept.ensures ∙ ap (new_size spelled)
    (ap (λ (n : ℕ). half_from (taking Kept rs n) [] 0 c.as_slice-sections.result.now) c.len.ensures ∙ (ap (λ (s : Sections). half_from (taking Kept rs (old_size a)) [] 0 s) e ∙ half-same Kept given rs (old_size a) a j))

pub returns-clause-dropped : goal.returns-clause-dropped
returns-clause-dropped c =
    let given = c.args.protected.now in
    let rs = c.as_slice-2.result.now in
    let a : Sections = c.args.self.now in
    let e : c.as_slice-sections.result.now ≡ a = c.as_slice-sections.ensures ∙ c.self.view_is in
    let j : AreJoined given rs = subst (AreJoined given) (sym c.as_slice-2.ensures.value) c.in_ok-ranges.ensures in
    c.half_len-dropped.ensures ∙ ap (new_size spelled)
    (ap (λ (n : ℕ). half_from (taking Dropped rs n) [] 0 c.as_slice-sections.result.now) c.len-2.ensures ∙ (ap (λ (s : Sections). half_from (taking Dropped rs (old_size a)) [] 0 s) e ∙ half-same Dropped given rs (old_size a) a j))
