use Rattle.std.proofs.Common.{ap, ◌∙◌}
use Rattle.change_set.specs.Same.{same_sections}
use Rattle.change_set.proofs.Sameness.{sections-iff}
use Rattle.change_set.proofs.change_set.ChangeSet.same.Goals as goal

pub returns : goal.returns
returns c =
    let v = c.same_sections.ensures ∙ (ap (λ s. same_sections s c.as_slice-2.result.now) (c.as_slice.ensures ∙ c.self.view_is) ∙ ap (same_sections c.args.self.now) (c.as_slice-2.ensures ∙ c.other.view_is)) in
    record { value = v; equal = sections-iff c.args.self.now c.args.other.now c.same_sections.result v }
