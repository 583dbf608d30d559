use Rattle.std.proofs.Common.{ap, ◌∙◌}
use Rattle.change_set.specs.Same.{same_text}
use Rattle.change_set.proofs.Sameness.{text-test}
use Rattle.change_set.proofs.inserted_text.InsertedText.same.Goals as goal

pub returns : goal.returns
returns c =
    text-test c.self.inside.text.characters c.other.inside.text.characters c.same.result c.same.ensures ∙
    (ap (λ t. same_text t c.other.inside.text.characters) c.self.view_is ∙ ap (same_text c.args.self.now) c.other.view_is)
