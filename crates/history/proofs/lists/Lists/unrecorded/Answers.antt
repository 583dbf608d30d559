use Rattle.std.proofs.Common.{refl, ap, ◌∙◌}
use Rattle.change_desc.specs.Sections.{lengths, spelled}
use Rattle.history.specs.Inputs.{StepView}
use Rattle.history.proofs.Calls.{over-leads}
use Rattle.history.proofs.lists.Lists.unrecorded.Goals as goal

pub items_over-requires : goal.items_over-requires
items_over-requires c =
    over-leads c.args.input.now c.requires.step c.in_ok-over.over (c.in_ok-over.ensures ∙ ap (λ (v : StepView). lengths spelled v.changes) c.input.view_is) c.args.self.now.done c.args.self.now.done refl c.requires.done

pub items_over-requires-2 : goal.items_over-requires-2
items_over-requires-2 c =
    over-leads c.args.input.now c.requires.step c.in_ok-over.over (c.in_ok-over.ensures ∙ ap (λ (v : StepView). lengths spelled v.changes) c.input.view_is) c.args.self.now.undone c.args.self.now.undone refl c.requires.undone
