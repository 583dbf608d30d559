use Rattle.std.proofs.Common.{ap, ◌∙◌}
use Rattle.change_desc.specs.Sections.{invert, new_size, spelled}
use Rattle.history.specs.Inputs.{StepView}
use Rattle.history.proofs.Leading.{invert-new}
use Rattle.history.proofs.cases.joined_change.Goals as goal

pub compose-requires : goal.compose-requires
compose-requires c =
    ap (new_size spelled) (c.in_ok-back.ensures.back ∙ ap (λ (v : StepView). invert v.changes v.document.characters) c.input.view_is) ∙ (invert-new c.args.input.now.changes c.args.input.now.document.characters c.requires.starts ∙ c.requires.meets)
