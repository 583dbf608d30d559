use Rattle.std.proofs.Common.{length, sym, ap, ◌∙◌}
use Rattle.std.specs.Prelude.{option_copied}
use Rattle.history.proofs.Calls.{first-starts}
use Rattle.history.proofs.cases.joined_to.Goals as goal

pub joined_change-requires-clause-meets : goal.joined_change-requires-clause-meets
joined_change-requires-clause-meets c =
    first-starts (length c.args.input.now.document.characters) c.args.items.now c.in-Some.change.now c.requires.leads (sym c.first_change.ensures ∙ ap option_copied c.in-Some.is)
