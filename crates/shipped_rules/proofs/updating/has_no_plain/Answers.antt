use Rattle.std.proofs.Common.{◌∙◌, ap, sym}
use Rattle.std.specs.Prelude.{option_copied}
use Rattle.values.specs.Updating.{plain_values}
use Rattle.shipped_rules.specs.Effects.{none-last}
use Rattle.shipped_rules.proofs.updating.has_no_plain.Goals as goal

pub returns-in-None : goal.returns-in-None
returns-in-None c = λ is. none-last (plain_values c.args.effects.now) (sym c.last_plain.ensures ∙ ap option_copied c.in-None.is)
