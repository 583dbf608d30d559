use Rattle.std.proofs.Common.{◌≡◌, take}
use Rattle.std.specs.Prelude.{option_copied}
use Rattle.values.specs.Updating.{plain_values}
use Rattle.shipped_rules.specs.Effects.{last_of}
use Rattle.shipped_rules.proofs.updating.last_plain.Given as goal

abbrev pub invariant-loop-effect : goal.invariant-loop-effect
invariant-loop-effect l = option_copied l.last ≡ last_of (plain_values (take l.effect-index l.effects))
