use Rattle.std.proofs.Common.{Some, refl}
use Rattle.registry.specs.Predeclared.{history_def}
use Rattle.values.specs.Shipped.{shipped}
use Rattle.typed_keys.proofs.Known.{field-known}
use Rattle.command_cases.proofs.keys.history_key.Goals as goal

pub returns : goal.returns
returns c =
    field-known shipped 0 history_def c.in_ok-key.key (Some history_def) (rw c.in_ok-registry.ensures at c.in_ok-key.ensures.key) refl
