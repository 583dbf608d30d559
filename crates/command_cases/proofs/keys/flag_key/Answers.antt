use Rattle.std.proofs.Common.{false, Some, refl}
use Rattle.registry.specs.Predeclared.{combined_by}
use Rattle.values.specs.Shipped.{shipped}
use Rattle.typed_keys.proofs.Known.{facet-known}
use Rattle.command_cases.proofs.keys.flag_key.Goals as goal

pub returns : goal.returns
returns c =
    facet-known shipped 3 (combined_by 13 false) c.in_ok-key.key (Some (combined_by 13 false)) (rw c.in_ok-registry.ensures at c.in_ok-key.ensures.key) refl
