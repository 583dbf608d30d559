use Rattle.std.specs.Prelude.{option_map}
use Rattle.std.specs.Box.{box_value}
use Rattle.transaction.specs.PrivateSteps.{Progress}
use Rattle.transaction.proofs.merging.resolve_known.Given as goal

abbrev pub invariant-loop-spec : goal.invariant-loop-spec
invariant-loop-spec g l =
    Progress l.frame.len l.frame.max l.frame.kinds.now (g.M.EffectMaps.map_value l.frame.maps.now) l.fn.specs.items (option_map box_value l.draft) l.refusal l.spec-iterator.rest.items
