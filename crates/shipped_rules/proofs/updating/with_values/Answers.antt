use Rattle.std.proofs.Common.{arith, map, take, subst, sym}
use Rattle.std.proofs.lemmas.Grind.{common_steps}
use Rattle.std.proofs.lemmas.List.Elements.{filter_map-append}
use Rattle.cm_plain.specs.Plain.{datum_of}
use Rattle.values.specs.Reading.{item}
use Rattle.values.specs.Updating.{plain_values}
use Rattle.shipped_rules.specs.Items.{AreItems, items-append, plains-shallow}
use Rattle.shipped_rules.proofs.updating.with_values.Goals as goal

pub loop-effect-preserved : goal.loop-effect-preserved
loop-effect-preserved c = grind (arith, common_steps, filter_map-append)

pub returns-clause-shallow : goal.returns-clause-shallow
returns-clause-shallow c =
    let told = plain_values (take c.loop-effect.effect-index c.args.effects.now) in
    subst AreItems (sym c.loop-effect.invariant) (items-append (map datum_of c.args.items.items) (map item told) c.requires (plains-shallow told))
