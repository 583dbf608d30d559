use Rattle.values.proofs.effect_map.EffectMap.new.Goals as goal

pub returns-clause-maps : goal.returns-clause-maps
returns-clause-maps g c = record { callable = c.requires.callable; gives = c.requires.meant }
