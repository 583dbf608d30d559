use Rattle.std.proofs.Common.{ap, subst, sym, ◌∙◌}
use Rattle.range_set.specs.Mapping.{EndWithin}
use Rattle.range_set.specs.Order.{first_fault}
use Rattle.range_set.specs.PrivateChunks.{spread}
use Rattle.range_set.proofs.Groups.{are_spread}
use Rattle.range_set.proofs.Sets.{flat_within}
use Rattle.range_set.proofs.range_set.RangeSet.known.Goals as goal

pub returns-clause-fit : goal.returns-clause-fit
returns-clause-fit g c = subst (EndWithin 4294967295) c.self.view_is (flat_within g.T.RangeValue.rules (spread c.self.inside.groups) (are_spread g.T.RangeValue.rules c.self.inside.groups c.self.invariant.sound.groups))

pub returns-clause-order : goal.returns-clause-order
returns-clause-order g c = ap (first_fault g.T.RangeValue.rules) (sym c.self.view_is) ∙ c.self.invariant.order
