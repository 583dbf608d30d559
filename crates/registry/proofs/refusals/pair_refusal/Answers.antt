use Rattle.std.proofs.Common.{refl}
use Rattle.registry.proofs.Passing.{or_none}
use Rattle.registry.proofs.refusals.pair_refusal.Goals as goal

pub returns : goal.returns
returns c = rw (c.or-4.ensures, c.or-3.ensures, c.or-2.ensures, c.or.ensures, c.known-first.ensures, c.known-second.ensures, c.unless-inverse.ensures, c.unless-free.ensures, c.unless-back_free.ensures, c.effect_count.ensures, c.effect_count-2.ensures, c.are_inverse.ensures, c.map_of.ensures, c.map_of-2.ensures, c.is_unpaired.ensures, c.is_unpaired-2.ensures, or_none) refl
