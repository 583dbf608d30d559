use Rattle.std.proofs.Common.{refl}
use Rattle.std.specs.Str.{chars}
use Rattle.names.proofs.names.Names.take_first.Goals as goal

pub take-requires-2 : goal.take-requires-2
unfolding chars
take-requires-2 c = rw (c.in_ok-take.ensures, c.requires) refl

pub take-requires-3 : goal.take-requires-3
unfolding chars
take-requires-3 c = rw (c.in_ok-take-2.ensures, c.in_ok-take.ensures, c.requires) refl

pub take-requires-4 : goal.take-requires-4
unfolding chars
take-requires-4 c = rw (c.in_ok-take-3.ensures, c.in_ok-take-2.ensures, c.in_ok-take.ensures, c.requires) refl

pub take-requires-5 : goal.take-requires-5
unfolding chars
take-requires-5 c = rw (c.in_ok-take-4.ensures, c.in_ok-take-3.ensures, c.in_ok-take-2.ensures, c.in_ok-take.ensures, c.requires) refl

pub returns : goal.returns
unfolding chars
returns c = rw (c.in_ok-take-4.ensures, c.in_ok-take-3.ensures, c.in_ok-take-2.ensures, c.in_ok-take.ensures, c.requires) at c.take-5.ensures
