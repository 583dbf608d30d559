use Rattle.std.proofs.Common.{refl}
use Rattle.registry.proofs.Passing.{or_none}
use Rattle.registry.proofs.refusals.computed_names.Goals as goal

pub returns : goal.returns
returns c = rw (c.or-3.ensures, c.or-2.ensures, c.or.ensures, c.known-named.ensures, c.reads_known-read.ensures, c.rule_known-number.ensures, c.computes.ensures, c.facet_count.ensures, c.facet_count-2.ensures, c.field_count.ensures, or_none) refl
