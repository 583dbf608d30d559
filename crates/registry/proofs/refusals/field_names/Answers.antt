use Rattle.std.proofs.Common.{refl}
use Rattle.registry.proofs.Passing.{or_none}
use Rattle.registry.proofs.refusals.field_names.Goals as goal

pub returns : goal.returns
returns g c = rw (c.or-4.ensures, c.or-3.ensures, c.or-2.ensures, c.or.ensures, c.reads_known-reads.ensures, c.all_known-listens.ensures, c.rule_known-create.ensures, c.rule_known-update.ensures, c.rule_known-compare.ensures, c.facet_count.ensures, c.field_count.ensures, c.effect_count.ensures, c.as_slice.ensures, c.as_slice-2.ensures, c.creators.ensures, c.updaters.ensures, c.comparers.ensures, or_none) refl
