use Rattle.std.proofs.Common.{arith}
use Rattle.mapping.proofs.Filtering.{dropped_new}
use Rattle.mapping.proofs.answering.filtered.Goals as goal

pub filter-requires-clause-dropped_fits : goal.filter-requires-clause-dropped_fits
filter-requires-clause-dropped_fits c = omega (arith, dropped_new c.args.protect.now c.args.a.now, c.requires.fits)
