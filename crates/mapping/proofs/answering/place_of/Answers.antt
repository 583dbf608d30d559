use Rattle.std.proofs.Common.{ap, arith}
use Rattle.change_desc.specs.Sections.{old_size}
use Rattle.mapping.proofs.SetLengths.{lengths_old}
use Rattle.mapping.proofs.answering.place_of.Goals as goal

pub map_pos-requires : goal.map_pos-requires
map_pos-requires c = omega (arith, c.requires, ap old_size c.in_ok-desc.ensures, lengths_old c.args.set.now)
