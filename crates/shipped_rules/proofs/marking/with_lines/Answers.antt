use Rattle.std.proofs.Common.{sym}
use Rattle.shipped_rules.proofs.InsideSets.{none-made}
use Rattle.shipped_rules.proofs.marking.with_lines.Goals as goal

pub returns-in-None : goal.returns-in-None
returns-in-None c = rw c.in-None.is (sym (none-made c.args.set c.args.effects.now))
