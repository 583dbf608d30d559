use Rattle.std.proofs.Common.{◌≡◌, ◌+◌, ◌-◌, ◌≤◌}
use Rattle.cm_outside.proofs.Scanning.{Scanned, Late}
use Rattle.cm_outside.proofs.line_reader.LineReader.read_line.Given as goal

abbrev pub invariant-loop-line : goal.invariant-loop-line
invariant-loop-line g l = record {
  scanned : Scanned l.line.items l.initial.self l.self (g.S.Source.left l.initial.source) (g.S.Source.left l.source);
  counted : g.S.Source.given l.source + l.initial.self.taken ≡ g.S.Source.given l.initial.source + l.self.taken;
  late : Late g.S.Source.given g.S.Source.asked l.initial.self l.self l.initial.source l.source (g.S.Source.left l.initial.source);
  later : g.S.Source.faults l.initial.source ≤ g.S.Source.faults l.source;
}

abbrev pub decreases-loop-line : goal.decreases-loop-line
decreases-loop-line g l = l.self.limit + 1 - l.self.taken
