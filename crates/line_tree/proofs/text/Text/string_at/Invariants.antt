use Rattle.std.proofs.Common.{◌≡◌, ◌-◌, ◌≤◌, take, drop, string_bytes}
use Rattle.std.specs.Prelude.{encode_utf8_all}
use Rattle.line_tree.proofs.text.Text.string_at.Given as goal

abbrev pub invariant-loop-taken : goal.invariant-loop-taken
invariant-loop-taken l = record {
  within : l.taken ≤ l.fn.count;
  value : string_bytes l.string ≡ encode_utf8_all (take l.taken (drop l.fn.from l.self.characters));
}

abbrev pub decreases-loop-taken : goal.decreases-loop-taken
decreases-loop-taken l = l.fn.count - l.taken
