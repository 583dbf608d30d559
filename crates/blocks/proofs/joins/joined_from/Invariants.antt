use Rattle.std.proofs.Common.{ℕ, ◌≡◌, ◌++◌, [], ◌∷◌, ◌||◌, drop}
use Rattle.std.specs.List.{list_any}
use Rattle.blocks.specs.Joins.{AreJoins, AreRanges, covers, holds}
use Rattle.blocks.proofs.joins.joined_from.Given as goal

abbrev pub invariant-loop-range : goal.invariant-loop-range
invariant-loop-range l = record {
  order : AreJoins l.lines 0 0 (l.joins.items ++ l.last ∷ []);
  rest : AreRanges l.lines l.last.first (drop l.range-index l.rest);
  same : (n : ℕ) → (list_any (holds n) (l.joins.items ++ l.last ∷ []) || list_any (covers n) (drop l.range-index l.rest)) ≡ (covers n l.fn.start || list_any (covers n) l.rest);
}
