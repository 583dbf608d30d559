use Rattle.std.proofs.Common.{◌≡◌, ◌<◌, ◌+◌, ◌∙◌, ℕ, zero, suc, List, drop, fold, refl, arith}
use Rattle.ext_tree.specs.declared.visit.Visit.{Visit}
use Rattle.ext_tree.specs.Flat.{levels}
use Rattle.ext_tree.specs.Taking.{take_level}
use Rattle.ext_tree.proofs.flat.sorted.Goals as goal

next-level : (vs : List Visit) (taken : List ℕ) (k : ℕ) → k < 5 → fold (take_level vs) (take_level vs taken k) (drop (k + 1) levels) ≡ fold (take_level vs) taken (drop k levels)
next-level vs taken zero lt = refl
next-level vs taken (suc zero) lt = refl
next-level vs taken (suc (suc zero)) lt = refl
next-level vs taken (suc (suc (suc zero))) lt = refl
next-level vs taken (suc (suc (suc (suc zero)))) lt = refl
next-level vs taken (suc (suc (suc (suc (suc k))))) lt = absurd (omega arith)

pub loop-level-preserved : goal.loop-level-preserved
loop-level-preserved c = record {
  taken = rw c.in_ok-take_level.ensures.taken (next-level c.args.leaves.now c.loop-level.taken.nodes.items c.loop-level.level c.loop-level-test.true ∙ c.loop-level.invariant.taken);
  marks = c.in_ok-take_level.ensures.marks;
  room = rw c.in_ok-take_level.ensures.room c.loop-level.invariant.room;
}
