use Rattle.std.proofs.Common.{◌≡◌, ◌≤◌, ◌+◌, ◌-◌, ◌*◌, length, drop}
use Rattle.change_desc.specs.declared.tail.Tail.TheVariants.{Kept}
use Rattle.change_desc.specs.Sections.{counted, old_size}
use Rattle.change_desc.specs.Columns.{along_old}
use Rattle.change_desc.specs.Tails.{row_old, IsTail, left_old, weight}
use Rattle.change_desc.specs.MapSteps.{merged_len}
use Rattle.change_desc.proofs.map.mapped_len.Given as goal

-- what was counted and what is left come to the length
abbrev pub invariant-walk : goal.invariant-walk
invariant-walk l =
    record {
      goes : l.len + merged_len (row_old l.a (along_old counted (drop l.i l.first))) (row_old l.b (along_old counted (drop l.j l.second))) ≡ merged_len (along_old counted l.first) (along_old counted l.second);
      first_part : IsTail l.a;
      second_part : IsTail l.b;
      first_within : l.i ≤ length l.first;
      second_within : l.j ≤ length l.second;
      first_spent : l.a ≡ Kept 0 → l.i ≡ length l.first;
      second_spent : l.b ≡ Kept 0 → l.j ≡ length l.second;
      level : left_old l.a + old_size (drop l.i l.first) ≡ left_old l.b + old_size (drop l.j l.second);
    }

abbrev pub decreases-walk : goal.decreases-walk
decreases-walk l = left_old l.a + old_size (drop l.i l.first) + (weight l.a + 2 * (length l.first - l.i)) + (weight l.b + 2 * (length l.second - l.j))
