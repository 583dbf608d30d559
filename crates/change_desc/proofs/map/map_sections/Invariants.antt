use Rattle.std.proofs.Common.{◌≡◌, ◌≤◌, ◌+◌, ◌-◌, ◌*◌, length, drop}
use Rattle.change_desc.specs.declared.tail.Tail.TheVariants.{Kept}
use Rattle.change_desc.specs.Sections.{counted, normal, old_size, new_size}
use Rattle.change_desc.specs.Columns.{along_old}
use Rattle.change_desc.specs.Map.{mapped, map_over}
use Rattle.change_desc.specs.Tails.{row_old, IsTail, left_old, still_new, weight}
use Rattle.change_desc.specs.Weaving.{woven, old_done}
use Rattle.change_desc.proofs.map.map_sections.Given as goal

-- what is done and what is left come to the sections
abbrev pub invariant-walk : goal.invariant-walk
invariant-walk l =
    record {
      goes : woven l.weave (mapped counted l.before (row_old l.a (along_old counted (drop l.i l.first))) (row_old l.b (along_old counted (drop l.j l.second)))) ≡ map_over counted l.second l.first l.before;
      is_normal : normal counted l.weave.sections.items ≡ l.weave.sections.items;
      first_part : IsTail l.a;
      second_part : IsTail l.b;
      first_within : l.i ≤ length l.first;
      second_within : l.j ≤ length l.second;
      first_spent : l.a ≡ Kept 0 → l.i ≡ length l.first;
      second_spent : l.b ≡ Kept 0 → l.j ≡ length l.second;
      old : old_done l.weave + (still_new l.a + new_size counted (drop l.i l.first)) ≡ new_size counted l.first;
      level : left_old l.a + old_size (drop l.i l.first) ≡ left_old l.b + old_size (drop l.j l.second);
    }

abbrev pub decreases-walk : goal.decreases-walk
decreases-walk l = left_old l.a + old_size (drop l.i l.first) + (weight l.a + 2 * (length l.first - l.i)) + (weight l.b + 2 * (length l.second - l.j))
