use Rattle.std.proofs.Common.{◌≡◌, ◌≤◌, ◌+◌, ◌-◌, length, drop}
use Rattle.change_desc.specs.declared.tail.Tail.TheVariants.{Kept}
use Rattle.change_desc.specs.Sections.{counted, normal, old_size, new_size}
use Rattle.change_desc.specs.Columns.{along_new, along_old}
use Rattle.change_desc.specs.Compose.{composed, compose}
use Rattle.change_desc.specs.Tails.{row_new, row_old, IsTail, left_new, left_old, still_old, still_new, present}
use Rattle.change_desc.specs.Weaving.{woven, old_done, new_done}
use Rattle.change_desc.proofs.compose.compose_sections.Given as goal

-- what is done and what is left come to the sections
abbrev pub invariant-walk : goal.invariant-walk
invariant-walk l =
    record {
      goes : woven l.weave (composed counted (row_new l.a (along_new counted (drop l.i l.first))) (row_old l.b (along_old counted (drop l.j l.second)))) ≡ compose counted l.first l.second;
      is_normal : normal counted l.weave.sections.items ≡ l.weave.sections.items;
      first_part : IsTail l.a;
      second_part : IsTail l.b;
      first_within : l.i ≤ length l.first;
      second_within : l.j ≤ length l.second;
      first_spent : l.a ≡ Kept 0 → l.i ≡ length l.first;
      second_spent : l.b ≡ Kept 0 → l.j ≡ length l.second;
      old : old_done l.weave + (still_old l.a + old_size (drop l.i l.first)) ≡ old_size l.first;
      new : new_done l.weave + (still_new l.b + new_size counted (drop l.j l.second)) ≡ new_size counted l.second;
      level : left_new l.a + new_size counted (drop l.i l.first) ≡ left_old l.b + old_size (drop l.j l.second);
    }

abbrev pub decreases-walk : goal.decreases-walk
decreases-walk l = left_new l.a + new_size counted (drop l.i l.first) + (present l.a + (length l.first - l.i)) + (present l.b + (length l.second - l.j))
