-- What a transaction of the workload does, by three draws.
use Rattle.std.specs.Prelude.{ℕ, ◌+◌, ◌-◌, ◌%◌, ◌==◌, List, length, map, min, if◌then◌else◌}
use Rattle.std.specs.List.{range_with_len}
use Rattle.workload.specs.Draws.{drawn, next_seed}
use Rattle.workload.specs.declared.edit.Edit.{Edit}
use Rattle.workload.specs.declared.edit.Edit.TheVariants.{Insert, Delete, Mark}
use Rattle.workload.specs.declared.progress.Progress.{Progress}

-- a position of a document of `len` characters, by a draw
abbrev pub place : ℕ → ℕ → ℕ
place len c = c % (len + 1)

-- what is done to a document of `len` characters: half of the draws insert a text, a quarter delete and a quarter mark a range
abbrev pub edit_of : ℕ → ℕ → ℕ → ℕ → Edit
edit_of len a b c =
    if a % 4 == 0 then Delete (place len c) (min len (place len c + b % 8))
    else (if a % 4 == 1 then Mark (place len c) (min len (place len c + 1 + b % 8))
    else Insert (place len c) (1 + b % 8) c)

-- the character of a made text at an index: LF where it is the eighth, which only the longest texts have, else a letter
-- from a to z, the next one at each index
abbrev pub character : ℕ → ℕ → ℕ
character c index = if index == 7 then 10 else 97 + (c + index) % 26

-- the text of a size from 1 to 8, by the draw that chose its first letter
abbrev pub made_text : ℕ → ℕ → List ℕ
made_text size c = map (character c) (range_with_len 0 size)

-- the length of a document of `len` characters after the edit
abbrev pub length_after : ℕ → Edit → ℕ
length_after len (Insert at size c) = len + length (made_text size c)
length_after len (Delete from to) = len - (to - from)
length_after len (Mark from to) = len

-- the next transaction's edit, by three draws
abbrev pub next_edit : Progress → Edit
next_edit p = edit_of p.length (drawn (next_seed p.seed)) (drawn (next_seed (next_seed p.seed))) (drawn (next_seed (next_seed (next_seed p.seed))))

-- where the workload stands after the next transaction
abbrev pub after : Progress → Progress
after p = record {
  number = p.number + 1;
  seed = next_seed (next_seed (next_seed p.seed));
  length = length_after p.length (next_edit p);
}
