-- Worked examples, each by computation.
use Rattle.std.specs.Prelude.{◌≡◌, [], ◌∷◌, refl}
use Rattle.selection.specs.Ranges.{cursor}
use Rattle.cursor_moves.specs.Moves.{line_of}
use Rattle.commands.specs.Inserting.{cursors_after}

-- in "abcd", "xy" in place of "a" and at 3 gives "xybcxyd", with cursors after each
each_text : cursors_after 2 0 0 (record { anchor = 0; head = 1 } ∷ cursor 3 ∷ []) ≡ cursor 2 ∷ cursor 6 ∷ []
each_text = refl

-- ranges that touch are each replaced
touching : cursors_after 1 0 0 (record { anchor = 0; head = 2 } ∷ record { anchor = 4; head = 2 } ∷ []) ≡ cursor 1 ∷ cursor 2 ∷ []
touching = refl

-- a place past 32 bits stands as the greatest number
greatest : cursors_after 2 0 0 (cursor 4294967294 ∷ []) ≡ cursor 4294967295 ∷ []
greatest = refl

-- the line of the end of "ab" LF "c" is its second one
second : line_of (97 ∷ 98 ∷ 10 ∷ 99 ∷ []) 4 ≡ record { number = 2; from = 3; to = 4 }
second = refl
