use Rattle.std.specs.Prelude.{ℕ, List, fold, min, Option, Some, None}

-- lesser: the lesser of a number found before, if any, and another
abbrev pub lesser : Option ℕ → ℕ → Option ℕ
lesser None n = Some n
lesser (Some m) n = Some (min m n)

-- least: of the numbers of a list the least, none where there are none
abbrev pub least : List ℕ → Option ℕ
least ns = fold lesser None ns
