-- Stops: the places of a line at which a cursor may stand, between its grapheme clusters (Unicode Standard Annex 29).
use Rattle.std.specs.Prelude.{ℕ, ◌+◌, Bool, cond, leb, ltb, List, [], ◌∷◌, length, fold, find}
use Rattle.std.specs.Option.{unwrap_or}
use Rattle.cells.specs.Layout.{clusters}
use Rattle.line_tree.specs.Text.{slice}
use Rattle.line_tree.specs.declared.line.Line.{Line}

-- where each of some clusters ends, the first of which begins at the place `at`
unfoldable pub ends_from : (at : ℕ) → List (List ℕ) → List ℕ
ends_from at [] = []
ends_from at (cluster ∷ clusters) = (at + length cluster) ∷ ends_from (at + length cluster) clusters

-- the ends of a line's clusters; with the line's start they are its stops
abbrev pub ends : List ℕ → Line → List ℕ
ends text line = ends_from line.from (clusters (slice line.from line.to text))

-- a stop takes the place of the one found, where it stands at or before a place
abbrev pub later_stop : (most : ℕ) → (found stop : ℕ) → ℕ
later_stop most found stop = cond (leb stop most) stop found

-- Last stop: the last one of a line at or before a place, which its start is at least.
abbrev pub last_stop : List ℕ → Line → (most : ℕ) → ℕ
last_stop text line most = fold (later_stop most) line.from (ends text line)

-- Next stop: the first one of a line after a place, or the line's end.
abbrev pub next_stop : List ℕ → Line → (place : ℕ) → ℕ
next_stop text line place = unwrap_or (find (ltb place) (ends text line)) line.to
