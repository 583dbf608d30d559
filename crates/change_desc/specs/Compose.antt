-- Compose: two sets, one after the other (manual: ChangeDesc.composeDesc, ChangeSet.compose).
use Rattle.std.specs.Prelude.{ℕ, Bool, true, false, ◌&&◌, List, [], ◌∷◌, ◌++◌}
use Rattle.change_desc.specs.declared.section.Section.{Section}
use Rattle.change_desc.specs.declared.section.Section.TheVariants.{Keep, Replace}
use Rattle.change_desc.specs.Sections.{Texts}
use Rattle.change_desc.specs.Columns.{Row, last, next, Fate, stays, leaves, follows, Origin, old, new, more, along_old, along_new}
use Rattle.change_desc.specs.Pieces.{Piece, single, stretch, sections}

-- Shared places: both sets lie along the text between; a place of it is shared where both have a cut there, that is
-- where neither goes on with a Replace across it.
abbrev pub is_cut_new : {C : Type 0} → Origin C → Bool
is_cut_new (more _) = false
is_cut_new _ = true

abbrev pub is_cut_old : {T : Type 0} → Fate T → Bool
is_cut_old follows = false
is_cut_old _ = true

-- the old characters at one character between
abbrev pub count_of : {C : Type 0} → Origin C → ℕ
count_of old = 1
count_of (new n _) = n
count_of (more _) = 0

module _ {T C : Type 0} (X : Texts T C) where
  -- the new text at one character between that is not kept by both
  abbrev pub char_of : Origin C → T
  char_of old = X.none
  char_of (new _ c) = X.one c
  char_of (more c) = X.one c

  abbrev pub text_of : Fate T → T
  text_of (leaves t) = t
  text_of _ = X.none

  abbrev pub new_text : Origin C → Fate T → T
  new_text x stays = char_of x
  new_text x y = text_of y

  -- one character between: kept where both keep it, else the old characters that the first set has there replaced by the
  -- new text that the second has there
  abbrev pub between : (shared : Bool) → Origin C → Fate T → Piece T
  between shared old stays = single (Keep 1)
  between shared x y = stretch shared (count_of x) (new_text x y)

  -- between two characters: at a shared place the deletions of the first set and then the insertions of the second, each
  -- by itself; elsewhere they belong to the Replace that goes on across the place
  abbrev pub in_gap : (shared : Bool) → ℕ → T → List (Piece T)
  in_gap true n t = single (Replace n X.none) ∷ single (Replace 0 t) ∷ []
  in_gap false n t = stretch false n t ∷ []

  abbrev pub composed : Row ℕ (Origin C) → Row T (Fate T) → List (Piece T)
  composed (last n) (last t) = in_gap true n t
  composed (next n x r) (next t y s) =
      let shared = is_cut_new x && is_cut_old y in in_gap shared n t ++ between shared x y ∷ composed r s
  composed _ _ = []

  -- Compose: both sets one after the other, from the old text of the first to the new text of the second (manual:
  -- ChangeDesc.composeDesc, ChangeSet.compose).
  abbrev pub compose : List (Section T) → List (Section T) → List (Section T)
  compose a b = sections X (composed (along_new X a) (along_old X b))
