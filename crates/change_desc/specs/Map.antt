-- Merge, and map: one set over another that starts in the same text (manual: ChangeDesc.mapDesc, ChangeSet.map).
use Rattle.std.specs.Prelude.{ℕ, ◌+◌, Bool, true, false, List, [], ◌∷◌, ◌++◌}
use Rattle.change_desc.specs.declared.section.Section.{Section}
use Rattle.change_desc.specs.declared.section.Section.TheVariants.{Keep, Replace}
use Rattle.change_desc.specs.Sections.{Texts, spelled, counted}
use Rattle.change_desc.specs.Columns.{Row, last, next, Fate, stays, leaves, along_old}
use Rattle.change_desc.specs.Compose.{text_of}
use Rattle.change_desc.specs.Pieces.{Piece, single, stretch, sections}

-- Merge and map, along the text that both sets start from: first what A gives at a place, then what B gives,
-- or the other way round where B stands before.
abbrev pub ordered : {A : Type 0} → (before : Bool) → List A → List A → List A
ordered true a b = b ++ a
ordered false a b = a ++ b

abbrev pub staying : {T U C : Type 0} → Fate T → Fate U → C → List C
staying stays stays c = c ∷ []
staying _ _ _ = []

-- Merge: at each gap the texts of A that start there and then those of B, or with `before` those of B first; then the
-- character, unless A or B deletes it.
abbrev pub merged : {C : Type 0} → (before : Bool) → Row (List C) (Fate (List C)) → Row (List C) (Fate (List C)) → List C → List C
merged before (last i) (last j) doc = ordered before i j
merged before (next i x r) (next j y s) (c ∷ doc) =
    ordered before (i ++ text_of spelled x) (j ++ text_of spelled y) ++ (staying x y c ++ merged before r s doc)
merged _ _ _ _ = []

abbrev pub merge : {C : Type 0} → List (Section (List C)) → List (Section (List C)) → (before : Bool) → List C → List C
merge a b before doc = merged before (along_old spelled a) (along_old spelled b) doc

abbrev pub text_size : Fate ℕ → ℕ
text_size (leaves n) = n
text_size _ = 0

module _ {T C : Type 0} (X : Texts T C) where
  -- B's texts at a place: a pure insertion, then the text of a Replace that starts there
  abbrev pub inserted : T → Fate T → List (Piece T)
  inserted j (leaves t) = single (Replace 0 j) ∷ stretch true 0 t ∷ []
  inserted j _ = single (Replace 0 j) ∷ []

  -- a character: kept by both, deleted by B alone, or passed over since A deletes it
  abbrev pub character : Fate ℕ → Fate T → List (Piece T)
  character stays stays = single (Keep 1) ∷ []
  character stays _ = stretch false 1 X.none ∷ []
  character _ _ = []

  -- the merge read from A's new text
  abbrev pub mapped : (before : Bool) → Row ℕ (Fate ℕ) → Row T (Fate T) → List (Piece T)
  mapped before (last i) (last j) = ordered before (single (Keep i) ∷ []) (single (Replace 0 j) ∷ [])
  mapped before (next i x r) (next j y s) =
      ordered before (single (Keep (i + text_size x)) ∷ []) (inserted j y) ++ (character x y ++ mapped before r s)
  mapped _ _ _ = []

  -- Map: B over the new text of A, where both start in one text (manual: ChangeDesc.mapDesc, ChangeSet.map).
  abbrev pub map_over : List (Section T) → (a : List (Section ℕ)) → (before : Bool) → List (Section T)
  map_over b a before = sections X (mapped before (along_old counted a) (along_old X b))
