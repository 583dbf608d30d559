-- Filter: which changes stay where ranges of the text are protected, and which are dropped (manual: EditorState.changeFilter).
use Rattle.std.specs.Prelude.{ℕ, zero, suc, ◌+◌, Bool, true, false, cond, not, ◌&&◌, ◌||◌, ltb, leb, List, [], ◌∷◌, ◌++◌}
use Rattle.change_desc.specs.declared.section.Section.{Section}
use Rattle.change_desc.specs.declared.section.Section.TheVariants.{Keep, Replace}
use Rattle.change_desc.specs.Sections.{Texts, old_size}
use Rattle.change_desc.specs.Columns.{Row, last, next, Fate, leaves, follows, along_old}
use Rattle.change_desc.specs.Pieces.{Piece, single, stretch, sections}

module _ {T C : Type 0} (X : Texts T C) where
  -- Filter: of each deleted character and each gap one says whether it is taken here; what is not taken is kept.
  abbrev pub taken_char : Bool → Fate T → Piece T
  taken_char true (leaves t) = stretch true 1 t
  taken_char true follows = stretch false 1 X.none
  taken_char _ _ = single (Keep 1)

  abbrev pub taken : (char gap : ℕ → Bool) → ℕ → Row T (Fate T) → List (Piece T)
  taken char gap p (last i) = cond (gap p) (single (Replace 0 i) ∷ []) []
  taken char gap p (next i x r) =
      cond (gap p) (single (Replace 0 i) ∷ []) [] ++ taken_char (char p) x ∷ taken char gap (p + 1) r

-- a character is protected where a range has it; a place is strictly inside where the characters on both sides are
abbrev pub is_in : List (ℕ × ℕ) → ℕ → Bool
is_in [] p = false
is_in (r ∷ rs) p = leb r.0 p && ltb p r.1 || is_in rs p

abbrev pub is_protected : List (ℕ × ℕ) → (len : ℕ) → ℕ → Bool
is_protected rs len p = ltb p len && is_in rs p

abbrev pub is_inside : List (ℕ × ℕ) → (len : ℕ) → ℕ → Bool
is_inside rs len zero = false
is_inside rs len (suc p) = is_protected rs len p && is_protected rs len (suc p)

-- Filter, what stays: the deletions of characters that are not protected, each text with the first character that its section
-- deletes, and the insertions at places that are not strictly inside protected text (manual: EditorState.changeFilter).
abbrev pub filter_kept : {T C : Type 0} → Texts T C → List (ℕ × ℕ) → List (Section T) → List (Section T)
filter_kept X rs s =
    sections X (taken X (λ p. not (is_protected rs (old_size s) p)) (λ p. not (is_inside rs (old_size s) p)) 0 (along_old X s))

-- Filter, what is dropped: the rest of the same set, over the same text.
abbrev pub filter_dropped : {T C : Type 0} → Texts T C → List (ℕ × ℕ) → List (Section T) → List (Section T)
filter_dropped X rs s = sections X (taken X (is_protected rs (old_size s)) (is_inside rs (old_size s)) 0 (along_old X s))
