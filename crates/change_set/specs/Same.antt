-- Whether two lists of sections are the same.
use Rattle.std.specs.Prelude.{ℕ, Bool, true, false, ◌&&◌, eqb, List, [], ◌∷◌}
use Rattle.change_desc.specs.declared.section.Section.{Section}
use Rattle.change_desc.specs.declared.section.Section.TheVariants.{Keep, Replace}

-- the same characters
abbrev pub same_text : List ℕ → List ℕ → Bool
same_text [] [] = true
same_text (c ∷ t) (d ∷ u) = eqb c d && same_text t u
same_text _ _ = false

-- as many characters kept, or as many replaced by the same text
abbrev pub same_section : Section (List ℕ) → Section (List ℕ) → Bool
same_section (Keep m) (Keep n) = eqb m n
same_section (Replace m t) (Replace n u) = eqb m n && same_text t u
same_section _ _ = false

-- section by section
abbrev pub same_sections : List (Section (List ℕ)) → List (Section (List ℕ)) → Bool
same_sections [] [] = true
same_sections (x ∷ s) (y ∷ t) = same_section x y && same_sections s t
same_sections _ _ = false
