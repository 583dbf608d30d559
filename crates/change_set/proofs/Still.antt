-- A set that changes nothing.
use Rattle.std.proofs.Common.{◌≡◌, ℕ, List, [], ◌∷◌, ◌++◌, true, length, take, drop, refl, ap, ◌∙◌, arith}
use Rattle.std.proofs.lemmas.List.{length-drop, take-append-drop}
use Rattle.change_desc.specs.declared.section.Section.TheVariants.{Keep, Replace}
use Rattle.change_desc.specs.Ranges.{changes_nothing}
use Rattle.change_desc.specs.Sections.{Sections, apply, old_size}

pub apply-still : (s : Sections) (doc : List ℕ) → changes_nothing s ≡ true → old_size s ≡ length doc → apply s doc ≡ doc
apply-still [] [] h e = refl
apply-still [] (c ∷ cs) h e = absurd (omega (arith, e))
apply-still (Replace n t ∷ s) doc h e = cc
apply-still (Keep n ∷ s) doc h e =
    ap (λ (cs : List ℕ). take n doc ++ cs) (apply-still s (drop n doc) h (omega (arith, e, length-drop n doc))) ∙ take-append-drop n doc
