-- Composed and mapped sets from their lengths and their texts in a row.
use Rattle.std.proofs.Common.{◌≡◌, ℕ, ◌≤◌, ◌<◌, ◌^◌, Bool, List, [], ◌∷◌, length, refl, sym, subst, ◌∙◌, arith, length-append}
use Rattle.change_desc.specs.declared.section.Section.{Section}
use Rattle.change_desc.specs.declared.section.Section.TheVariants.{Keep, Replace}
use Rattle.change_desc.specs.Sections.{spelled, counted, lengths, inverted, old_size, new_size, IsSet}
use Rattle.change_desc.specs.Compose.{compose}
use Rattle.change_desc.specs.Map.{map_over}
use Rattle.change_desc.proofs.Normal.{spelled_laws}
use Rattle.change_desc.proofs.Merges.{new_size-lengths}
use Rattle.change_desc.proofs.Lengths.{spelled_sizes, compose-lengths, map_over-lengths}
use Rattle.change_desc.proofs.Turns.{old_size-turned}
use Rattle.change_set.specs.Texts.{written, filled, text_total, kept_marks, unmarked, texts_between}
use Rattle.change_set.proofs.Walks.{is_set-texts}
use Rattle.change_set.proofs.Written.{filled-lengths, written-compose, unmarked-kept_marks}

module _ {C : Type 0} where
  pub text_total-lengths : (s : List (Section (List C))) → text_total (lengths spelled s) ≡ length (written s)
  text_total-lengths [] = refl
  text_total-lengths (Keep n ∷ s) = text_total-lengths s
  text_total-lengths (Replace n t ∷ s) = omega (arith, text_total-lengths s, length-append t (written s))

  -- the texts are no longer than the new text
  pub written-le : (s : List (Section (List C))) → length (written s) ≤ new_size spelled s
  written-le [] = omega arith
  written-le (Keep n ∷ s) = omega (arith, written-le s)
  written-le (Replace n t ∷ s) = omega (arith, written-le s, length-append t (written s))

  -- sections with these lengths and these texts
  pub filled-is : (s : List (Section (List C))) (d : List (Section ℕ)) (t : List C) → d ≡ lengths spelled s → t ≡ written s → filled d t ≡ s
  filled-is s d t e f = rw (e, f) (filled-lengths s)

  pub filled-total : (s : List (Section (List C))) (d : List (Section ℕ)) (t : List C) → d ≡ lengths spelled s → t ≡ written s → text_total d ≡ length t
  filled-total s d t e f = rw (e, f) (text_total-lengths s)

  pub filled-is_set : (s : List (Section (List C))) (d : List (Section ℕ)) → d ≡ lengths spelled s → IsSet counted d → IsSet spelled s
  filled-is_set s d e h = is_set-texts spelled spelled_laws s (subst (IsSet counted) e h)

  pub total-fits : (s : List (Section (List C))) → IsSet counted (lengths spelled s) → length (written s) < 2 ^ 32
  total-fits s h = omega (arith, written-le s, new_size-lengths spelled s, h.new_fits)

  pub composed-lengths : (a b : List (Section (List C))) (d f g : List (Section ℕ)) → f ≡ lengths spelled a → g ≡ lengths spelled b → d ≡ compose counted f g →
      d ≡ lengths spelled (compose spelled a b)
  composed-lengths a b d f g e h k = k ∙ (rw (e, h) refl ∙ sym (compose-lengths spelled spelled_sizes a b))

  pub mapped-lengths : (b : List (Section (List C))) (a : List (Section ℕ)) (before : Bool) (d f : List (Section ℕ)) → f ≡ lengths spelled b → d ≡ map_over counted f a before →
      d ≡ lengths spelled (map_over spelled b a before)
  mapped-lengths b a before d f e k = k ∙ (rw e refl ∙ sym (map_over-lengths spelled spelled_sizes b a before))

  -- the way back over lengths
  pub back-unmarked : (a : List (Section (List C))) (d f : List (Section ℕ)) → f ≡ lengths spelled a → d ≡ inverted f → unmarked (kept_marks d) ≡ length (written a)
  back-unmarked a d f e h = rw (h, e) (unmarked-kept_marks a)

  pub back-old : (a : List (Section (List C))) (d f : List (Section ℕ)) → f ≡ lengths spelled a → d ≡ inverted f → old_size d ≡ new_size spelled a
  back-old a d f e h = rw (h, e) (old_size-turned (lengths spelled a) ∙ new_size-lengths spelled a)

  pub back-texts : (a b : List (Section (List C))) (d f : List (Section ℕ)) (w : List C) → f ≡ lengths spelled a → d ≡ inverted f → w ≡ written a → new_size spelled a ≡ old_size b →
      texts_between (kept_marks d) w b ≡ written (compose spelled a b)
  back-texts a b d f w e h k m = rw (h, e, k) (sym (written-compose a b m))

  pub set-fits : (s : List (Section (List C))) → IsSet spelled s → length (written s) < 2 ^ 32
  set-fits s h = omega (arith, written-le s, h.new_fits)
