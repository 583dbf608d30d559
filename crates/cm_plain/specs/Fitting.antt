-- What fitting means: a datum of a shape that fits into another one is of that one too, and each shape fits into itself.
use Rattle.std.specs.Prelude.{◌≡◌, ℕ, Bool, true, false, not, ◌&&◌, ◌||◌, ℤ, int_le, nat_eq, List, [], ◌∷◌, refl}
use Rattle.std.specs.Cmp.Lexicographic.{pointwise, same_text as equal_texts}
use Rattle.std.specs.List.{list_any, list_all}
use Rattle.std.proofs.Common.{arith, sym, subst}
use Rattle.std.proofs.lemmas.Grind.{common_steps}
use Rattle.cm_plain.specs.Datum.{Datum, unit, boolean, number, text, list, Data, no_data, datum}
use Rattle.cm_plain.specs.Form.{Form, any, booleans, numbers, texts, one_of, lists, ranges, layers, history, holds, hold, fits, has_word}

both : (a b : Bool) → (a && b) ≡ true → (a ≡ true) × (b ≡ true)
both true b h = (refl, h)
both false b h = cc

-- a text that is one of some words is among others that all of them are among
has_word-among : (words more : List (List ℕ)) (cs : List ℕ) → list_all (has_word more) words ≡ true → has_word words cs ≡ true → has_word more cs ≡ true
has_word-among [] more cs a h = cc
has_word-among (w ∷ ws) more cs a h =
    elim (pointwise nat_eq w cs) as (λ b. pointwise nat_eq w cs ≡ b → (b || has_word ws cs) ≡ true → has_word more cs ≡ true) [
      | true ↦ λ e k. subst (λ word. has_word more word ≡ true) (equal_texts w cs (sym e)) (both _ _ a).0
      | false ↦ λ e k. has_word-among ws more cs (both _ _ a).1 k
    ] refl h

hold-each : (f g : Form) → ((d : Datum) → holds d f ≡ true → holds d g ≡ true) → (ds : Data) → hold ds f ≡ true → hold ds g ≡ true
hold-each f g each no_data h = refl
hold-each f g each (datum d ds) h = let k = both (holds d f) (hold ds f) h in let one : holds d g ≡ true = each d k.0 in let rest : hold ds g ≡ true = hold-each f g each ds k.1 in cc

in_range : (a b c d z : ℤ) → (not (int_le a b) || (int_le c a && int_le b d)) ≡ true → (int_le a z && int_le z b) ≡ true → (int_le c z && int_le z d) ≡ true
in_range a b c d z e h = grind (arith, common_steps)

-- the three shapes of values that are no plain data hold none
not_ranges : (d : Datum) → holds d ranges ≡ true → ⊥
not_ranges d h = elim d as (λ d. holds d ranges ≡ true → ⊥) [ unit ↦ λ k. cc | boolean b ↦ λ k. cc | number z ↦ λ k. cc | text cs ↦ λ k. cc | list ds ↦ λ k. cc ] h

not_layers : (d : Datum) → holds d layers ≡ true → ⊥
not_layers d h = elim d as (λ d. holds d layers ≡ true → ⊥) [ unit ↦ λ k. cc | boolean b ↦ λ k. cc | number z ↦ λ k. cc | text cs ↦ λ k. cc | list ds ↦ λ k. cc ] h

not_history : (d : Datum) → holds d history ≡ true → ⊥
not_history d h = elim d as (λ d. holds d history ≡ true → ⊥) [ unit ↦ λ k. cc | boolean b ↦ λ k. cc | number z ↦ λ k. cc | text cs ↦ λ k. cc | list ds ↦ λ k. cc ] h

pub fits-sound : (f g : Form) → fits f g ≡ true → (d : Datum) → holds d f ≡ true → holds d g ≡ true
fits-sound ranges g e d h = absurd (not_ranges d h)
fits-sound layers g e d h = absurd (not_layers d h)
fits-sound history g e d h = absurd (not_history d h)
fits-sound f any e d h = refl
fits-sound booleans booleans e d h = h
fits-sound (numbers a b) (numbers c d) e (number z) h = in_range a b c d z e h
fits-sound texts texts e d h = h
fits-sound (one_of words) texts e (text cs) h = refl
fits-sound (one_of words) (one_of more) e (text cs) h = has_word-among words more cs e h
fits-sound (lists f) (lists g) e (list ds) h = hold-each f g (fits-sound f g e) ds h
fits-sound f g e d h = cc
