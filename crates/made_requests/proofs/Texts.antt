-- The text that an edit inserts: what is written of it, and that it is read and cut as it stands.
use Rattle.std.proofs.Common.{◌≡◌, ℕ, zero, suc, ◌+◌, ◌<◌, List, [], ◌∷◌, ◌++◌, map, false, ◌==◌, inl, inr, refl, sym, ap, ap₂, ◌∙◌, subst, arith}
use Rattle.std.proofs.Math.Bool.{and-false}
use Rattle.std.proofs.lemmas.Bool.{cases_eq, ne_eqb}
use Rattle.std.proofs.lemmas.List.FromFn.{map-range_with_len_more}
use Rattle.std.proofs.lemmas.Str.{chars-IsAscii}
use Rattle.std.proofs.lemmas.Str.Ascii.{IsAscii-nil}
use Rattle.std.specs.List.{flat_map, range_with_len}
use Rattle.std.specs.Str.{IsAscii, chars}
use Rattle.json.specs.Print.{escape, escape_byte}
use Rattle.json.proofs.Printed.Strings.{escape_byte_plain}
use Rattle.line_tree.specs.Text.{cut, cut_after}
use Rattle.workload.specs.Edits.{character, made_text}
use Rattle.workload.specs.MadeLines.{written, written_text}

written_letter : (ch : ℕ) → 96 < ch → ch < 123 → escape_byte ch ≡ written ch
written_letter ch low high = escape_byte_plain ch (λ e. omega arith) (λ e. omega arith) (omega arith) ∙ sym (rw (ne_eqb ch 10 (λ e. omega arith)) refl)

written_break : escape_byte 10 ≡ written 10
unfolding escape_byte
written_break = refl

-- where the character isn't the eighth it is a letter
pub letter : (c index : ℕ) → ¬ (index ≡ 7) → (96 < character c index) × (character c index < 123)
letter c index other = rw (ne_eqb index 7 other) (omega arith, omega arith)

written_character : (c index : ℕ) → escape_byte (character c index) ≡ written (character c index)
written_character c index = elim (cases_eq index 7) [
  | inl is ↦ subst (λ i. escape_byte (character c i) ≡ written (character c i)) (sym is) written_break
  | inr other ↦ let range : (96 < character c index) × (character c index < 123) = letter c index other in written_letter (character c index) range.0 range.1
]

escaped : (c : ℕ) (xs : List ℕ) → escape (map (character c) xs) ≡ flat_map written (map (character c) xs)
escaped c [] = refl
escaped c (x ∷ xs) = ap₂ (λ (a b : List ℕ). a ++ b) (written_character c x) (escaped c xs)

-- a JSON text has it as a line has
pub escape_made : (size c : ℕ) → escape (made_text size c) ≡ written_text size c
escape_made size c = escaped c (range_with_len 0 size)

pub ascii_then : (x : ℕ) (xs : List ℕ) → x < 128 → IsAscii xs → IsAscii (x ∷ xs)
ascii_then x xs small others zero = small
ascii_then x xs small others (suc i) = others i

small_character : (c index : ℕ) → character c index < 128
small_character c index = elim (cases_eq index 7) [
  | inl is ↦ subst (λ i. character c i < 128) (sym is) (omega arith)
  | inr other ↦ omega (arith, (letter c index other).1)
]

ascii : (c : ℕ) (xs : List ℕ) → IsAscii (map (character c) xs)
ascii c [] = IsAscii-nil
ascii c (x ∷ xs) = ascii_then (character c x) (map (character c) xs) (small_character c x) (ascii c xs)

-- its bytes are its characters
pub chars_made : (size c : ℕ) → chars (made_text size c) ≡ made_text size c
chars_made size c = chars-IsAscii (made_text size c) (ascii c (range_with_len 0 size))

no_return : (c index : ℕ) → ¬ (character c index ≡ 13)
no_return c index = elim (cases_eq index 7) [
  | inl is ↦ subst (λ i. ¬ (character c i ≡ 13)) (sym is) (λ e. omega arith)
  | inr other ↦ (λ e. omega (arith, (letter c index other).0))
]

cut_character : (c index : ℕ) (xs : List ℕ) → cut_after false (character c index ∷ xs) ≡ character c index ∷ cut_after false xs
cut_character c index xs = rw (ne_eqb (character c index) 13 (no_return c index), and-false (character c index == 10)) refl

uncut : (c : ℕ) (xs : List ℕ) → cut (map (character c) xs) ≡ map (character c) xs
uncut c [] = refl
uncut c (x ∷ xs) = cut_character c x (map (character c) xs) ∙ ap (λ (ys : List ℕ). character c x ∷ ys) (uncut c xs)

-- it is cut as it stands
pub cut_made : (size c : ℕ) → cut (made_text size c) ≡ made_text size c
cut_made size c = uncut c (range_with_len 0 size)

-- one character more
pub made_more : (c index ch : ℕ) (before now : List ℕ) → before ≡ made_text index c → ch ≡ character c index → now ≡ before ++ ch ∷ [] → now ≡ made_text (index + 1) c
made_more c index ch before now is same next =
    next ∙ ap₂ (λ (xs : List ℕ) (x : ℕ). xs ++ x ∷ []) is same ∙ sym (map-range_with_len_more (character c) 0 index index (omega arith))
