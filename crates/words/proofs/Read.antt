-- Numbers of few digits, as `parse` reads them.
use Rattle.std.proofs.Common.{◌≡◌, ◌∙◌, ℕ, ◌<◌, ◌≤◌, ◌^◌, Bool, true, false, List, [], ◌∷◌, length, refl, sym, ap, arith, subst}
use Rattle.std.specs.Prelude.{◌==◌, Option, Some, None, Result, Ok, Err, option_map, slice_index}
use Rattle.std.specs.Char.{is_digit}
use Rattle.std.specs.List.{list_all}
use Rattle.std.specs.Result.{result_ok}
use Rattle.std.specs.Str.Parse.{AllDigits, IsNumeral, ParsesUnsigned, digits_value, without_leading_plus}
use Rattle.std.proofs.Math.Nat.{pow-le-pow_right}
use Rattle.std.proofs.lemmas.Bool.{le-leb, leb-true, lt-ltb, ne_eqb}
use Rattle.std.proofs.lemmas.Int.Digits.{digits_value-lt}
use Rattle.std.specs.Borrow.{Bor}
use Rattle.clap.specs.Words.{first_of, first_value, rows_of}
use Rattle.clap.specs.declared.parser.matches.Found.{Found}
use Rattle.clap.proofs.WalkLemmas.{both, first_value-rows}
use Rattle.words.specs.PrivateCommand.{begins_with, written}
use Rattle.words.specs.Words.{is_number}
use Rattle.words.proofs.Forms.{all_digits}

list_digits : (text : List ℕ) → AllDigits 10 text → list_all (λ c. is_digit c 10) text ≡ true
list_digits [] d = refl
list_digits (c ∷ cs) d = simp (lt-ltb _ _ d.0, list_digits cs d.1)

-- whether the first byte is this one, as `starts_with` says it
pub first_byte : (byte : ℕ) (text : List ℕ) → 0 < byte → (slice_index text 0 == byte) ≡ begins_with byte text
first_byte byte [] some = ne_eqb 0 byte (λ e. omega (arith, some, e))
first_byte byte (b ∷ bs) some = refl

-- a text without `+` is what it is without a leading one
unsigned_is : (text : List ℕ) → begins_with 43 text ≡ false → without_leading_plus text ≡ text
unsigned_is [] e = refl
unsigned_is (b ∷ bs) e = simp e

small : (text : List ℕ) (places : ℕ) → AllDigits 10 text → length text ≤ places → places ≤ 9 → digits_value 10 text < 2 ^ 32
small text places d few most =
    let some : 0 < 10 = omega arith in
    let short : length text ≤ 9 = omega (arith, few, most) in
    let power : 10 ^ length text ≤ 10 ^ 9 = pow-le-pow_right some short in
    let under = digits_value-lt 10 text d in
    omega (arith, power, under)

written_is : (places : ℕ) (text : List ℕ) → IsNumeral 10 text → length text ≤ places → Some (digits_value 10 text) ≡ written places text
written_is places text d few = simp (le-leb 1 (length text) (omega (arith, d.0)), le-leb (length text) places few, list_digits text d.1)

not_written : (places : ℕ) (text : List ℕ) → (IsNumeral 10 text → ⊥) → None ≡ written places text
not_written places text none = go (is_number places text) refl
  where
    go : (b : Bool) → is_number places text ≡ b → None ≡ written places text
    go false e = simp e
    go true e =
        let parts = both _ _ e in
        absurd (none (leb-true _ _ (both _ _ parts.0).0, all_digits text parts.1))

-- what `parse` makes of a text without `+` is what it writes in its few digits
pub parse_writes : {E : Type 0} (places : ℕ) (text : List ℕ) (r : Result ℕ E) → ParsesUnsigned 32 10 text r
    → length text ≤ places → places ≤ 9 → begins_with 43 text ≡ false → result_ok r ≡ written places text
parse_writes places text (Ok n) h few most plus =
    let same = unsigned_is text plus in
    let numeral : IsNumeral 10 text = subst (IsNumeral 10) same h.0.0 in
    ap (λ (k : ℕ). Some k) (h.1 ∙ ap (digits_value 10) same) ∙ written_is places text numeral few
parse_writes places text (Err x) h few most plus =
    let same = unsigned_is text plus in
    not_written places text (λ d. h (subst (IsNumeral 10) (sym same) d, subst (λ (t : List ℕ). digits_value 10 t < 2 ^ 32) (sym same) (small text places d.1 few most)))

-- the text that `get_str` gives is the first one of the rows
pub first_given : (f : Found) (id : List ℕ) (o : Option (Bor (List ℕ))) → option_map (λ s. s.now) o ≡ first_value f id → first_of id (rows_of f) ≡ option_map (λ s. s.now) o
first_given f id o is = sym (first_value-rows f id) ∙ sym is
