-- An edit's line is UTF-8, and no longer than a line may be.
use Rattle.std.proofs.Common.{◌≡◌, ℕ, zero, suc, ◌+◌, ◌*◌, ◌^◌, ◌<◌, ◌≤◌, List, [], ◌∷◌, ◌++◌, length, map, true, IsUtf8, inl, inr, refl, sym, subst, arith, codes, length-append}
use Rattle.std.proofs.lemmas.Bool.{cases_eq, ne_eqb}
use Rattle.std.proofs.lemmas.Fmt.{IsAscii-decimal, length-decimal-le}
use Rattle.std.proofs.lemmas.Str.{IsUtf8-append, IsUtf8-from_ascii, is_utf8-from_IsUtf8}
use Rattle.std.proofs.lemmas.Str.Ascii.{IsAscii-nil}
use Rattle.std.specs.Fmt.{decimal}
use Rattle.std.specs.List.{flat_map, range_with_len}
use Rattle.std.specs.Str.{is_utf8}
use Rattle.json.proofs.Printed.Utf8.{are_ascii, IsUtf8-are_ascii}
use Rattle.workload.specs.Edits.{character}
use Rattle.workload.specs.MadeLines.{edit_line, insert_start, insert_end, delete_line, mark_line, written}
use Rattle.workload.specs.declared.edit.Edit.{Edit}
use Rattle.workload.specs.declared.edit.Edit.TheVariants.{Insert, Delete, Mark}
use Rattle.made_requests.proofs.Reading.{Fits}
use Rattle.made_requests.proofs.Texts.{ascii_then, letter}

-- a part is UTF-8 and at most so long
record Part (bytes : List ℕ) (most : ℕ) : Type 0 where
  utf8 : IsUtf8 bytes
  short : length bytes ≤ most

-- two parts, one after the other
both : {a b : List ℕ} {m n : ℕ} → Part a m → Part b n → Part (a ++ b) (m + n)
both {a} {b} p q = record { utf8 = IsUtf8-append a b p.utf8 q.utf8; short = omega (arith, length-append a b, p.short, q.short) }

number_part : (n : ℕ) → n < 2 ^ 64 → Part (decimal n) 20
number_part n h = record { utf8 = IsUtf8-from_ascii (decimal n) (IsAscii-decimal n h); short = length-decimal-le 20 n (omega arith) (omega arith) h }

-- what is written of a character
written_part : (c index : ℕ) → Part (written (character c index)) 2
written_part c index = elim (cases_eq index 7) [
  | inl is ↦ subst (λ i. Part (written (character c i)) 2) (sym is) (record { utf8 = IsUtf8-are_ascii (92 ∷ 110 ∷ []) refl; short = omega arith })
  | inr other ↦
      let range : (96 < character c index) × (character c index < 123) = letter c index other in
      let no_break : ¬ (character c index ≡ 10) = λ is. omega arith in
      rw (ne_eqb (character c index) 10 no_break) (record { utf8 = IsUtf8-from_ascii (character c index ∷ []) (ascii_then (character c index) [] (omega arith) IsAscii-nil); short = omega arith })
]

text_part : (c first size : ℕ) → Part (flat_map written (map (character c) (range_with_len first size))) (size * 2)
text_part c first zero = record { utf8 = IsUtf8-are_ascii [] refl; short = omega arith }
text_part c first (suc size) = subst (λ n. Part (flat_map written (map (character c) (range_with_len first (suc size)))) n) (omega arith) (both (written_part c first) (text_part c (first + 1) size))

fixed : (bytes : List ℕ) → are_ascii bytes ≡ true → Part bytes (length bytes)
fixed bytes h = record { utf8 = IsUtf8-are_ascii bytes h; short = omega arith }

within : {bytes : List ℕ} {n : ℕ} (most : ℕ) → Part bytes n → n ≤ most → Part bytes most
within most p few = record { utf8 = p.utf8; short = omega (arith, p.short) }

insert_part : (time at size letter : ℕ) → time < 2 ^ 32 → at < 2 ^ 32 → size < 2 ^ 8 → Part (edit_line time (Insert at size letter)) 700
insert_part time at size letter soon small few =
    let start : Part (insert_start at) 80 = within 80 (both (both (fixed (codes "{\"update\":[{\"changes\":[{\"from\":") refl) (number_part at (omega arith))) (fixed (codes ",\"insert\":\"") refl)) (omega arith) in
    let end : Part (insert_end time) 80 = within 80 (both (both (fixed (codes "\"}],\"annotations\":[{\"type\":\"time\",\"value\":") refl) (number_part time (omega arith))) (fixed (codes "}]}]}") refl)) (omega arith) in
    within 700 (both (both start (text_part letter 0 size)) end) (omega arith)

delete_part : (time from to : ℕ) → time < 2 ^ 32 → from < 2 ^ 32 → to < 2 ^ 32 → Part (delete_line time from to) 700
delete_part time from to soon a b =
    within 700 (both (fixed (codes "{\"update\":[{\"changes\":[{\"from\":") refl) (both (number_part from (omega arith)) (both (fixed (codes ",\"to\":") refl) (both (number_part to (omega arith))
    (both (fixed (codes "}],\"annotations\":[{\"type\":\"time\",\"value\":") refl) (both (number_part time (omega arith)) (fixed (codes "}]}]}") refl))))))) (omega arith)

mark_part : (from to : ℕ) → from < 2 ^ 32 → to < 2 ^ 32 → Part (mark_line from to) 700
mark_part from to a b =
    within 700 (both (fixed (codes "{\"update\":[{\"effects\":[{\"effect\":\"mark\",\"value\":[") refl) (both (number_part from (omega arith)) (both (fixed (codes ",") refl) (both (number_part to (omega arith))
    (fixed (codes "]}]}]}") refl))))) (omega arith)

line_part : (time : ℕ) (edit : Edit) → time < 2 ^ 32 → Fits edit → Part (edit_line time edit) 700
line_part time (Insert at size letter) soon fits = insert_part time at size letter soon fits.0 fits.1
line_part time (Delete from to) soon fits = delete_part time from to soon fits.0 fits.1
line_part time (Mark from to) soon fits = mark_part from to fits.0 fits.1

pub is_text : (time : ℕ) (edit : Edit) → time < 2 ^ 32 → Fits edit → is_utf8 (edit_line time edit) ≡ true
is_text time edit soon fits = is_utf8-from_IsUtf8 (edit_line time edit) (line_part time edit soon fits).utf8

pub is_short : (time : ℕ) (edit : Edit) → time < 2 ^ 32 → Fits edit → length (edit_line time edit) ≤ 700
is_short time edit soon fits = (line_part time edit soon fits).short
