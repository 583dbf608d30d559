-- The bytes of a character give its key.
use Rattle.std.proofs.Common.{◌≡◌, ◌≢◌, ℕ, zero, suc, ◌+◌, ◌/◌, ◌%◌, ◌<◌, ◌≤◌, ◌==◌, List, [], ◌∷◌, ◌++◌, length, take, unwrap_or, Bool, true, false, cond, Option, Some, None, refl, sym, ap, ◌∙◌, arith, append-nil, inl, inr}
use Rattle.std.specs.Char.{IsScalar}
use Rattle.std.specs.Int.{is_in_range}
use Rattle.std.specs.Str.{is_utf8, chars, chars_after, continuation_len, lead_bits}
use Rattle.std.specs.Str.Lossy.{utf8_valid_len, utf8_error_len, valid_len_up_to, error_len_of_some, second_byte_min, second_byte_max}
use Rattle.std.proofs.lemmas.Str.{encode_ascii, IsUtf8-encode, is_utf8-from_IsUtf8, chars_past_char, chars-nil}
use Rattle.std.proofs.lemmas.Bool.{cases_lt}
use lib.Utf8.{encode, scalar_cases}
use Rattle.term_keys.specs.declared.key.Key.TheVariants as keys
use Rattle.term_keys.specs.Keys.{at_start, character, spelled, keys_of, begin}
use Rattle.term_keys.specs.Typed.{IsTyped}

-- fewer bytes than the first one asks for have no character
short : (n c : ℕ) (bs : List ℕ) → length bs < n → chars_after n c bs ≡ []
short zero c bs h = absurd (omega (arith, h))
short (suc n) c [] h = refl
short (suc n) c (b ∷ bs) h = short n _ bs (omega (arith, h))

no_text : (b : ℕ) (bs : List ℕ) → length bs < continuation_len b → is_utf8 (b ∷ bs) ≡ false
unfolding is_utf8 chars
no_text b bs h = rw (short (continuation_len b) (lead_bits b) bs h) refl

length_take : (n : ℕ) (bs : List ℕ) → length (take n bs) ≤ length bs
length_take zero bs = omega arith
length_take (suc n) [] = omega arith
length_take (suc n) (b ∷ bs) = omega (arith, length_take n bs)

none_valid : (b : ℕ) (bs : List ℕ) (n : ℕ) → length bs < continuation_len b → valid_len_up_to (b ∷ bs) n ≡ 0
none_valid b bs zero h = refl
none_valid b bs (suc n) h = rw (no_text b (take n bs) (omega (arith, h, length_take n bs))) (none_valid b bs n h)

valid_none : (b : ℕ) (bs : List ℕ) → length bs < continuation_len b → utf8_valid_len (b ∷ bs) ≡ 0
unfolding utf8_valid_len
valid_none b bs h = none_valid b bs (length (b ∷ bs)) h

none_both : (b : Bool) → cond {A = Option ℕ} b None None ≡ None
none_both true = refl
none_both false = refl

error_none : (bs : List ℕ) → error_len_of_some bs ≡ None → utf8_error_len bs ≡ None
unfolding utf8_error_len
error_none bs e = rw e (none_both (length bs == 0))

-- bytes that a character may go on from wait for more
waits : (b : ℕ) (bs : List ℕ) → length bs < continuation_len b → error_len_of_some (b ∷ bs) ≡ None → spelled (b ∷ bs) ≡ Some (character (b ∷ bs), None)
waits b bs h e = rw (no_text b bs h, valid_none b bs h, error_none (b ∷ bs) e) refl

in_range : (lo hi n : ℕ) → lo ≤ n → n ≤ hi → is_in_range lo hi n ≡ true
in_range lo hi n l h = grind (arith, l, h)

two : (c : ℕ) → 128 ≤ c → c < 2048 → encode c ≡ (192 + c / 64) ∷ (128 + c % 64) ∷ []
unfolding encode
two c l h = grind (arith, l, h)

three : (c : ℕ) → 2048 ≤ c → c < 65536 → encode c ≡ (224 + c / 4096) ∷ (128 + (c / 64) % 64) ∷ (128 + c % 64) ∷ []
unfolding encode
three c l h = grind (arith, l, h)

four : (c : ℕ) → 65536 ≤ c → encode c ≡ (240 + c / 262144) ∷ (128 + (c / 4096) % 64) ∷ (128 + (c / 64) % 64) ∷ (128 + c % 64) ∷ []
unfolding encode
four c l = grind (arith, l)

-- the whole of a character's bytes is its key
whole : (c : ℕ) → IsScalar c → spelled (encode c) ≡ Some (at_start, Some (keys.Char c))
whole c ok =
    let one : chars (encode c) ≡ c ∷ [] = chars_past_char (encode c) [] c (IsUtf8-encode c ok) (sym (append-nil _)) ∙ ap (λ (cs : List ℕ). c ∷ cs) chars-nil in
    rw (is_utf8-from_IsUtf8 (encode c) (IsUtf8-encode c ok), one) refl

-- where a character of two to four bytes begins
lead_two : (b : ℕ) → 194 ≤ b → b < 224 → (0 < continuation_len b) × (error_len_of_some (b ∷ []) ≡ None)
lead_two b l h = grind (arith, l, h)

lead_three : (b : ℕ) → 224 ≤ b → b < 240 → (1 < continuation_len b) × (error_len_of_some (b ∷ []) ≡ None)
lead_three b l h = grind (arith, l, h)

lead_four : (b : ℕ) → 240 ≤ b → b < 245 → (2 < continuation_len b) × (error_len_of_some (b ∷ []) ≡ None)
lead_four b l h = grind (arith, l, h)

-- a byte that no key but a character begins with
begins : (b : ℕ) → 32 ≤ b → b ≢ 127 → begin b ≡ unwrap_or (spelled (b ∷ [])) (at_start, None)
begins b l n = grind (arith, l, n)

error_two : (b d : ℕ) → 194 ≤ b → b ≤ 244 → second_byte_min b ≤ d → d ≤ second_byte_max b → error_len_of_some (b ∷ d ∷ []) ≡ None
error_two b d l h m n = rw (in_range 0xC2 0xF4 b l h, in_range (second_byte_min b) (second_byte_max b) d m n) refl

error_three : (b d e : ℕ) → 194 ≤ b → b ≤ 244 → second_byte_min b ≤ d → d ≤ second_byte_max b → 128 ≤ e → e < 192 → error_len_of_some (b ∷ d ∷ e ∷ []) ≡ None
error_three b d e l h m n o p =
    rw (in_range 0xC2 0xF4 b l h, in_range (second_byte_min b) (second_byte_max b) d m n, in_range 0x80 0xBF e o (omega (arith, p))) refl

-- the second byte of a character is one that may follow its first
abbrev Follows : ℕ → ℕ → Type 0
Follows b d = (second_byte_min b ≤ d) × (d ≤ second_byte_max b)

follows_three : (c : ℕ) → IsScalar c → 2048 ≤ c → c < 65536 → Follows (224 + c / 4096) (128 + (c / 64) % 64)
follows_three c ok l h = elim (scalar_cases c ok) [ inl low ↦ grind (arith, l, h, low) | inr high ↦ grind (arith, l, h, high.0, high.1) ]

follows_four : (c : ℕ) → IsScalar c → 65536 ≤ c → Follows (240 + c / 262144) (128 + (c / 4096) % 64)
follows_four c ok l = elim (scalar_cases c ok) [ inl low ↦ absurd (omega (arith, l, low)) | inr high ↦ grind (arith, l, high.0, high.1) ]

of_one : (c : ℕ) → IsScalar c → 32 ≤ c → c ≢ 127 → c < 128 → (more : List ℕ) → keys_of (encode c ++ more) ≡ keys.Char c ∷ keys_of more
of_one c ok l n h more =
    let e = encode_ascii c h in
    let last : spelled (c ∷ []) ≡ Some (at_start, Some (keys.Char c)) = ap spelled (sym e) ∙ whole c ok in
    rw (e, begins c l n, last) refl

of_two : (c : ℕ) → IsScalar c → 128 ≤ c → c < 2048 → (more : List ℕ) → keys_of (encode c ++ more) ≡ keys.Char c ∷ keys_of more
of_two c ok l h more =
    let b = 192 + c / 64 in
    let e = two c l h in
    let last : spelled (b ∷ (128 + c % 64) ∷ []) ≡ Some (at_start, Some (keys.Char c)) = ap spelled (sym e) ∙ whole c ok in
    let lead = lead_two b (omega (arith, l)) (omega (arith, h)) in
    rw (e, begins b (omega (arith, l)) (λ same. absurd (omega (arith, same))), waits b [] lead.0 lead.1, last) refl

of_three : (c : ℕ) → IsScalar c → 2048 ≤ c → c < 65536 → (more : List ℕ) → keys_of (encode c ++ more) ≡ keys.Char c ∷ keys_of more
of_three c ok l h more =
    let b = 224 + c / 4096 in
    let d = 128 + (c / 64) % 64 in
    let e = three c l h in
    let last : spelled (b ∷ d ∷ (128 + c % 64) ∷ []) ≡ Some (at_start, Some (keys.Char c)) = ap spelled (sym e) ∙ whole c ok in
    let lead = lead_three b (omega (arith, l)) (omega (arith, h)) in
    let follows = follows_three c ok l h in
    rw (
      e,
      begins b (omega (arith, l)) (λ same. absurd (omega (arith, same))),
      waits b [] (omega (arith, lead.0)) lead.1,
      waits b (d ∷ []) lead.0 (error_two b d (omega (arith, l)) (omega (arith, h)) follows.0 follows.1),
      last,
    ) refl

of_four : (c : ℕ) → IsScalar c → 65536 ≤ c → (more : List ℕ) → keys_of (encode c ++ more) ≡ keys.Char c ∷ keys_of more
of_four c ok l more =
    let b = 240 + c / 262144 in
    let d = 128 + (c / 4096) % 64 in
    let f = 128 + (c / 64) % 64 in
    let e = four c l in
    let few : c < 1114112 = elim (scalar_cases c ok) [ inl low ↦ omega (arith, low) | inr high ↦ high.1 ] in
    let last : spelled (b ∷ d ∷ f ∷ (128 + c % 64) ∷ []) ≡ Some (at_start, Some (keys.Char c)) = ap spelled (sym e) ∙ whole c ok in
    let lead = lead_four b (omega (arith, l)) (omega (arith, few)) in
    let follows = follows_four c ok l in
    rw (
      e,
      begins b (omega (arith, l)) (λ same. absurd (omega (arith, same))),
      waits b [] (omega (arith, lead.0)) lead.1,
      waits b (d ∷ []) (omega (arith, lead.0)) (error_two b d (omega (arith, l)) (omega (arith, few)) follows.0 follows.1),
      waits b (d ∷ f ∷ []) lead.0 (error_three b d f (omega (arith, l)) (omega (arith, few)) follows.0 follows.1 (omega arith) (omega arith)),
      last,
    ) refl

pub types_itself : (c : ℕ) → IsTyped c → (more : List ℕ) → keys_of (encode c ++ more) ≡ keys.Char c ∷ keys_of more
types_itself c typed rest = elim (cases_lt c 128) [
  | inl ascii ↦ of_one c typed.scalar typed.printed typed.not_delete ascii rest
  | inr more ↦ elim (cases_lt c 2048) [
    | inl small ↦ of_two c typed.scalar more small rest
    | inr big ↦ elim (cases_lt c 65536) [
      | inl medium ↦ of_three c typed.scalar big medium rest
      | inr great ↦ of_four c typed.scalar great rest
    ]
  ]
]
