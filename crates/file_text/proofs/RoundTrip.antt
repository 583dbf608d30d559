-- What is saved with LF, CRLF or CR reads as the text again.
use Rattle.std.proofs.Common.{◌≡◌, ℕ, ◌+◌, Bool, true, false, cond, List, [], ◌∷◌, ◌++◌, refl, sym, ◌∙◌, ap, arith, inl, inr, Some, None}
use Rattle.std.specs.Prelude.{◌==◌, ◌&&◌}
use Rattle.std.specs.List.{count_by}
use Rattle.std.specs.Str.{chars, IsUtf8}
use Rattle.std.proofs.lemmas.Bool.{eqb-true}
use Rattle.std.proofs.lemmas.List.Sums.{sum_by-cons}
use Rattle.std.proofs.lemmas.Str.{chars_from_encodes, is_utf8-from_IsUtf8}
use Rattle.line_tree.specs.Text.{cut, cut_after, HasNoReturn}
use Rattle.file_text.specs.Files.{saved_chars, saved_bytes, read_chars, IsLineEnd}

weight : Bool → ℕ
weight b = cond b 1 0

is_false : (b : Bool) → weight b ≡ 0 → b ≡ false
unfolding weight
is_false true h = absurd (let one : 1 ≡ 0 = h in omega (arith, one))
is_false false h = refl

-- the first of some characters without CR is none, and the others have none
no_return : (c : ℕ) (cs : List ℕ) → HasNoReturn (c ∷ cs) → ((c == 13) ≡ false) × HasNoReturn cs
unfolding weight
no_return c cs h =
    let e : count_by (λ x. x == 13) (c ∷ cs) ≡ weight (c == 13) + count_by (λ x. x == 13) cs = sum_by-cons (λ x. cond (x == 13) 1 0) c cs in
    (is_false (c == 13) (omega (arith, e, h)), omega (arith, e, h))

-- a separator that is cut to one LF wherever it stands: after no CR, and after itself
record IsCut (separator : List ℕ) (after : Bool) : Type 0 where
  pub first : (rest : List ℕ) → cut_after false (separator ++ rest) ≡ 10 ∷ cut_after after rest
  pub again : (rest : List ℕ) → cut_after after (separator ++ rest) ≡ 10 ∷ cut_after after rest

-- one character more
one_more : (separator : List ℕ) (after was : Bool) (c : ℕ) (saved text : List ℕ)
    → ((rest : List ℕ) → cut_after was (separator ++ rest) ≡ 10 ∷ cut_after after rest) → (c == 13) ≡ false
    → cut_after false saved ≡ text → cut_after after saved ≡ text
    → cut_after was (cond (c == 10) separator (c ∷ []) ++ saved) ≡ c ∷ text
one_more separator after was c saved text is_cut no_cr plain next = at (c == 10) refl where
  at : (b : Bool) → (c == 10) ≡ b → cut_after was (cond b separator (c ∷ []) ++ saved) ≡ c ∷ text
  at true e = is_cut saved ∙ ap (λ r. 10 ∷ r) next ∙ ap (λ x. x ∷ text) (sym (eqb-true c 10 e))
  at false e =
      ap (λ r. cond r (10 ∷ cut_after true saved) (cond ((c == 10) && was) (cut_after false saved) (c ∷ cut_after false saved))) no_cr
      ∙ ap (λ f. cond (f && was) (cut_after false saved) (c ∷ cut_after false saved)) e ∙ ap (λ r. c ∷ r) plain

cut_saved : (separator : List ℕ) (after : Bool) → IsCut separator after → (text : List ℕ) → HasNoReturn text
    → (cut_after false (saved_chars separator text) ≡ text) × (cut_after after (saved_chars separator text) ≡ text)
cut_saved separator after k [] none = (refl, refl)
cut_saved separator after k (c ∷ text) none =
    let n = no_return c text none in
    let ih = cut_saved separator after k text n.1 in
    let saved = saved_chars separator text in
    (one_more separator after false c saved text k.first n.0 ih.0 ih.1, one_more separator after after c saved text k.again n.0 ih.0 ih.1)

cut_line_end : (separator text : List ℕ) → IsLineEnd separator → HasNoReturn text → cut (saved_chars separator text) ≡ text
cut_line_end separator text (inl is) none =
    ap (λ s. cut (saved_chars s text)) is ∙ (cut_saved (10 ∷ []) false (record { first = λ rest. refl; again = λ rest. refl }) text none).0
cut_line_end separator text (inr (inl is)) none =
    ap (λ s. cut (saved_chars s text)) is ∙ (cut_saved (13 ∷ 10 ∷ []) false (record { first = λ rest. refl; again = λ rest. refl }) text none).0
cut_line_end separator text (inr (inr is)) none =
    ap (λ s. cut (saved_chars s text)) is ∙ (cut_saved (13 ∷ []) true (record { first = λ rest. refl; again = λ rest. refl }) text none).0

pub saved_reads_back : (separator text : List ℕ) → IsUtf8 (saved_bytes separator text) → IsLineEnd separator → HasNoReturn text → read_chars (saved_bytes separator text) ≡ Some text
saved_reads_back separator text is end none =
    let bytes = saved_bytes separator text in
    ap (λ b. cond b (Some (cut (chars bytes))) None) (is_utf8-from_IsUtf8 bytes is)
    ∙ ap (λ cs. Some (cut cs)) (sym (chars_from_encodes (saved_chars separator text) bytes is refl)) ∙ ap (λ cs. Some cs) (cut_line_end separator text end none)
