-- A set that replaces one range alone.
use Rattle.std.proofs.Common.{◌≡◌, refl, ℕ, ◌+◌, List, [], ◌∷◌, ◌++◌, length, take, drop, sym, ap, ◌∙◌, append-nil, drop-drop, arith, length-drop}
use Rattle.std.proofs.lemmas.List.{take_all, drop_all}
use Rattle.change_desc.specs.declared.section.Section.TheVariants.{Keep, Replace}
use Rattle.change_set.specs.OneReplace.{IsOnly}

abbrev Chars : Type 0
Chars = List ℕ

rest_kept : (n k : ℕ) (t doc : Chars) → n + k ≡ length doc → take k (drop n doc) ++ [] ≡ drop n doc
rest_kept n k t doc h = append-nil (take k (drop n doc)) ∙ take_all k (drop n doc) (omega (arith, length-drop n doc))

rest_none : (n : ℕ) (t doc : Chars) → n ≡ length doc → t ++ [] ≡ t ++ drop n doc
rest_none n t doc h = ap (λ r. t ++ r) (sym (drop_all n doc (omega arith)))

pub only-all : (n : ℕ) (t : Chars) → IsOnly (Replace n t ∷ []) 0 (0 + n) t
only-all n t = record {
  order = omega arith;
  within = omega arith;
  size = omega arith;
  texts = append-nil t;
  gives = λ doc h. let e : 0 + n ≡ n = omega arith in rw e (rest_none n t doc (omega arith));
  range = refl;
}

pub only-last : (a n : ℕ) (t : Chars) → IsOnly (Keep a ∷ Replace n t ∷ []) a (a + n) t
only-last a n t = record {
  order = omega arith;
  within = omega arith;
  size = omega arith;
  texts = append-nil t;
  gives = λ doc h. ap (λ r. take a doc ++ r) (rest_none (a + n) t doc (omega arith));
  range = let e : 0 + a ≡ a = omega arith in rw e refl;
}

pub only-first : (n b : ℕ) (t : Chars) → IsOnly (Replace n t ∷ Keep b ∷ []) 0 (0 + n) t
only-first n b t = record {
  order = omega arith;
  within = omega arith;
  size = omega arith;
  texts = append-nil t;
  gives = λ doc h. let e : 0 + n ≡ n = omega arith in rw e (ap (λ r. t ++ r) (rest_kept n b t doc (omega arith)));
  range = refl;
}

pub only-between : (a n b : ℕ) (t : Chars) → IsOnly (Keep a ∷ Replace n t ∷ Keep b ∷ []) a (a + n) t
only-between a n b t = record {
  order = omega arith;
  within = omega arith;
  size = omega arith;
  texts = append-nil t;
  gives = λ doc h.
      ap (λ r. take a doc ++ (t ++ (take b r ++ []))) (drop-drop n a doc) ∙ ap (λ r. take a doc ++ (t ++ r)) (rest_kept (a + n) b t doc (omega arith));
  range = let e : 0 + a ≡ a = omega arith in rw e refl;
}
