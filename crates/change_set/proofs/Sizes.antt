-- How long the texts of composed sets are.
use Rattle.std.proofs.Common.{◌≡◌, ℕ, zero, suc, ◌+◌, ◌<◌, ◌^◌, Bool, true, false, ◌&&◌, List, [], ◌∷◌, ◌++◌, length, take, drop, replicate, refl, sym, ap, ◌∙◌, arith, length-take-le, length-drop, length-append}
use Rattle.change_desc.specs.declared.section.Section.{Section}
use Rattle.change_desc.specs.declared.section.Section.TheVariants.{Keep, Replace}
use Rattle.change_desc.specs.Sections.{spelled, apply, old_size, new_size, IsSet}
use Rattle.change_desc.specs.Columns.{width, Row, last, next, Fate, stays, leaves, follows, Origin, old, new, more, along_old, along_new}
use Rattle.change_desc.specs.Pieces.{Piece}
use Rattle.change_desc.specs.Compose.{is_cut_new, is_cut_old, between, in_gap, composed, compose}
use Rattle.change_desc.proofs.Applies.{apply-compose, width-along_old, width-along_new, taken_by, taken_by-along}
use Rattle.change_desc.proofs.Merges.{pieces_size, old_size-sections}
use Rattle.change_set.specs.Texts.{written}
use Rattle.change_set.proofs.Composed.{written-le}

module _ {C : Type 0} where
  gap-size : (b : Bool) (n : ℕ) (t : List C) (ps : List (Piece (List C))) → pieces_size spelled (in_gap spelled b n t ++ ps) ≡ n + pieces_size spelled ps
  gap-size true n t ps = omega arith
  gap-size false n t ps = refl

  composed-size : (r : Row ℕ (Origin C)) (s : Row (List C) (Fate (List C))) → width r ≡ width s → pieces_size spelled (composed spelled r s) ≡ taken_by r
  composed-size (last n) (last t) w = omega arith
  composed-size (last n) (next t y s) w = absurd (omega arith)
  composed-size (next n x r) (last t) w = absurd (omega arith)
  composed-size (next n x r) (next t y s) w =
      gap-size (is_cut_new x && is_cut_old y) n t (between spelled (is_cut_new x && is_cut_old y) x y ∷ composed spelled r s) ∙
      cases (is_cut_new x && is_cut_old y) x y (composed-size r s (omega arith))
    where
      cases : (b : Bool) (x : Origin C) (y : Fate (List C)) → pieces_size spelled (composed spelled r s) ≡ taken_by r →
          n + pieces_size spelled (between spelled b x y ∷ composed spelled r s) ≡ taken_by (next n x r)
      cases b old stays h = omega arith
      cases b old (leaves u) h = omega arith
      cases b old follows h = omega arith
      cases b (new m c) stays h = omega arith
      cases b (new m c) (leaves u) h = omega arith
      cases b (new m c) follows h = omega arith
      cases b (more c) stays h = omega arith
      cases b (more c) (leaves u) h = omega arith
      cases b (more c) follows h = omega arith

  pub old_size-compose : (a b : List (Section (List C))) → new_size spelled a ≡ old_size b → old_size (compose spelled a b) ≡ old_size a
  old_size-compose a b h =
      old_size-sections spelled (composed spelled (along_new spelled a) (along_old spelled b)) ∙
      (composed-size (along_new spelled a) (along_old spelled b) (width-along_new a ∙ h ∙ sym (width-along_old spelled b)) ∙ taken_by-along a)

  pub length-apply : (s : List (Section (List C))) (doc : List C) → old_size s ≡ length doc → length (apply s doc) ≡ new_size spelled s
  length-apply [] doc h = refl
  length-apply (Keep n ∷ s) doc h =
      omega (arith, length-append (take n doc) (apply s (drop n doc)), length-take-le n doc (omega arith), length-drop n doc, length-apply s (drop n doc) (omega (arith, length-drop n doc)))
  length-apply (Replace n t ∷ s) doc h =
      omega (arith, length-append t (apply s (drop n doc)), length-drop n doc, length-apply s (drop n doc) (omega (arith, length-drop n doc)))

length-alike : (n a : ℕ) → length (replicate n a) ≡ n
length-alike zero a = refl
length-alike (suc n) a = ap suc (length-alike n a)

pub new_size-compose : (a b : List (Section (List ℕ))) → new_size spelled a ≡ old_size b → new_size spelled (compose spelled a b) ≡ new_size spelled b
new_size-compose a b h =
    let doc : List ℕ = replicate (old_size a) 0 in
    let l : old_size a ≡ length doc = sym (length-alike (old_size a) 0) in
    sym (length-apply (compose spelled a b) doc (old_size-compose a b h ∙ l)) ∙
    (ap length (apply-compose a b doc l h) ∙ length-apply b (apply a doc) (sym h ∙ sym (length-apply a doc l)))

-- the composed texts fit
pub composed-fits : (a b : List (Section (List ℕ))) → IsSet spelled b → new_size spelled a ≡ old_size b → length (written (compose spelled a b)) < 2 ^ 32
composed-fits a b i h = omega (arith, written-le (compose spelled a b), new_size-compose a b h, i.new_fits)
