-- The parts of a filtered set start where the set does.
use Rattle.std.proofs.Common.{◌≡◌, ℕ, zero, suc, ◌+◌, ◌<◌, ◌^◌, Bool, true, false, cond, ◌&&◌, ltb, List, [], ◌∷◌, ◌++◌, refl, sym, ap, subst, ◌∙◌, arith}
use Rattle.change_desc.specs.declared.section.Section.TheVariants.{Replace}
use Rattle.change_desc.specs.Sections.{Sections, spelled, normal, old_size, new_size, IsSet}
use Rattle.change_desc.specs.Columns.{Fate, stays, leaves, follows, last, next, width, along_old}
use Rattle.change_desc.specs.Pieces.{Piece, single, closed, gather}
use Rattle.change_desc.specs.Filter.{taken_char, taken, is_protected, is_inside}
use Rattle.change_desc.proofs.Applies.{width-along_old}
use Rattle.change_desc.proofs.Normal.{spelled_laws, normal-normal}
use Rattle.change_desc.proofs.Merges.{pieces_size, old_size-sections}
use Rattle.change_set.specs.declared.half.Half.{Half}
use Rattle.change_set.specs.Protected.{AreJoined}
use Rattle.change_set.specs.Protection.{takes, takes_char, takes_place, pieced, half_from, HasRoom, taking}
use Rattle.change_set.proofs.Filtering.{Chars, Along}

gap_size : (b : Bool) (t : Chars) (ps : List (Piece Chars)) → pieces_size spelled (cond b (single (Replace 0 t) ∷ []) [] ++ ps) ≡ pieces_size spelled ps
gap_size true t ps = omega arith
gap_size false t ps = refl

end_size : (b : Bool) (t : Chars) → pieces_size spelled (cond b (single (Replace 0 t) ∷ []) []) ≡ 0
end_size true t = omega arith
end_size false t = refl

column_size : (b : Bool) (y : Fate Chars) (ps : List (Piece Chars)) → pieces_size spelled (taken_char spelled b y ∷ ps) ≡ 1 + pieces_size spelled ps
column_size true stays ps = refl
column_size false stays ps = refl
column_size true (leaves t) ps = refl
column_size false (leaves t) ps = refl
column_size true follows ps = refl
column_size false follows ps = refl

taken_size : (char gap : ℕ → Bool) (p : ℕ) (r : Along) → pieces_size spelled (taken spelled char gap p r) ≡ width r
taken_size char gap p (last t) = end_size (gap p) t
taken_size char gap p (next t y r) =
    gap_size (gap p) t (taken_char spelled (char p) y ∷ taken spelled char gap (p + 1) r) ∙
    (column_size (char p) y (taken spelled char gap (p + 1) r) ∙ omega (arith, taken_size char gap (p + 1) r))

pub half-old : (half : Half) (rs : List (ℕ × ℕ)) (len : ℕ) (s : Sections) → old_size (half_from (taking half rs len) [] 0 s) ≡ old_size s
half-old half rs len s =
    old_size-sections spelled (taken spelled (takes_char (taking half rs len)) (takes_place (taking half rs len)) 0 (along_old spelled s)) ∙
    (taken_size (takes_char (taking half rs len)) (takes_place (taking half rs len)) 0 (along_old spelled s) ∙ width-along_old spelled s)

pub half-room : (half : Half) (rs : List (ℕ × ℕ)) (len : ℕ) (s : Sections) → IsSet spelled s → new_size spelled (half_from (taking half rs len) [] 0 s) < 2 ^ 32 → HasRoom (half_from (taking half rs len) [] 0 s)
half-room half rs len s h f = record { old_fits = omega (arith, half-old half rs len s, h.old_fits); new_fits = f }

pub half-is_set : (half : Half) (rs : List (ℕ × ℕ)) (len : ℕ) (s done : Sections) → IsSet spelled s → new_size spelled (half_from (taking half rs len) [] 0 s) < 2 ^ 32 → done ≡ half_from (taking half rs len) [] 0 s → IsSet spelled done
half-is_set half rs len s done h f e = subst (IsSet spelled) (sym e) (record {
  is_normal = normal-normal spelled spelled_laws (pieced (taking half rs len) 0 (along_old spelled s));
  old_fits = omega (arith, half-old half rs len s, h.old_fits);
  new_fits = f;
})

-- ranges that protect the same give the same halves
taken-same : (char charred gap gapped : ℕ → Bool) → ((p : ℕ) → char p ≡ charred p) → ((p : ℕ) → gap p ≡ gapped p) → (p : ℕ) (r : Along) → taken spelled char gap p r ≡ taken spelled charred gapped p r
taken-same char charred gap gapped f g p (last t) = ap (λ b. cond b (single (Replace 0 t) ∷ []) []) (g p)
taken-same char charred gap gapped f g p (next t y r) =
    ap (λ b. cond b (single (Replace 0 t) ∷ []) [] ++ taken_char spelled (char p) y ∷ taken spelled char gap (p + 1) r) (g p) ∙
    (ap (λ b. cond (gapped p) (single (Replace 0 t) ∷ []) [] ++ taken_char spelled b y ∷ taken spelled char gap (p + 1) r) (f p) ∙
    ap (λ q. cond (gapped p) (single (Replace 0 t) ∷ []) [] ++ taken_char spelled (charred p) y ∷ q) (taken-same char charred gap gapped f g (p + 1) r))

protected-same : (given joined : List (ℕ × ℕ)) (len : ℕ) → AreJoined given joined → (p : ℕ) → is_protected joined len p ≡ is_protected given len p
protected-same given joined len h p = ap (λ b. ltb p len && b) (h.same p)

inside-same : (given joined : List (ℕ × ℕ)) (len : ℕ) → AreJoined given joined → (p : ℕ) → is_inside joined len p ≡ is_inside given len p
inside-same given joined len h zero = refl
inside-same given joined len h (suc p) =
    ap (λ b. b && is_protected joined len (suc p)) (protected-same given joined len h p) ∙ ap (λ b. is_protected given len p && b) (protected-same given joined len h (suc p))

pub half-same : (half : Half) (given joined : List (ℕ × ℕ)) (len : ℕ) (s : Sections) → AreJoined given joined → half_from (taking half joined len) [] 0 s ≡ half_from (taking half given len) [] 0 s
half-same half given joined len s h =
    ap (λ ps. normal spelled (closed spelled (gather spelled ps)))
    (taken-same (takes_char (taking half joined len)) (takes_char (taking half given len)) (takes_place (taking half joined len)) (takes_place (taking half given len))
    (λ p. ap (takes half) (protected-same given joined len h p)) (λ p. ap (takes half) (inside-same given joined len h p)) 0 (along_old spelled s))
