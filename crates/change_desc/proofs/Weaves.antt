-- Pieces put after what is done.
use Rattle.std.proofs.Common.{◌≡◌, ℕ, zero, suc, ◌+◌, Bool, true, false, cond, ◌&&◌, List, [], ◌∷◌, ◌++◌, refl, ap, ◌∙◌, append_assoc, arith, add_assoc, zero-add, add-zero}
use Rattle.change_desc.specs.declared.section.Section.{Section}
use Rattle.change_desc.specs.declared.section.Section.TheVariants.{Keep, Replace}
use Rattle.change_desc.specs.declared.weave.Weave.{Weave}
use Rattle.change_desc.specs.Sections.{Texts, counted, is_blank, is_zero, kind, joins, joined, put, normal, old_of, old_size, new_of, new_size}
use Rattle.change_desc.specs.Pieces.{Piece, single, stretch, closed, gather}
use Rattle.change_desc.specs.Weaving.{Takes}
use Rattle.change_desc.proofs.Normal.{Laws, counted_laws, normal-prefix, normal-normal, Together, together, both_keep, both_insert, both_delete}
use Rattle.change_desc.proofs.Merges.{old_size-normal}

old_size-append : (s t : List (Section ℕ)) → old_size (s ++ t) ≡ old_size s + old_size t
old_size-append [] t = omega arith
old_size-append (x ∷ s) t = omega (arith, old_size-append s t)

pub new_size-append : (s t : List (Section ℕ)) → new_size counted (s ++ t) ≡ new_size counted s + new_size counted t
new_size-append [] t = omega arith
new_size-append (x ∷ s) t = omega (arith, new_size-append s t)

module _ {T C : Type 0} (X : Texts T C) (L : Laws X) where
  new_of-together : (x y : Section T) → Together X L x y → new_of X (joined X x y) ≡ new_of X x + new_of X y
  new_of-together x y (both_keep m n) = refl
  new_of-together x y (both_insert t u) = L.size-join t u
  new_of-together x y (both_delete m n t u h k) = L.size-join t u

  new_size-put : (x : Section T) (s : List (Section T)) → new_size X (put X x s) ≡ new_size X (x ∷ s)
  new_size-put x [] = refl
  new_size-put x (y ∷ s) = cases (joins (kind X x) (kind X y)) refl
    where
      cases : (b : Bool) → joins (kind X x) (kind X y) ≡ b → new_size X (cond b (joined X x y ∷ s) (x ∷ y ∷ s)) ≡ new_size X (x ∷ y ∷ s)
      cases true h = omega (arith, new_of-together x y (together X L x y h))
      cases false h = refl

  is_zero-true : (n : ℕ) → is_zero n ≡ true → n ≡ 0
  is_zero-true zero h = refl
  is_zero-true (suc n) h = cc

  new_of-blank : (x : Section T) → is_blank X x ≡ true → new_of X x ≡ 0
  new_of-blank (Keep n) h = is_zero-true n h
  new_of-blank (Replace n t) h = is_zero-true (X.size t) (right (is_zero n) (is_zero (X.size t)) h)
    where
      right : (a b : Bool) → (a && b) ≡ true → b ≡ true
      right true b h = h
      right false b h = cc

  pub new_size-normal : (s : List (Section T)) → new_size X (normal X s) ≡ new_size X s
  new_size-normal [] = refl
  new_size-normal (x ∷ s) = cases (is_blank X x) refl (new_size-normal s)
    where
      cases : (b : Bool) → is_blank X x ≡ b → new_size X (normal X s) ≡ new_size X s → new_size X (cond b (normal X s) (put X x (normal X s))) ≡ new_size X (x ∷ s)
      cases true h e = omega (arith, new_of-blank x h)
      cases false h e = omega (arith, new_size-put x (normal X s))

old_size-after : (s t : List (Section ℕ)) → old_size (normal counted (s ++ t)) ≡ old_size s + old_size t
old_size-after s t = old_size-normal counted (s ++ t) ∙ old_size-append s t

new_size-after : (s t : List (Section ℕ)) → new_size counted (normal counted (s ++ t)) ≡ new_size counted s + new_size counted t
new_size-after s t = new_size-normal counted counted_laws (s ++ t) ∙ new_size-append s t

-- the open Replace without what is open
closed_none : (ps : List (Piece ℕ)) → closed counted (gather counted (stretch false 0 0 ∷ ps)) ≡ closed counted (gather counted ps)
closed_none ps = rw (zero-add (gather counted ps).count, zero-add (gather counted ps).text) refl

gather-single : (x : Section ℕ) (ps : List (Piece ℕ)) → is_blank counted x ≡ false → gather counted (single x ∷ ps) ≡ record { count = 0; text = 0; rest = x ∷ closed counted (gather counted ps) }
gather-single x ps b = rw b refl

pub takes_single : (w v : Weave) (x : Section ℕ) → is_blank counted x ≡ false →
    v.sections.items ≡ normal counted (normal counted (w.sections.items ++ Replace w.count w.len ∷ []) ++ x ∷ []) → v.count ≡ 0 → v.len ≡ 0 →
    Takes w v (single x) (old_of x) (new_of counted x)
takes_single w v x b e c t = record {
  goes = λ ps.
      let tail : List (Section ℕ) = closed counted (gather counted ps) in
      let front : List (Section ℕ) = w.sections.items ++ Replace w.count w.len ∷ [] in
      rw (
        e,
        c,
        t,
        closed_none ps,
        gather-single x ps b,
        add-zero w.count,
        add-zero w.len,
        normal-prefix counted counted_laws (normal counted front ++ x ∷ []) tail,
        append_assoc (normal counted front) (x ∷ []) tail,
        normal-prefix counted counted_laws front (x ∷ tail),
        append_assoc w.sections.items (Replace w.count w.len ∷ []) (x ∷ tail),
      ) refl;
  is_normal = rw e (normal-normal counted counted_laws (normal counted (w.sections.items ++ Replace w.count w.len ∷ []) ++ x ∷ []));
  old = omega (arith, ap old_size e, old_size-after (normal counted (w.sections.items ++ Replace w.count w.len ∷ [])) (x ∷ []), old_size-after w.sections.items (Replace w.count w.len ∷ []));
  new = omega (arith, ap (new_size counted) e, new_size-after (normal counted (w.sections.items ++ Replace w.count w.len ∷ [])) (x ∷ []), new_size-after w.sections.items (Replace w.count w.len ∷ []));
}

pub takes_start : (w v : Weave) (n u : ℕ) → v.sections.items ≡ normal counted (w.sections.items ++ Replace w.count w.len ∷ []) → v.count ≡ n → v.len ≡ u →
    Takes w v (stretch true n u) n u
takes_start w v n u e c t = record {
  goes = λ ps.
      let tail : List (Section ℕ) = Replace (n + (gather counted ps).count) (u + (gather counted ps).text) ∷ (gather counted ps).rest in
      rw (
        e,
        c,
        t,
        add-zero w.count,
        add-zero w.len,
        normal-prefix counted counted_laws (w.sections.items ++ Replace w.count w.len ∷ []) tail,
        append_assoc w.sections.items (Replace w.count w.len ∷ []) tail,
      ) refl;
  is_normal = rw e (normal-normal counted counted_laws (w.sections.items ++ Replace w.count w.len ∷ []));
  old = omega (arith, ap old_size e, old_size-after w.sections.items (Replace w.count w.len ∷ []));
  new = omega (arith, ap (new_size counted) e, new_size-after w.sections.items (Replace w.count w.len ∷ []));
}

pub takes_on : (w v : Weave) (n u : ℕ) → normal counted w.sections.items ≡ w.sections.items → v.sections.items ≡ w.sections.items → v.count ≡ w.count + n → v.len ≡ w.len + u →
    Takes w v (stretch false n u) n u
takes_on w v n u h e c t = record {
  goes = λ ps. rw (e, c, t, add_assoc w.count n (gather counted ps).count, add_assoc w.len u (gather counted ps).text) refl;
  is_normal = rw e h;
  old = omega (arith, ap old_size e);
  new = omega (arith, ap (new_size counted) e);
}

pub flushed-is_normal : (s t : List (Section ℕ)) → t ≡ normal counted s → normal counted t ≡ t
flushed-is_normal s t e = rw e (normal-normal counted counted_laws s)

pub flushed-old : (s t : List (Section ℕ)) (n u : ℕ) → t ≡ normal counted (s ++ Replace n u ∷ []) → old_size t ≡ old_size s + n
flushed-old s t n u e = omega (arith, ap old_size e, old_size-after s (Replace n u ∷ []))

pub flushed-new : (s t : List (Section ℕ)) (n u : ℕ) → t ≡ normal counted (s ++ Replace n u ∷ []) → new_size counted t ≡ new_size counted s + u
flushed-new s t n u e = omega (arith, ap (new_size counted) e, new_size-after s (Replace n u ∷ []))
