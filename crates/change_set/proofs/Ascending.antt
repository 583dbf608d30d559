-- One more change put after those that begin before it.
use Rattle.std.proofs.Common.{◌≡◌, ℕ, ◌+◌, ◌-◌, ◌≤◌, ◌<◌, ◌^◌, List, [], ◌∷◌, ◌++◌, length, refl, ap, subst, append_assoc, arith}
use Rattle.change_desc.specs.declared.section.Section.{Section}
use Rattle.change_desc.specs.declared.section.Section.TheVariants.{Keep, Replace}
use Rattle.change_desc.specs.Sections.{Sections, spelled, old_of, new_of, old_size, new_size, normal, IsSet}
use Rattle.change_desc.specs.Of.{span, then_also}
use Rattle.change_desc.proofs.Normal.{spelled_laws, normal-normal, normal-prefix}
use Rattle.change_desc.proofs.Merges.{old_size-normal}
use Rattle.change_desc.proofs.Weaves.{new_size-normal}
use Rattle.change_set.specs.declared.ascent.Ascent.{Ascent}
use Rattle.change_set.specs.Ascents.{total_of, IsAscent, Grows}
use Rattle.change_set.proofs.Later.{later}

pub old_size-append : (s t : Sections) → old_size (s ++ t) ≡ old_size s + old_size t
old_size-append [] t = omega arith
old_size-append (x ∷ s) t = omega (arith, old_size-append s t)

pub new_size-append : (s t : Sections) → new_size spelled (s ++ t) ≡ new_size spelled s + new_size spelled t
new_size-append [] t = omega arith
new_size-append (x ∷ s) t = omega (arith, new_size-append s t)

-- what a later change comes to
pub record Put (a : Ascent) (from to : ℕ) (t : List ℕ) : Type 0 where
  pub is : then_also spelled (total_of a) (span spelled a.len from to t) ≡ normal spelled (a.sections.items ++ Keep (from - a.end) ∷ Replace (to - from) t ∷ Keep (a.len - to) ∷ [])
  pub size : new_size spelled (then_also spelled (total_of a) (span spelled a.len from to t)) ≡ a.new_len - (to - from) + length t
  pub gone : to - from ≤ a.new_len

pub put : (a : Ascent) (from to : ℕ) (t : List ℕ) → IsAscent a → a.end ≤ from → from ≤ to → to ≤ a.len → Put a from to t
put a from to t h b o w =
    let d : Sections = a.sections.items in
    let rest : Sections = Keep (from - a.end) ∷ Replace (to - from) t ∷ Keep (a.len - to) ∷ [] in
    let l : then_also spelled (normal spelled (d ++ Keep (a.len - old_size d) ∷ [])) (span spelled a.len from to t) ≡ normal spelled (d ++ Keep (from - old_size d) ∷ Replace (to - from) t ∷ Keep (a.len - to) ∷ []) =
    later d a.len from to t h.is_normal (omega (arith, h.ends)) o w in
    let e : then_also spelled (total_of a) (span spelled a.len from to t) ≡ normal spelled (d ++ rest) =
    subst (λ n. then_also spelled (normal spelled (d ++ Keep (a.len - n) ∷ [])) (span spelled a.len from to t) ≡ normal spelled (d ++ Keep (from - n) ∷ Replace (to - from) t ∷ Keep (a.len - to) ∷ [])) h.ends l in
    record {
      is = e;
      size = omega (arith, ap (new_size spelled) e, new_size-normal spelled spelled_laws (d ++ rest), new_size-append d rest, h.new);
      gone = omega (arith, h.new);
    }

pub grows : (max from to : ℕ) (t : List ℕ) (a b : Ascent) → IsAscent a → a.end ≤ from → from ≤ to → to ≤ a.len →
    b.sections.items ≡ normal spelled (a.sections.items ++ Keep (from - a.end) ∷ Replace (to - from) t ∷ []) → b.end ≡ to → b.len ≡ a.len →
    b.new_len ≡ a.new_len - (to - from) + length t → b.new_len ≤ max → max < 2 ^ 32 → Grows max a b (span spelled a.len from to t)
grows max from to t a b h f o w e n l s m v =
    let p : Put a from to t = put a from to t h f o w in
    let d : Sections = a.sections.items in
    let new : Sections = Keep (from - a.end) ∷ Replace (to - from) t ∷ [] in
    let rest : Sections = Keep (a.len - to) ∷ [] in
    record {
      is_ascent = record {
        is_normal = rw e (normal-normal spelled spelled_laws (d ++ new));
        ends = omega (arith, ap old_size e, old_size-normal spelled (d ++ new), old_size-append d new, h.ends, n);
        within = omega (arith, n, l);
        new = omega (arith, ap (new_size spelled) e, new_size-normal spelled spelled_laws (d ++ new), new_size-append d new, h.new, n, l, s);
        fits = omega (arith, h.fits, l);
        new_fits = omega arith;
      };
      same_len = l;
      total = rw (n, l, e, normal-prefix spelled spelled_laws (d ++ new) rest, append_assoc d new rest, p.is) refl;
      short = m;
    }

-- how long the text is that the changes so far lead to
pub total-size : (a : Ascent) → IsAscent a → new_size spelled (total_of a) ≡ a.new_len
total-size a h =
    let d : Sections = a.sections.items in
    let rest : Sections = Keep (a.len - a.end) ∷ [] in
    omega (arith, new_size-normal spelled spelled_laws (d ++ rest), new_size-append d rest, h.new)

pub total-old : (a : Ascent) → IsAscent a → old_size (total_of a) ≡ a.len
total-old a h =
    let d : Sections = a.sections.items in
    let rest : Sections = Keep (a.len - a.end) ∷ [] in
    omega (arith, old_size-normal spelled (d ++ rest), old_size-append d rest, h.ends, h.within)

pub total-set : (a : Ascent) (s : Sections) → IsAscent a → s ≡ total_of a → IsSet spelled s
total-set a s h e =
    rw e (record {
      is_normal = normal-normal spelled spelled_laws (a.sections.items ++ Keep (a.len - a.end) ∷ []);
      old_fits = omega (arith, total-old a h, h.fits);
      new_fits = omega (arith, total-size a h, h.new_fits);
    })

-- one section after another
pub push_twice : (s m : Sections) (x y : Section (List ℕ)) → m ≡ normal spelled (s ++ x ∷ []) → normal spelled (m ++ y ∷ []) ≡ normal spelled (s ++ x ∷ y ∷ [])
push_twice s m x y e = rw (e, normal-prefix spelled spelled_laws (s ++ x ∷ []) (y ∷ []), append_assoc s (x ∷ []) (y ∷ [])) refl

pub push-normal : (s m : Sections) (x : Section (List ℕ)) → m ≡ normal spelled (s ++ x ∷ []) → normal spelled m ≡ m
push-normal s m x e = rw e (normal-normal spelled spelled_laws (s ++ x ∷ []))

pub push-old : (s m : Sections) (x : Section (List ℕ)) → m ≡ normal spelled (s ++ x ∷ []) → old_size m ≡ old_size s + old_of x
push-old s m x e = omega (arith, ap old_size e, old_size-normal spelled (s ++ x ∷ []), old_size-append s (x ∷ []))

pub push-new : (s m : Sections) (x : Section (List ℕ)) → m ≡ normal spelled (s ++ x ∷ []) → new_size spelled m ≡ new_size spelled s + new_of spelled x
push-new s m x e = omega (arith, ap (new_size spelled) e, new_size-normal spelled spelled_laws (s ++ x ∷ []), new_size-append s (x ∷ []))
