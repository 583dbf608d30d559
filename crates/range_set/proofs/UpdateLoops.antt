-- What the loops of an update keep.
use Rattle.std.proofs.Common.{◌≡◌, ℕ, suc, ◌+◌, ◌-◌, ◌<◌, Bool, true, false, ◌||◌, cond, List, [], ◌∷◌, ◌++◌, length, get_or, take, map, filter, refl, sym, ap, subst, ◌∙◌, append_assoc, arith}
use Rattle.std.proofs.lemmas.List.{append-nil, length-append, map-append, take_more}
use Rattle.std.proofs.lemmas.List.Elements.{filter-append}
use Rattle.std.proofs.lemmas.List.Folds.{list_any-append}
use Rattle.std.specs.List.{list_any}
use Rattle.std.specs.Prelude.{Some, slice_get}
use Rattle.std.proofs.lemmas.Option.{get_or_from_slice_get}
use Rattle.range_set.specs.Rules.{RangeRules}
use Rattle.range_set.specs.Order.{before}
use Rattle.range_set.specs.PrivateChunks.{shift}
use Rattle.range_set.specs.PrivateUpdates.{IsBeyond, KeepsPart, StandBefore, TakesBefore}
use Rattle.range_set.specs.declared.ranged.Ranged.{Ranged}

or_both : (a b : Bool) → a ≡ false → b ≡ false → (a || b) ≡ false
or_both false b h k = k
or_both true b h k = cc

or_left : (a b : Bool) → (a || b) ≡ false → a ≡ false
or_left false b h = refl
or_left true b h = h

or_right : (a b : Bool) → (a || b) ≡ false → b ≡ false
or_right false b h = h
or_right true b h = cc

module _ {T : Type 0} where
  -- the last and the first of a list
  pub last_at : (items : List (Ranged T)) (r : Ranged T) → slice_get items (length items - 1) ≡ Some r → (length items - 1 < length items) × (r ≡ get_or items (length items - 1) r)
  last_at [] r h = cc
  last_at (u ∷ items) r h = (omega arith, sym (get_or_from_slice_get (u ∷ items) (length (u ∷ items) - 1) r r h))

  pub first_at : (items : List (Ranged T)) (r : Ranged T) → slice_get items 0 ≡ Some r → (us : List (Ranged T)) × (items ≡ r ∷ us)
  first_at [] r h = cc
  first_at (u ∷ us) r h = let e : u ≡ r = cc in (us, ap (λ x. x ∷ us) e)

  -- one range more of a chunk
  pub more_shifted : (start : ℕ) (items : List (Ranged T)) (i : ℕ) (r : Ranged T) → i < length items → r ≡ get_or items i r
      → map (shift start) (take (i + 1) items) ≡ map (shift start) (take i items) ++ shift start r ∷ []
  more_shifted start items i r l is =
      ap (map (shift start)) (take_more items i r l ∙ ap (λ x. take i items ++ x ∷ []) (sym is)) ∙ map-append (shift start) (take i items) (r ∷ [])

  pub all_kept : (p : Ranged T → Bool) (seen : List (Ranged T)) (r : Ranged T) → filter p seen ≡ seen → p r ≡ true → filter p (seen ++ r ∷ []) ≡ seen ++ r ∷ []
  all_kept p seen r h k = filter-append p seen (r ∷ []) ∙ (ap (λ xs. xs ++ cond (p r) (r ∷ []) []) h ∙ ap (λ b. seen ++ cond b (r ∷ []) []) k)

  pub filter_kept : (p : Ranged T → Bool) (old run after seen : List (Ranged T)) (r : Ranged T) → run ≡ old ++ filter p seen → after ≡ run ++ r ∷ [] → p r ≡ true → after ≡ old ++ filter p (seen ++ r ∷ [])
  filter_kept p old run after seen r h e k =
      e ∙ (ap (λ xs. xs ++ r ∷ []) h ∙ (append_assoc old (filter p seen) (r ∷ [])
      ∙ ap (λ xs. old ++ xs) (ap (λ b. filter p seen ++ cond b (r ∷ []) []) (sym k) ∙ sym (filter-append p seen (r ∷ [])))))

  pub filter_left_out : (p : Ranged T → Bool) (old run seen : List (Ranged T)) (r : Ranged T) → run ≡ old ++ filter p seen → p r ≡ false → run ≡ old ++ filter p (seen ++ r ∷ [])
  filter_left_out p old run seen r h k =
      h ∙ ap (λ xs. old ++ xs) (sym (append-nil (filter p seen)) ∙ (ap (λ b. filter p seen ++ cond b (r ∷ []) []) (sym k) ∙ sym (filter-append p seen (r ∷ []))))

  pub part_init : (run : List (Ranged T)) → KeepsPart [] run run
  part_init run = record { none = λ q h l. h; room = let n = length-append run [] in omega (arith, n) }

  pub part_kept : (seen old run after : List (Ranged T)) (r : Ranged T) → KeepsPart seen old run → after ≡ run ++ r ∷ [] → KeepsPart (seen ++ r ∷ []) old after
  part_kept seen old run after r k e = record {
    none = λ q h l.
        let m : (list_any q seen || list_any q (r ∷ [])) ≡ false = sym (list_any-append q seen (r ∷ [])) ∙ l in
        ap (list_any q) e ∙ (list_any-append q run (r ∷ []) ∙ or_both (list_any q run) (list_any q (r ∷ [])) (k.none q h (or_left (list_any q seen) _ m)) (or_right (list_any q seen) _ m));
    room = let s = k.room in let a = ap length e in let b = length-append run (r ∷ []) in let c = length-append old seen in let d = length-append old (seen ++ r ∷ []) in let f = length-append seen (r ∷ []) in omega (arith, s, a, b, c, d, f);
  }

  pub part_left_out : (seen old run : List (Ranged T)) (r : Ranged T) → KeepsPart seen old run → KeepsPart (seen ++ r ∷ []) old run
  part_left_out seen old run r k = record {
    none = λ q h l. k.none q h (or_left (list_any q seen) (list_any q (r ∷ [])) (sym (list_any-append q seen (r ∷ [])) ∙ l));
    room = let s = k.room in let c = length-append old seen in let d = length-append old (seen ++ r ∷ []) in let f = length-append seen (r ∷ []) in omega (arith, s, c, d, f);
  }

module _ {T : Type 0} (rules : RangeRules T) where
  stand_push : (u : Ranged T) (us taken : List (Ranged T)) (x : Ranged T) → StandBefore rules (u ∷ us) taken → before rules x u ≡ true → StandBefore rules (u ∷ us) (taken ++ x ∷ [])
  stand_push u us [] x h e = (e, tt)
  stand_push u us (y ∷ taken) x h e = (h.0, stand_push u us taken x h.1 e)

  pub takes_more : (chunk us old_run old_added run added after left : List (Ranged T)) (u x : Ranged T) → chunk ≡ u ∷ us → TakesBefore rules chunk old_run old_added run added
      → added ≡ x ∷ left → before rules x u ≡ true → after ≡ run ++ x ∷ [] → TakesBefore rules chunk old_run old_added after left
  takes_more chunk us old_run old_added run added after left u x c h a b e = record {
    taken = h.taken ++ x ∷ [];
    run = e ∙ (ap (λ xs. xs ++ x ∷ []) h.run ∙ append_assoc old_run h.taken (x ∷ []));
    added = h.added ∙ (ap (λ xs. h.taken ++ xs) a ∙ sym (append_assoc h.taken (x ∷ []) left));
    before = subst (λ xs. StandBefore rules xs (h.taken ++ x ∷ [])) (sym c) (stand_push u us h.taken x (subst (λ xs. StandBefore rules xs h.taken) c h.before) b);
  }

  -- an added range that isn't before the last of a chunk
  pub beyond_last : (start : ℕ) (items : List (Ranged T)) (r x : Ranged T) (added : List (Ranged T)) → r ≡ get_or items (length items - 1) r → before rules x (shift start r) ≡ false
      → IsBeyond rules (map (shift start) items) (x ∷ added)
  beyond_last start [] r x added e h = tt
  beyond_last start (u ∷ []) r x added e h = ap (λ q. before rules x (shift start q)) (sym e) ∙ h
  beyond_last start (u ∷ v ∷ items) r x added e h =
      let n : length (u ∷ v ∷ items) - 1 ≡ suc (length items) = omega arith in
      let m : length (v ∷ items) - 1 ≡ length items = omega arith in
      beyond_last start (v ∷ items) r x added (e ∙ (ap (λ i. get_or (u ∷ v ∷ items) i r) n ∙ ap (λ i. get_or (v ∷ items) i r) (sym m))) h

  pub beyond_next : (start : ℕ) (items : List (Ranged T)) (r x : Ranged T) (added : List (Ranged T)) → r ≡ get_or items (length items - 1) r → x ≡ get_or added 0 x → before rules x (shift start r) ≡ false
      → IsBeyond rules (map (shift start) items) added
  beyond_next start items r x [] e f h = tt
  beyond_next start items r x (y ∷ added) e f h = subst (λ q. IsBeyond rules (map (shift start) items) (q ∷ added)) f (beyond_last start items r x added e h)
