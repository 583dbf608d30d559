-- Texts with updates applied in turn, and their lengths.
use Rattle.std.proofs.Common.{◌≡◌, ℕ, ◌+◌, ◌≤◌, ◌<◌, ◌^◌, Bool, true, false, cond, ltb, List, [], ◌∷◌, ◌++◌, length, map, Some, None, bytes_eq, refl, sym, ap, subst, ◌∙◌, arith, length-append}
use Rattle.std.proofs.lemmas.List.{append-nil}
use Rattle.std.proofs.lemmas.Bool.{ltb-false, le-ltb}
use Rattle.line_tree.specs.Text.{max_len}
use Rattle.change_desc.specs.Sections.{spelled, apply, new_size}
use Rattle.change_set.proofs.Sizes.{length-apply}
use Rattle.collab.specs.declared.error.CollabError.{CollabError}
use Rattle.collab.specs.declared.error.CollabError.TheVariants.{TooLong}
use Rattle.collab.specs.declared.update.Update.{Update}
use Rattle.collab.specs.Updates.{applied, LeadOn, numbers_of, CountOn}
use Rattle.collab.specs.Lengths.{lengths_after, lengths_with, too_long}
use Rattle.collab.specs.Authorities.{AuthorityView, CanTake, IsAuthority, latest, pushed, update_count}
use Rattle.collab.proofs.Names.{same_name, other_name, own_numbers, other_numbers, numbers_of-append, count-append}

pub applied-append : (us vs : List Update) (text : List ℕ) → applied (us ++ vs) text ≡ applied vs (applied us text)
applied-append [] vs text = refl
applied-append (u ∷ us) vs text = applied-append us vs (apply u.changes text)

abbrev pub sizes : List Update → List ℕ
sizes us = map (λ u. new_size spelled u.changes) us

pub lengths-sizes : (us : List Update) (text : List ℕ) → LeadOn (length text) us → lengths_after text us ≡ sizes us
lengths-sizes [] text h = refl
lengths-sizes (u ∷ us) text h =
    let e : length (apply u.changes text) ≡ new_size spelled u.changes = length-apply u.changes text h.0 in
    ap (λ n. n ∷ lengths_after (apply u.changes text) us) e ∙
    ap (λ ns. new_size spelled u.changes ∷ ns) (lengths-sizes us (apply u.changes text) (subst (λ n. LeadOn n us) (sym e) h.1))

pub leads-append : (us vs : List Update) (text : List ℕ) → LeadOn (length text) us → LeadOn (length (applied us text)) vs → LeadOn (length text) (us ++ vs)
leads-append [] vs text h k = k
leads-append (u ∷ us) vs text h k =
    let e : length (apply u.changes text) ≡ new_size spelled u.changes = length-apply u.changes text h.0 in
    (h.0, subst (λ n. LeadOn n (us ++ vs)) e (leads-append us vs (apply u.changes text) (subst (λ n. LeadOn n us) (sym e) h.1) k))

pub leads-left : (us vs : List Update) (n : ℕ) → LeadOn n (us ++ vs) → LeadOn n us
leads-left [] vs n h = tt
leads-left (u ∷ us) vs n h = (h.0, leads-left us vs (new_size spelled u.changes) h.1)

pub leads-right : (us vs : List Update) (text : List ℕ) → LeadOn (length text) (us ++ vs) → LeadOn (length (applied us text)) vs
leads-right [] vs text h = h
leads-right (u ∷ us) vs text h =
    let e : length (apply u.changes text) ≡ new_size spelled u.changes = length-apply u.changes text h.0 in
    leads-right us vs (apply u.changes text) (subst (λ n. LeadOn n (us ++ vs)) (sym e) h.1)

pub lengths-append : (us vs : List Update) (text : List ℕ) → lengths_after text (us ++ vs) ≡ lengths_after text us ++ lengths_after (applied us text) vs
lengths-append [] vs text = refl
lengths-append (u ∷ us) vs text = ap (λ ns. length (apply u.changes text) ∷ ns) (lengths-append us vs (apply u.changes text))

pub none-append : (ms ns : List ℕ) → too_long ms ≡ None → too_long ns ≡ None → too_long (ms ++ ns) ≡ None
none-append [] ns h k = k
none-append (m ∷ ms) ns h k = cases (ltb max_len m) h (λ e. none-append ms ns e k)
  where
    cases : (b : Bool) → cond b (Some (TooLong m max_len)) (too_long ms) ≡ None → (too_long ms ≡ None → too_long (ms ++ ns) ≡ None) →
        cond b (Some (TooLong m max_len)) (too_long (ms ++ ns)) ≡ None
    cases true e f = cc
    cases false e f = f e

pub first-within : (n : ℕ) (ns : List ℕ) → too_long (n ∷ ns) ≡ None → n ≤ max_len
first-within n ns h = cases (ltb max_len n) refl h
  where
    cases : (b : Bool) → ltb max_len n ≡ b → cond b (Some (TooLong n max_len)) (too_long ns) ≡ None → n ≤ max_len
    cases true e f = cc
    cases false e f = ltb-false max_len n e

pub rest-within : (n : ℕ) (ns : List ℕ) → too_long (n ∷ ns) ≡ None → too_long ns ≡ None
rest-within n ns h = cases (ltb max_len n) h
  where
    cases : (b : Bool) → cond b (Some (TooLong n max_len)) (too_long ns) ≡ None → too_long ns ≡ None
    cases true e = cc
    cases false e = e

pub within : (n : ℕ) (ns : List ℕ) → n ≤ max_len → too_long (n ∷ ns) ≡ too_long ns
within n ns h = ap (λ b. cond b (Some (TooLong n max_len)) (too_long ns)) (le-ltb max_len n h)

pub none-first : (n : ℕ) (ns : List ℕ) → too_long (n ∷ []) ≡ None → too_long (n ∷ ns) ≡ too_long ns
none-first n ns h = within n ns (first-within n [] h)

pub past : (n : ℕ) (ns : List ℕ) (e : CollabError) → too_long (n ∷ []) ≡ Some e → too_long (n ∷ ns) ≡ Some e
past n ns e h = cases (ltb max_len n) h
  where
    cases : (b : Bool) → cond b (Some (TooLong n max_len)) None ≡ Some e → cond b (Some (TooLong n max_len)) (too_long ns) ≡ Some e
    cases true f = f
    cases false f = cc

-- a text that none of the lengths with updates is past the limit of is short itself
pub last-within : (us : List Update) (text : List ℕ) → too_long (lengths_with text us) ≡ None → length (applied us text) ≤ max_len
last-within [] text h = first-within (length text) [] h
last-within (u ∷ us) text h = last-within us (apply u.changes text) (rest-within (length text) (lengths_with (apply u.changes text) us) h)

-- an authority that took updates is one
pub pushed-authority : (a : AuthorityView) (name : List ℕ) (us : List Update) → IsAuthority a → CanTake a name us →
    too_long (lengths_after (latest a) us) ≡ None → update_count a + length us < 2 ^ 32 → IsAuthority (pushed a us)
pushed-authority a name us h k s f =
    record {
      leads = leads-append a.updates us a.start h.leads k.leads;
      short = subst (λ ns. too_long (length a.start ∷ ns) ≡ None) (sym (lengths-append a.updates us a.start)) (none-append (lengths_with a.start a.updates) (lengths_after (latest a) us) h.short s);
      numbers = λ n. subst (CountOn 0) (sym (numbers_of-append n a.updates us)) (by n (bytes_eq n name) refl);
      few = omega (arith, length-append a.updates us);
    }
  where
    own : CountOn 0 (numbers_of name a.updates ++ numbers_of name us)
    own =
        let e : length (numbers_of name a.updates) ≡ 0 + length (numbers_of name a.updates) = omega arith in
        count-append 0 (numbers_of name a.updates) (numbers_of name us) (h.numbers name)
        (subst (λ m. CountOn m (numbers_of name us)) e (subst (CountOn (length (numbers_of name a.updates))) (sym (own_numbers name us k.bear)) k.numbers))

    by : (n : List ℕ) (b : Bool) → bytes_eq n name ≡ b → CountOn 0 (numbers_of n a.updates ++ numbers_of n us)
    by n true e = subst (λ m. CountOn 0 (numbers_of m a.updates ++ numbers_of m us)) (sym (same_name n name e)) own
    by n false e =
        subst (λ ns. CountOn 0 (numbers_of n a.updates ++ ns)) (sym (other_numbers n name us k.bear (other_name n name e)))
        (subst (CountOn 0) (sym (append-nil (numbers_of n a.updates))) (h.numbers n))
