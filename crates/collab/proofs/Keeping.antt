-- A client that keeps to an authority goes on to, through its own changes and through updates that it takes and the authority takes.
use Rattle.std.proofs.Common.{◌≡◌, ◌≢◌, ℕ, zero, suc, ◌+◌, ◌-◌, ◌≤◌, Bool, true, false, cond, List, [], ◌∷◌, ◌++◌, length, drop, take, Option, Some, None, bytes_eq, refl, sym, ap, subst, ◌∙◌, arith, length-append, append_assoc, length-drop}
use Rattle.std.proofs.lemmas.List.{append-nil, take-append-drop}
use Rattle.std.proofs.Math.Seq.{take-append-le, drop-append-le, take_all, drop-length, length-take-le, drop-drop, drop-nil, take-nil}
use Rattle.std.specs.Option.{option_or}
use Rattle.line_tree.specs.Text.{max_len}
use Rattle.change_desc.specs.Sections.{Sections, spelled, apply, old_size, new_size}
use Rattle.collab.specs.declared.update.Update.{Update}
use Rattle.collab.specs.Updates.{applied, LeadOn, AllBear, numbers_of, CountOn}
use Rattle.collab.specs.Lengths.{too_long}
use Rattle.collab.specs.Authorities.{AuthorityView, CanTake, IsAuthority, latest, pushed, slice_of, update_count}
use Rattle.collab.specs.Clients.{CanReceive, ClientView, Confirms, IsFirst, all_taken, client_lengths, crossed, document, joined, local_update, pending_after, received, taken, taking_refusal, unseen, with_local}
use Rattle.collab.specs.Invariants.{IsPart, KeepsTo, Sent}
use Rattle.collab.proofs.Names.{same_name, name_test, numbers, numbers-append, numbers_of-append, bear-left, count-left}
use Rattle.collab.proofs.Texts.{applied-append, leads-left, leads-right}
use Rattle.collab.proofs.Crossings.{mapped-append, mapped-length}
use Rattle.collab.proofs.Taking.{own_pending, other_pending, local-client, taken-client, joined-client}

-- a list from a place on
take-next : {A : Type 0} (xs : List A) (n : ℕ) (y : A) (ys : List A) → drop n xs ≡ y ∷ ys → take (suc n) xs ≡ take n xs ++ y ∷ []
take-next [] zero y ys h = cc
take-next [] (suc n) y ys h = cc
take-next (x ∷ xs) zero y ys h = let e : x ≡ y = cc in ap (λ z. z ∷ []) e
take-next (x ∷ xs) (suc n) y ys h = ap (λ zs. x ∷ zs) (take-next xs n y ys h)

drop-next : {A : Type 0} (xs : List A) (n : ℕ) (y : A) (ys : List A) → drop n xs ≡ y ∷ ys → drop (suc n) xs ≡ ys
drop-next [] zero y ys h = cc
drop-next [] (suc n) y ys h = cc
drop-next (x ∷ xs) zero y ys h = cc
drop-next (x ∷ xs) (suc n) y ys h = drop-next xs n y ys h

next-within : {A : Type 0} (xs : List A) (n : ℕ) (y : A) (ys : List A) → drop n xs ≡ y ∷ ys → suc n ≤ length xs
next-within xs n y ys h = omega (arith, length-drop n xs, ap length h)

skip : {A : Type 0} (m n : ℕ) (xs : List A) → drop m (take n xs) ≡ take (n - m) (drop m xs)
skip zero n xs = let e : n ≡ n - zero = omega arith in ap (λ k. take k xs) e
skip {A} (suc m) zero xs = let e : 0 ≡ 0 - suc m = omega arith in drop-nil {A = A} (suc m) ∙ ap (λ k. take k (drop (suc m) xs)) e
skip {A} (suc m) (suc n) [] = sym (take-nil {A = A} (suc n - suc m))
skip (suc m) (suc n) (x ∷ xs) = let e : n - m ≡ suc n - suc m = omega arith in skip m n xs ∙ ap (λ k. take k (drop m xs)) e

-- the numbers of a client's own update, and of another's
own-more : (name : List ℕ) (u : Update) → bytes_eq name u.client ≡ true → length (numbers_of name (u ∷ [])) ≡ 1
own-more name u e = ap (λ b. length (cond b (u.number ∷ []) [])) e

other-more : (name : List ℕ) (u : Update) → bytes_eq name u.client ≡ false → length (numbers_of name (u ∷ [])) ≡ 0
other-more name u e = ap (λ b. length (cond b (u.number ∷ []) [])) e

module _ (a : AuthorityView) (is : IsAuthority a) where
  -- where the authority's next update starts
  pub next-starts : (c : ClientView) (us : List Update) → KeepsTo a c → drop c.version a.updates ≡ us → LeadOn (length c.confirmed) us
  next-starts c us h d =
      let all : LeadOn (length a.start) (take c.version a.updates ++ drop c.version a.updates) =
      subst (LeadOn (length a.start)) (sym (take-append-drop c.version a.updates)) is.leads in
      subst (LeadOn (length c.confirmed)) d
      (subst (λ t. LeadOn (length t) (drop c.version a.updates)) (sym h.confirmed) (leads-right (take c.version a.updates) (drop c.version a.updates) a.start all))

  -- the client after the next update
  pub keeps-taken : (c : ClientView) (u : Update) (us : List Update) → KeepsTo a c → drop c.version a.updates ≡ u ∷ us →
      too_long (client_lengths (taken c u)) ≡ None → KeepsTo a (taken c u)
  keeps-taken c u us h d k =
      let starts : LeadOn (length c.confirmed) (u ∷ us) = next-starts c (u ∷ us) h d in
      let confirms : Confirms c (u ∷ us) = subst (Confirms c) d h.confirms in
      let seen : take (suc c.version) a.updates ≡ take c.version a.updates ++ u ∷ [] = take-next a.updates c.version u us d in
      record {
        client = taken-client c u h.client starts.0 confirms.0 k;
        seen = next-within a.updates c.version u us d;
        confirmed =
            ap (apply u.changes) h.confirmed ∙
            (sym (applied-append (take c.version a.updates) (u ∷ []) a.start) ∙ sym (ap (λ xs. applied xs a.start) seen));
        count =
            ap (λ xs. length (numbers_of c.name xs) + length (pending_after c u)) seen ∙
            (ap (λ xs. length xs + length (pending_after c u)) (numbers_of-append c.name (take c.version a.updates) (u ∷ [])) ∙
            cases (bytes_eq c.name u.client) refl confirms.0);
        confirms = subst (Confirms (taken c u)) (sym (drop-next a.updates c.version u us d)) confirms.1;
      }
    where
      cases : (b : Bool) → bytes_eq c.name u.client ≡ b → (c.name ≡ u.client → IsFirst u c.pending) →
          length (numbers_of c.name (take c.version a.updates) ++ numbers_of c.name (u ∷ [])) + length (pending_after c u) ≡ c.made
      cases true e f =
          let p : IsFirst u c.pending = f (same_name c.name u.client e) in
          omega (
            arith,
            length-append (numbers_of c.name (take c.version a.updates)) (numbers_of c.name (u ∷ [])),
            own-more c.name u e,
            ap length (own_pending c u e ∙ ap (drop 1) p.1),
            ap length p.1,
            h.count,
          )
      cases false e f =
          omega (
            arith,
            length-append (numbers_of c.name (take c.version a.updates)) (numbers_of c.name (u ∷ [])),
            other-more c.name u e,
            ap length (other_pending c u e),
            mapped-length c.pending u.changes,
            h.count,
          )

  -- the client after the next updates
  pub keeps-all-taken : (us : List Update) (c : ClientView) (rest : List Update) → KeepsTo a c → drop c.version a.updates ≡ us ++ rest →
      taking_refusal c us ≡ None → KeepsTo a (all_taken c us)
  keeps-all-taken [] c rest h d k = h
  keeps-all-taken (u ∷ us) c rest h d k =
      let p : (too_long (client_lengths (taken c u)) ≡ None) × (taking_refusal (taken c u) us ≡ None) = both (too_long (client_lengths (taken c u))) (taking_refusal (taken c u) us) k in
      keeps-all-taken us (taken c u) rest (keeps-taken c u (us ++ rest) h d p.0) (drop-next a.updates c.version u (us ++ rest) d) p.1
    where
      both : {A : Type 0} (x y : Option A) → option_or x y ≡ None → (x ≡ None) × (y ≡ None)
      both None y e = (refl, e)
      both (Some x) y e = cc

  -- what the client has not seen of published updates is the beginning of what it has still to see
  pub unseen-part : (c : ClientView) (from : ℕ) (us : List Update) → IsPart a from us → from ≤ c.version → c.version ≤ update_count a →
      (rest : List Update) × (drop c.version a.updates ≡ unseen c from us ++ rest)
  unseen-part c from us p o w =
      let n : from + length us - from ≡ length us = omega arith in
      let v : from + (c.version - from) ≡ c.version = omega arith in
      let e : unseen c from us ≡ take (length us - (c.version - from)) (drop c.version a.updates) =
      ap (drop (c.version - from)) (p.same ∙ ap (λ m. take m (drop from a.updates)) n) ∙
      (skip (c.version - from) (length us) (drop from a.updates) ∙
      (ap (take (length us - (c.version - from))) (drop-drop (c.version - from) from a.updates ∙ ap (λ m. drop m a.updates) v))) in (
        drop (length us - (c.version - from)) (drop c.version a.updates),
        sym (take-append-drop (length us - (c.version - from)) (drop c.version a.updates)) ∙
            ap (λ xs. xs ++ drop (length us - (c.version - from)) (drop c.version a.updates)) (sym e),
      )

confirms-left : (us vs : List Update) (c : ClientView) → Confirms c (us ++ vs) → Confirms c us
confirms-left [] vs c h = tt
confirms-left (u ∷ us) vs c h = (h.0, confirms-left us vs (taken c u) h.1)

confirms-append : (us vs : List Update) (c : ClientView) → Confirms c us → Confirms (all_taken c us) vs → Confirms c (us ++ vs)
confirms-append [] vs c h k = k
confirms-append (u ∷ us) vs c h k = (h.0, confirms-append us vs (taken c u) h.1 k)

taken-name : (us : List Update) (c : ClientView) → (all_taken c us).name ≡ c.name
taken-name [] c = refl
taken-name (u ∷ us) c = taken-name us (taken c u)

taken-version : (us : List Update) (c : ClientView) → (all_taken c us).version ≡ c.version + length us
taken-version [] c = omega arith
taken-version (u ∷ us) c = omega (arith, taken-version us (taken c u))

pub received-name : (c : ClientView) (from : ℕ) (us : List Update) → (received c from us).name ≡ c.name
received-name c from us = taken-name (unseen c from us) c

-- updates that are still to come in a client's name are at most its unconfirmed ones
confirms-count : (us : List Update) (c : ClientView) → Confirms c us → length (numbers_of c.name us) ≤ length c.pending
confirms-count [] c h = omega arith
confirms-count (u ∷ us) c h = by (bytes_eq c.name u.client) refl (confirms-count us (taken c u) h.1)
  where
    by : (b : Bool) → bytes_eq c.name u.client ≡ b → length (numbers_of c.name us) ≤ length (pending_after c u) →
        length (cond b (u.number ∷ numbers_of c.name us) (numbers_of c.name us)) ≤ length c.pending
    by true e k =
        let p : IsFirst u c.pending = h.0 (same_name c.name u.client e) in
        omega (arith, k, ap length (own_pending c u e ∙ ap (drop 1) p.1), ap length p.1)
    by false e k = omega (arith, k, ap length (other_pending c u e), mapped-length c.pending u.changes)

-- the authority has at most as many updates of a client as that made local changes
pub keeps-count : (a : AuthorityView) (c : ClientView) → KeepsTo a c → length (numbers_of c.name a.updates) ≤ c.made
keeps-count a c h =
    let before : List Update = take c.version a.updates in
    let rest : List Update = drop c.version a.updates in
    let all : length (numbers_of c.name (before ++ rest)) ≡ length (numbers_of c.name a.updates) =
    ap (λ us. length (numbers_of c.name us)) (take-append-drop c.version a.updates) in
    omega (
      arith,
      h.count,
      confirms-count rest c h.confirms,
      all,
      ap length (numbers_of-append c.name before rest),
      length-append (numbers_of c.name before) (numbers_of c.name rest),
    )

-- what is asked of a call of `receive` holds
pub can-receive : (a : AuthorityView) (c : ClientView) (from : ℕ) (us : List Update) → IsAuthority a → KeepsTo a c → IsPart a from us → from ≤ c.version →
    CanReceive c (unseen c from us)
can-receive a c from us is h p o =
    let s : (rest : List Update) × (drop c.version a.updates ≡ unseen c from us ++ rest) = unseen-part a is c from us p o h.seen in
    record {
      leads = leads-left (unseen c from us) s.0 (length c.confirmed) (next-starts a is c (unseen c from us ++ s.0) h s.1);
      confirms = confirms-left (unseen c from us) s.0 c (subst (Confirms c) s.1 h.confirms);
      few = omega (arith, length-append (unseen c from us) s.0, ap length s.1, length-drop c.version a.updates, is.few, h.seen);
    }

pub keeps-received : (a : AuthorityView) (c : ClientView) (from : ℕ) (us : List Update) → IsAuthority a → KeepsTo a c → IsPart a from us → from ≤ c.version →
    taking_refusal c (unseen c from us) ≡ None → KeepsTo a (received c from us)
keeps-received a c from us is h p o k =
    let s : (rest : List Update) × (drop c.version a.updates ≡ unseen c from us ++ rest) = unseen-part a is c from us p o h.seen in
    keeps-all-taken a is (unseen c from us) c s.0 h s.1 k

-- a client with more unconfirmed updates confirms as much
confirms-more : (us : List Update) (c d : ClientView) (more : List Update) → d.name ≡ c.name → d.pending ≡ c.pending ++ more → Confirms c us → Confirms d us
confirms-more [] c d more n e h = tt
confirms-more (u ∷ us) c d more n e h =
    let p : (next : List Update) × (pending_after d u ≡ pending_after c u ++ next) = after in
    (λ f. (let q : IsFirst u c.pending = h.0 (sym n ∙ f) in (q.0 ++ more, e ∙ ap (λ xs. xs ++ more) q.1)), confirms-more us (taken c u) (taken d u) p.0 n p.1 h.1)
  where
    after : (next : List Update) × (pending_after d u ≡ pending_after c u ++ next)
    after = by (bytes_eq c.name u.client) refl
      where
        by : (b : Bool) → bytes_eq c.name u.client ≡ b → (next : List Update) × (pending_after d u ≡ pending_after c u ++ next)
        by true f =
            let q : IsFirst u c.pending = h.0 (same_name c.name u.client f) in (
              more,
              own_pending d u (ap (λ x. bytes_eq x u.client) n ∙ f) ∙
                  (ap (drop 1) (e ∙ ap (λ xs. xs ++ more) q.1) ∙ sym (ap (λ xs. xs ++ more) (own_pending c u f ∙ ap (drop 1) q.1))),
            )
        by false f = (
          (crossed (crossed u.changes c.pending).taken more).updates,
          other_pending d u (ap (λ x. bytes_eq x u.client) n ∙ f) ∙
              (ap (λ us. (crossed u.changes us).updates) e ∙ (mapped-append c.pending more u.changes ∙ sym (ap (λ xs. xs ++ (crossed (crossed u.changes c.pending).taken more).updates) (other_pending c u f)))),
        )

-- a local change
pub keeps-local : (a : AuthorityView) (c : ClientView) (s : Sections) → KeepsTo a c → old_size s ≡ length (document c) → new_size spelled s ≤ max_len →
    KeepsTo a (with_local c s)
keeps-local a c s h o k =
    record {
      client = local-client c s h.client o k;
      seen = h.seen;
      confirmed = h.confirmed;
      count = omega (arith, length-append c.pending (local_update c s ∷ []), h.count);
      confirms = confirms-more (drop c.version a.updates) c (with_local c s) (local_update c s ∷ []) refl refl h.confirms;
    }

-- updates of another client confirm nothing
confirms-other : (us : List Update) (c : ClientView) (name : List ℕ) → AllBear name us → c.name ≢ name → Confirms c us
confirms-other [] c name h k = tt
confirms-other (u ∷ us) c name h k = (λ e. absurd (k (e ∙ h.0)), confirms-other us (taken c u) name h.1 k)

-- its own first ones confirm
confirms-own : (us : List Update) (c : ClientView) (more : List Update) → AllBear c.name us → c.pending ≡ us ++ more → Confirms c us
confirms-own [] c more h e = tt
confirms-own (u ∷ us) c more h e =
    (λ f. (us ++ more, e), confirms-own us (taken c u) more h.1 (own_pending c u (name_test c.name u.client (sym h.0)) ∙ ap (drop 1) e))

-- the authority takes updates
pub keeps-pushed : (a : AuthorityView) (c : ClientView) (us : List Update) → KeepsTo a c → Confirms (all_taken c (drop c.version a.updates)) us → KeepsTo (pushed a us) c
keeps-pushed a c us h k =
    record {
      client = h.client;
      seen = omega (arith, length-append a.updates us, h.seen);
      confirmed = h.confirmed ∙ sym (ap (λ xs. applied xs a.start) (take-append-le c.version a.updates us h.seen));
      count = ap (λ xs. length (numbers_of c.name xs) + length c.pending) (take-append-le c.version a.updates us h.seen) ∙ h.count;
      confirms =
          subst (Confirms c) (sym (drop-append-le c.version a.updates us h.seen))
          (confirms-append (drop c.version a.updates) us c h.confirms k);
    }

pub keeps-others : (a : AuthorityView) (c : ClientView) (name : List ℕ) (us : List Update) → KeepsTo a c → AllBear name us → c.name ≢ name → KeepsTo (pushed a us) c
keeps-others a c name us h b k =
    keeps-pushed a c us h
    (confirms-other us (all_taken c (drop c.version a.updates)) name b (λ e. k (sym (taken-name (drop c.version a.updates) c) ∙ e)))

-- a client whose push is over the authority's version stands at that version
sender-at : (a : AuthorityView) (c : ClientView) (v : ℕ) (us : List Update) → KeepsTo a c → Sent c v us → v ≡ update_count a → c.version ≡ v
sender-at a c v us h s e = omega (arith, h.seen, s.version)

pub keeps-own : (a : AuthorityView) (c : ClientView) (v : ℕ) (us : List Update) → KeepsTo a c → Sent c v us → v ≡ update_count a → KeepsTo (pushed a us) c
keeps-own a c v us h s e =
    let at : c.version ≡ v = sender-at a c v us h s e in
    let m : (more : List Update) × (c.pending ≡ us ++ more) = s.same at in
    let none : drop c.version a.updates ≡ [] = ap (λ n. drop n a.updates) (at ∙ e) ∙ drop-length a.updates in
    keeps-pushed a c us h
    (subst (λ xs. Confirms (all_taken c xs) us) (sym none)
    (confirms-own us c m.0 (bear-left c.name us m.0 (subst (AllBear c.name) m.1 h.client.bear)) m.1))

-- what is asked of a call of `push` holds
pub can-take : (a : AuthorityView) (c : ClientView) (v : ℕ) (us : List Update) → KeepsTo a c → Sent c v us → v ≡ update_count a → CanTake a c.name us
can-take a c v us h s e =
    let at : c.version ≡ v = sender-at a c v us h s e in
    let m : (more : List Update) × (c.pending ≡ us ++ more) = s.same at in
    let all : take c.version a.updates ≡ a.updates = take_all c.version a.updates (omega arith) in
    let text : c.confirmed ≡ latest a = h.confirmed ∙ ap (λ xs. applied xs a.start) all in
    let first : h.client.first ≡ length (numbers_of c.name a.updates) = omega (arith, h.client.count, h.count, ap (λ xs. length (numbers_of c.name xs)) all) in
    record {
      leads = subst (λ t. LeadOn (length t) us) text (leads-left us m.0 (length c.confirmed) (subst (LeadOn (length c.confirmed)) m.1 h.client.leads));
      bear = bear-left c.name us m.0 (subst (AllBear c.name) m.1 h.client.bear);
      numbers =
          subst (λ n. CountOn n (numbers us)) first
          (count-left h.client.first (numbers us) (numbers m.0) (subst (CountOn h.client.first) (numbers-append us m.0) (subst (λ ps. CountOn h.client.first (numbers ps)) m.1 h.client.numbers)));
    }

-- what was sent stays sent
pub sent-local : (c : ClientView) (s : Sections) (v : ℕ) (us : List Update) → Sent c v us → Sent (with_local c s) v us
sent-local c s v us h =
    record {
      version = h.version;
      same = λ e. (let m : (more : List Update) × (c.pending ≡ us ++ more) = h.same e in
          (m.0 ++ local_update c s ∷ [], ap (λ xs. xs ++ local_update c s ∷ []) m.1 ∙ append_assoc us m.0 (local_update c s ∷ [])));
    }

pub sent-received : (c : ClientView) (from : ℕ) (ws : List Update) (v : ℕ) (us : List Update) → Sent c v us → Sent (received c from ws) v us
sent-received c from ws v us h = on (unseen c from ws)
  where
    on : (xs : List Update) → Sent (all_taken c xs) v us
    on [] = h
    on (x ∷ xs) = record { version = omega (arith, taken-version (x ∷ xs) c, h.version); same = λ e. absurd (omega (arith, taken-version (x ∷ xs) c, h.version)) }

pub sent-now : (c : ClientView) → Sent c c.version c.pending
sent-now c = record { version = omega arith; same = λ e. ([], sym (append-nil c.pending)) }

-- a client joins
pub keeps-joined : (name text : List ℕ) → length text ≤ max_len → KeepsTo (record { start = text; updates = [] }) (joined name text)
keeps-joined name text h = record { client = joined-client name text h; seen = omega arith; confirmed = refl; count = omega arith; confirms = tt }

-- what is published is a part, and stays one
pub part-published : (a : AuthorityView) (from to : ℕ) → from ≤ to → to ≤ update_count a → IsPart a from (slice_of from to a.updates)
part-published a from to o w =
    let n : length (slice_of from to a.updates) ≡ to - from = length-take-le (to - from) (drop from a.updates) (omega (arith, length-drop from a.updates)) in
    let e : from + length (slice_of from to a.updates) ≡ to = omega (arith, n) in
    record { within = omega (arith, n); same = ap (λ m. slice_of from m a.updates) (sym e) }

pub part-pushed : (a : AuthorityView) (us : List Update) (from : ℕ) (xs : List Update) → IsPart a from xs → IsPart (pushed a us) from xs
part-pushed a us from xs p =
    let o : from ≤ length a.updates = omega (arith, p.within) in
    let m : from + length xs - from ≤ length (drop from a.updates) = omega (arith, length-drop from a.updates, p.within) in
    record {
      within = omega (arith, length-append a.updates us, p.within);
      same = p.same ∙ sym (ap (take (from + length xs - from)) (drop-append-le from a.updates us o) ∙ take-append-le (from + length xs - from) (drop from a.updates) us m);
    }
