-- A client after one of the authority's updates.
use Rattle.std.proofs.Common.{◌≡◌, ℕ, suc, ◌+◌, ◌≤◌, Bool, true, false, cond, List, [], ◌∷◌, ◌++◌, length, drop, None, bytes_eq, refl, sym, ap, subst, ◌∙◌, arith, length-append}
use Rattle.std.specs.Option.{option_or}
use Rattle.line_tree.specs.Text.{max_len}
use Rattle.change_desc.specs.Sections.{Sections, spelled, apply, old_size, new_size}
use Rattle.change_set.proofs.Sizes.{length-apply}
use Rattle.collab.specs.declared.update.Update.{Update}
use Rattle.collab.specs.Updates.{applied, LeadOn, AllBear, CountOn}
use Rattle.collab.specs.Lengths.{lengths_after, lengths_with, too_long}
use Rattle.collab.specs.Clients.{CanReceive, ClientView, IsClient, IsFirst, client_lengths, crossed, document, joined, local_update, pending_after, taken, taking_refusal, with_local}
use Rattle.collab.specs.Views.{at_version}
use Rattle.collab.proofs.Names.{same_name, numbers, numbers-append, numbers-length, bear-append, count-append}
use Rattle.collab.proofs.Texts.{sizes, applied-append, leads-append, lengths-append, lengths-sizes, none-append, rest-within, within}
use Rattle.collab.proofs.Crossings.{crossed-leads, mapped-bear, mapped-length, mapped-numbers}

-- the client with an update of the authority applied to its confirmed text, and these updates unconfirmed
abbrev pub with_pending : ClientView → Update → List Update → ClientView
with_pending c u us =
    record { name = c.name; version = suc c.version; made = c.made; confirmed = apply u.changes c.confirmed; pending = us }

pub own_pending : (c : ClientView) (u : Update) → bytes_eq c.name u.client ≡ true → pending_after c u ≡ drop 1 c.pending
own_pending c u e = ap (λ b. cond b (drop 1 c.pending) (crossed u.changes c.pending).updates) e

pub other_pending : (c : ClientView) (u : Update) → bytes_eq c.name u.client ≡ false → pending_after c u ≡ (crossed u.changes c.pending).updates
other_pending c u e = ap (λ b. cond b (drop 1 c.pending) (crossed u.changes c.pending).updates) e

-- the first unconfirmed update is confirmed
pub confirmed-client : (c : ClientView) (u : Update) (rest : List Update) → c.pending ≡ u ∷ rest → IsClient c → IsClient (with_pending c u rest)
confirmed-client c u rest e h =
    let leads : LeadOn (length c.confirmed) (u ∷ rest) = subst (LeadOn (length c.confirmed)) e h.leads in
    let short : too_long (lengths_with c.confirmed (u ∷ rest)) ≡ None = subst (λ us. too_long (lengths_with c.confirmed us) ≡ None) e h.short in
    let bear : AllBear c.name (u ∷ rest) = subst (AllBear c.name) e h.bear in
    let counts : CountOn h.first (numbers (u ∷ rest)) = subst (λ us. CountOn h.first (numbers us)) e h.numbers in
    let size : h.first + length (u ∷ rest) ≡ c.made = subst (λ us. h.first + length us ≡ c.made) e h.count in
    record {
      leads = subst (λ n. LeadOn n rest) (sym (length-apply u.changes c.confirmed leads.0)) leads.1;
      short = rest-within (length c.confirmed) (lengths_with (apply u.changes c.confirmed) rest) short;
      bear = bear.1;
      first = suc h.first;
      count = omega (arith, size);
      numbers = counts.1;
    }

-- all unconfirmed updates are mapped over it
pub crossed-client : (c : ClientView) (u : Update) → old_size u.changes ≡ length c.confirmed → IsClient c →
    too_long (client_lengths (with_pending c u (crossed u.changes c.pending).updates)) ≡ None → IsClient (with_pending c u (crossed u.changes c.pending).updates)
crossed-client c u s h k =
    record {
      leads =
          subst (λ n. LeadOn n (crossed u.changes c.pending).updates) (sym (length-apply u.changes c.confirmed s))
          (crossed-leads c.pending u.changes (subst (λ n. LeadOn n c.pending) (sym s) h.leads));
      short = k;
      bear = mapped-bear c.name c.pending u.changes h.bear;
      first = h.first;
      count = ap (λ n. h.first + n) (mapped-length c.pending u.changes) ∙ h.count;
      numbers = subst (CountOn h.first) (sym (mapped-numbers c.pending u.changes)) h.numbers;
    }

-- two clients with equal parts
pub same_client : (c : ClientView) (v w : ℕ) (s t : List ℕ) (us vs : List Update) → v ≡ w → s ≡ t → us ≡ vs → at_version c v s us ≡ at_version c w t vs
same_client c v w s t us vs e f g =
    ap (λ x. at_version c x s us) e ∙ (ap (λ x. at_version c w x us) f ∙ ap (at_version c w t) g)

-- what `confirming` and `over` make is a client
pub confirmed_is : (c : ClientView) (u : Update) (v : ℕ) (s : List ℕ) (us : List Update) → IsClient c → IsFirst u c.pending →
    v ≡ suc c.version → s ≡ apply u.changes c.confirmed → us ≡ drop 1 c.pending → IsClient (at_version c v s us)
confirmed_is c u v s us h p e f g =
    subst IsClient (sym (same_client c v (suc c.version) s (apply u.changes c.confirmed) us p.0 e f (g ∙ ap (drop 1) p.1))) (confirmed-client c u p.0 p.1 h)

pub crossed_is : (c : ClientView) (u : Update) (v : ℕ) (s : List ℕ) (us : List Update) → IsClient c → bytes_eq c.name u.client ≡ false →
    old_size u.changes ≡ length c.confirmed → too_long (client_lengths (taken c u)) ≡ None →
    v ≡ suc c.version → s ≡ apply u.changes c.confirmed → us ≡ (crossed u.changes c.pending).updates → IsClient (at_version c v s us)
crossed_is c u v s us h o d k e f g =
    subst IsClient (sym (same_client c v (suc c.version) s (apply u.changes c.confirmed) us (crossed u.changes c.pending).updates e f g))
    (crossed-client c u d h (subst (λ ps. too_long (client_lengths (with_pending c u ps)) ≡ None) (other_pending c u o) k))

-- a client that took an update is one
pub taken-client : (c : ClientView) (u : Update) → IsClient c → old_size u.changes ≡ length c.confirmed → (c.name ≡ u.client → IsFirst u c.pending) →
    too_long (client_lengths (taken c u)) ≡ None → IsClient (taken c u)
taken-client c u h s f k = cases (bytes_eq c.name u.client) refl k
  where
    cases : (b : Bool) → bytes_eq c.name u.client ≡ b → too_long (client_lengths (with_pending c u (cond b (drop 1 c.pending) (crossed u.changes c.pending).updates))) ≡ None →
        IsClient (with_pending c u (cond b (drop 1 c.pending) (crossed u.changes c.pending).updates))
    cases true e m =
        let p : IsFirst u c.pending = f (same_name c.name u.client e) in
        subst (λ us. IsClient (with_pending c u us)) (sym (ap (drop 1) p.1)) (confirmed-client c u p.0 p.1 h)
    cases false e m = crossed-client c u s h m

-- a confirmed update leaves no text too long
pub confirmed-short : (c : ClientView) (u : Update) → IsClient c → bytes_eq c.name u.client ≡ true → IsFirst u c.pending → too_long (client_lengths (taken c u)) ≡ None
confirmed-short c u h e p =
    subst (λ us. too_long (client_lengths (with_pending c u us)) ≡ None) (sym (own_pending c u e ∙ ap (drop 1) p.1)) (confirmed-client c u p.0 p.1 h).short

-- a confirmed update leaves the text as it is
pub confirmed-text : (c : ClientView) (u : Update) → IsFirst u c.pending → document c ≡ applied (drop 1 c.pending) (apply u.changes c.confirmed)
confirmed-text c u p = ap (λ us. applied us c.confirmed) p.1 ∙ sym (ap (λ us. applied (drop 1 us) (apply u.changes c.confirmed)) p.1)

-- a local change
pub local-client : (c : ClientView) (s : Sections) → IsClient c → old_size s ≡ length (document c) → new_size spelled s ≤ max_len → IsClient (with_local c s)
local-client c s h o k =
    let u : Update = local_update c s in
    let n : length (apply s (document c)) ≤ max_len = subst (λ m. m ≤ max_len) (sym (length-apply s (document c) o)) k in
    record {
      leads = leads-append c.pending (u ∷ []) c.confirmed h.leads (o, tt);
      short =
          subst (λ ns. too_long (length c.confirmed ∷ ns) ≡ None) (sym (lengths-append c.pending (u ∷ []) c.confirmed))
          (none-append (lengths_with c.confirmed c.pending) (lengths_after (document c) (u ∷ [])) h.short (within (length (apply s (document c))) [] n));
      bear = bear-append c.name c.pending (u ∷ []) h.bear (refl, tt);
      first = h.first;
      count = omega (arith, length-append c.pending (u ∷ []), h.count);
      numbers =
          subst (CountOn h.first) (sym (numbers-append c.pending (u ∷ [])))
          (count-append h.first (numbers c.pending) (c.made ∷ []) h.numbers (sym h.count ∙ ap (λ m. h.first + m) (sym (numbers-length c.pending)), tt));
    }

pub local-text : (c : ClientView) (s : Sections) → document (with_local c s) ≡ apply s (document c)
local-text c s = applied-append c.pending (local_update c s ∷ []) c.confirmed

-- the same client after a local change, as `make` makes it
pub made_is : (c : ClientView) (s : Sections) (m : ℕ) (us : List Update) → IsClient c → old_size s ≡ length (document c) → new_size spelled s ≤ max_len →
    m ≡ suc c.made → us ≡ c.pending ++ local_update c s ∷ [] →
    IsClient (record { name = c.name; version = c.version; made = m; confirmed = c.confirmed; pending = us })
made_is c s m us h o k e f =
    subst (λ (n : ℕ). IsClient (record { name = c.name; version = c.version; made = n; confirmed = c.confirmed; pending = us })) (sym e)
    (subst (λ (ps : List Update). IsClient (record { name = c.name; version = c.version; made = suc c.made; confirmed = c.confirmed; pending = ps })) (sym f) (local-client c s h o k))

-- updates that can be taken: the first one, and then the others
pub can-next : (c : ClientView) (u : Update) (us : List Update) → CanReceive c (u ∷ us) → CanReceive (taken c u) us
can-next c u us h =
    record {
      leads = subst (λ n. LeadOn n us) (sym (length-apply u.changes c.confirmed h.leads.0)) h.leads.1;
      confirms = h.confirms.1;
      few = omega (arith, h.few);
    }

pub refusal-next : (c : ClientView) (u : Update) (us : List Update) → too_long (client_lengths (taken c u)) ≡ None → taking_refusal c (u ∷ us) ≡ taking_refusal (taken c u) us
refusal-next c u us h = ap (λ o. option_or o (taking_refusal (taken c u) us)) h

-- the lengths after an update of another, by the lengths of the sets
pub crossed-lengths : (c : ClientView) (u : Update) → bytes_eq c.name u.client ≡ false → old_size u.changes ≡ length c.confirmed → IsClient c →
    client_lengths (taken c u) ≡ new_size spelled u.changes ∷ sizes (crossed u.changes c.pending).updates
crossed-lengths c u o d h =
    let e : length (apply u.changes c.confirmed) ≡ new_size spelled u.changes = length-apply u.changes c.confirmed d in
    let leads : LeadOn (length (apply u.changes c.confirmed)) (crossed u.changes c.pending).updates =
    subst (λ n. LeadOn n (crossed u.changes c.pending).updates) (sym e) (crossed-leads c.pending u.changes (subst (λ n. LeadOn n c.pending) (sym d) h.leads)) in
    ap (λ ps. client_lengths (with_pending c u ps)) (other_pending c u o) ∙
    (ap (λ n. n ∷ lengths_after (apply u.changes c.confirmed) (crossed u.changes c.pending).updates) e ∙
    ap (λ ns. new_size spelled u.changes ∷ ns) (lengths-sizes (crossed u.changes c.pending).updates (apply u.changes c.confirmed) leads))

-- a client without updates
pub joined-client : (name text : List ℕ) → length text ≤ max_len → IsClient (joined name text)
joined-client name text h =
    record { leads = tt; short = within (length text) [] h; bear = tt; first = 0; count = omega arith; numbers = tt }
