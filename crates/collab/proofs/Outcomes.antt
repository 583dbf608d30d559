-- What each world keeps, whether an event is refused or not, and what is answered of it.
use Rattle.std.proofs.Common.{◌≡◌, ℕ, zero, suc, ◌+◌, ◌≤◌, ◌<◌, ◌^◌, Bool, true, false, cond, ltb, eqb, List, [], ◌∷◌, length, Option, Some, None, Result, Ok, Err, OnOk, OnErr, slice_get, slice_set, slice_index_or, option_and_then, refl, sym, ap, subst, ◌∙◌}
use Rattle.std.specs.Bool.{⊤}
use Rattle.std.proofs.lemmas.Bool.{eqb-true, ltb-false}
use Rattle.std.proofs.lemmas.Option.{slice_get_read}
use Rattle.change_set.specs.declared.change.Change.{Change}
use Rattle.collab.specs.declared.error.CollabError.{CollabError}
use Rattle.collab.specs.declared.error.CollabError.TheVariants.{Ahead, Stale}
use Rattle.collab.specs.declared.message.Message.TheVariants.{Push, Updates}
use Rattle.collab.specs.declared.update.Update.{Update}
use Rattle.collab.specs.Lengths.{lengths_after, too_long}
use Rattle.collab.specs.Authorities.{AuthorityView, CanTake, latest, push_refusal, pushed, update_count}
use Rattle.collab.specs.Clients.{CanReceive, ClientView, IsLocal, receive_refusal, received, taking_refusal, unseen}
use Rattle.collab.specs.Worlds.{WorldView, changed_at, with_authority, with_clients}
use Rattle.collab.specs.Stepping.{after_local, delivered, delivery_refusal, local_set, received_by, receiving_refusal}
use Rattle.collab.specs.Invariants.{HasSender, IsPart, IsWorld}
use Rattle.collab.proofs.Keeping.{can-receive, can-take, received-name}
use Rattle.collab.proofs.Worlds.{client-kept, follows-local, follows-received, push-kept}

-- an item that was read, and a list in which it was changed
pub read_item : {A : Type 0} (xs : List A) (i : ℕ) (x : A) → i < length xs → x ≡ slice_index_or xs i x → slice_get xs i ≡ Some x
read_item xs i x h e = slice_get_read xs (length xs) i x refl h e

pub set-changed : {A : Type 0} (f : A → A) (xs : List A) (i : ℕ) (x y : A) → slice_get xs i ≡ Some x → y ≡ f x → slice_set xs i y ≡ changed_at i f xs
set-changed f [] i x y h e = cc
set-changed f (z ∷ xs) zero x y h e = let s : z ≡ x = cc in ap (λ w. w ∷ xs) (e ∙ ap f (sym s))
set-changed f (z ∷ xs) (suc i) x y h e = ap (λ ws. z ∷ ws) (set-changed f xs i x y h e)

-- a push that was taken
taken_push : (a : AuthorityView) (v : ℕ) (us : List Update) → push_refusal a v us ≡ None → (v ≡ update_count a) × (too_long (lengths_after (latest a) us) ≡ None)
taken_push a v us h = cases (eqb v (update_count a)) refl h
  where
    cases : (b : Bool) → eqb v (update_count a) ≡ b → cond b (too_long (lengths_after (latest a) us)) (Some (Stale (update_count a))) ≡ None →
        (v ≡ update_count a) × (too_long (lengths_after (latest a) us) ≡ None)
    cases true e f = (eqb-true v (update_count a) e, f)
    cases false e f = cc

pub push-outcome : (w : WorldView) (name : List ℕ) (v : ℕ) (us : List Update) → IsWorld w → HasSender w.clients name v us → (v ≡ update_count w.authority → v + length us < 2 ^ 32) →
    (r : Result ⊤ CollabError) (b : AuthorityView) → OnOk r (b ≡ pushed w.authority us) → OnOk r (push_refusal w.authority v us ≡ None) → OnErr r (b ≡ w.authority) →
    IsWorld (with_authority b w)
push-outcome w name v us h s f (Ok x) b o p q =
    let t : (v ≡ update_count w.authority) × (too_long (lengths_after (latest w.authority) us) ≡ None) = taken_push w.authority v us p in
    subst (λ y. IsWorld (with_authority y w)) (sym o) (push-kept w name v us h s t.0 t.1 (f t.0))
push-outcome w name v us h s f (Err x) b o p q = subst (λ y. IsWorld (with_authority y w)) (sym q) h

pub push-can : (w : WorldView) (name : List ℕ) (v : ℕ) (us : List Update) → IsWorld w → HasSender w.clients name v us → v ≡ update_count w.authority → CanTake w.authority name us
push-can w name v us h s e = subst (λ n. CanTake w.authority n us) s.name (can-take w.authority s.client v us (h.clients s.place s.client s.at) s.sent e)

-- updates that were received
taken_updates : (c : ClientView) (from : ℕ) (us : List Update) → receive_refusal c from us ≡ None → (from ≤ c.version) × (taking_refusal c (unseen c from us) ≡ None)
taken_updates c from us h = cases (ltb c.version from) refl h
  where
    cases : (b : Bool) → ltb c.version from ≡ b → cond b (Some (Ahead from c.version)) (taking_refusal c (unseen c from us)) ≡ None →
        (from ≤ c.version) × (taking_refusal c (unseen c from us) ≡ None)
    cases true e f = cc
    cases false e f = (ltb-false c.version from e, f)

received-world : (w : WorldView) (to : Option ℕ) (from : ℕ) (us : List Update) → IsWorld w → IsPart w.authority from us →
    receiving_refusal to from us w.clients ≡ None → IsWorld (with_clients (received_by to from us w.clients) w)
received-world w None from us h p k = h
received-world w (Some i) from us h p k =
    client-kept w i (λ c. received c from us) h (λ c. received-name c from us)
    (λ c e. (let t : (from ≤ c.version) × (taking_refusal c (unseen c from us) ≡ None) = taken_updates c from us (sym (ap (option_and_then (λ x. receive_refusal x from us)) e) ∙ k) in
    follows-received w.authority c from us h.authority p t.0 t.1))

pub updates-outcome : (w : WorldView) (to : Option ℕ) (from : ℕ) (us : List Update) → IsWorld w → IsPart w.authority from us →
    (r : Result ⊤ CollabError) (cs : List ClientView) → OnOk r (cs ≡ received_by to from us w.clients) → OnOk r (receiving_refusal to from us w.clients ≡ None) → OnErr r (cs ≡ w.clients) →
    IsWorld (with_clients cs w)
updates-outcome w to from us h p (Ok x) cs o k q = subst (λ y. IsWorld (with_clients y w)) (sym o) (received-world w to from us h p k)
updates-outcome w to from us h p (Err x) cs o k q = subst (λ y. IsWorld (with_clients y w)) (sym q) h

pub updates-can : (w : WorldView) (from : ℕ) (us : List Update) → IsWorld w → IsPart w.authority from us →
    (i : ℕ) (c : ClientView) → slice_get w.clients i ≡ Some c → from ≤ c.version → CanReceive c (unseen c from us)
updates-can w from us h p i c e o = can-receive w.authority c from us h.authority (h.clients i c e) p o

-- a local change
pub local-outcome : (w : WorldView) (i : ℕ) (changes : List Change) → IsWorld w →
    (r : Result ⊤ CollabError) (cs : List ClientView) → OnOk r (cs ≡ changed_at i (after_local changes) w.clients) →
    OnOk r ((c : ClientView) → slice_get w.clients i ≡ Some c → IsLocal c (local_set changes c)) → OnErr r (cs ≡ w.clients) → IsWorld (with_clients cs w)
local-outcome w i changes h (Ok x) cs o f q =
    subst (λ y. IsWorld (with_clients y w)) (sym o)
    (client-kept w i (after_local changes) h (λ c. refl) (λ c e. follows-local w.authority c (local_set changes c) (f c e)))
local-outcome w i changes h (Err x) cs o f q = subst (λ y. IsWorld (with_clients y w)) (sym q) h

-- what a delivery is, of a message that was read
pub push-delivered : (w now : WorldView) (i : ℕ) (to : Option ℕ) (name : List ℕ) (v : ℕ) (us : List Update) (b : AuthorityView) → w ≡ now →
    slice_get w.messages i ≡ Some (Push name v us) → b ≡ pushed w.authority us → with_authority b w ≡ delivered (slice_get now.messages i) to now
push-delivered w now i to name v us b e m p =
    ap (λ y. with_authority y w) p ∙ (sym (ap (λ o. delivered o to w) m) ∙ ap (λ x. delivered (slice_get x.messages i) to x) e)

pub push-refused : (w now : WorldView) (i : ℕ) (to : Option ℕ) (name : List ℕ) (v : ℕ) (us : List Update) → w ≡ now →
    slice_get w.messages i ≡ Some (Push name v us) → delivery_refusal (slice_get now.messages i) to now ≡ push_refusal w.authority v us
push-refused w now i to name v us e m = sym (ap (λ x. delivery_refusal (slice_get x.messages i) to x) e) ∙ ap (λ o. delivery_refusal o to w) m

pub updates-delivered : (w now : WorldView) (i : ℕ) (to : Option ℕ) (from : ℕ) (us : List Update) (cs : List ClientView) → w ≡ now →
    slice_get w.messages i ≡ Some (Updates from us) → cs ≡ received_by to from us w.clients → with_clients cs w ≡ delivered (slice_get now.messages i) to now
updates-delivered w now i to from us cs e m p =
    ap (λ y. with_clients y w) p ∙ (sym (ap (λ o. delivered o to w) m) ∙ ap (λ x. delivered (slice_get x.messages i) to x) e)

pub updates-refused : (w now : WorldView) (i : ℕ) (to : Option ℕ) (from : ℕ) (us : List Update) → w ≡ now →
    slice_get w.messages i ≡ Some (Updates from us) → delivery_refusal (slice_get now.messages i) to now ≡ receiving_refusal to from us w.clients
updates-refused w now i to from us e m = sym (ap (λ x. delivery_refusal (slice_get x.messages i) to x) e) ∙ ap (λ o. delivery_refusal o to w) m
