-- What each world keeps, through each event.
use Rattle.std.proofs.Common.{◌≡◌, ℕ, zero, suc, ◌+◌, ◌≤◌, ◌<◌, ◌^◌, Bool, true, false, List, [], ◌∷◌, ◌++◌, length, map, Some, None, slice_get, bytes_eq, refl, sym, ap, subst, ◌∙◌, arith, length-append}
use Rattle.line_tree.specs.Text.{max_len}
use Rattle.change_desc.specs.Sections.{Sections}
use Rattle.collab.specs.declared.message.Message.{Message}
use Rattle.collab.specs.declared.message.Message.TheVariants.{Push, Updates}
use Rattle.collab.specs.declared.update.Update.{Update}
use Rattle.collab.specs.Updates.{applied, AllBear}
use Rattle.collab.specs.Lengths.{lengths_after, too_long}
use Rattle.collab.specs.Authorities.{AuthorityView, CanTake, IsAuthority, latest, opened, pushed, text_at, update_count}
use Rattle.collab.specs.Clients.{ClientView, IsLocal, joined, received, taking_refusal, unseen, with_local}
use Rattle.collab.specs.Worlds.{AreDistinct, ComeFrom, IsClientName, WorldView, begun, changed_at, with_authority, with_clients, with_message}
use Rattle.collab.specs.Invariants.{HasSender, IsPart, IsWorld, KeepsTo, Sent, WasSent}
use Rattle.collab.specs.Converging.{Converges}
use Rattle.collab.specs.Stepping.{push_of, published}
use Rattle.collab.proofs.Names.{same_name, other_name}
use Rattle.collab.proofs.Texts.{pushed-authority, within}
use Rattle.collab.proofs.Keeping.{can-take, keeps-count, keeps-joined, keeps-local, keeps-others, keeps-own, keeps-received, part-published, part-pushed, received-name, sent-local, sent-now, sent-received}

-- a client that takes the place of another
pub record Follows (a : AuthorityView) (c d : ClientView) : Type 0 where
  pub keeps : KeepsTo a c → KeepsTo a d
  pub same : d.name ≡ c.name
  pub sent : (v : ℕ) (us : List Update) → Sent c v us → Sent d v us

itself : (a : AuthorityView) (c : ClientView) → Follows a c c
itself a c = record { keeps = λ h. h; same = refl; sent = λ v us h. h }

-- a client after a change of one of them, and the one before it
pub record Before (a : AuthorityView) (clients : List ClientView) (j : ℕ) (d : ClientView) : Type 0 where
  pub client : ClientView
  pub at : slice_get clients j ≡ Some client
  pub follows : Follows a client d

some-inj : (c d : ClientView) → Some c ≡ Some d → c ≡ d
some-inj c d h = cc

before : (a : AuthorityView) (i : ℕ) (f : ClientView → ClientView) (cs : List ClientView) (j : ℕ) (d : ClientView) →
    ((c : ClientView) → slice_get cs i ≡ Some c → Follows a c (f c)) → slice_get (changed_at i f cs) j ≡ Some d → Before a cs j d
before a i f [] j d r h = cc
before a zero f (x ∷ cs) zero d r h = record { client = x; at = refl; follows = subst (Follows a x) (some-inj (f x) d h) (r x refl) }
before a zero f (x ∷ cs) (suc j) d r h = record { client = d; at = h; follows = itself a d }
before a (suc i) f (x ∷ cs) zero d r h = record { client = x; at = refl; follows = subst (Follows a x) (some-inj x d h) (itself a x) }
before a (suc i) f (x ∷ cs) (suc j) d r h = let b : Before a cs j d = before a i f cs j d r h in record { client = b.client; at = b.at; follows = b.follows }

-- and the other way round
pub record After (a : AuthorityView) (clients : List ClientView) (j : ℕ) (c : ClientView) : Type 0 where
  pub client : ClientView
  pub at : slice_get clients j ≡ Some client
  pub follows : Follows a c client

after : (a : AuthorityView) (i : ℕ) (f : ClientView → ClientView) (cs : List ClientView) (j : ℕ) (c : ClientView) →
    ((c : ClientView) → slice_get cs i ≡ Some c → Follows a c (f c)) → slice_get cs j ≡ Some c → After a (changed_at i f cs) j c
after a i f [] j c r h = cc
after a zero f (x ∷ cs) zero c r h = record { client = f x; at = refl; follows = subst (λ y. Follows a y (f x)) (some-inj x c h) (r x refl) }
after a zero f (x ∷ cs) (suc j) c r h = record { client = c; at = h; follows = itself a c }
after a (suc i) f (x ∷ cs) zero c r h = record { client = x; at = refl; follows = subst (λ y. Follows a y x) (some-inj x c h) (itself a x) }
after a (suc i) f (x ∷ cs) (suc j) c r h = let b : After a (changed_at i f cs) j c = after a i f cs j c r h in record { client = b.client; at = b.at; follows = b.follows }

names-stay : (i : ℕ) (f : ClientView → ClientView) (cs : List ClientView) → ((c : ClientView) → (f c).name ≡ c.name) → map (λ (c : ClientView). c.name) (changed_at i f cs) ≡ map (λ (c : ClientView). c.name) cs
names-stay i f [] n = refl
names-stay zero f (x ∷ cs) n = ap (λ y. y ∷ map (λ (c : ClientView). c.name) cs) (n x)
names-stay (suc i) f (x ∷ cs) n = ap (λ ys. x.name ∷ ys) (names-stay i f cs n)

-- updates that bear names of clients
come-on : (cs ds : List ClientView) → ((name : List ℕ) → IsClientName cs name → IsClientName ds name) → (us : List Update) → ComeFrom cs us → ComeFrom ds us
come-on cs ds f [] h = tt
come-on cs ds f (u ∷ us) h = (f u.client h.0, come-on cs ds f us h.1)

come-append : (cs : List ClientView) (us vs : List Update) → ComeFrom cs us → ComeFrom cs vs → ComeFrom cs (us ++ vs)
come-append cs [] vs h k = k
come-append cs (u ∷ us) vs h k = (h.0, come-append cs us vs h.1 k)

come-bear : (cs : List ClientView) (name : List ℕ) (us : List Update) → IsClientName cs name → AllBear name us → ComeFrom cs us
come-bear cs name [] k h = tt
come-bear cs name (u ∷ us) k h = (subst (IsClientName cs) (sym h.0) k, come-bear cs name us k h.1)

-- a client changes
pub client-kept : (w : WorldView) (i : ℕ) (f : ClientView → ClientView) → IsWorld w → ((c : ClientView) → (f c).name ≡ c.name) →
    ((c : ClientView) → slice_get w.clients i ≡ Some c → Follows w.authority c (f c)) → IsWorld (with_clients (changed_at i f w.clients) w)
client-kept w i f h n r =
    record {
      authority = h.authority;
      clients = λ j d e. (let b : Before w.authority w.clients j d = before w.authority i f w.clients j d r e in b.follows.keeps (h.clients j b.client b.at));
      names = subst AreDistinct (sym (names-stay i f w.clients n)) h.names;
      senders = come-on w.clients (changed_at i f w.clients) named w.authority.updates h.senders;
      messages = λ j m e. (message m (h.messages j m e));
      few = h.few;
    }
  where
    named : (name : List ℕ) → IsClientName w.clients name → IsClientName (changed_at i f w.clients) name
    named name s =
        let b : After w.authority (changed_at i f w.clients) s.place s.client = after w.authority i f w.clients s.place s.client r s.at in
        record { place = s.place; client = b.client; at = b.at; same = b.follows.same ∙ s.same }

    message : (m : Message) → WasSent w m → WasSent (with_clients (changed_at i f w.clients) w) m
    message (Push name v us) s =
        let b : After w.authority (changed_at i f w.clients) s.place s.client = after w.authority i f w.clients s.place s.client r s.at in
        record { place = s.place; client = b.client; at = b.at; name = b.follows.same ∙ s.name; sent = b.follows.sent v us s.sent }
    message (Updates from us) p = p

pub follows-local : (a : AuthorityView) (c : ClientView) (s : Sections) → IsLocal c s → Follows a c (with_local c s)
follows-local a c s l = record { keeps = λ h. keeps-local a c s h l.starts l.short; same = refl; sent = λ v us h. sent-local c s v us h }

pub follows-received : (a : AuthorityView) (c : ClientView) (from : ℕ) (us : List Update) → IsAuthority a → IsPart a from us → from ≤ c.version →
    taking_refusal c (unseen c from us) ≡ None → Follows a c (received c from us)
follows-received a c from us is p o k =
    record {
      keeps = λ h. keeps-received a c from us is h p o k;
      same = received-name c from us;
      sent = λ v xs h. sent-received c from us v xs h;
    }

-- a message more
last-message : (ms : List Message) (m n : Message) (j : ℕ) (P : Message → Type 0) → ((i : ℕ) (x : Message) → slice_get ms i ≡ Some x → P x) → P m →
    slice_get (ms ++ m ∷ []) j ≡ Some n → P n
last-message [] m n zero P h k e = let s : m ≡ n = cc in subst P s k
last-message [] m n (suc j) P h k e = cc
last-message (x ∷ ms) m n zero P h k e = h zero n e
last-message (x ∷ ms) m n (suc j) P h k e = last-message ms m n j P (λ i y d. h (suc i) y d) k e

pub message-kept : (w : WorldView) (m : Message) → IsWorld w → WasSent w m → length w.messages + 1 < 2 ^ 32 → IsWorld (with_message m w)
message-kept w m h s f =
    record {
      authority = h.authority;
      clients = h.clients;
      names = h.names;
      senders = h.senders;
      messages = λ j n e. same n (last-message w.messages m n j (WasSent w) h.messages s e);
      few = omega (arith, length-append w.messages (m ∷ []), f);
    }
  where
    same : (n : Message) → WasSent w n → WasSent (with_message m w) n
    same (Push name v us) t = t
    same (Updates from us) t = t

pub sends : (w : WorldView) (i : ℕ) (c : ClientView) → slice_get w.clients i ≡ Some c → WasSent w (push_of c)
sends w i c e = record { place = i; client = c; at = e; name = refl; sent = sent-now c }

pub publishes : (w : WorldView) (from to : ℕ) → from ≤ to → to ≤ update_count w.authority → WasSent w (published from to w.authority)
publishes w from to o k = part-published w.authority from to o k

-- two places of one name are one
one-place : (cs : List ClientView) (j : ℕ) (c : ClientView) → slice_get cs j ≡ Some c → slice_get (map (λ (x : ClientView). x.name) cs) j ≡ Some c.name
one-place [] j c h = cc
one-place (x ∷ cs) zero c h = ap (λ y. Some y.name) (some-inj x c h)
one-place (x ∷ cs) (suc j) c h = one-place cs j c h

-- the authority takes a push
pub push-kept : (w : WorldView) (name : List ℕ) (v : ℕ) (us : List Update) → IsWorld w → HasSender w.clients name v us → v ≡ update_count w.authority →
    too_long (lengths_after (latest w.authority) us) ≡ None → v + length us < 2 ^ 32 → IsWorld (with_authority (pushed w.authority us) w)
push-kept w name v us h s e k f =
    record {
      authority = pushed-authority w.authority s.client.name us h.authority takes k (subst (λ n. n + length us < 2 ^ 32) e f);
      clients = λ j c d. client j c d (bytes_eq c.name s.client.name) refl;
      names = h.names;
      senders =
          come-append w.clients w.authority.updates us h.senders
          (come-bear w.clients s.client.name us (record { place = s.place; client = s.client; at = s.at; same = refl }) takes.bear);
      messages = λ j m d. message m (h.messages j m d);
      few = h.few;
    }
  where
    takes : CanTake w.authority s.client.name us
    takes = can-take w.authority s.client v us (h.clients s.place s.client s.at) s.sent e

    client : (j : ℕ) (c : ClientView) → slice_get w.clients j ≡ Some c → (b : Bool) → bytes_eq c.name s.client.name ≡ b → KeepsTo (pushed w.authority us) c
    client j c d true t =
        let n : c.name ≡ s.client.name = same_name c.name s.client.name t in
        let p : j ≡ s.place = h.names j s.place c.name (one-place w.clients j c d) (one-place w.clients s.place s.client s.at ∙ ap Some (sym n)) in
        let o : Some s.client ≡ Some c = sym s.at ∙ (sym (ap (slice_get w.clients) p) ∙ d) in
        subst (KeepsTo (pushed w.authority us)) (some-inj s.client c o) (keeps-own w.authority s.client v us (h.clients s.place s.client s.at) s.sent e)
    client j c d false t = keeps-others w.authority c s.client.name us (h.clients j c d) takes.bear (other_name c.name s.client.name t)

    message : (m : Message) → WasSent w m → WasSent (with_authority (pushed w.authority us) w) m
    message (Push n x xs) t = t
    message (Updates from xs) t = part-pushed w.authority us from xs t

-- a world before its first event
begun-client : (text : List ℕ) (names : List (List ℕ)) (j : ℕ) (c : ClientView) → slice_get (map (λ name. joined name text) names) j ≡ Some c →
    (name : List ℕ) × (joined name text ≡ c)
begun-client text [] j c h = cc
begun-client text (n ∷ ns) zero c h = (n, some-inj (joined n text) c h)
begun-client text (n ∷ ns) (suc j) c h = begun-client text ns j c h

joined-names : (text : List ℕ) (names : List (List ℕ)) → map (λ (c : ClientView). c.name) (map (λ name. joined name text) names) ≡ names
joined-names text [] = refl
joined-names text (n ∷ ns) = ap (λ ns. n ∷ ns) (joined-names text ns)

pub begun-kept : (text : List ℕ) (names : List (List ℕ)) → length text ≤ max_len → AreDistinct names → IsWorld (begun text names)
begun-kept text names h d =
    record {
      authority = record { leads = tt; short = within (length text) [] h; numbers = λ n. tt; few = omega arith };
      clients = λ j c e. (let p : (name : List ℕ) × (joined name text ≡ c) = begun-client text names j c e in subst (KeepsTo (opened text)) p.1 (keeps-joined p.0 text h));
      names = subst AreDistinct (sym (joined-names text names)) d;
      senders = tt;
      messages = λ j m e. cc;
      few = omega arith;
    }

pub begun_is : (text : List ℕ) (names : List (List ℕ)) (a : AuthorityView) (cs : List ClientView) (ms : List Message) → length text ≤ max_len → AreDistinct names →
    a ≡ opened text → cs ≡ map (λ name. joined name text) names → ms ≡ [] → IsWorld (record { authority = a; clients = cs; messages = ms })
begun_is text names a cs ms h d e f g =
    subst (λ (x : AuthorityView). IsWorld (record { authority = x; clients = cs; messages = ms })) (sym e)
    (subst (λ (x : List ClientView). IsWorld (record { authority = opened text; clients = x; messages = ms })) (sym f)
    (subst (λ (x : List Message). IsWorld (record { authority = opened text; clients = map (λ name. joined name text) names; messages = x })) (sym g) (begun-kept text names h d)))

-- the theorem
pub converges : (w : WorldView) → IsWorld w → Converges w
converges w h =
    record {
      seen = λ i c e. (h.clients i c e).seen;
      texts = λ i c e n. ap (λ us. applied us c.confirmed) n ∙ (h.clients i c e).confirmed;
      kept = λ i c e. ap (applied c.pending) (h.clients i c e).confirmed;
      updates = h.authority.numbers;
      senders = h.senders;
      counts = λ i c e. keeps-count w.authority c (h.clients i c e);
      alike = λ i j c d e f n m v.
          ap (λ us. applied us c.confirmed) n ∙ ((h.clients i c e).confirmed ∙ (ap (text_at w.authority) v ∙ (sym (h.clients j d f).confirmed ∙ sym (ap (λ us. applied us d.confirmed) m))));
    }
