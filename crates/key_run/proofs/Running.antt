-- A run over keys: what was answered so far, and how it ends.
use Rattle.std.proofs.Common.{◌≡◌, ℕ, ◌+◌, ◌<◌, ◌⊎◌, inl, inr, pos, Bool, true, false, not, if◌then◌else◌, List, [], ◌∷◌, ◌++◌, length, take, drop, take_while, Option, Some, None, IfSome, option_to_list, refl, sym, ap, subst, ◌∙◌, append_assoc, arith}
use Rattle.std.proofs.lemmas.List.{append-nil, length-append, length-drop, drop-drop, take_at, drop_at}
use Rattle.std.specs.List.{list_any}
use Rattle.std.specs.Prelude.{Result, ⊤}
use Rattle.std.specs.declared.result.Result.TheVariants as result
use Rattle.cm_outside.specs.Answering.{Exchange, exchange_of, after_all, AllAnswered, EndedBetween, EndedByStore, EndedWriting}
use Rattle.cm_outside.specs.NextBytes.{IsFirstByte}
use Rattle.cm_outside.specs.Progress.{Progress}
use Rattle.cm_outside.specs.Responding.{RespondsTo, IsStop}
use Rattle.cm_outside.specs.Runs.{Gave}
use Rattle.cm_outside.specs.Times.{Times}
use Rattle.cm_outside.specs.declared.status.Status.{Status}
use Rattle.cm_outside.specs.declared.status.Status.TheVariants as statuses
use Rattle.cm_outside.proofs.Exchanges as exchanges
use Rattle.term_keys.specs.Keys.{Reading, at_start, keys_of, keys_after}
use Rattle.term_keys.specs.declared.key.Key.{Key}
use Rattle.key_run.specs.Typing.{KeyMachine, Event, opened, pressed, shown, presses, events, typed, has_quit, is_quit}
use Rattle.key_run.specs.Run.{Ended, IsReadTimes, ReadsClock, IsWithin, key_count}
use Rattle.key_run.specs.Pressing.{PressedOr, Presses, EndsBy}
use Rattle.key_run.proofs.Keys.{all_typed, typed_to_quit, typed_past, some_quit, no_quit, presses_more, presses_next, read_more}

-- What a run tells of its answerer, its clock and its sink: at its start and now.
pub record Told (P : Type 0) : Type 0 where
  pub first : Option P
  pub now : Option P
  pub times : Option Times
  pub times_now : Option Times
  pub held : Option (List ℕ)
  pub held_now : Option (List ℕ)

-- These bytes of the input were read as these keys, without Quit, and each of them was answered; `pending` was read and not
-- answered yet.
pub record Typing {P : Type 0} (m : KeyMachine P) (input : List ℕ) (left : Option (List ℕ)) (told : Told P) (pending : List Key) (reading : Reading) (p : Progress) : Type 0 where
  pub fed : List ℕ
  pub done : List Key
  pub others : List ℕ
  pub source : left ≡ Some others
  pub bytes : input ≡ fed ++ (p.rest ++ others)
  pub taken : p.taken ≡ length fed + length p.rest
  pub keys : (more : List ℕ) → keys_of (fed ++ more) ≡ done ++ (pending ++ keys_after reading more)
  pub none : list_any is_quit done ≡ false
  pub answered : IfSome told.first (λ f. IfSome told.times (λ t. AllAnswered (shown m) (opened ∷ presses t done) (exchange_of f told.now told.held told.held_now)))
  pub clock : IfSome told.times (λ t. IsReadTimes (length done) t told.times_now)

-- the first frame was written
pub begins : {P : Type 0} (m : KeyMachine P) (left : Option (List ℕ)) (first now : Option P) (times : Option Times) (held held_now : Option (List ℕ)) (reading : Reading) (p : Progress)
    → reading ≡ at_start → p ≡ record { limit = p.limit; taken = 0; ended = false; rest = [] } → IfSome first (λ f. RespondsTo (shown m) opened (exchange_of f now held held_now) (result.Ok tt))
    → IfSome left (λ input. Typing m input left (record { first = first; now = now; times = times; times_now = times; held = held; held_now = held_now }) [] reading p)
begins m None first now times held held_now reading p start new responds = tt
begins m (Some input) first now times held held_now reading p start new responds = record {
  fed = [];
  done = [];
  others = input;
  source = refl;
  bytes = ap (λ (q : Progress). q.rest ++ input) (sym new);
  taken = omega (arith, ap (λ (q : Progress). q.taken) new, ap (λ (q : Progress). length q.rest) new);
  keys = λ more. ap (λ r. keys_after r more) (sym start);
  none = refl;
  answered = answered first times responds;
  clock = clock times;
} where
  answered : (o : Option _) (t : Option Times) → IfSome o (λ f. RespondsTo (shown m) opened (exchange_of f now held held_now) (result.Ok tt)) → IfSome o (λ f. IfSome t (λ ts. AllAnswered (shown m) (opened ∷ []) (exchange_of f now held held_now)))
  answered None t h = tt
  answered (Some f) None h = tt
  answered (Some f) (Some ts) h = exchanges.one_more (shown m) f (Some f) now held held held_now [] opened (exchanges.begins (shown m) f held) h

  clock : (t : Option Times) → IfSome t (λ ts. IsReadTimes 0 ts t)
  clock None = tt
  clock (Some ts) = λ n. ap ts (let e : n ≡ 0 + n = omega arith in e)

-- one more byte was read
pub byte_more : {P : Type 0} (m : KeyMachine P) (start left left_now : Option (List ℕ)) (told : Told P) (byte : ℕ) (key : Option Key) (reading next : Reading) (p q : Progress)
    → IfSome start (λ input. Typing m input left told [] reading p) → q.taken + length p.rest ≡ p.taken + length q.rest + 1
    → IfSome left (λ i. IsFirstByte byte p q i left_now) → ((more : List ℕ) → keys_after reading (byte ∷ more) ≡ option_to_list key ++ keys_after next more)
    → IfSome start (λ input. Typing m input left_now told (option_to_list key) next q)
byte_more m None left left_now told byte key reading next p q typing counts first feeds = tt
byte_more m (Some input) left left_now told byte key reading next p q typing counts first feeds =
    let here : IsFirstByte byte p q typing.others left_now = subst (λ o. IfSome o (λ i. IsFirstByte byte p q i left_now)) typing.source first in
    record {
      fed = typing.fed ++ byte ∷ [];
      done = typing.done;
      others = here.left;
      source = here.source;
      bytes = typing.bytes ∙ ap (λ l. typing.fed ++ l) here.bytes ∙ sym (append_assoc typing.fed (byte ∷ []) (q.rest ++ here.left));
      taken = omega (arith, typing.taken, counts, length-append typing.fed (byte ∷ []));
      keys = λ more. ap keys_of (append_assoc typing.fed (byte ∷ []) more) ∙ typing.keys (byte ∷ more) ∙ ap (λ l. typing.done ++ l) (feeds more);
      none = typing.none;
      answered = typing.answered;
      clock = typing.clock;
    }

-- the told facts after a press
abbrev pub pressed_told : {P : Type 0} → Told P → (new : Option P) → (times_new : Option Times) → (held_new : Option (List ℕ)) → Told P
pressed_told told new times_new held_new = record told { now = new; times_now = times_new; held_now = held_new }

-- what a press did, from the data and the time that stand
press_here : {P : Type 0} (m : KeyMachine P) (f : P) (t : Times) (now new : Option P) (times_now : Option Times) (held held_now held_new : Option (List ℕ)) (done : List Key) (key : Key) (r : Result ⊤ Status)
    → AllAnswered (shown m) (opened ∷ presses t done) (exchange_of f now held held_now) → IsReadTimes (length done) t times_now
    → IfSome now (λ d. IfSome times_now (λ ts. Presses m key (pos (ts 0)) (exchange_of d new held_now held_new) r))
    → Presses m key (pos (t (length done))) (exchange_of (after_all (shown m) f (opened ∷ presses t done)) new held_now held_new) r
press_here m f t now new times_now held held_now held_new done key r answered clock pressing =
    at times_now clock (subst (λ o. IfSome o (λ d. IfSome times_now (λ ts. Presses m key (pos (ts 0)) (exchange_of d new held_now held_new) r))) answered.stands pressing) where
      at : (o : Option Times) → IsReadTimes (length done) t o → IfSome o (λ ts. Presses m key (pos (ts 0)) (exchange_of (after_all (shown m) f (opened ∷ presses t done)) new held_now held_new) r)
          → Presses m key (pos (t (length done))) (exchange_of (after_all (shown m) f (opened ∷ presses t done)) new held_now held_new) r
      at None c h = absurd c
      at (Some later) c h =
          let first : later 0 ≡ t (length done) = c 0 ∙ ap t (let e : length done + 0 ≡ length done = omega arith in e) in
          subst (λ n. Presses m key (pos n) (exchange_of (after_all (shown m) f (opened ∷ presses t done)) new held_now held_new) r) first h

-- one more key was answered
pub key_more : {P : Type 0} (m : KeyMachine P) (start left : Option (List ℕ)) (told : Told P) (new : Option P) (times_new : Option Times) (held_new : Option (List ℕ)) (key : Key) (reading : Reading) (p : Progress)
    → IfSome start (λ input. Typing m input left told (key ∷ []) reading p) → is_quit key ≡ false
    → IfSome told.now (λ d. IfSome told.times_now (λ ts. Presses m key (pos (ts 0)) (exchange_of d new told.held_now held_new) (result.Ok tt)))
    → IfSome told.times_now (λ ts. IsReadTimes 1 ts times_new)
    → IfSome start (λ input. Typing m input left (pressed_told told new times_new held_new) [] reading p)
key_more m None left told new times_new held_new key reading p typing other presses clock = tt
key_more {P} m (Some input) left told new times_new held_new key reading p typing other pressing clock = record {
  fed = typing.fed;
  done = typing.done ++ key ∷ [];
  others = typing.others;
  source = typing.source;
  bytes = typing.bytes;
  taken = typing.taken;
  keys = λ more. typing.keys more ∙ sym (append_assoc typing.done (key ∷ []) (keys_after reading more));
  none = no_quit typing.done key typing.none other;
  answered = answered told.first told.times typing.answered typing.clock;
  clock = read told.times typing.clock;
} where
  read : (t : Option Times) → IfSome t (λ ts. IsReadTimes (length typing.done) ts told.times_now) → IfSome t (λ ts. IsReadTimes (length (typing.done ++ key ∷ [])) ts times_new)
  read None h = tt
  read (Some ts) h =
      let count : length typing.done + 1 ≡ length (typing.done ++ key ∷ []) = omega (arith, length-append typing.done (key ∷ [])) in
      subst (λ n. IsReadTimes n ts times_new) count (read_more (length typing.done) ts told.times_now times_new h clock)

  answered : (o : Option P) (t : Option Times) → IfSome o (λ f. IfSome t (λ ts. AllAnswered (shown m) (opened ∷ presses ts typing.done) (exchange_of f told.now told.held told.held_now))) → IfSome t (λ ts. IsReadTimes (length typing.done) ts told.times_now)
      → IfSome o (λ f. IfSome t (λ ts. AllAnswered (shown m) (opened ∷ presses ts (typing.done ++ key ∷ [])) (exchange_of f new told.held held_new)))
  answered None t h c = tt
  answered (Some f) None h c = tt
  answered (Some f) (Some ts) h c =
      let here = press_here m f ts told.now new told.times_now told.held told.held_now held_new typing.done key (result.Ok tt) h c pressing in
      let replied = subst (λ b. PressedOr b m key (pos (ts (length typing.done))) (exchange_of (after_all (shown m) f (opened ∷ presses ts typing.done)) new told.held_now held_new) (result.Ok tt)) other here in
      subst (λ l. AllAnswered (shown m) (opened ∷ l) (exchange_of f new told.held held_new)) (sym (presses_more ts typing.done key))
      (exchanges.one_more (shown m) f told.now new told.held told.held_now held_new (opened ∷ presses ts typing.done) (pressed key (pos (ts (length typing.done)))) h replied)

-- ---- what was taken of the input

-- what the source gave
pub gave : {P : Type 0} (m : KeyMachine P) (start left : Option (List ℕ)) (told : Told P) (pending : List Key) (reading : Reading) (p : Progress) (taken : ℕ) → p.taken ≡ taken
    → IfSome start (λ input. Typing m input left told pending reading p) → IfSome start (λ input. Gave taken input left)
gave m None left told pending reading p taken same typing = tt
gave m (Some input) left told pending reading p taken same typing =
    let all : input ≡ (typing.fed ++ p.rest) ++ typing.others = typing.bytes ∙ sym (append_assoc typing.fed p.rest typing.others) in
    let count : taken ≡ length (typing.fed ++ p.rest) = omega (arith, same, typing.taken, length-append typing.fed p.rest) in
    let rest : drop taken input ≡ typing.others = ap (drop taken) all ∙ drop_at (typing.fed ++ p.rest) typing.others taken (sym count) in
    (omega (arith, ap length all, length-append (typing.fed ++ p.rest) typing.others, count), typing.source ∙ ap Some (sym rest))

-- the keys of the bytes that were read
fed_keys : {P : Type 0} (m : KeyMachine P) (input : List ℕ) (left : Option (List ℕ)) (told : Told P) (reading : Reading) (p : Progress) → (typing : Typing m input left told [] reading p) → keys_of typing.fed ≡ typing.done
fed_keys m input left told reading p typing = ap keys_of (sym (append-nil typing.fed)) ∙ typing.keys [] ∙ append-nil typing.done

-- where nothing stands ready, the bytes taken were read
fed_taken : {P : Type 0} (m : KeyMachine P) (input : List ℕ) (left : Option (List ℕ)) (told : Told P) (pending : List Key) (reading : Reading) (p : Progress) → (typing : Typing m input left told pending reading p) → take p.taken input ≡ typing.fed ++ p.rest
fed_taken m input left told pending reading p typing =
    ap (take p.taken) (typing.bytes ∙ sym (append_assoc typing.fed p.rest typing.others))
    ∙ take_at (typing.fed ++ p.rest) typing.others p.taken (omega (arith, typing.taken, length-append typing.fed p.rest))

-- ---- ends at a byte that isn't there

-- bytes that were all read: their keys up to Quit, and that there is none
record ReadOut (bytes : List ℕ) (done : List Key) : Type 0 where
  typed_are : typed bytes ≡ done
  none : has_quit bytes ≡ false

read_out : {P : Type 0} (m : KeyMachine P) (input : List ℕ) (left : Option (List ℕ)) (told : Told P) (reading : Reading) (p : Progress) → (typing : Typing m input left told [] reading p) → (bytes : List ℕ) → bytes ≡ typing.fed → ReadOut bytes typing.done
read_out m input left told reading p typing bytes same =
    let keys : keys_of bytes ≡ typing.done = ap keys_of same ∙ fed_keys m input left told reading p typing in
    record {
      typed_are = ap (take_while (λ key. not (is_quit key))) keys ∙ all_typed typing.done typing.none;
      none = ap (list_any is_quit) keys ∙ typing.none;
    }

-- the answers to the keys of bytes that were all read, and how often the clock was read
out_answered : {P : Type 0} (m : KeyMachine P) (bytes : List ℕ) (done : List Key) (first now : Option P) (times : Option Times) (held held_now : Option (List ℕ)) → ReadOut bytes done
    → IfSome first (λ f. IfSome times (λ t. AllAnswered (shown m) (opened ∷ presses t done) (exchange_of f now held held_now)))
    → IfSome first (λ f. IfSome times (λ t. AllAnswered (shown m) (events t bytes) (exchange_of f now held held_now)))
out_answered m bytes done first now times held held_now out h = subst (λ ks. IfSome first (λ f. IfSome times (λ t. AllAnswered (shown m) (opened ∷ presses t ks) (exchange_of f now held held_now)))) (sym out.typed_are) h

out_read : (bytes : List ℕ) (done : List Key) (times now : Option Times) → ReadOut bytes done → IfSome times (λ t. IsReadTimes (length done) t now) → IfSome times (λ t. IsReadTimes (key_count bytes) t now)
out_read bytes done times now out h =
    let count : length done ≡ key_count bytes = sym (ap (λ b. length (typed bytes) + (if b then 1 else 0)) out.none ∙ (let e : length (typed bytes) + 0 ≡ length (typed bytes) = omega arith in e) ∙ ap length out.typed_are) in
    subst (λ n. IfSome times (λ t. IsReadTimes n t now)) count h

-- both facts under a status, where they hold with and without the first data
both_some : {P : Type 0} (first : Option P) (times : Option Times) (A : Type 0) (B : P → Times → Type 0) → A → IfSome first (λ f. IfSome times (λ t. B f t)) → IfSome first (λ f. IfSome times (λ t. A × B f t))
both_some None times A B a h = tt
both_some (Some f) None A B a h = tt
both_some (Some f) (Some t) A B a h = (a, h)

three_some : {P : Type 0} (first : Option P) (times : Option Times) (A B : Type 0) (C : P → Times → Type 0) → A → B → IfSome first (λ f. IfSome times (λ t. C f t)) → IfSome first (λ f. IfSome times (λ t. A × B × C f t))
three_some None times A B C a b h = tt
three_some (Some f) None A B C a b h = tt
three_some (Some f) (Some t) A B C a b h = (a, b, h)

-- How a run ended, where its input is told.
pub record EndFacts {P : Type 0} (m : KeyMachine P) (status : Status) (limit taken : ℕ) (input : List ℕ) (left : Option (List ℕ)) (told : Told P) : Type 0 where
  pub ended : IfSome told.first (λ f. IfSome told.times (λ t. Ended m status limit taken input t (exchange_of f told.now told.held told.held_now)))
  pub clock : IfSome told.times (λ t. ReadsClock status limit taken input t told.times_now)
  pub gave : Gave taken input left
  pub within : status ≡ statuses.TooMuch → IsWithin limit input → ⊥

-- the same for any input that may be told
abbrev pub Ends : {P : Type 0} → KeyMachine P → Status → (limit taken : ℕ) → (start left : Option (List ℕ)) → Told P → Type 0
Ends m status limit taken start left told = IfSome start (λ input. EndFacts m status limit taken input left told)

pub ended_of : {P : Type 0} (m : KeyMachine P) (status : Status) (limit taken : ℕ) (start left : Option (List ℕ)) (told : Told P) → Ends m status limit taken start left told
    → IfSome start (λ input. IfSome told.first (λ f. IfSome told.times (λ t. Ended m status limit taken input t (exchange_of f told.now told.held told.held_now))))
ended_of m status limit taken None left told h = tt
ended_of m status limit taken (Some input) left told h = h.ended

pub clock_of : {P : Type 0} (m : KeyMachine P) (status : Status) (limit taken : ℕ) (start left : Option (List ℕ)) (told : Told P) → Ends m status limit taken start left told
    → IfSome start (λ input. IfSome told.times (λ t. ReadsClock status limit taken input t told.times_now))
clock_of m status limit taken None left told h = tt
clock_of m status limit taken (Some input) left told h = h.clock

pub gave_of : {P : Type 0} (m : KeyMachine P) (status : Status) (limit taken : ℕ) (start left : Option (List ℕ)) (told : Told P) → Ends m status limit taken start left told
    → IfSome start (λ input. Gave taken input left)
gave_of m status limit taken None left told h = tt
gave_of m status limit taken (Some input) left told h = h.gave

-- a run that took a byte past its limit was given more than that
pub past_completes : {P : Type 0} (m : KeyMachine P) (limit taken : ℕ) (start left : Option (List ℕ)) (told : Told P) → Ends m statuses.TooMuch limit taken start left told
    → IfSome start (λ input. IsWithin limit input → (statuses.TooMuch ≡ statuses.Ok) ⊎ (statuses.TooMuch ≡ statuses.NoMemory))
past_completes m limit taken None left told h = tt
past_completes m limit taken (Some input) left told h = λ within. absurd (h.within refl within)

-- the end of input
pub ends_at_end : {P : Type 0} (m : KeyMachine P) (start left left_now : Option (List ℕ)) (told : Told P) (reading : Reading) (p : Progress) (limit taken : ℕ) → IfSome start (λ input. Typing m input left told [] reading p) → p.taken ≡ taken
    → IfSome left (λ i. (p.rest ≡ []) × (i ≡ []) × (left_now ≡ Some i)) → Ends m statuses.Ok limit taken start left_now told
ends_at_end m None left left_now told reading p limit taken typing same h = tt
ends_at_end m (Some input) left left_now told reading p limit taken typing same h =
    let here : (p.rest ≡ []) × (typing.others ≡ []) × (left_now ≡ Some typing.others) = subst (λ o. IfSome o (λ i. (p.rest ≡ []) × (i ≡ []) × (left_now ≡ Some i))) typing.source h in
    let all : input ≡ typing.fed = typing.bytes ∙ ap (λ l. typing.fed ++ (l ++ typing.others)) here.0 ∙ ap (λ l. typing.fed ++ l) here.1 ∙ append-nil typing.fed in
    let out = read_out m input left told reading p typing input all in
    let count : taken ≡ length input = omega (arith, same, typing.taken, ap length here.0, ap length all) in
    record {
      ended = both_some told.first told.times _ (λ f t. AllAnswered (shown m) (events t input) (exchange_of f told.now told.held told.held_now)) (inl count)
          (out_answered m input typing.done told.first told.now told.times told.held told.held_now out typing.answered);
      clock = out_read input typing.done told.times told.times_now out typing.clock;
      gave = subst (λ o. Gave taken input o) (typing.source ∙ sym here.2) (gave m (Some input) left told [] reading p taken same typing);
      within = λ e. absurd (let f : ⊥ = cc e in f);
    }

-- the source failed
pub ends_at_fault : {P : Type 0} (m : KeyMachine P) (start left left_now : Option (List ℕ)) (told : Told P) (reading : Reading) (p : Progress) (limit taken : ℕ) → IfSome start (λ input. Typing m input left told [] reading p) → p.taken ≡ taken
    → IfSome left (λ i. (p.rest ≡ []) × (left_now ≡ Some i)) → Ends m statuses.ReadFault limit taken start left_now told
ends_at_fault m None left left_now told reading p limit taken typing same h = tt
ends_at_fault m (Some input) left left_now told reading p limit taken typing same h =
    let here : (p.rest ≡ []) × (left_now ≡ Some typing.others) = subst (λ o. IfSome o (λ i. (p.rest ≡ []) × (left_now ≡ Some i))) typing.source h in
    let all : take taken input ≡ typing.fed = ap (λ n. take n input) (sym same) ∙ fed_taken m input left told [] reading p typing ∙ ap (λ l. typing.fed ++ l) here.0 ∙ append-nil typing.fed in
    let out = read_out m input left told reading p typing (take taken input) all in
    record {
      ended = both_some told.first told.times _ (λ f t. AllAnswered (shown m) (events t (take taken input)) (exchange_of f told.now told.held told.held_now)) out.none
          (out_answered m (take taken input) typing.done told.first told.now told.times told.held told.held_now out typing.answered);
      clock = out_read (take taken input) typing.done told.times told.times_now out typing.clock;
      gave = subst (λ o. Gave taken input o) (typing.source ∙ sym here.1) (gave m (Some input) left told [] reading p taken same typing);
      within = λ e. absurd (let f : ⊥ = cc e in f);
    }

-- one byte more than the limit came
pub ends_past : {P : Type 0} (m : KeyMachine P) (start left left_now : Option (List ℕ)) (told : Told P) (reading : Reading) (p : Progress) (limit taken : ℕ) → IfSome start (λ input. Typing m input left told [] reading p) → p.taken ≡ limit → limit + 1 ≡ taken
    → IfSome left (λ i. (p.rest ≡ []) × (0 < length i) × (left_now ≡ Some (drop 1 i))) → Ends m statuses.TooMuch limit taken start left_now told
ends_past m None left left_now told reading p limit taken typing same past h = tt
ends_past m (Some input) left left_now told reading p limit taken typing same past h =
    let here : (p.rest ≡ []) × (0 < length typing.others) × (left_now ≡ Some (drop 1 typing.others)) = subst (λ o. IfSome o (λ i. (p.rest ≡ []) × (0 < length i) × (left_now ≡ Some (drop 1 i)))) typing.source h in
    let all : take limit input ≡ typing.fed = ap (λ n. take n input) (sym same) ∙ fed_taken m input left told [] reading p typing ∙ ap (λ l. typing.fed ++ l) here.0 ∙ append-nil typing.fed in
    let out = read_out m input left told reading p typing (take limit input) all in
    let given : Gave limit input left = gave m (Some input) left told [] reading p limit same typing in
    let others : drop limit input ≡ typing.others = some_is (sym given.1 ∙ typing.source) in
    let more : limit < length input = omega (arith, here.1, ap length others, length-drop limit input) in
    let rest : drop 1 typing.others ≡ drop taken input = ap (drop 1) (sym others) ∙ drop-drop 1 limit input ∙ ap (λ n. drop n input) past in
    record {
      ended = three_some told.first told.times _ _ (λ f t. AllAnswered (shown m) (events t (take limit input)) (exchange_of f told.now told.held told.held_now)) more out.none
          (out_answered m (take limit input) typing.done told.first told.now told.times told.held told.held_now out typing.answered);
      clock = out_read (take limit input) typing.done told.times told.times_now out typing.clock;
      gave = (omega (arith, more, past), here.2 ∙ ap Some rest);
      within = λ _ within. elim within [ inl short ↦ absurd (omega (arith, short, more)) | inr quit ↦ absurd (let f : ⊥ = cc (quit, out.none) in f) ];
    }
  where
    some_is : {xs ys : List ℕ} → Some xs ≡ Some ys → xs ≡ ys
    some_is e = cc e

-- ---- ends at a key

-- Quit came
quit_facts : {P : Type 0} (m : KeyMachine P) (limit taken : ℕ) (input : List ℕ) (left : Option (List ℕ)) (first now : Option P) (times times_now : Option Times) (held held_now : Option (List ℕ)) (done : List Key)
    → Gave taken input left → has_quit (take taken input) ≡ true → has_quit input ≡ true → typed input ≡ done
    → IfSome first (λ f. IfSome times (λ t. AllAnswered (shown m) (opened ∷ presses t done) (exchange_of f now held held_now)))
    → IfSome times (λ t. IsReadTimes (length done + 1) t times_now)
    → EndFacts m statuses.Ok limit taken input left (record { first = first; now = now; times = times; times_now = times_now; held = held; held_now = held_now })
quit_facts m limit taken input left first now times times_now held held_now done given quit some are answered clock = record {
  ended = both_some first times _ (λ f t. AllAnswered (shown m) (events t input) (exchange_of f now held held_now)) (inr quit)
      (subst (λ ks. IfSome first (λ f. IfSome times (λ t. AllAnswered (shown m) (opened ∷ presses t ks) (exchange_of f now held held_now)))) (sym are) answered);
  clock = subst (λ n. IfSome times (λ t. IsReadTimes n t times_now)) count clock;
  gave = given;
  within = λ e. absurd (let f : ⊥ = cc e in f);
} where
  count : length done + 1 ≡ key_count input
  count = ap (λ (ks : List Key). length ks + 1) (sym are) ∙ ap (λ b. length (typed input) + (if b then 1 else 0)) (sym some)

-- an answer or a write was broken off: how the answers to these events end
abbrev pub Stops : {P : Type 0} → KeyMachine P → Status → List Event → Exchange P → Type 0
Stops m statuses.StoreFault inputs exchange = EndedByStore (shown m) inputs exchange
Stops m statuses.WriteFault inputs exchange = EndedWriting (shown m) inputs exchange
Stops m statuses.NoMemory inputs exchange = EndedBetween (shown m) inputs exchange
Stops m _ inputs exchange = ⊥

stops : {P : Type 0} (m : KeyMachine P) (status : Status) (f : P) (now new : Option P) (held held_now held_new : Option (List ℕ)) (done : List Event) (x : Event) (others inputs : List Event) → inputs ≡ done ++ x ∷ others
    → AllAnswered (shown m) done (exchange_of f now held held_now) → RespondsTo (shown m) x (exchange_of (after_all (shown m) f done) new held_now held_new) (result.Err status)
    → Stops m status inputs (exchange_of f new held held_new)
stops m statuses.Ok f now new held held_now held_new done x others inputs cut answered h = absurd h
stops m statuses.Usage f now new held held_now held_new done x others inputs cut answered h = absurd h
stops m statuses.ReadFault f now new held held_now held_new done x others inputs cut answered h = absurd h
stops m statuses.WriteFault f now new held held_now held_new done x others inputs cut answered h = exchanges.ends_writing (shown m) f now new held held_now held_new done x others inputs cut answered h
stops m statuses.StoreFault f now new held held_now held_new done x others inputs cut answered h = exchanges.ends_by_store (shown m) f now new held held_now held_new done x others inputs cut answered h
stops m statuses.NoMemory f now new held held_now held_new done x others inputs cut answered h =
    record { done = done; others = x ∷ others; cut = cut; answered = exchanges.stays (shown m) f now new held held_now held_new done answered h }
stops m statuses.TooMuch f now new held held_now held_new done x others inputs cut answered h = absurd h
stops m statuses.BadFile f now new held held_now held_new done x others inputs cut answered h = absurd h

-- such an end is the end of a run
stopped_facts : {P : Type 0} (m : KeyMachine P) (status : Status) (limit taken : ℕ) (input : List ℕ) (left : Option (List ℕ)) (told : Told P) → IsStop status → Gave taken input left
    → IfSome told.first (λ f. IfSome told.times (λ t. Stops m status (events t input) (exchange_of f told.now told.held told.held_now))) → EndFacts m status limit taken input left told
stopped_facts m statuses.Ok limit taken input left told stop given h = absurd stop
stopped_facts m statuses.Usage limit taken input left told stop given h = absurd stop
stopped_facts m statuses.ReadFault limit taken input left told stop given h = absurd stop
stopped_facts m statuses.WriteFault limit taken input left told stop given h = record { ended = h; clock = nothing told.times; gave = given; within = λ e. absurd (let f : ⊥ = cc e in f) } where
  nothing : (t : Option Times) → IfSome t (λ ts. Unit {0})
  nothing None = tt
  nothing (Some ts) = tt
stopped_facts m statuses.StoreFault limit taken input left told stop given h = record { ended = h; clock = nothing told.times; gave = given; within = λ e. absurd (let f : ⊥ = cc e in f) } where
  nothing : (t : Option Times) → IfSome t (λ ts. Unit {0})
  nothing None = tt
  nothing (Some ts) = tt
stopped_facts m statuses.NoMemory limit taken input left told stop given h = record { ended = h; clock = nothing told.times; gave = given; within = λ e. absurd (let f : ⊥ = cc e in f) } where
  nothing : (t : Option Times) → IfSome t (λ ts. Unit {0})
  nothing None = tt
  nothing (Some ts) = tt
stopped_facts m statuses.TooMuch limit taken input left told stop given h = absurd stop
stopped_facts m statuses.BadFile limit taken input left told stop given h = absurd stop

-- the answer to a key, or its frame, was broken off, or it was Quit
key_facts : {P : Type 0} (m : KeyMachine P) (input : List ℕ) (left : Option (List ℕ)) (told : Told P) (new : Option P) (times_new : Option Times) (held_new : Option (List ℕ)) (key : Key) (reading : Reading) (p : Progress) (status : Status) (limit taken : ℕ)
    → Typing m input left told (key ∷ []) reading p → p.taken ≡ taken → EndsBy (is_quit key) status
    → IfSome told.now (λ d. IfSome told.times_now (λ ts. Presses m key (pos (ts 0)) (exchange_of d new told.held_now held_new) (result.Err status)))
    → IfSome told.times_now (λ ts. IsReadTimes 1 ts times_new)
    → EndFacts m status limit taken input left (pressed_told told new times_new held_new)
key_facts {P} m input left told new times_new held_new key reading p status limit taken typing same ends presses_now clock = at (is_quit key) refl ends where
  after : List Key
  after = keys_after reading (p.rest ++ typing.others)

  keys : keys_of input ≡ typing.done ++ key ∷ after
  keys = ap keys_of typing.bytes ∙ typing.keys (p.rest ++ typing.others)

  taken_keys : keys_of (take taken input) ≡ typing.done ++ key ∷ keys_after reading p.rest
  taken_keys = ap (λ n. keys_of (take n input)) (sym same) ∙ ap keys_of (fed_taken m input left told (key ∷ []) reading p typing) ∙ typing.keys p.rest

  given : Gave taken input left
  given = gave m (Some input) left told (key ∷ []) reading p taken same typing

  -- what the press did, by the data and the time that stand
  Did : Bool → P → Times → Type 0
  Did b f t = PressedOr b m key (pos (t (length typing.done))) (exchange_of (after_all (shown m) f (opened ∷ presses t typing.done)) new told.held_now held_new) (result.Err status)

  did : (b : Bool) → is_quit key ≡ b → (o : Option P) (t : Option Times) → IfSome o (λ f. IfSome t (λ ts. AllAnswered (shown m) (opened ∷ presses ts typing.done) (exchange_of f told.now told.held told.held_now)))
      → IfSome t (λ ts. IsReadTimes (length typing.done) ts told.times_now)
      → IfSome o (λ f. IfSome t (λ ts. AllAnswered (shown m) (opened ∷ presses ts typing.done) (exchange_of f told.now told.held told.held_now) × Did b f ts))
  did b e None t h c = tt
  did b e (Some f) None h c = tt
  did b e (Some f) (Some ts) h c =
      (h, subst (λ d. Did d f ts) e (press_here m f ts told.now new told.times_now told.held told.held_now held_new typing.done key (result.Err status) h c presses_now))

  read : (t : Option Times) → IfSome t (λ ts. IsReadTimes (length typing.done) ts told.times_now) → IfSome t (λ ts. IsReadTimes (length typing.done + 1) ts times_new)
  read None h = tt
  read (Some ts) h = read_more (length typing.done) ts told.times_now times_new h clock

  quits : (o : Option P) (t : Option Times) → IfSome o (λ f. IfSome t (λ ts. AllAnswered (shown m) (opened ∷ presses ts typing.done) (exchange_of f told.now told.held told.held_now) × Did true f ts))
      → IfSome o (λ f. IfSome t (λ ts. AllAnswered (shown m) (opened ∷ presses ts typing.done) (exchange_of f new told.held held_new)))
  quits None t h = tt
  quits (Some f) None h = tt
  quits (Some f) (Some ts) h = exchanges.stays (shown m) f told.now new told.held told.held_now held_new (opened ∷ presses ts typing.done) h.0 h.1.1

  breaks : is_quit key ≡ false → (o : Option P) (t : Option Times) → IfSome o (λ f. IfSome t (λ ts. AllAnswered (shown m) (opened ∷ presses ts typing.done) (exchange_of f told.now told.held told.held_now) × Did false f ts))
      → IfSome o (λ f. IfSome t (λ ts. Stops m status (events ts input) (exchange_of f new told.held held_new)))
  breaks e None t h = tt
  breaks e (Some f) None h = tt
  breaks e (Some f) (Some ts) h =
      let typed_are : typed input ≡ typing.done ++ key ∷ take_while (λ k. not (is_quit k)) after = ap (take_while (λ k. not (is_quit k))) keys ∙ typed_past typing.done key after typing.none e in
      let next = presses_next ts typing.done key (take_while (λ k. not (is_quit k)) after) in
      stops m status f told.now new told.held told.held_now held_new (opened ∷ presses ts typing.done) (pressed key (pos (ts (length typing.done)))) next.0 (events ts input)
      (ap (λ ks. opened ∷ presses ts ks) typed_are ∙ ap (λ l. opened ∷ l) next.1) h.0 h.1

  at : (b : Bool) → is_quit key ≡ b → EndsBy b status → EndFacts m status limit taken input left (pressed_told told new times_new held_new)
  at true e end =
      let facts = quit_facts m limit taken input left told.first new told.times times_new told.held held_new typing.done given
      (ap (list_any is_quit) taken_keys ∙ some_quit typing.done key (keys_after reading p.rest) e)
      (ap (list_any is_quit) keys ∙ some_quit typing.done key after e)
      (ap (take_while (λ k. not (is_quit k))) keys ∙ typed_to_quit typing.done key after typing.none e)
      (quits told.first told.times (did true e told.first told.times typing.answered typing.clock))
      (read told.times typing.clock) in
      subst (λ s. EndFacts m s limit taken input left (pressed_told told new times_new held_new)) (sym end) facts
  at false e end = stopped_facts m status limit taken input left (pressed_told told new times_new held_new) end given (breaks e told.first told.times (did false e told.first told.times typing.answered typing.clock))

pub ends_at_key : {P : Type 0} (m : KeyMachine P) (start left : Option (List ℕ)) (told : Told P) (new : Option P) (times_new : Option Times) (held_new : Option (List ℕ)) (key : Key) (reading : Reading) (p : Progress) (status : Status) (limit taken : ℕ)
    → IfSome start (λ input. Typing m input left told (key ∷ []) reading p) → p.taken ≡ taken → EndsBy (is_quit key) status
    → IfSome told.now (λ d. IfSome told.times_now (λ ts. Presses m key (pos (ts 0)) (exchange_of d new told.held_now held_new) (result.Err status)))
    → IfSome told.times_now (λ ts. IsReadTimes 1 ts times_new)
    → Ends m status limit taken start left (pressed_told told new times_new held_new)
ends_at_key m None left told new times_new held_new key reading p status limit taken typing same ends pressing clock = tt
ends_at_key m (Some input) left told new times_new held_new key reading p status limit taken typing same ends pressing clock =
    key_facts m input left told new times_new held_new key reading p status limit taken typing same ends pressing clock

-- the first frame wasn't written whole
pub ends_opening : {P : Type 0} (m : KeyMachine P) (start : Option (List ℕ)) (first new : Option P) (times : Option Times) (held held_new : Option (List ℕ)) (status : Status) (limit taken : ℕ) → taken ≡ 0 → IsStop status
    → IfSome first (λ f. RespondsTo (shown m) opened (exchange_of f new held held_new) (result.Err status))
    → Ends m status limit taken start start (record { first = first; now = new; times = times; times_now = times; held = held; held_now = held_new })
ends_opening m None first new times held held_new status limit taken zero stop h = tt
ends_opening m (Some input) first new times held held_new status limit taken zero stop h =
    stopped_facts m status limit taken input (Some input) (record { first = first; now = new; times = times; times_now = times; held = held; held_now = held_new }) stop
    (omega (arith, zero), ap (λ n. Some (drop n input)) (sym zero)) (at first times h) where
      at : (o : Option _) (t : Option Times) → IfSome o (λ f. RespondsTo (shown m) opened (exchange_of f new held held_new) (result.Err status)) → IfSome o (λ f. IfSome t (λ ts. Stops m status (events ts input) (exchange_of f new held held_new)))
      at None t h = tt
      at (Some f) None h = tt
      at (Some f) (Some ts) h = stops m status f (Some f) new held held held_new [] opened (presses ts (typed input)) (events ts input) refl (exchanges.begins (shown m) f held) h
