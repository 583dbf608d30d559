-- What answers inputs one after the other, each by a text, and what such answers leave where they end.
use Rattle.std.specs.Prelude.{◌≡◌, ℕ, ◌⊎◌, List, [], ◌∷◌, ◌++◌, Option, Some, IfSome, Result, Ok, Err, String, string_bytes}
use Rattle.std.specs.declared.alloc.Global.{Global}
use Rattle.cm_outside.specs.Sink.{Appends, AppendsPrefix}
use Rattle.cm_outside.specs.declared.store_fault.StoreFault.{StoreFault}
use Rattle.cm_outside.specs.declared.store_fault.StoreFault.TheVariants.{Failed, NoMemory}

-- What answers inputs of one kind, seen as a machine over plain data: what an input makes of the data, the reply to it,
-- and what a save within the answer alone makes of them (the data as they were, but for the file, which is as asked).
pub record Machine (I P : Type 0) : Type 0 where
  pub after : I → P → P
  pub reply : I → P → List ℕ
  pub saved : I → P → P

-- the data after some inputs
abbrev pub after_all : {I P : Type 0} → Machine I P → P → List I → P
after_all m p [] = p
after_all m p (x ∷ xs) = after_all m (m.after x p) xs

-- the replies to some inputs, one after the other
abbrev pub replies : {I P : Type 0} → Machine I P → P → List I → List ℕ
replies m p [] = []
replies m p (x ∷ xs) = m.reply x p ++ replies m (m.after x p) xs

-- a fault of the store within an answer leaves the data as they were, or with the file as asked
abbrev pub IsHalted : {I P : Type 0} → Machine I P → I → P → Option P → Type 0
IsHalted m x p now = (now ≡ Some p) ⊎ (now ≡ Some (m.saved x p))

-- What an answer to an input leads to: the reply and the data after it. After a fault of the store they are as before, but
-- for the file; out of memory changes nothing.
abbrev pub Answered : {I P : Type 0} → Machine I P → I → P → Option P → Result (String Global) StoreFault → Type 0
Answered m x p now (Ok text) = (string_bytes text ≡ m.reply x p) × (now ≡ Some (m.after x p))
Answered m x p now (Err Failed) = IsHalted m x p now
Answered m x p now (Err NoMemory) = now ≡ Some p

-- What an answerer tells: its plain data, where it tells them, and how often its store failed.
pub record AnswererTold (P : Type 0) : Type 0 where
  pub plain : Option P
  pub faults : ℕ

-- what an answerer tells, by what each count of its kind is
abbrev pub answerer_told : {A D P : Type 0} → (A → D → Option P) → (D → ℕ) → A → D → AnswererTold P
answerer_told told faults a d = record { plain = told a d; faults = faults d }

-- An exchange: the data before it, the data now, what the sink held before it, and what it holds now.
pub record Exchange (P : Type 0) : Type 0 where
  pub first : P
  pub now : Option P
  pub held : Option (List ℕ)
  pub held_now : Option (List ℕ)

abbrev pub exchange_of : {P : Type 0} → P → Option P → (held held_now : Option (List ℕ)) → Exchange P
exchange_of first now held held_now = record { first = first; now = now; held = held; held_now = held_now }

-- Each of these inputs was answered, and nothing else: the sink has the replies, and the data are those after all.
pub record AllAnswered {I P : Type 0} (m : Machine I P) (inputs : List I) (exchange : Exchange P) : Type 0 where
  pub wrote : IfSome exchange.held (λ before. Appends before exchange.held_now (replies m exchange.first inputs))
  pub stands : exchange.now ≡ Some (after_all m exchange.first inputs)

-- It ended between two answers, or before the first or after the last: those before were answered, and nothing else.
pub record EndedBetween {I P : Type 0} (m : Machine I P) (inputs : List I) (exchange : Exchange P) : Type 0 where
  pub done : List I
  pub others : List I
  pub cut : inputs ≡ done ++ others
  pub answered : AllAnswered m done exchange

-- It ended within the answer to an input, by a fault of the store: the sink has the replies to those before.
pub record EndedByStore {I P : Type 0} (m : Machine I P) (inputs : List I) (exchange : Exchange P) : Type 0 where
  pub done : List I
  pub next : I
  pub others : List I
  pub cut : inputs ≡ done ++ next ∷ others
  pub wrote : IfSome exchange.held (λ before. Appends before exchange.held_now (replies m exchange.first done))
  pub stands : IsHalted m next (after_all m exchange.first done) exchange.now

-- It ended within the write of a reply: the sink has the replies to the inputs before and a prefix of that to this one,
-- which was answered.
pub record EndedWriting {I P : Type 0} (m : Machine I P) (inputs : List I) (exchange : Exchange P) : Type 0 where
  pub done : List I
  pub next : I
  pub others : List I
  pub cut : inputs ≡ done ++ next ∷ others
  pub wrote : IfSome exchange.held (λ before. AppendsPrefix (before ++ replies m exchange.first done) exchange.held_now
      (m.reply next (after_all m exchange.first done)))
  pub stands : exchange.now ≡ Some (m.after next (after_all m exchange.first done))
