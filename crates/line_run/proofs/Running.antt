-- A run over lines: what was answered so far, and how it ends.
use Rattle.std.proofs.Common.{◌≡◌, ℕ, ◌+◌, ◌-◌, ◌<◌, ◌≤◌, List, [], ◌∷◌, ◌++◌, ◌⊎◌, length, take, drop, Option, Some, None, IfSome, false, inr, refl, sym, ap, subst, ◌∙◌, append_assoc, arith}
use Rattle.std.proofs.lemmas.List.{drop-drop, length-drop}
use Rattle.std.specs.declared.result.Result.TheVariants as result
use Rattle.cm_outside.specs.Answering.{Machine, AnswererTold, Exchange, exchange_of, after_all, AllAnswered, EndedBetween}
use Rattle.cm_outside.specs.Responding.{RespondsTo, IsSame}
use Rattle.cm_outside.specs.Lines.{lines_of, whole_lines}
use Rattle.cm_outside.specs.Progress.{Progress, IsNextLine, TakesOf, Reads, KeepsLimit}
use Rattle.cm_outside.specs.declared.reading.Reading.{Reading}
use Rattle.cm_outside.specs.declared.reading.Reading.TheVariants.{Line, TooLong, End, Failed, Budget}
use Rattle.cm_outside.specs.declared.status.Status.{Status}
use Rattle.cm_outside.specs.declared.status.Status.TheVariants as statuses
use Rattle.cm_outside.proofs.Exchanges as exchanges
use Rattle.cm_outside.specs.Runs.{Run, Gave}
use Rattle.cm_outside.specs.Sink.{SinkTold}
use Rattle.cm_outside.specs.Source.{SourceTold}
use Rattle.line_run.specs.Run.{Ran, Ended}
use Rattle.line_run.specs.Responding.{Responds, IsLine}
use Rattle.line_run.proofs.Cuts.{Cuts, cuts_nothing, next_line, all_lines, whole_at_failure, whole_at_budget}

-- These lines were cut off the input, and each of them was answered.
pub record Going {P : Type 0} (m : Machine (List ℕ) P) (input : List ℕ) (left : Option (List ℕ)) (exchange : Exchange P) (p : Progress) : Type 0 where
  pub done : List (List ℕ)
  pub cuts : Cuts input left p done
  pub answered : AllAnswered m done exchange

-- the same where the input and the first data are told
abbrev pub Goes : {P : Type 0} → Machine (List ℕ) P → (told left : Option (List ℕ)) → (first now : Option P) → (held held_now : Option (List ℕ)) → Progress → Type 0
Goes m told left first now held held_now p = IfSome told (λ input. IfSome first (λ f. Going m input left (exchange_of f now held held_now) p))

pub begins : {P : Type 0} (m : Machine (List ℕ) P) (told : Option (List ℕ)) (first : Option P) (held : Option (List ℕ)) (p : Progress) → p ≡ record { limit = p.limit; taken = 0; ended = false; rest = [] }
    → Goes m told told first first held held p
begins m None first held p new = tt
begins m (Some input) None held p new = tt
begins m (Some input) (Some f) held p new = record {
  done = [];
  cuts = cuts_nothing input p (ap (λ (q : Progress). q.taken) new) (ap (λ (q : Progress). q.rest) new) (ap (λ (q : Progress). q.ended) new);
  answered = exchanges.begins m f held;
}

-- a run that ends between two lines
pub ends_between : {P : Type 0} (m : Machine (List ℕ) P) (told left : Option (List ℕ)) (first now : Option P) (held held_now : Option (List ℕ)) (p : Progress) → Goes m told left first now held held_now p
    → IfSome told (λ input. IfSome first (λ f. EndedBetween m (lines_of input) (exchange_of f now held held_now)))
ends_between m None left first now held held_now p g = tt
ends_between m (Some input) left None now held held_now p g = tt
ends_between m (Some input) left (Some f) now held held_now p g = record {
  done = g.done;
  others = lines_of (p.rest ++ drop p.taken input);
  cut = g.cuts.lines;
  answered = g.answered;
}

-- one more line was answered
line_more : {P : Type 0} (m : Machine (List ℕ) P) (input : List ℕ) (left left_now : Option (List ℕ)) (f : P) (now new : Option P) (held held_now held_new : Option (List ℕ)) (line : List ℕ) (p q : Progress)
    → (g : Going m input left (exchange_of f now held held_now) p) → p.taken ≤ q.taken → TakesOf p q (drop p.taken input) left_now → IsNextLine line p q (drop p.taken input)
    → RespondsTo m line (exchange_of (after_all m f g.done) new held_now held_new) (result.Ok tt) → Going m input left_now (exchange_of f new held held_new) q
line_more m input left left_now f now new held held_now held_new line p q g later takes is_next replied = record {
  done = g.done ++ line ∷ [];
  cuts = next_line input left left_now p q g.done line g.cuts later takes is_next;
  answered = exchanges.one_more m f now new held held_now held_new g.done line g.answered replied;
}

going_on : {P : Type 0} (m : Machine (List ℕ) P) (input : List ℕ) (left left_now : Option (List ℕ)) (f : P) (now new : Option P) (held held_now held_new : Option (List ℕ)) (r : Reading) (p q : Progress)
    → (g : Going m input left (exchange_of f now held held_now) p) → p.taken ≤ q.taken → TakesOf p q (drop p.taken input) left_now → Reads r p q (drop p.taken input)
    → Responds m r (exchange_of (after_all m f g.done) new held_now held_new) (result.Ok tt) → Going m input left_now (exchange_of f new held held_new) q
going_on m input left left_now f now new held held_now held_new (Line bytes) p q g later takes reads a = line_more m input left left_now f now new held held_now held_new bytes.items p q g later takes reads.1 a
going_on m input left left_now f now new held held_now held_new TooLong p q g later takes reads a = line_more m input left left_now f now new held held_now held_new reads.0 p q g later takes reads.2 (a reads.0 reads.1)
going_on m input left left_now f now new held held_now held_new End p q g later takes reads a = absurd (let e : ⊥ = cc a.0 in e)
going_on m input left left_now f now new held held_now held_new Failed p q g later takes reads a = absurd (let e : ⊥ = cc a.0 in e)
going_on m input left left_now f now new held held_now held_new Budget p q g later takes reads a = absurd (let e : ⊥ = cc a.0 in e)

pub goes_on : {P : Type 0} (m : Machine (List ℕ) P) (told left left_now : Option (List ℕ)) (first now new : Option P) (held held_now held_new : Option (List ℕ)) (r : Reading) (p q : Progress)
    → Goes m told left first now held held_now p → p.taken ≤ q.taken → IfSome left (λ i. TakesOf p q i left_now) → IfSome left (Reads r p q)
    → IfSome now (λ d. Responds m r (exchange_of d new held_now held_new) (result.Ok tt)) → Goes m told left_now first new held held_new q
goes_on m None left left_now first now new held held_now held_new r p q g later takes reads responds = tt
goes_on m (Some input) left left_now None now new held held_now held_new r p q g later takes reads responds = tt
goes_on m (Some input) left left_now (Some f) now new held held_now held_new r p q g later takes reads responds =
    going_on m input left left_now f now new held held_now held_new r p q g later
    (subst (λ o. IfSome o (λ i. TakesOf p q i left_now)) g.cuts.rest takes)
    (subst (λ o. IfSome o (Reads r p q)) g.cuts.rest reads)
    (subst (λ o. IfSome o (λ d. Responds m r (exchange_of d new held_now held_new) (result.Ok tt))) g.answered.stands responds)

-- a line was not answered, or not whole
line_stops : {P : Type 0} (m : Machine (List ℕ) P) (input : List ℕ) (left left_now : Option (List ℕ)) (f : P) (now new : Option P) (held held_now held_new : Option (List ℕ)) (line : List ℕ) (p q : Progress) (status : Status) (limit taken : ℕ)
    → (g : Going m input left (exchange_of f now held held_now) p) → p.taken ≤ q.taken → TakesOf p q (drop p.taken input) left_now → IsNextLine line p q (drop p.taken input)
    → RespondsTo m line (exchange_of (after_all m f g.done) new held_now held_new) (result.Err status) → Ended m status limit taken input (exchange_of f new held held_new)
line_stops m input left left_now f now new held held_now held_new line p q status limit taken g later takes is_next = at status where
  others : List (List ℕ)
  others = lines_of (q.rest ++ drop q.taken input)

  cut : lines_of input ≡ g.done ++ line ∷ others
  cut = (next_line input left left_now p q g.done line g.cuts later takes is_next).lines ∙ append_assoc g.done (line ∷ []) others

  at : (s : Status) → RespondsTo m line (exchange_of (after_all m f g.done) new held_now held_new) (result.Err s) → Ended m s limit taken input (exchange_of f new held held_new)
  at statuses.Ok a = absurd a
  at statuses.Usage a = absurd a
  at statuses.ReadFault a = absurd a
  at statuses.WriteFault a = exchanges.ends_writing m f now new held held_now held_new g.done line others (lines_of input) cut g.answered a
  at statuses.StoreFault a = exchanges.ends_by_store m f now new held held_now held_new g.done line others (lines_of input) cut g.answered a
  at statuses.NoMemory a = record { done = g.done; others = line ∷ others; cut = cut; answered = exchanges.stays m f now new held held_now held_new g.done g.answered a }
  at statuses.TooMuch a = absurd a
  at statuses.BadFile a = absurd a

-- how a run ends where its input and the first data are told
ending : {P : Type 0} (m : Machine (List ℕ) P) (input : List ℕ) (left left_now : Option (List ℕ)) (f : P) (now new : Option P) (held held_now held_new : Option (List ℕ)) (r : Reading) (p q : Progress) (status : Status) (limit taken : ℕ)
    → (g : Going m input left (exchange_of f now held held_now) p) → p.taken ≤ q.taken → p.taken ≤ p.limit → p.limit ≡ limit → q.limit ≡ limit → q.taken ≡ taken → KeepsLimit r q
    → TakesOf p q (drop p.taken input) left_now → Reads r p q (drop p.taken input) → Responds m r (exchange_of (after_all m f g.done) new held_now held_new) (result.Err status)
    → Ended m status limit taken input (exchange_of f new held held_new)
ending m input left left_now f now new held held_now held_new r p q status limit taken g later within is_limit same_limit is_taken keeps takes = at r keeps where
  holds : (lines : List (List ℕ)) → lines ≡ g.done → IsSame (exchange_of (after_all m f g.done) new held_now held_new) → AllAnswered m lines (exchange_of f new held held_new)
  holds lines e same = subst (λ l. AllAnswered m l (exchange_of f new held held_new)) (sym e) (exchanges.stays m f now new held held_now held_new g.done g.answered same)

  at : (x : Reading) → KeepsLimit x q → Reads x p q (drop p.taken input) → Responds m x (exchange_of (after_all m f g.done) new held_now held_new) (result.Err status) → Ended m status limit taken input (exchange_of f new held held_new)
  at (Line bytes) k h a = line_stops m input left left_now f now new held held_now held_new bytes.items p q status limit taken g later takes h.1 a
  at TooLong k h a = line_stops m input left left_now f now new held held_now held_new h.0 p q status limit taken g later takes h.2 (a h.0 h.1)
  at End k h a =
      let e : statuses.Ok ≡ status = cc a.0 in
      let all = all_lines input left p q g.done g.cuts h in
      let read : taken ≡ length input = omega (arith, all.1, later, is_taken, takes.fits, g.cuts.fits, length-drop p.taken input) in
      subst (λ s. Ended m s limit taken input (exchange_of f new held held_new)) e (read, holds (lines_of input) all.0 a.1)
  at Failed k h a =
      let e : statuses.ReadFault ≡ status = cc a.0 in
      subst (λ s. Ended m s limit taken input (exchange_of f new held held_new)) e (holds (whole_lines (take taken input)) (ap (λ n. whole_lines (take n input)) (sym is_taken) ∙ whole_at_failure input left p q g.done g.cuts later h) a.1)
  at Budget k h a =
      let e : statuses.TooMuch ≡ status = cc a.0 in
      let more : limit < length input = omega (arith, k, same_limit, takes.fits, g.cuts.fits, length-drop p.taken input, later) in
      subst (λ s. Ended m s limit taken input (exchange_of f new held held_new)) e (more, holds (whole_lines (take limit input)) (ap (λ n. whole_lines (take n input)) (sym is_limit) ∙ whole_at_budget input left p q g.done g.cuts within h) a.1)

pub ends : {P : Type 0} (m : Machine (List ℕ) P) (told left left_now : Option (List ℕ)) (first now new : Option P) (held held_now held_new : Option (List ℕ)) (r : Reading) (p q : Progress) (status : Status) (limit taken : ℕ)
    → Goes m told left first now held held_now p → p.taken ≤ q.taken → p.taken ≤ p.limit → p.limit ≡ limit → q.limit ≡ limit → q.taken ≡ taken → KeepsLimit r q
    → IfSome left (λ i. TakesOf p q i left_now) → IfSome left (Reads r p q) → IfSome now (λ d. Responds m r (exchange_of d new held_now held_new) (result.Err status))
    → IfSome told (λ i. IfSome first (λ f. Ended m status limit taken i (exchange_of f new held held_new)))
ends m None left left_now first now new held held_now held_new r p q status limit taken g later within is_limit same_limit is_taken keeps takes reads responds = tt
ends m (Some input) left left_now None now new held held_now held_new r p q status limit taken g later within is_limit same_limit is_taken keeps takes reads responds = tt
ends m (Some input) left left_now (Some f) now new held held_now held_new r p q status limit taken g later within is_limit same_limit is_taken keeps takes reads responds =
    ending m input left left_now f now new held held_now held_new r p q status limit taken g later within is_limit same_limit is_taken keeps
    (subst (λ o. IfSome o (λ i. TakesOf p q i left_now)) g.cuts.rest takes)
    (subst (λ o. IfSome o (Reads r p q)) g.cuts.rest reads)
    (subst (λ o. IfSome o (λ d. Responds m r (exchange_of d new held_now held_new) (result.Err status))) g.answered.stands responds)

-- what the source gave, where one more line was read
pub gave_more : (told left left_now : Option (List ℕ)) (p q : Progress) (taken : ℕ) → IfSome told (λ i. Gave p.taken i left) → p.taken ≤ q.taken → q.taken ≡ taken
    → IfSome left (λ i. TakesOf p q i left_now) → IfSome told (λ i. Gave taken i left_now)
gave_more None left left_now p q taken g later is takes = tt
gave_more (Some input) left left_now p q taken g later is takes =
    let t : TakesOf p q (drop p.taken input) left_now = subst (λ o. IfSome o (λ i. TakesOf p q i left_now)) g.1 takes in
    let total : p.taken + (q.taken - p.taken) ≡ taken = omega (arith, later, is) in
    (omega (arith, t.fits, g.0, length-drop p.taken input, later, is), t.left ∙ ap Some (drop-drop (q.taken - p.taken) p.taken input ∙ ap (λ n. drop n input) total))

-- nothing was given yet
pub gave_nothing : (told : Option (List ℕ)) (taken : ℕ) → taken ≡ 0 → IfSome told (λ i. Gave taken i told)
gave_nothing None taken e = tt
gave_nothing (Some input) taken e = (omega (arith, e), ap (λ n. Some (drop n input)) (sym e))

nothing_answered : {P : Type 0} (m : Machine (List ℕ) P) (told : Option (List ℕ)) (first : Option P) (held : Option (List ℕ)) → IfSome told (λ input. IfSome first (λ f. EndedBetween m (lines_of input) (exchange_of f first held held)))
nothing_answered m None first held = tt
nothing_answered m (Some input) None held = tt
nothing_answered m (Some input) (Some f) held = record { done = []; others = lines_of input; cut = refl; answered = exchanges.begins m f held }

-- a run that ends before it reads
pub nothing_done : {P : Type 0} (m : Machine (List ℕ) P) (old : AnswererTold P) (limit : ℕ) (source : SourceTold) (sink : SinkTold)
    → Ran m old old statuses.NoMemory (record { limit = limit; source = source; source_now = source; sink = sink; sink_now = sink })
nothing_done m old limit source sink = record {
  ended = nothing_answered m source.left old.plain sink.held;
  reason = omega arith;
  gave = gave_nothing source.left (source.given - source.given) (omega arith);
  complete = λ _ _ _. complete source.left;
  later = record { given = omega arith; source_faults = omega arith; sink_faults = omega arith };
  store_later = omega arith;
} where
  complete : (told : Option (List ℕ)) → IfSome told (λ input. length input ≤ limit → (statuses.NoMemory ≡ statuses.Ok) ⊎ (statuses.NoMemory ≡ statuses.NoMemory))
  complete None = tt
  complete (Some input) = λ _. inr refl

-- a line that was read keeps the limit
pub kept : (r : Reading) (q : Progress) → IsLine r → KeepsLimit r q → q.taken ≤ q.limit
kept (Line bytes) q line keeps = keeps
kept TooLong q line keeps = keeps
kept End q line keeps = absurd line
kept Failed q line keeps = absurd line
kept Budget q line keeps = absurd line

-- a run by a reader with the run's limit
pub at_limit : {P : Type 0} (m : Machine (List ℕ) P) (old new : AnswererTold P) (status : Status) (run : Run) (limit : ℕ) → limit ≡ run.limit → Ran m old new status (record run { limit = limit }) → Ran m old new status run
at_limit m old new status run limit same ran = subst (λ n. Ran m old new status (record run { limit = n })) same ran
