-- The answers to a workload's lines, one after the other, and what they leave.
use Rattle.std.proofs.Common.{◌≡◌, ℕ, ◌⊎◌, inl, inr, List, [], ◌∷◌, ◌++◌, Option, Some, None, IfSome, String, string_bytes, refl, sym, ap, subst, ◌∙◌, append_assoc, arith}
use Rattle.std.specs.declared.alloc.Global.{Global}
use Rattle.std.specs.declared.result.Result.TheVariants as result
use Rattle.cm_outside.specs.Answering.{Machine, AnswererTold, exchange_of, after_all}
use Rattle.cm_outside.specs.Sink.{SinkTold}
use Rattle.cm_outside.specs.declared.status.Status.{Status}
use Rattle.cm_outside.specs.declared.status.Status.TheVariants.{Ok, Usage, ReadFault, WriteFault, StoreFault, NoMemory, TooMuch, BadFile}
use Rattle.cm_outside.proofs.Exchanges.{after_append}
use Rattle.workload.specs.MadeLines.{made_lines}
use Rattle.made_run.specs.Run.{IsDueTo, Leaves, Ran, last_reply}
use Rattle.made_run.specs.Replying.{RespondsBy}

-- Some first inputs were answered, others are left, and the text is the last reply so far.
pub record Going {I P : Type 0} (m : Machine I P) (inputs left : List I) (first : P) (now : Option P) (text : List ℕ) : Type 0 where
  pub done : List I
  pub cut : inputs ≡ done ++ left
  pub stands : now ≡ Some (after_all m first done)
  pub text_is : text ≡ last_reply m first done

-- the same where the first data are told
abbrev pub Goes : {I P : Type 0} → Machine I P → (inputs left : List I) → (first now : Option P) → List ℕ → Type 0
Goes m inputs left first now text = IfSome first (λ f. Going m inputs left f now text)

-- the last reply after one input more
last_of_more : {I P : Type 0} (m : Machine I P) (p : P) (xs : List I) (x : I) → last_reply m p (xs ++ x ∷ []) ≡ m.reply x (after_all m p xs)
last_of_more m p [] x = refl
last_of_more m p (y ∷ []) x = refl
last_of_more m p (y ∷ z ∷ xs) x = last_of_more m (m.after y p) (z ∷ xs) x

pub goes_on : {I P : Type 0} (m : Machine I P) (inputs left : List I) (x : I) (others : List I) (first now new : Option P) (text : List ℕ) (reply : String Global)
    → Goes m inputs left first now text → left ≡ x ∷ others → IfSome now (λ p. RespondsBy m x p new (result.Ok reply)) → Goes m inputs others first new (string_bytes reply)
goes_on m inputs left x others None now new text reply going next responds = tt
goes_on m inputs left x others (Some f) now new text reply going next responds =
    let replied : RespondsBy m x (after_all m f going.done) new (result.Ok reply) = subst (λ o. IfSome o (λ p. RespondsBy m x p new (result.Ok reply))) going.stands responds in
    record {
      done = going.done ++ x ∷ [];
      cut = going.cut ∙ ap (λ l. going.done ++ l) next ∙ sym (append_assoc going.done (x ∷ []) others);
      stands = replied.1 ∙ ap Some (sym (after_append m f going.done (x ∷ [])));
      text_is = replied.0 ∙ sym (last_of_more m f going.done x);
    }

-- where neither count rose, no other status is left
pub completes : (status : Status) (sink store : Type 0) → IsDueTo status sink store → ¬ sink → ¬ store → (status ≡ Ok) ⊎ (status ≡ NoMemory)
completes Ok sink store due no_sink no_store = inl refl
completes NoMemory sink store due no_sink no_store = inr refl
completes WriteFault sink store due no_sink no_store = absurd (no_sink due)
completes StoreFault sink store due no_sink no_store = absurd (no_store due)
completes Usage sink store due no_sink no_store = absurd due
completes ReadFault sink store due no_sink no_store = absurd due
completes TooMuch sink store due no_sink no_store = absurd due
completes BadFile sink store due no_sink no_store = absurd due

leaves_nothing : {P : Type 0} (m : Machine (List ℕ) P) (inputs : List (List ℕ)) (first : Option P) (held : Option (List ℕ))
    → IfSome first (λ f. Leaves m NoMemory inputs (exchange_of f first held held))
leaves_nothing m inputs None held = tt
leaves_nothing m inputs (Some f) held = (refl, record { done = []; others = inputs; cut = refl; stands = refl })

-- a run that ends before its first line
pub nothing_done : {P : Type 0} (m : Machine (List ℕ) P) (count : ℕ) (old : AnswererTold P) (sink : SinkTold) → Ran m count old old NoMemory sink sink
nothing_done m count old sink = record {
  leaves = leaves_nothing m (made_lines count) old.plain sink.held;
  reason = tt;
  complete = λ no_sink no_store. inr refl;
  sink_later = omega arith;
  store_later = omega arith;
}
