-- Answers one after the other: what they leave after one more, and where they end.
use Rattle.std.proofs.Common.{◌≡◌, ℕ, List, [], ◌∷◌, ◌++◌, Option, Some, None, IfSome, refl, sym, ap, subst, ◌∙◌, append_assoc}
use Rattle.std.proofs.lemmas.List.{append-nil}
use Rattle.cm_outside.specs.Answering.{Machine, Exchange, exchange_of, after_all, replies, AllAnswered, EndedByStore, EndedWriting}
use Rattle.cm_outside.specs.Responding.{RepliedTo, FailedOn, HaltedOn, IsSame}
use Rattle.cm_outside.specs.Sink.{Appends, AppendsPrefix}

-- the replies to two lists
pub replies_append : {I P : Type 0} (m : Machine I P) (p : P) (xs ys : List I) → replies m p (xs ++ ys) ≡ replies m p xs ++ replies m (after_all m p xs) ys
replies_append m p [] ys = refl
replies_append m p (x ∷ xs) ys =
    ap (λ t. m.reply x p ++ t) (replies_append m (m.after x p) xs ys) ∙ sym (append_assoc (m.reply x p) (replies m (m.after x p) xs) (replies m (after_all m (m.after x p) xs) ys))

-- the data after two lists
pub after_append : {I P : Type 0} (m : Machine I P) (p : P) (xs ys : List I) → after_all m p (xs ++ ys) ≡ after_all m (after_all m p xs) ys
after_append m p [] ys = refl
after_append m p (x ∷ xs) ys = after_append m (m.after x p) xs ys

-- nothing was answered yet
pub begins : {I P : Type 0} (m : Machine I P) (first : P) (held : Option (List ℕ)) → AllAnswered m [] (exchange_of first (Some first) held held)
begins m first held = record { wrote = nothing held; stands = refl } where
  nothing : (o : Option (List ℕ)) → IfSome o (λ before. Appends before o [])
  nothing None = tt
  nothing (Some before) = ap Some (sym (append-nil before))

-- what was answered stays answered where nothing more was
pub stays : {I P : Type 0} (m : Machine I P) (first : P) (now new : Option P) (held held_now held_new : Option (List ℕ)) (done : List I)
    → AllAnswered m done (exchange_of first now held held_now) → IsSame (exchange_of (after_all m first done) new held_now held_new)
    → AllAnswered m done (exchange_of first new held held_new)
stays m first now new held held_now held_new done answered same = record {
  wrote = subst (λ o. IfSome held (λ before. Appends before o (replies m first done))) (sym same.0) answered.wrote;
  stands = same.1;
}

-- one more was answered
pub one_more : {I P : Type 0} (m : Machine I P) (first : P) (now new : Option P) (held held_now held_new : Option (List ℕ)) (done : List I) (x : I)
    → AllAnswered m done (exchange_of first now held held_now) → RepliedTo m x (exchange_of (after_all m first done) new held_now held_new)
    → AllAnswered m (done ++ x ∷ []) (exchange_of first new held held_new)
one_more m first now new held held_now held_new done x answered replied = record {
  wrote = wrote held answered.wrote;
  stands = replied.stands ∙ ap Some (sym (after_append m first done (x ∷ [])));
} where
  text : List ℕ
  text = m.reply x (after_all m first done)

  all : replies m first done ++ text ≡ replies m first (done ++ x ∷ [])
  all = ap (λ t. replies m first done ++ t) (sym (append-nil text)) ∙ sym (replies_append m first done (x ∷ []))

  wrote : (o : Option (List ℕ)) → IfSome o (λ before. Appends before held_now (replies m first done)) → IfSome o (λ before. Appends before held_new (replies m first (done ++ x ∷ [])))
  wrote None h = tt
  wrote (Some before) h =
      let one : held_new ≡ Some ((before ++ replies m first done) ++ text) = subst (λ o. IfSome o (λ b. Appends b held_new text)) h replied.wrote in
      one ∙ ap Some (append_assoc before (replies m first done) text ∙ ap (λ t. before ++ t) all)

-- a fault of the store broke off the answer to the next one
pub ends_by_store : {I P : Type 0} (m : Machine I P) (first : P) (now new : Option P) (held held_now held_new : Option (List ℕ)) (done : List I) (x : I) (others inputs : List I)
    → inputs ≡ done ++ x ∷ others → AllAnswered m done (exchange_of first now held held_now) → HaltedOn m x (exchange_of (after_all m first done) new held_now held_new)
    → EndedByStore m inputs (exchange_of first new held held_new)
ends_by_store m first now new held held_now held_new done x others inputs cut answered halted = record {
  done = done;
  next = x;
  others = others;
  cut = cut;
  wrote = subst (λ o. IfSome held (λ before. Appends before o (replies m first done))) (sym halted.0) answered.wrote;
  stands = halted.1;
}

-- the write of the reply to the next one was broken off
pub ends_writing : {I P : Type 0} (m : Machine I P) (first : P) (now new : Option P) (held held_now held_new : Option (List ℕ)) (done : List I) (x : I) (others inputs : List I)
    → inputs ≡ done ++ x ∷ others → AllAnswered m done (exchange_of first now held held_now) → FailedOn m x (exchange_of (after_all m first done) new held_now held_new)
    → EndedWriting m inputs (exchange_of first new held held_new)
ends_writing m first now new held held_now held_new done x others inputs cut answered failed = record {
  done = done;
  next = x;
  others = others;
  cut = cut;
  wrote = wrote held answered.wrote;
  stands = failed.stands;
} where
  text : List ℕ
  text = m.reply x (after_all m first done)

  wrote : (o : Option (List ℕ)) → IfSome o (λ before. Appends before held_now (replies m first done)) → IfSome o (λ before. AppendsPrefix (before ++ replies m first done) held_new text)
  wrote None h = tt
  wrote (Some before) h = subst (λ o. IfSome o (λ b. AppendsPrefix b held_new text)) h failed.wrote
