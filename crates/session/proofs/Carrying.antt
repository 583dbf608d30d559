-- What a line that was carried out answers as, and what the files of a store are as functions.
use Rattle.std.proofs.Common.{◌≡◌, ◌<◌, ◌∙◌, ◌⊎◌, inl, inr, ℕ, List, length, Bool, true, false, nat_lt, Option, None, Some, IfSome, refl, sym, ap, subst, bytes_eq}
use Rattle.std.proofs.lemmas.Bool.{lt-ltb}
use Rattle.std.proofs.Math.Path.{fun_ext}
use Rattle.std.proofs.lemmas.Slice.Eq.{bytes_eq-Decides}
use Rattle.std.specs.Prelude.{Result, Ok, Err, IfOk, String, string_bytes, if◌then◌else◌}
use Rattle.std.specs.declared.alloc.AllocError.{AllocError}
use Rattle.std.specs.Option.{IsSomeAnd}
use Rattle.std.specs.declared.alloc.Global.{Global}
use Rattle.cm_outside.specs.Answering.{Answered, IsHalted}
use Rattle.cm_outside.specs.Files.{Files, AreSame, IsSaved, Saves}
use Rattle.cm_outside.specs.Lines.{max_line}
use Rattle.cm_outside.specs.declared.store_fault.StoreFault.{StoreFault}
use Rattle.cm_outside.specs.declared.store_fault.StoreFault.TheVariants.{Failed, NoMemory}
use Rattle.replies.specs.Replies.{reply_text}
use Rattle.replies.specs.declared.answer.Answer.{Answer}
use Rattle.replies.specs.declared.answer.Answer.TheVariants.{Bytes}
use Rattle.replies.specs.declared.answer.Reply.TheVariants as replies
use Rattle.requests.specs.Requests.{request_named}
use Rattle.requests.specs.declared.request.Request.{Request}
use Rattle.requests.specs.declared.request.Request.TheVariants as requests
use Rattle.requests.specs.declared.open_request.OpenRequest.{OpenRequest}
use Rattle.names.specs.Names.{all_found, as_node}
use Rattle.script.specs.Lines.{line_command}
use Rattle.script.specs.Reading.{Fails, ◌>>=◌}
use Rattle.script.specs.declared.refusal.LineError.{LineError}
use Rattle.script.specs.declared.refusal.LineError.TheVariants as errors
use Rattle.script.specs.declared.refusal.Refusal.{Refusal}
use Rattle.script.specs.declared.refusal.Refusal.TheVariants.{LineTooLong}
use Rattle.values.specs.Rules.{Rules}
use Rattle.session.specs.Filing.{opened, saved, with_file}
use Rattle.session.specs.Outcomes.{Done, answered}
use Rattle.session.specs.PrivateSession.{Carried, Carries, DoneWith, IsRefusalText, IsTold, IsWritten, is_inner}
use Rattle.session.specs.Session.{act, asked, files_after, files_by, files_left, left_by, reply_of}
use Rattle.session.specs.State.{Held, PlainSession, desk_of, plain_session}
use Rattle.session.proofs.Settling.{refused_done}
use Rattle.session.specs.Transcript.{machine, outcome, files_of, after, reply}

-- Files that are the same at each name are the same.
pub same_files : (old new : Files) → AreSame old new → new ≡ old
same_files old new same = fun_ext same

-- A file that was saved is the one with these bytes, and the others are as before.
saved_at : (name bytes : List ℕ) (old new : Files) → IsSaved name bytes old new → (other : List ℕ) → (t : Bool) → bytes_eq other name ≡ t → new other ≡ (if t then Some bytes else old other)
saved_at name bytes old new is other true e = ap new ((bytes_eq-Decides other name).0 e) ∙ is.file
saved_at name bytes old new is other false e = is.others other (λ same. differ (sym e ∙ (bytes_eq-Decides other name).1 same))
  where
    differ : false ≡ true → ⊥
    differ d = cc

pub saved_files : (name bytes : List ℕ) (old new : Files) → IsSaved name bytes old new → new ≡ with_file old name bytes
saved_files name bytes old new is = fun_ext (λ (other : List ℕ). saved_at name bytes old new is other (bytes_eq other name) refl)

halted : (rules : Rules) (line : List ℕ) (s : PlainSession) (files next : Files) (now : Option Files) → files_left (line_command request_named line) s files ≡ next
    → (now ≡ Some files) ⊎ (now ≡ Some next) → IsHalted (machine rules) line (record { session = s; files = files }) (desk_of s now)
unfolding files_of
halted rules line s files next now e (inl same) = inl (ap (λ (fs : Option Files). desk_of s fs) same)
halted rules line s files next now e (inr same) = inr (ap (λ (fs : Option Files). desk_of s fs) (same ∙ ap (λ (fs : Files). Some fs) (sym e)))

-- A line that asks for a command, and was carried out as that, was answered as the machine answers it.
pub carried_answered : (rules : Rules) (line : List ℕ) (request : Request) (old new : Held) (told now : Option Files) (result : Result (String Global) StoreFault)
    → line_command request_named line ≡ Ok request → Carries rules request old new told now result
    → IfSome (desk_of (plain_session old) told) (λ d. Answered (machine rules) line d (desk_of (plain_session new) now) result)
unfolding outcome files_of after reply
carried_answered rules line request old new None now result e c = tt
carried_answered rules line request old new (Some files) now (Ok text) e c =
    let s : PlainSession = plain_session old in
    let did : (line_command request_named line >>= λ r. act rules r s files) ≡ act rules request s files = ap (λ (x : Result Request Refusal). x >>= λ r. act rules r s files) e in
    let left : files_left (line_command request_named line) s files ≡ files_after request s files = ap (λ (x : Result Request Refusal). files_left x s files) e in (
      c.0.0 ∙ ap (λ (out : Result Done Refusal). reply_text (reply_of out)) (sym did),
      ap (λ (fs : Option Files). desk_of (plain_session new) fs) (c.1 ∙ ap (λ (fs : Files). Some fs) (sym left))
          ∙ ap (λ (p : PlainSession). Some (record { session = p; files = files_left (line_command request_named line) s files })) (c.0.1 ∙ ap (left_by s) (sym did)),
    )
carried_answered rules line request old new (Some files) now (Err Failed) e c =
    subst (λ (h : Held). IsHalted (machine rules) line (record { session = plain_session old; files = files }) (desk_of (plain_session h) now)) (sym c.0)
    (halted rules line (plain_session old) files (files_after request (plain_session old) files) now (ap (λ (x : Result Request Refusal). files_left x (plain_session old) files) e) c.1)
carried_answered rules line request old new (Some files) now (Err NoMemory) e c =
    ap (λ (h : Held). desk_of (plain_session h) now) c.0 ∙ ap (λ (fs : Option Files). desk_of (plain_session old) fs) c.1

-- A line that asks for no command, and is answered by its refusal, was answered as the machine answers it.
pub refused_answered : (rules : Rules) (line : List ℕ) (refusal : Refusal) (s : PlainSession) (told : Option Files) (text : String Global)
    → line_command request_named line ≡ Err refusal → string_bytes text ≡ reply_text (reply_of (Err refusal))
    → IfSome (desk_of s told) (λ d. Answered (machine rules) line d (desk_of s told) (Ok text))
unfolding outcome files_of after reply
refused_answered rules line refusal s None text e c = tt
refused_answered rules line refusal s (Some files) text e c =
    let did : (line_command request_named line >>= λ r. act rules r s files) ≡ Err refusal = ap (λ (x : Result Request Refusal). x >>= λ r. act rules r s files) e in
    let left : files_left (line_command request_named line) s files ≡ files = ap (λ (x : Result Request Refusal). files_left x s files) e in (
      c ∙ ap (λ (out : Result Done Refusal). reply_text (reply_of out)) (sym did),
      ap (λ (fs : Files). Some (record { session = s; files = fs })) (sym left)
          ∙ ap (λ (p : PlainSession). Some (record { session = p; files = files_left (line_command request_named line) s files })) (ap (left_by s) (sym did)),
    )

-- Out of memory leaves the desk.
pub nothing_answered : (rules : Rules) (line : List ℕ) (s : PlainSession) (told : Option Files)
    → IfSome (desk_of s told) (λ d. Answered (machine rules) line d (desk_of s told) (Err NoMemory))
nothing_answered rules line s None = tt
nothing_answered rules line s (Some files) = refl

-- A line of more bytes than a line may have asks for no command.
pub too_long : (line : List ℕ) → max_line < length line → line_command request_named line ≡ Err LineTooLong
unfolding line_command
too_long line long = let is : nat_lt max_line (length line) ≡ true = lt-ltb max_line (length line) long in rw (is) refl

-- files that are each as they were are told as before
pub kept_files : (old : Files) (now : Option Files) → IsSomeAnd now (AreSame old) → now ≡ Some old
kept_files old None is = absurd is
kept_files old (Some new) is = ap (λ (fs : Files). Some fs) (same_files old new is)

saved_told : (name bytes : List ℕ) (old : Files) (now : Option Files) → IsSomeAnd now (IsSaved name bytes old) → now ≡ Some (with_file old name bytes)
saved_told name bytes old None is = absurd is
saved_told name bytes old (Some new) is = ap (λ (fs : Files). Some fs) (saved_files name bytes old new is)

either_told : (name bytes : List ℕ) (old : Files) (now : Option Files) → IsSomeAnd now (λ new. AreSame old new ⊎ IsSaved name bytes old new)
    → (now ≡ Some old) ⊎ (now ≡ Some (with_file old name bytes))
either_told name bytes old None is = absurd is
either_told name bytes old (Some new) (inl same) = inl (ap (λ (fs : Files). Some fs) (same_files old new same))
either_told name bytes old (Some new) (inr is) = inr (ap (λ (fs : Files). Some fs) (saved_files name bytes old new is))

-- What a save of the store leaves, with the reply that was made before.
pub saved_written : (name bytes reply : List ℕ) (old : Files) (now : Option Files) (text : String Global) → Saves (Ok tt) name bytes old now → string_bytes text ≡ reply
    → IsWritten (with_file old name bytes) old reply now (Ok text)
saved_written name bytes reply old now text is said = (said, saved_told name bytes old now is)

pub failed_written : (name bytes reply : List ℕ) (old : Files) (now : Option Files) (fault : StoreFault) → Saves (Err fault) name bytes old now
    → IsWritten (with_file old name bytes) old reply now (Err fault)
failed_written name bytes reply old now Failed is = either_told name bytes old now is
failed_written name bytes reply old now NoMemory is = kept_files old now is

-- A line that was carried out without the store leaves the files.
pub carried_told : (out : Result Done Refusal) (files : Files) (old new : Held) (now : Option Files) (text : Result (String Global) AllocError) (result : Result (String Global) StoreFault)
    → DoneWith out old new text → IsTold text result → now ≡ Some files → Carried out files files old new now result
carried_told out files old new now (Ok text) result done told same =
    subst (λ (r : Result (String Global) StoreFault). Carried out files files old new now r) (sym told) (done, same)
carried_told out files old new now (Err error) result done told same =
    subst (λ (r : Result (String Global) StoreFault). Carried out files files old new now r) (sym told) (done, same)

keeps_files : (request : Request) (s : PlainSession) (files : Files) → is_inner request ≡ true → files_after request s files ≡ files
keeps_files (requests.Declare d) s files is = refl
keeps_files (requests.Start r) s files is = refl
keeps_files (requests.Open r) s files is = refl
keeps_files (requests.Save name) s files is = absurd (differ is)
  where
    differ : false ≡ true → ⊥
    differ d = cc
keeps_files (requests.Update specs) s files is = refl
keeps_files (requests.Do command) s files is = refl
keeps_files requests.Text s files is = refl
keeps_files requests.Selection s files is = refl
keeps_files (requests.Get name) s files is = refl
keeps_files (requests.Map r) s files is = refl
keeps_files (requests.View r) s files is = refl
keeps_files requests.Screen s files is = refl
keeps_files requests.Summary s files is = refl

pub carried_alone : (rules : Rules) (request : Request) (old new : Held) (told : Option Files) (text : Result (String Global) AllocError) (result : Result (String Global) StoreFault)
    → is_inner request ≡ true → ((files : Files) → DoneWith (act rules request (plain_session old) files) old new text) → IsTold text result
    → Carries rules request old new told told result
carried_alone rules request old new None text result is done made = tt
carried_alone rules request old new (Some files) text result is done made =
    subst (λ (next : Files). Carried (act rules request (plain_session old) files) next files old new (Some files) result) (sym (keeps_files request (plain_session old) files is))
    (carried_told (act rules request (plain_session old) files) files old new (Some files) text result (done files) made refl)

-- A file is opened over the nodes of its extensions, or the first name that is none is refused.
pub opened_over : (rules : Rules) (request : OpenRequest) (base : List ℕ) (old new : Held) (told now : Option Files) (result : Result (String Global) StoreFault)
    → all_found as_node old.world.names request.extensions ≡ Ok base
    → IfSome told (λ files. Carried (opened rules (plain_session old) request.file base (files request.file)) files files old new now result)
    → Carries rules (requests.Open request) old new told now result
opened_over rules request base old new None now result found carried = tt
opened_over rules request base old new (Some files) now result found carried =
    subst (λ (out : Result Done Refusal). Carried out files files old new now result)
    (sym (ap (λ (ids : Result (List ℕ) Refusal). ids >>= λ base. opened rules (plain_session old) request.file base (files request.file)) found)) carried

pub open_fails : (rules : Rules) (request : OpenRequest) (held : Held) (files : Files) (error : LineError) → Fails error (all_found as_node held.world.names request.extensions)
    → Fails error (act rules (requests.Open request) (plain_session held) files)
open_fails rules request held files errors.NoMemory fails = tt
open_fails rules request held files (errors.Refused refusal) fails =
    ap (λ (ids : Result (List ℕ) Refusal). ids >>= λ base. opened rules (plain_session held) request.file base (files request.file)) fails

-- What a save does, and what it is refused by.
pub save_fails : (rules : Rules) (name : List ℕ) (held : Held) (files : Files) (error : LineError) → Fails error (saved (plain_session held))
    → Fails error (act rules (requests.Save name) (plain_session held) files)
save_fails rules name held files errors.NoMemory fails = tt
save_fails rules name held files (errors.Refused refusal) fails =
    let put : List ℕ → Result (Answer × Files) Refusal = λ b. Ok (Bytes (length b), with_file files name b) in
    ap (λ (bytes : Result (List ℕ) Refusal). asked (plain_session held) (bytes >>= put >>= λ s. Ok s.0)) fails

refused_keeps : (name : List ℕ) (s : PlainSession) (files : Files) (refusal : Refusal) → saved s ≡ Err refusal → files_after (requests.Save name) s files ≡ files
refused_keeps name s files refusal fails =
    let put : List ℕ → Result (Answer × Files) Refusal = λ b. Ok (Bytes (length b), with_file files name b) in
    ap (λ (bytes : Result (List ℕ) Refusal). files_by files (bytes >>= put)) fails

pub save_refused : (rules : Rules) (name : List ℕ) (held : Held) (told : Option Files) (error : LineError) (text : Result (String Global) AllocError) (result : Result (String Global) StoreFault)
    → Fails error (saved (plain_session held)) → IfOk text (λ t. IsRefusalText error (string_bytes t)) → IsTold text result
    → Carries rules (requests.Save name) held held told told result
save_refused rules name held None error text result fails is made = tt
save_refused rules name held (Some files) errors.NoMemory (Ok text) result fails is made = absurd is
save_refused rules name held (Some files) errors.NoMemory (Err error) result fails is made =
    subst (λ (r : Result (String Global) StoreFault). Carried (act rules (requests.Save name) (plain_session held) files) (files_after (requests.Save name) (plain_session held) files) files held held (Some files) r) (sym made) (refl, refl)
save_refused rules name held (Some files) (errors.Refused refusal) text result fails is made =
    subst (λ (next : Files). Carried (act rules (requests.Save name) (plain_session held) files) next files held held (Some files) result) (sym (refused_keeps name (plain_session held) files refusal fails))
    (carried_told (act rules (requests.Save name) (plain_session held) files) files held held (Some files) text result
    (refused_done (act rules (requests.Save name) (plain_session held) files) (errors.Refused refusal) held text (save_fails rules name held files (errors.Refused refusal) fails) is) made refl)

written_carried : (out : Result Done Refusal) (next files : Files) (held : Held) (answer : Answer) (now : Option Files) (result : Result (String Global) StoreFault)
    → out ≡ Ok (answered (plain_session held) answer) → IsWritten next files (reply_text (replies.Ok answer)) now result → Carried out next files held held now result
written_carried out next files held answer now (Ok text) did is =
    ((is.0 ∙ ap (λ (o : Result Done Refusal). reply_text (reply_of o)) (sym did), ap (left_by (plain_session held)) (sym did)), is.1)
written_carried out next files held answer now (Err Failed) did is = (refl, is)
written_carried out next files held answer now (Err NoMemory) did is = (refl, is)

pub save_carried : (rules : Rules) (name bytes : List ℕ) (held : Held) (told now : Option Files) (result : Result (String Global) StoreFault) → saved (plain_session held) ≡ Ok bytes
    → IfSome told (λ files. IsWritten (with_file files name bytes) files (reply_text (replies.Ok (Bytes (length bytes)))) now result)
    → Carries rules (requests.Save name) held held told now result
save_carried rules name bytes held None now result found is = tt
save_carried rules name bytes held (Some files) now result found is =
    let s : PlainSession = plain_session held in
    let put : List ℕ → Result (Answer × Files) Refusal = λ b. Ok (Bytes (length b), with_file files name b) in
    let after : files_after (requests.Save name) s files ≡ with_file files name bytes =
    ap (λ (b : Result (List ℕ) Refusal). files_by files (b >>= put)) found in
    let did : act rules (requests.Save name) s files ≡ Ok (answered s (Bytes (length bytes))) =
    ap (λ (b : Result (List ℕ) Refusal). asked s (b >>= put >>= λ d. Ok d.0)) found in
    subst (λ (next : Files). Carried (act rules (requests.Save name) s files) next files held held now result) (sym after)
    (written_carried (act rules (requests.Save name) s files) (with_file files name bytes) files held (Bytes (length bytes)) now result did is)

pub failed_told : (name bytes reply : List ℕ) (told now : Option Files) (fault : StoreFault) → IfSome told (λ fs. Saves (Err fault) name bytes fs now)
    → IfSome told (λ fs. IsWritten (with_file fs name bytes) fs reply now (Err fault))
failed_told name bytes reply None now fault is = tt
failed_told name bytes reply (Some files) now fault is = failed_written name bytes reply files now fault is

pub written_told : (name bytes reply : List ℕ) (told now : Option Files) (text : String Global) → IfSome told (λ fs. Saves (Ok tt) name bytes fs now) → string_bytes text ≡ reply
    → IfSome told (λ fs. IsWritten (with_file fs name bytes) fs reply now (Ok text))
written_told name bytes reply None now text is said = tt
written_told name bytes reply (Some files) now text is said = saved_written name bytes reply files now text is said

-- a line that was made without the store is handed on
pub told_reply : (want : List ℕ) (text : Result (String Global) AllocError) (result : Result (String Global) StoreFault) (reply : String Global) → IfOk text (λ t. string_bytes t ≡ want)
    → IsTold text result → result ≡ Ok reply → string_bytes reply ≡ want
told_reply want (Ok text) result reply is made was = cc
told_reply want (Err error) result reply is made was = cc

pub never_failed : (text : Result (String Global) AllocError) (result : Result (String Global) StoreFault) → IsTold text result → result ≡ Err Failed → ⊥
never_failed (Ok text) result made was = cc
never_failed (Err error) result made was = cc

-- a request that is neither `open` nor `save` needs no store
pub inner_of : (request : Request) → ((r : OpenRequest) → request ≡ requests.Open r → ⊥) → ((name : List ℕ) → request ≡ requests.Save name → ⊥) → is_inner request ≡ true
inner_of (requests.Declare d) not_open not_save = refl
inner_of (requests.Start r) not_open not_save = refl
inner_of (requests.Open r) not_open not_save = absurd (not_open r refl)
inner_of (requests.Save name) not_open not_save = absurd (not_save name refl)
inner_of (requests.Update specs) not_open not_save = refl
inner_of (requests.Do command) not_open not_save = refl
inner_of requests.Text not_open not_save = refl
inner_of requests.Selection not_open not_save = refl
inner_of (requests.Get name) not_open not_save = refl
inner_of (requests.Map r) not_open not_save = refl
inner_of (requests.View r) not_open not_save = refl
inner_of requests.Screen not_open not_save = refl
inner_of requests.Summary not_open not_save = refl

-- A line that asks for no command is answered by its refusal, or out of memory.
pub error_answered : (rules : Rules) (line : List ℕ) (error : LineError) (s : PlainSession) (told : Option Files) (text : Result (String Global) AllocError) (result : Result (String Global) StoreFault)
    → Fails error (line_command request_named line) → IfOk text (λ t. IsRefusalText error (string_bytes t)) → IsTold text result
    → IfSome (desk_of s told) (λ d. Answered (machine rules) line d (desk_of s told) result)
error_answered rules line errors.NoMemory s told (Ok text) result fails is made = absurd is
error_answered rules line (errors.Refused refusal) s told (Ok text) result fails is made =
    subst (λ (r : Result (String Global) StoreFault). IfSome (desk_of s told) (λ d. Answered (machine rules) line d (desk_of s told) r)) (sym made)
    (refused_answered rules line refusal s told text fails is)
error_answered rules line error s told (Err none) result fails is made =
    subst (λ (r : Result (String Global) StoreFault). IfSome (desk_of s told) (λ d. Answered (machine rules) line d (desk_of s told) r)) (sym made)
    (nothing_answered rules line s told)

-- A line of more bytes than a line may have is answered by its refusal.
pub long_answered : (rules : Rules) (s : PlainSession) (told : Option Files) (text : Result (String Global) AllocError) → IfOk text (λ t. string_bytes t ≡ reply_text (replies.No LineTooLong))
    → IfSome (desk_of s told) (λ d. IfOk text (λ t. (line : List ℕ) → max_line < length line → (string_bytes t ≡ reply rules line d) × (desk_of s told ≡ Some (after rules line d))))
long_answered rules s None text is = tt
long_answered rules s (Some files) (Err error) is = tt
long_answered rules s (Some files) (Ok text) is = λ line long. refused_answered rules line LineTooLong s (Some files) text (too_long line long) is
