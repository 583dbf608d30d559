-- What a key leads to, as the machine of keys has it.
use Rattle.std.proofs.Common.{◌≡◌, ◌≢◌, ◌∙◌, inl, inr, ℕ, ℤ, List, length, Option, None, Some, IfSome, refl, sym, ap, subst}
use Rattle.std.specs.Prelude.{Result, Ok, Err, String}
use Rattle.std.specs.declared.alloc.AllocError.{AllocError}
use Rattle.std.specs.declared.alloc.Global.{Global}
use Rattle.cm_outside.specs.Answering.{Answered}
use Rattle.cm_outside.specs.Files.{Files, Saves}
use Rattle.cm_outside.specs.declared.store_fault.StoreFault.{StoreFault}
use Rattle.cm_outside.specs.declared.store_fault.StoreFault.TheVariants.{Failed, NoMemory}
use Rattle.key_run.specs.Typing.{pressed, shown}
use Rattle.facet_slots.specs.Slotted.{Slotted}
use Rattle.replies.specs.declared.answer.Answer.{Answer}
use Rattle.replies.specs.declared.answer.Answer.TheVariants.{Bytes}
use Rattle.script.specs.declared.refusal.LineError.{LineError}
use Rattle.script.specs.declared.refusal.Refusal.{Refusal}
use Rattle.script.specs.Reading.{Gives, ◌>>=◌}
use Rattle.term_keys.specs.declared.key.Key.{Key}
use Rattle.term_keys.specs.declared.key.Key.TheVariants.{Char, Newline, DeleteBack, DeleteForward, Move, Extend, SelectAll, Undo, Redo, Save, Quit}
use Rattle.values.specs.Rules.{Rules}
use Rattle.session.specs.Filing.{saved, with_file}
use Rattle.session.specs.Keyed.{after_command, command_of, files_after_key, key_machine}
use Rattle.session.specs.Outcomes.{Done, done_by}
use Rattle.session.specs.PrivateEditing.{SavedAs, SavedTo, ShownAs}
use Rattle.session.specs.Session.{files_by, left_by}
use Rattle.session.specs.declared.outcome.Next.{Next}
use Rattle.session.specs.declared.outcome.Outcome.{Outcome}
use Rattle.session.specs.declared.outcome.Outcome.TheVariants.{Changed}
use Rattle.session.specs.State.{Held, PlainSession, desk_of, plain_session}
use Rattle.session.proofs.Carrying.{same_files, saved_files}

-- a key other than Save writes no file
no_save : (file : List ℕ) (key : Key) (s : PlainSession) (files : Files) → key ≢ Save → files_after_key file key s files ≡ files
no_save file (Char c) s files other = refl
no_save file Newline s files other = refl
no_save file DeleteBack s files other = refl
no_save file DeleteForward s files other = refl
no_save file (Move m) s files other = refl
no_save file (Extend m) s files other = refl
no_save file SelectAll s files other = refl
no_save file Undo s files other = refl
no_save file Redo s files other = refl
no_save file Save s files other = absurd (other refl)
no_save file Quit s files other = refl

-- a state was put in place
pub changed_shown : (s : PlainSession) (old new : Held) (outcome : Result (Outcome Slotted) LineError) (out : Result Done Refusal) (answer : Answer) (next : Next Slotted) (result : Result (String Global) AllocError)
    → outcome ≡ Ok (Changed answer next) → Gives (done_by s) outcome out → ((said : Answer) → ShownAs ((done_by s (Changed said next)).session) old new result) → ShownAs (left_by s out) old new result
changed_shown s old new outcome out answer next result is gives shows =
    let made : out ≡ Ok (done_by s (Changed answer next)) = subst (λ (o : Result (Outcome Slotted) LineError). Gives (done_by s) o out) is gives in
    subst (λ (o : Result Done Refusal). ShownAs (left_by s o) old new result) (sym made) (shows answer)

-- what a save made of the files
written : (file bytes : List ℕ) (s : PlainSession) (files : Files) → saved s ≡ Ok bytes → files_after_key file Save s files ≡ with_file files file bytes
written file bytes s files is = ap (λ (r : Result (List ℕ) Refusal). files_by files (r >>= λ bs. Ok (Bytes (length bs), with_file files file bs))) is

pub save_written : (file bytes : List ℕ) (s : PlainSession) (told now : Option Files) (result : Result (Unit {0}) StoreFault) → saved s ≡ Ok bytes
    → IfSome told (λ files. Saves result file bytes files now) → IfSome told (λ files. SavedTo (files_after_key file Save s files) files now result)
save_written file bytes s None now result is saves = tt
save_written file bytes s (Some files) None (Ok done) is saves = absurd saves
save_written file bytes s (Some files) None (Err Failed) is saves = absurd saves
save_written file bytes s (Some files) None (Err NoMemory) is saves = absurd saves
save_written file bytes s (Some files) (Some new) (Ok done) is saves = ap (λ (fs : Files). Some fs) (saved_files file bytes files new saves ∙ sym (written file bytes s files is))
save_written file bytes s (Some files) (Some new) (Err Failed) is saves = elim saves [
  | inl same ↦ inl (ap (λ (fs : Files). Some fs) (same_files files new same))
  | inr saved ↦ inr (ap (λ (fs : Files). Some fs) (saved_files file bytes files new saved ∙ sym (written file bytes s files is)))
]
save_written file bytes s (Some files) (Some new) (Err NoMemory) is saves = ap (λ (fs : Files). Some fs) (same_files files new saves)

-- how a key was answered, by what stands before and after it
abbrev pub Answers : Rules → (file : List ℕ) → Key → ℤ → (old new : Held) → (told now : Option Files) → Result (String Global) StoreFault → Type 0
Answers rules file key time old new told now result =
    IfSome (desk_of (plain_session old) told) (λ d. Answered (shown (key_machine rules file)) (pressed key time) d (desk_of (plain_session new) now) result)

-- a command was done
pub command_pressed : (rules : Rules) (file : List ℕ) (key : Key) (time : ℤ) (old new : Held) (told : Option Files) (text : String Global) → key ≢ Save
    → ShownAs (after_command rules (plain_session old) (command_of key time)) old new (Ok text) → Answers rules file key time old new told told (Ok text)
command_pressed rules file key time old new None text other is = tt
command_pressed rules file key time old new (Some files) text other is = (
  is.0,
  ap (λ (p : PlainSession). Some (record { session = p; files = files })) is.1
      ∙ ap (λ (fs : Files). Some (record { session = after_command rules (plain_session old) (command_of key time); files = fs })) (sym (no_save file key (plain_session old) files other)),
)

-- out of memory
pub nothing_pressed : (rules : Rules) (file : List ℕ) (key : Key) (time : ℤ) (old new : Held) (told : Option Files) → new ≡ old → Answers rules file key time old new told told (Err NoMemory)
nothing_pressed rules file key time old new None same = tt
nothing_pressed rules file key time old new (Some files) same = ap (λ (h : Held). desk_of (plain_session h) (Some files)) same

-- Save
pub save_pressed : (rules : Rules) (file : List ℕ) (time : ℤ) (held : Held) (told now : Option Files) (result : Result (String Global) StoreFault)
    → IfSome told (λ files. SavedAs (plain_session held) (files_after_key file Save (plain_session held) files) files now result) → Answers rules file Save time held held told now result
save_pressed rules file time held None now result is = tt
save_pressed rules file time held (Some files) now (Ok text) is = (is.1, ap (desk_of (plain_session held)) is.0)
save_pressed rules file time held (Some files) now (Err Failed) is = elim is.0 [ inl same ↦ inl (ap (desk_of (plain_session held)) same) | inr asked ↦ inr (ap (desk_of (plain_session held)) asked) ]
save_pressed rules file time held (Some files) now (Err NoMemory) is = ap (desk_of (plain_session held)) is.0
