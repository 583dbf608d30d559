-- The request of a transaction's line.
use Rattle.std.proofs.Common.{◌≡◌, ℕ, ◌^◌, ◌<◌, List, [], ◌∷◌, Some, None, length, true, false, nat_lt, refl, sym, ap, ◌∙◌, arith, codes}
use Rattle.std.proofs.lemmas.Bool.{le-ltb, lt-ltb}
use Rattle.std.specs.Prelude.{Result, Ok, Err, IfOk}
use Rattle.std.specs.declared.alloc.AllocError.{AllocError}
use Rattle.std.specs.Str.{chars}
use Rattle.serde_json.specs.Data.{Data}
use Rattle.script.specs.Reading.{members_at, number_member, required, number_at, text_at, text_member, only, list_of, items_at, each}
use Rattle.script.specs.Values.{value_at}
use Rattle.script.specs.Command.{change_of, given_selection_of, main_of, annotation_of, notes_of, flags_of}
use Rattle.script.specs.declared.refusal.Refusal.{Refusal}
use Rattle.change_set.specs.declared.change.Change.{Change}
use Rattle.change_set.specs.declared.change.Change.TheVariants.{Span}
use Rattle.cm_plain.specs.declared.plain.Plain.{Plain}
use Rattle.transaction.specs.declared.annotation.Annotation.{Annotation}
use Rattle.requests.specs.declared.named_effect.NamedEffect.{NamedEffect}
use Rattle.requests.specs.declared.named_effect.NamedEffect.TheVariants.{Kind}
use Rattle.requests.specs.declared.request.Request.{Request}
use Rattle.requests.specs.declared.request.Request.TheVariants.{Update}
use Rattle.requests.specs.declared.spec_request.SpecRequest.{SpecRequest}
use Rattle.requests.specs.Effects.{kind_effect_of, named_effect_of}
use Rattle.requests.specs.Requests.{request_named, spec_of}
use Rattle.script.specs.Lines.{command_of, command_of_data, line_command}
use Rattle.workload.specs.Edits.{made_text}
use Rattle.workload.specs.MadeLines.{edit_line, mark_line}
use Rattle.workload.specs.declared.edit.Edit.{Edit}
use Rattle.workload.specs.declared.edit.Edit.TheVariants.{Insert, Delete, Mark}
use Rattle.line_tree.specs.Text.{cut}
use Rattle.made_requests.specs.PrivateRequests as specs
use Rattle.made_requests.proofs.Lines.{is_short, is_text}
use Rattle.made_requests.proofs.Texts.{chars_made, cut_made}
use Rattle.made_requests.proofs.Reading.{Fits, read_line, insertion_data, deletion_data, marking_data, changing_data, time_data, update_data, data_of, list_data, effect_data}

insertion_read : (name : List ℕ) (at : ℕ) (text : List ℕ) → at < 2 ^ 32 → chars text ≡ text → cut text ≡ text → change_of name (insertion_data at text) ≡ Ok (Span at at text)
unfolding change_of members_at number_member required number_at text_at only
insertion_read name at text small ascii whole = rw (lt-ltb at (2 ^ 32) small, ascii, whole) refl

deletion_read : (name : List ℕ) (from to : ℕ) → from < 2 ^ 32 → to < 2 ^ 32 → change_of name (deletion_data from to) ≡ Ok (Span from to [])
unfolding change_of members_at number_member required number_at text_at only
deletion_read name from to a b = rw (lt-ltb from (2 ^ 32) a, lt-ltb to (2 ^ 32) b) refl

note_read : (name : List ℕ) (time : ℕ) → time < 2 ^ 32 → annotation_of name (time_data time) ≡ Ok (specs.time_note time)
unfolding annotation_of members_at text_member required text_at only value_at chars
note_read name time soon = let fits : time < 2 ^ 63 = omega arith in rw (lt-ltb time (2 ^ 63) fits) refl

effect_read : (name : List ℕ) (from to : ℕ) → from < 2 ^ 32 → to < 2 ^ 32 → named_effect_of name (effect_data from to) ≡ Ok (Kind (codes "mark") (specs.positions from to))
unfolding named_effect_of kind_effect_of members_at text_member required text_at only value_at chars
effect_read name from to a b =
    let from_fits : from < 2 ^ 63 = omega arith in
    let to_fits : to < 2 ^ 63 = omega arith in
    rw (lt-ltb from (2 ^ 63) from_fits, lt-ltb to (2 ^ 63) to_fits) refl

-- a list of one item
alone_read : {A : Type 0} (read : List ℕ → Data → Result A Refusal) (name : List ℕ) (d : Data) (x : A) → read name d ≡ Ok x → list_of read name (list_data d) ≡ Ok (x ∷ [])
unfolding list_of items_at each
alone_read read name d x is = rw is refl

changing_read : (name : List ℕ) (d : Data) (change : Change) (time : ℕ) → change_of (codes "changes") d ≡ Ok change → time < 2 ^ 32 → spec_of name (changing_data d time) ≡ Ok (specs.changing time change)
unfolding spec_of members_at given_selection_of main_of notes_of flags_of only
changing_read name d change time is soon =
    rw (alone_read change_of (codes "changes") d change is, alone_read annotation_of (codes "annotations") (time_data time) (specs.time_note time) (note_read (codes "annotations") time soon)) refl

marking_read : (name : List ℕ) (from to : ℕ) → from < 2 ^ 32 → to < 2 ^ 32 → spec_of name (marking_data from to) ≡ Ok (specs.marking from to)
unfolding spec_of members_at given_selection_of main_of notes_of flags_of only
marking_read name from to a b =
    rw (alone_read named_effect_of (codes "effects") (effect_data from to) (Kind (codes "mark") (specs.positions from to)) (effect_read (codes "effects") from to a b)) refl

-- the command `update` of one spec
update_read : (d : Data) (spec : SpecRequest) → spec_of (codes "update") d ≡ Ok spec → command_of_data request_named (Some (update_data d)) ≡ Ok (Update (spec ∷ []))
unfolding command_of request_named
update_read d spec is = rw (alone_read spec_of (codes "update") d spec is) refl

-- an edit's line gives the request that is read from it
line_read : (time : ℕ) (edit : Edit) (request : Request) → time < 2 ^ 32 → Fits edit → command_of_data request_named (Some (data_of time edit)) ≡ Ok request
    → line_command request_named (edit_line time edit) ≡ Ok request
unfolding line_command
line_read time edit request soon fits is =
    let few : nat_lt 1048576 (length (edit_line time edit)) ≡ false = le-ltb 1048576 (length (edit_line time edit)) (omega (arith, is_short time edit soon fits)) in
    rw (few, is_text time edit soon fits, read_line time edit soon fits) is

pub insertion_line : (time at size letter : ℕ) → time < 2 ^ 32 → at < 2 ^ 32 → size < 2 ^ 8
    → line_command request_named (edit_line time (Insert at size letter)) ≡ Ok (Update (specs.changing time (Span at at (made_text size letter)) ∷ []))
insertion_line time at size letter soon small few =
    line_read time (Insert at size letter) (Update (specs.changing time (Span at at (made_text size letter)) ∷ [])) soon (small, few)
    (update_read (changing_data (insertion_data at (made_text size letter)) time) (specs.changing time (Span at at (made_text size letter)))
    (changing_read (codes "update") (insertion_data at (made_text size letter)) (Span at at (made_text size letter)) time
    (insertion_read (codes "changes") at (made_text size letter) small (chars_made size letter) (cut_made size letter)) soon))

pub deletion_line : (time from to : ℕ) → time < 2 ^ 32 → from < 2 ^ 32 → to < 2 ^ 32
    → line_command request_named (edit_line time (Delete from to)) ≡ Ok (Update (specs.changing time (Span from to []) ∷ []))
deletion_line time from to soon a b =
    line_read time (Delete from to) (Update (specs.changing time (Span from to []) ∷ [])) soon (a, b)
    (update_read (changing_data (deletion_data from to) time) (specs.changing time (Span from to []))
    (changing_read (codes "update") (deletion_data from to) (Span from to []) time (deletion_read (codes "changes") from to a b) soon))

pub marking_line : (from to : ℕ) → from < 2 ^ 32 → to < 2 ^ 32 → line_command request_named (mark_line from to) ≡ Ok (Update (specs.marking from to ∷ []))
marking_line from to a b =
    line_read 0 (Mark from to) (Update (specs.marking from to ∷ [])) (omega arith) (a, b) (update_read (marking_data from to) (specs.marking from to) (marking_read (codes "update") from to a b))

-- the specs that are made for a mark, with what its spec is made of
pub marked : (changes : List Change) (effects : List NamedEffect) (annotations : List Annotation) (effect : List ℕ) (value : Plain) (from to : ℕ)
    → changes ≡ [] → effects ≡ Kind effect value ∷ [] → annotations ≡ [] → effect ≡ codes "mark" → value ≡ specs.positions from to
    → specs.spec changes effects annotations ≡ specs.marking from to
marked changes effects annotations effect value from to no_changes one no_notes name positions = rw (no_changes, one, no_notes, name, positions) refl

-- what was made is what is read from the line
pub is_read : (line : Result Request Refusal) (made : Result SpecRequest AllocError) (want have : SpecRequest) → line ≡ Ok (Update (want ∷ [])) → have ≡ want
    → IfOk made (λ r. r ≡ have) → IfOk made (λ r. line ≡ Ok (Update (r ∷ [])))
is_read line (Ok r) want have e same is = e ∙ ap (λ (x : SpecRequest). Ok (Update (x ∷ []))) (sym (is ∙ same))
is_read line (Err none) want have e same is = tt
