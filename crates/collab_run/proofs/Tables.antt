-- Each command of `collab` is read exactly where its fields all fit and it has no other member.
use Rattle.std.proofs.Common.{◌≡◌, ℕ, List, [], ◌∷◌, Bool, Result, Ok, Err, is_ok, codes, bytes_eq, refl, ap, ◌∙◌}
use Rattle.serde_json.specs.Data.{Data}
use Rattle.script.specs.declared.refusal.Refusal.{Refusal}
use Rattle.script.specs.Reading.{◌>>=◌, required, text_at, list_of}
use Rattle.script.specs.Command.{change_of}
use Rattle.script.specs.Lines.{line_command}
use Rattle.script.specs.Accepted.{Field, needs, ReadsExactly, is_accepted, is_command, is_line}
use Rattle.script.proofs.Accepting.{Reads, on, need, need_number, need_text, have, have_or_none, last, accepts, either, line-exactly}
use Rattle.collab_run.specs.Commands.{clients_of, begin_of, local_of, send_of, publish_of, deliver_of, state_of, command_named}
use Rattle.collab_run.specs.Tables.{names_at, begin_fields, local_fields, send_fields, publish_fields, deliver_fields, commands}

in_turn : {A B C : Type 0} (first : Result A Refusal) (second : A → Result B Refusal) (third : B → Result C Refusal) → first >>= (λ x. second x >>= third) ≡ first >>= second >>= third
in_turn (Ok x) second third = refl
in_turn (Err r) second third = refl

-- a field that has to be there, whose value is looked up first and then read
need_looked_up : {A B : Type 0} {d : Data} {after : List Field} {rest : Bool} {next : A → Result B Refusal} (name : List ℕ) (read : List ℕ → Data → Result A Refusal) → ((x : A) → Reads d after rest (next x))
    → Reads d (needs name read ∷ after) rest (required name d >>= λ m. read name m >>= next)
need_looked_up {d = d} {next = next} name read others =
    record { same = ap is_ok (in_turn (required name d) (read name) next) ∙ (on (need name read d) others).same }

pub begin-exactly : ReadsExactly begin_of (is_accepted begin_fields)
unfolding begin_of clients_of
begin-exactly d = accepts begin_fields (codes "begin") d _ λ members.
    on (have (codes "doc") text_at [] d) λ doc.
    on (need (codes "clients") names_at d) λ clients.
    last begin_fields members _ d

pub local-exactly : ReadsExactly local_of (is_accepted local_fields)
unfolding local_of
local-exactly d = accepts local_fields (codes "local") d _ λ members.
    on (need_text (codes "client") d) λ client.
    need_looked_up (codes "changes") (list_of change_of) λ changes.
    last local_fields members _ d

pub send-exactly : ReadsExactly send_of (is_accepted send_fields)
unfolding send_of
send-exactly d = accepts send_fields (codes "send") d _ λ members.
    on (need_text (codes "client") d) λ client.
    last send_fields members _ d

pub publish-exactly : ReadsExactly publish_of (is_accepted publish_fields)
unfolding publish_of
publish-exactly d = accepts publish_fields (codes "publish") d _ λ members.
    on (need_number (codes "from") d) λ from.
    on (need_number (codes "to") d) λ to.
    last publish_fields members _ d

pub deliver-exactly : ReadsExactly deliver_of (is_accepted deliver_fields)
unfolding deliver_of
deliver-exactly d = accepts deliver_fields (codes "deliver") d _ λ members.
    on (need_number (codes "message") d) λ message.
    on (have_or_none (codes "client") text_at d) λ client.
    last deliver_fields members _ d

pub state-exactly : ReadsExactly state_of (is_accepted [])
unfolding state_of
state-exactly d = accepts [] (codes "state") d _ λ members. last [] members _ d

pub command-exactly : (name : List ℕ) → ReadsExactly (command_named name) (is_command commands name)
unfolding command_named
command-exactly name d =
    either (bytes_eq name (codes "begin")) _ _ _ _ (begin-exactly d)
    (either (bytes_eq name (codes "local")) _ _ _ _ (local-exactly d)
    (either (bytes_eq name (codes "send")) _ _ _ _ (send-exactly d)
    (either (bytes_eq name (codes "publish")) _ _ _ _ (publish-exactly d)
    (either (bytes_eq name (codes "deliver")) _ _ _ _ (deliver-exactly d)
    (either (bytes_eq name (codes "state")) _ _ _ _ (state-exactly d) refl)))))

-- a line is a command exactly where it is one of these
pub lines-exactly : (line : List ℕ) → is_ok (line_command command_named line) ≡ is_line (is_command commands) line
lines-exactly = line-exactly command_named (is_command commands) command-exactly
