-- What a file opens to.
use Rattle.std.proofs.Common.{◌≡◌, ℕ, List, Bool, true, false, cond, nat_le, length, Option, Some, None, Result, Ok, Err, ap}
use Rattle.file_text.specs.Files.{TooLong, file_text, file_text_of, read_chars}
use Rattle.facet_slots.specs.Slotted.{Slotted}
use Rattle.line_tree.specs.Text.{max_len}
use Rattle.script.specs.declared.refusal.LineError.{LineError}
use Rattle.script.specs.Reading.{Gives}
use Rattle.state.specs.Plainly.{created_from}
use Rattle.values.specs.Rules.{Rules}
use Rattle.session.specs.declared.outcome.Outcome.{Outcome}
use Rattle.session.specs.Filing.{at_start, opened}
use Rattle.session.specs.Outcomes.{done_by, put_started}
use Rattle.session.specs.State.{PlainSession}

limited : (chars text : List ℕ) (short : Bool) → cond short (Ok chars) (Err (TooLong (length chars))) ≡ Ok text → chars ≡ text
limited chars text true is = cc
limited chars text false is = cc

-- the text that is within the limit is the one that was read
read-text : (read : Option (List ℕ)) (text : List ℕ) → file_text_of read ≡ Ok text → read ≡ Some text
read-text None text is = cc
read-text (Some chars) text is = ap (λ (t : List ℕ). Some t) (limited chars text (nat_le (length chars) max_len) is)

pub opens : (rules : Rules) (s : PlainSession) (name base bytes text : List ℕ) (result : Result (Outcome Slotted) LineError) → file_text bytes ≡ Ok text
    → Gives (done_by s) result (put_started s (created_from rules s.world.declared base (record { document = text; selection = at_start }))) → Gives (done_by s) result (opened rules s name base (Some bytes))
opens rules s name base bytes text result is gives = rw (read-text (read_chars bytes) text is) gives
