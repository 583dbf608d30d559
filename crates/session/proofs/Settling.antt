-- What a call leaves of a session.
use Rattle.std.proofs.Common.{◌≡◌, ◌∙◌, ℕ, Option, None, Some, IfSome, refl, sym, ap, subst}
use Rattle.std.specs.Prelude.{Result, Ok, Err, IfOk, String, string_bytes}
use Rattle.std.specs.declared.alloc.AllocError.{AllocError}
use Rattle.std.specs.declared.alloc.Global.{Global}
use Rattle.facet_slots.specs.Lent.{definitions}
use Rattle.facet_slots.specs.Slotted.{Slotted}
use Rattle.facet_slots.proofs.Declared.{definitions-grown}
use Rattle.facet_slots.proofs.Grown.{grown-twice}
use Rattle.names.specs.Adding.{world}
use Rattle.names.specs.Names.{NameList}
use Rattle.replies.specs.Replies.{reply_text}
use Rattle.script.specs.Reading.{Fails}
use Rattle.script.specs.declared.refusal.LineError.{LineError}
use Rattle.script.specs.declared.refusal.LineError.TheVariants as errors
use Rattle.script.specs.declared.refusal.Refusal.{Refusal}
use Rattle.values.specs.Declarations.{Declarations}
use Rattle.values.specs.Growth.{IsGrowth}
use Rattle.viewport.specs.Window.{Window}
use Rattle.session.specs.Outcomes.{Done}
use Rattle.session.specs.PrivateSession.{DoneWith, IsPutIn, IsRefusalText}
use Rattle.session.specs.Session.{left_by, reply_of}
use Rattle.session.specs.State.{Held, plain_session}

-- A state that stands in a session stands in it over what is declared next.
pub stands_on : (names new_names : NameList) (old new : Declarations) (count : ℕ) (window : Window) (held : Option Slotted) (slots : Slotted) → IsGrowth old new
    → IsPutIn (record { world = world names old; state = held; count = count; window = window }) slots window
    → IsPutIn (record { world = world new_names new; state = held; count = count; window = window }) slots window
stands_on names new_names old new count window held slots growth is = record {
  grown = grown-twice slots.setup.defs (definitions old) (definitions new) is.grown (definitions-grown old new growth);
  shows = is.shows;
}

pub state_stands : (names new_names : NameList) (old new : Declarations) (count : ℕ) (window : Window) (held : Option Slotted) → IsGrowth old new
    → IfSome held (λ slots. IsPutIn (record { world = world names old; state = held; count = count; window = window }) slots window)
    → IfSome held (λ slots. IsPutIn (record { world = world new_names new; state = held; count = count; window = window }) slots window)
state_stands names new_names old new count window None growth is = tt
state_stands names new_names old new count window (Some slots) growth is = stands_on names new_names old new count window (Some slots) slots growth is

-- What is refused leaves the session, and is answered by its refusal.
pub refused_done : (out : Result Done Refusal) (error : LineError) (held : Held) (r : Result (String Global) AllocError)
    → Fails error out → IfOk r (λ t. IsRefusalText error (string_bytes t)) → DoneWith out held held r
refused_done out error held (Err e) fails is = refl
refused_done out errors.NoMemory held (Ok text) fails is = absurd is
refused_done out (errors.Refused refusal) held (Ok text) fails is =
    (is ∙ ap (λ (o : Result Done Refusal). reply_text (reply_of o)) (sym fails), ap (left_by (plain_session held)) (sym fails))

-- What does what a definition says is that of the definition.
pub settled : (out : Result Done Refusal) (d : Done) (old new : Held) (r : Result (String Global) AllocError) → out ≡ Ok d → DoneWith (Ok d) old new r → DoneWith out old new r
settled out d old new r is = subst (λ (o : Result Done Refusal). DoneWith o old new r) (sym is)
