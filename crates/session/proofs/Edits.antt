-- A run of `edit`: one that ends before its first frame, and one over the text that was loaded.
use Rattle.std.proofs.Common.{◌≡◌, ◌∙◌, ℕ, ◌≤◌, ◌⊎◌, inl, inr, false, List, [], Option, None, Some, IfSome, refl, sym, ap, subst, arith, true≢false}
use Rattle.std.specs.Prelude.{Result, Ok, Err, is_err}
use Rattle.cm_outside.specs.Answering.{AnswererTold, exchange_of, EndedByStore}
use Rattle.cm_outside.specs.Faults.{Rose}
use Rattle.cm_outside.specs.Files.{Files}
use Rattle.cm_outside.specs.Runs.{Run, HasReason, taken_by}
use Rattle.cm_outside.specs.Sink.{SinkTold}
use Rattle.cm_outside.specs.Source.{SourceTold}
use Rattle.cm_outside.specs.Times.{Times}
use Rattle.cm_outside.specs.declared.status.Status.{Status}
use Rattle.cm_outside.specs.declared.status.Status.TheVariants as statuses
use Rattle.cm_outside.proofs.Exchanges as exchanges
use Rattle.file_text.specs.Files.{FileFault}
use Rattle.line_tree.specs.Text.{TextView}
use Rattle.key_run.specs.Run.{Ran, IsWithin}
use Rattle.key_run.specs.Typing.{KeyMachine, shown, opened, events, presses, typed}
use Rattle.key_run.proofs.Whole.{nothing_done}
use Rattle.values.specs.Rules.{Rules}
use Rattle.session.specs.Editing.{Edit, Edited, EditedText, EndsUnopened, Typed, begun, text_in}
use Rattle.session.specs.Keyed.{key_machine}
use Rattle.session.specs.PrivateEditing.{ReadAs, ReadsFile}
use Rattle.session.specs.State.{Desk, PlainSession, desk_of}
use Rattle.session.specs.Stores.{StoreTold, desk_told}

-- ---- a run that ends before its first frame

halts : {P : Type 0} (m : KeyMachine P) (told : Option (List ℕ)) (first : Option P) (times : Option Times) (held : Option (List ℕ))
    → IfSome told (λ input. IfSome first (λ f. IfSome times (λ t. EndedByStore (shown m) (events t input) (exchange_of f first held held))))
halts m None first times held = tt
halts m (Some input) None times held = tt
halts m (Some input) (Some f) None held = tt
halts m (Some input) (Some f) (Some t) held =
    record { done = []; next = opened; others = presses t (typed input); cut = refl; wrote = (exchanges.begins (shown m) f held).wrote; stands = inl refl }

completes : (told : Option (List ℕ)) (limit : ℕ) → IfSome told (λ input. IsWithin limit input → (statuses.NoMemory ≡ statuses.Ok) ⊎ (statuses.NoMemory ≡ statuses.NoMemory))
completes None limit = tt
completes (Some input) limit = λ _. inr refl

-- the store failed, or out of memory
pub unread : {P : Type 0} (m : KeyMachine P) (plain : Option P) (faults now : ℕ) (times : Option Times) (status : Status) (limit : ℕ) (source : SourceTold) (sink : SinkTold) (read : Result (List ℕ) FileFault)
    → is_err read ≡ false → ReadAs read (Err status) → EndsUnopened status (Rose faults now) → faults ≤ now
    → Ran m (record { plain = plain; faults = faults }) (record { plain = plain; faults = now }) times times status (record { limit = limit; source = source; source_now = source; sink = sink; sink_now = sink })
unread m plain faults now times statuses.Ok limit source sink read text is ends later = absurd ends
unread m plain faults now times statuses.Usage limit source sink read text is ends later = absurd ends
unread m plain faults now times statuses.ReadFault limit source sink read text is ends later = absurd ends
unread m plain faults now times statuses.WriteFault limit source sink read text is ends later = absurd ends
unread m plain faults now times statuses.StoreFault limit source sink read text is ends later =
    let base = nothing_done m (record { plain = plain; faults = faults }) times limit source sink in
    record {
      ended = halts m source.left plain times sink.held;
      reason = (omega arith, ends);
      gave = base.gave;
      complete = λ _ _ none. absurd (none ends);
      clock = base.clock;
      later = base.later;
      store_later = later;
    }
unread m plain faults now times statuses.NoMemory limit source sink read text is ends later =
    let base = nothing_done m (record { plain = plain; faults = faults }) times limit source sink in
    record {
      ended = base.ended;
      reason = base.reason;
      gave = base.gave;
      complete = λ _ _ _. completes source.left limit;
      clock = base.clock;
      later = base.later;
      store_later = later;
    }
unread m plain faults now times statuses.TooMuch limit source sink read text is ends later = absurd ends
unread m plain faults now times statuses.BadFile limit source sink read text is ends later = absurd (true≢false (sym is ∙ text))

-- ---- a run that began with a load

-- a count that rose since a load rose since before it
rises : (a b c : ℕ) → a ≤ b → Rose b c → Rose a c
rises a b c first rose = omega (arith, first, rose)

reasons : (status : Status) (limit taken a b c : ℕ) (source_rose sink_rose : Type 0) → a ≤ b → HasReason status limit taken source_rose sink_rose (Rose b c) → HasReason status limit taken source_rose sink_rose (Rose a c)
reasons statuses.Ok limit taken a b c source_rose sink_rose first h = h
reasons statuses.Usage limit taken a b c source_rose sink_rose first h = h
reasons statuses.ReadFault limit taken a b c source_rose sink_rose first h = h
reasons statuses.WriteFault limit taken a b c source_rose sink_rose first h = h
reasons statuses.StoreFault limit taken a b c source_rose sink_rose first h = (h.0, rises a b c first h.1)
reasons statuses.NoMemory limit taken a b c source_rose sink_rose first h = h
reasons statuses.TooMuch limit taken a b c source_rose sink_rose first h = h
reasons statuses.BadFile limit taken a b c source_rose sink_rose first h = h

pub loaded : {P : Type 0} (m : KeyMachine P) (plain : Option P) (new : AnswererTold P) (faults between : ℕ) (times times_now : Option Times) (status : Status) (run : Run) → faults ≤ between
    → Ran m (record { plain = plain; faults = between }) new times times_now status run → Ran m (record { plain = plain; faults = faults }) new times times_now status run
loaded m plain new faults between times times_now status run first ran = record {
  ended = ran.ended;
  reason = reasons status run.limit (taken_by run) faults between new.faults _ _ first ran.reason;
  gave = ran.gave;
  complete = λ a b none. ran.complete a b (λ rose. none (rises faults between new.faults first rose));
  clock = ran.clock;
  later = ran.later;
  store_later = omega (arith, first, ran.store_later);
}

nothing_told : (told : Option (List ℕ)) → IfSome told (λ input. Unit {0})
nothing_told None = tt
nothing_told (Some input) = tt

-- where nothing is told of the answerer, less is claimed
pub untold : {P : Type 0} (m : KeyMachine P) (plain : Option P) (new : AnswererTold P) (faults : ℕ) (times times_now : Option Times) (status : Status) (run : Run)
    → Ran m (record { plain = plain; faults = faults }) new times times_now status run → Ran m (record { plain = None; faults = faults }) new times times_now status run
untold m plain new faults times times_now status run ran = record {
  ended = nothing_told run.source.left;
  reason = ran.reason;
  gave = ran.gave;
  complete = ran.complete;
  clock = ran.clock;
  later = ran.later;
  store_later = ran.store_later;
}

-- ---- a run of `edit`

abbrev told_run : (limit : ℕ) → SourceTold → SinkTold → Run
told_run limit source sink = record { limit = limit; source = source; source_now = source; sink = sink; sink_now = sink }

abbrev store_told : Option Files → ℕ → StoreTold
store_told files faults = record { files = files; faults = faults }

found_unread : (rules : Rules) (e : Edit) (files : Files) (now : Option Files) (faults faults_now : ℕ) (times : Option Times) (status : Status) (limit : ℕ) (source : SourceTold) (sink : SinkTold) (found : Result (List ℕ) FileFault)
    → ReadsFile found files now (Err status) → EndsUnopened status (Rose faults faults_now) → faults ≤ faults_now
    → EditedText rules e files found status (told_run limit source sink) (store_told (Some files) faults) (store_told now faults_now) times times
found_unread rules e files now faults faults_now times status limit source sink (Ok text) reads ends later =
    let m = key_machine rules e.file in
    let b = begun rules e.rows e.cols text in
    let first : Option Desk = Some (record { session = b; files = files }) in (
      b,
      subst (λ (o : Option Files). Ran m (record { plain = first; faults = faults }) (record { plain = desk_of b o; faults = faults_now }) times times status (told_run limit source sink)) (sym reads.1)
          (unread m first faults faults_now times status limit source sink (Ok text) refl reads.0 ends later),
    )
found_unread rules e files now faults faults_now times status limit source sink (Err fault) reads ends later =
    record { ends = ends; source = refl; sink = refl; clock = refl; files = reads.1; later = later }

-- it ended before its first frame
pub edit_unread : (rules : Rules) (e : Edit) (told now : Option Files) (faults faults_now : ℕ) (times : Option Times) (status : Status) (limit : ℕ) (source : SourceTold) (sink : SinkTold)
    → IfSome told (λ files. ReadsFile (text_in files e.file) files now (Err status)) → EndsUnopened status (Rose faults faults_now) → faults ≤ faults_now
    → Edited rules e status (told_run limit source sink) (store_told told faults) (store_told now faults_now) times times
edit_unread rules e None now faults faults_now times status limit source sink reads ends later =
    inr (record { ends = ends; source = refl; sink = refl; clock = refl; files = tt; later = later })
edit_unread rules e (Some files) now faults faults_now times status limit source sink reads ends later =
    found_unread rules e files now faults faults_now times status limit source sink (text_in files e.file) reads ends later

-- out of memory after the load
pub edit_unbegun : (rules : Rules) (e : Edit) (told now : Option Files) (faults faults_now : ℕ) (times : Option Times) (limit : ℕ) (source : SourceTold) (sink : SinkTold) (text : TextView)
    → IfSome told (λ files. ReadsFile (text_in files e.file) files now (Ok text)) → faults ≤ faults_now
    → Edited rules e statuses.NoMemory (told_run limit source sink) (store_told told faults) (store_told now faults_now) times times
edit_unbegun rules e None now faults faults_now times limit source sink text reads later = edit_unread rules e None now faults faults_now times statuses.NoMemory limit source sink tt tt later
edit_unbegun rules e (Some files) now faults faults_now times limit source sink text reads later =
    edit_unread rules e (Some files) now faults faults_now times statuses.NoMemory limit source sink (tt, reads.1) tt later

-- it went on with keys from the session in which the text was opened
pub edit_typed : (rules : Rules) (e : Edit) (told between : Option Files) (faults faults_between : ℕ) (now : StoreTold) (times times_now : Option Times) (status : Status) (run : Run) (text : TextView) (s : PlainSession)
    → IfSome told (λ files. ReadsFile (text_in files e.file) files between (Ok text)) → faults ≤ faults_between → s ≡ begun rules e.rows e.cols text.characters
    → Typed rules e.file (desk_of s between) status run (store_told between faults_between) now times times_now
    → Edited rules e status run (store_told told faults) now times times_now
edit_typed rules e None between faults faults_between now times times_now status run text s reads first is typing =
    let m = key_machine rules e.file in
    let new = desk_told typing.0 now in
    inl (typing.0, untold m (desk_of s between) new faults times times_now status run (loaded m (desk_of s between) new faults faults_between times times_now status run first typing.1))
edit_typed rules e (Some files) between faults faults_between now times times_now status run text s reads first is typing =
    let m = key_machine rules e.file in
    let new = desk_told typing.0 now in
    let desk : desk_of s between ≡ Some (record { session = begun rules e.rows e.cols text.characters; files = files }) =
    ap (desk_of s) reads.1 ∙ ap (λ (p : PlainSession). Some (record { session = p; files = files })) is in
    subst (λ (found : Result (List ℕ) FileFault). EditedText rules e files found status run (store_told (Some files) faults) now times times_now) (sym reads.0) (
      typing.0,
      subst (λ (o : Option Desk). Ran m (record { plain = o; faults = faults }) new times times_now status run) desk
          (loaded m (desk_of s between) new faults faults_between times times_now status run first typing.1),
    )
