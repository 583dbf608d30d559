-- States, and how a transaction leads from one to the next (Reference Manual, StateField, EditorState.update).
use Rattle.std.specs.Prelude.{ℕ, List, [], Bool, true, false, cond, eqb, filter, Option, None, Some}
use Rattle.std.specs.Option.{option_and_then, unwrap_or}
use Rattle.std.specs.List.{list_any}
use Rattle.configuration.specs.declared.vertex.Vertex.TheVariants.{Field}
use Rattle.values.specs.declared.val.Val.{Val}
use Rattle.values.specs.declared.shown_effect.ShownEffect.{ShownEffect}
use Rattle.values.specs.Rules.{Rules}
use Rattle.values.specs.Reading.{nothing}
use Rattle.values.specs.Equality.{equal}
use Rattle.values.specs.Views.{DepsView, TransactionView}
use Rattle.facet_slots.specs.Setups.{Setup, PresentField, field_at}
use Rattle.facet_slots.specs.Scenes.{SceneView, Values}
use Rattle.facet_slots.specs.Settling.{FieldRule, values_of}

-- State: a configuration, a document with a selection, and the values of facets and fields.
pub record State : Type 0 where
  pub setup : Setup
  pub scene : SceneView
  pub values : Values

-- Transition: a configuration is entered, or a transaction is made in one.
pub data Transition : Type 0 where
  Enter : Transition
  Update : TransactionView → Transition

-- a field is created as its first value, or else by its creator over what it is shown
abbrev pub created : Rules → PresentField → DepsView → Val
created rules field shown = unwrap_or field.init (rules.create field.def.create shown)

-- whether two first values are the same, or there are none
abbrev pub equal_init : Option Val → Option Val → Bool
equal_init None None = true
equal_init (Some a) (Some b) = equal a b
equal_init _ _ = false

-- the value that a field keeps: the old one, where the field was present and its first value did not change, come or go
abbrev pub kept_value : State → ℕ → PresentField → Option Val
kept_value old f field = option_and_then (λ (was : PresentField). cond (equal_init was.init field.init) (old.values (Field f)) None) (field_at old.setup f)

-- Enters: a field keeps its value, or else is created.
abbrev pub enters : Rules → State → FieldRule
enters rules old f field shown = unwrap_or (kept_value old f field) (created rules field shown)

-- a transaction as a field is shown it: of the effects those that it listens to, in order
abbrev pub heard : List ℕ → TransactionView → TransactionView
heard listens t = record t { effects = filter (λ (e : ShownEffect). list_any (eqb e.id) listens) t.effects }

-- Updates: the updater's answer on the field's old value, the transaction and what the field reads.
abbrev pub updates : Rules → State → TransactionView → FieldRule
updates rules old t f field shown = rules.update field.def.update (unwrap_or (old.values (Field f)) nothing) (heard field.def.listens t) shown

abbrev pub rule_of : Rules → Transition → State → FieldRule
rule_of rules Enter old = enters rules old
rule_of rules (Update t) old = updates rules old t

-- the document and the selection that a transition leads to
abbrev pub scene_after : Transition → SceneView → SceneView
scene_after Enter scene = scene
scene_after (Update t) scene = record { document = t.document; selection = t.selection }

-- the state after a transition into a configuration
abbrev pub after : Rules → Transition → State → Setup → State
after rules transition old setup =
    record {
      setup = setup;
      scene = scene_after transition old.scene;
      values = values_of rules setup (scene_after transition old.scene) (rule_of rules transition old);
    }

-- Mid state: the new configuration over the old document and selection.
abbrev pub mid : Rules → State → Setup → State
mid rules old setup = after rules Enter old setup

-- Next state: the one after a transaction, in the configuration as it stands by then.
abbrev pub next : Rules → State → Setup → TransactionView → State
next rules old setup t = after rules (Update t) old setup

-- what a transaction does to the configuration: it stays, over what was declared since, or another one takes its place
pub data Target : Type 0 where
  Stays : Setup → Target
  Becomes : Setup → Target

-- Step: the fields enter the configuration that takes the place of the old one, if one does; then the transaction is made.
abbrev pub step : Rules → State → Target → TransactionView → State
step rules old (Stays setup) t = next rules old setup t
step rules old (Becomes setup) t = next rules (mid rules old setup) setup t

-- no definitions, and the configuration over them
abbrev pub no_setup : Setup
no_setup =
    record {
      defs = record { facets = []; fields = []; node_defs = [] };
      config = record { base = []; flat = []; inputs = []; fields = []; order = []; contents = [] };
    }

-- the state of no facet and no field
abbrev pub empty_state : SceneView → State
empty_state scene = record { setup = no_setup; scene = scene; values = λ v. None }

-- Creation: the mid state alone, into the first configuration.
abbrev pub creation : Rules → Setup → SceneView → State
creation rules setup scene = mid rules (empty_state scene) setup
