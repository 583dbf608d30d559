-- Specs of a transaction with ids in place of names.
use Rattle.std.specs.Prelude.{List, Result, Ok}
use Rattle.names.specs.Names.{NameList, as_compartment, as_effect, as_node, found, all_found, each_of}
use Rattle.requests.specs.declared.named_effect.NamedEffect.{NamedEffect}
use Rattle.requests.specs.declared.named_effect.NamedEffect.TheVariants as named
use Rattle.requests.specs.declared.spec_request.SpecRequest.{SpecRequest}
use Rattle.script.specs.declared.refusal.Refusal.{Refusal}
use Rattle.script.specs.Reading.{◌>>=◌}
use Rattle.transaction.specs.declared.effect.Effect.{Effect}
use Rattle.transaction.specs.declared.effect.Effect.TheVariants.{Kind, Reconfigure, Root, Append}
use Rattle.transaction.specs.declared.spec.Spec.{Spec}
use Rattle.values.specs.declared.val.Val.{Val}
use Rattle.values.specs.declared.val.Val.TheVariants as vals

-- an effect with ids; the name of a compartment is looked up before that of its new content
abbrev pub effect_of : NameList → NamedEffect → Result (Effect Val) Refusal
effect_of names (named.Kind effect value) = do
  id ← found as_effect names effect
  Ok (Kind id (vals.Plain value))
effect_of names (named.Reconfigure compartment to) = do
  id ← found as_compartment names compartment
  node ← found as_node names to
  Ok (Reconfigure id node)
effect_of names (named.Root to) = do
  nodes ← all_found as_node names to
  Ok (Root nodes)
effect_of names (named.Append to) = do
  node ← found as_node names to
  Ok (Append node)

-- a spec with these effects: nothing else of it changes
abbrev pub with_effects : SpecRequest → List (Effect Val) → Spec Val
with_effects s effects =
    record { changes = s.changes; selection = s.selection; effects = effects; annotations = s.annotations; user_event = s.user_event; sequential = s.sequential; filter = s.filter }

-- a spec with ids, or the refusal of the first name among its effects that is refused
abbrev pub spec_of : NameList → SpecRequest → Result (Spec Val) Refusal
spec_of names s = do
  effects ← each_of (effect_of names) s.effects
  Ok (with_effects s effects)

-- the specs of a transaction with ids, in order; the first name that is refused is
abbrev pub specs_of : NameList → List SpecRequest → Result (List (Spec Val)) Refusal
specs_of names ss = each_of (spec_of names) ss
