-- The effects of a spec as a script writes them.
use Rattle.std.specs.Prelude.{ℕ, List, [], ◌∷◌, is_some, Result, Ok, if◌then◌else◌, codes}
use Rattle.serde_json.specs.Data.{Data}
use Rattle.serde_json.specs.Find.{get}
use Rattle.script.specs.declared.refusal.Refusal.{Refusal}
use Rattle.script.specs.Reading.{◌>>=◌, required_as, text_member, text_at, members_at, only, list_of}
use Rattle.script.specs.Values.{value_at}
use Rattle.requests.specs.declared.named_effect.NewContent.{NewContent}
use Rattle.requests.specs.declared.named_effect.NamedEffect.{NamedEffect}
use Rattle.requests.specs.declared.named_effect.NamedEffect.TheVariants.{Kind, Reconfigure, Root, Append}

-- the new content of a compartment: {compartment, to}
unfoldable pub content_of : List ℕ → Data → Result NewContent Refusal
content_of name d = do
  members ← members_at name d
  compartment ← text_member (codes "compartment") d
  to ← text_member (codes "to") d
  known ← only (codes "compartment" ∷ codes "to" ∷ []) members
  Ok (record { compartment = compartment; to = to })

-- {effect, value} (Reference Manual: StateEffectType.of)
unfoldable pub kind_effect_of : List ℕ → Data → Result NamedEffect Refusal
kind_effect_of name d = do
  members ← members_at name d
  effect ← text_member (codes "effect") d
  value ← required_as (codes "value") value_at d
  known ← only (codes "effect" ∷ codes "value" ∷ []) members
  Ok (Kind effect value)

-- {reconfigure} (Reference Manual: Compartment.reconfigure)
unfoldable pub reconfigure_of : List ℕ → Data → Result NamedEffect Refusal
reconfigure_of name d = do
  members ← members_at name d
  content ← required_as (codes "reconfigure") content_of d
  known ← only (codes "reconfigure" ∷ []) members
  Ok (Reconfigure content.compartment content.to)

-- {root} (Reference Manual: StateEffect.reconfigure)
unfoldable pub root_of : List ℕ → Data → Result NamedEffect Refusal
root_of name d = do
  members ← members_at name d
  nodes ← required_as (codes "root") (list_of text_at) d
  known ← only (codes "root" ∷ []) members
  Ok (Root nodes)

-- {append} (Reference Manual: StateEffect.appendConfig)
unfoldable pub append_of : List ℕ → Data → Result NamedEffect Refusal
append_of name d = do
  members ← members_at name d
  node ← text_member (codes "append") d
  known ← only (codes "append" ∷ []) members
  Ok (Append node)

-- an effect has the form of the first of the members `effect`, `reconfigure`, `root` and `append` that is there; where none is
-- there, `effect` is missing
unfoldable pub named_effect_of : List ℕ → Data → Result NamedEffect Refusal
named_effect_of name d =
    if is_some (get (codes "effect") d) then kind_effect_of name d
    else (if is_some (get (codes "reconfigure") d) then reconfigure_of name d
    else (if is_some (get (codes "root") d) then root_of name d
    else (if is_some (get (codes "append") d) then append_of name d
    else kind_effect_of name d)))
