-- The declaring commands of a script. Each is a list of its fields, in the order in which they are read.
use Rattle.std.specs.Prelude.{ℕ, List, [], ◌∷◌, false, Result, Ok, codes}
use Rattle.serde_json.specs.Data.{Data}
use Rattle.configuration.specs.declared.facet_def.FacetDef.{FacetDef}
use Rattle.script.specs.declared.refusal.Refusal.{Refusal}
use Rattle.script.specs.Reading.{◌>>=◌, required_as, number_member, text_member, defaulted, optional, text_at, number_at, flag_at, members_at, only, list_of}
use Rattle.requests.specs.declared.computed_declarations.ComputeDeclaration.{ComputeDeclaration}
use Rattle.requests.specs.declared.computed_declarations.FromDeclaration.{FromDeclaration}
use Rattle.requests.specs.declared.effect_declarations.EffectDeclaration.{EffectDeclaration}
use Rattle.requests.specs.declared.effect_declarations.InverseDeclaration.{InverseDeclaration}
use Rattle.requests.specs.declared.extension_declarations.CompartmentDeclaration.{CompartmentDeclaration}
use Rattle.requests.specs.declared.extension_declarations.GroupDeclaration.{GroupDeclaration}
use Rattle.requests.specs.declared.extension_declarations.PrecDeclaration.{PrecDeclaration}
use Rattle.requests.specs.declared.extension_declarations.SlotDeclaration.{SlotDeclaration}
use Rattle.requests.specs.declared.facet_declaration.FacetDeclaration.{FacetDeclaration}
use Rattle.requests.specs.declared.field_declaration.ProvidedDeclaration.{ProvidedDeclaration}
use Rattle.requests.specs.declared.field_declaration.FieldRules.{FieldRules}
use Rattle.requests.specs.declared.field_declaration.FieldNames.{FieldNames}
use Rattle.requests.specs.declared.field_declaration.FieldDeclaration.{FieldDeclaration}
use Rattle.requests.specs.declared.value_declarations.InitDeclaration.{InitDeclaration}
use Rattle.requests.specs.declared.value_declarations.InputDeclaration.{InputDeclaration}
use Rattle.requests.specs.Words.{precedence_at}
use Rattle.requests.specs.Written.{written_of}

-- `effect`: {name, map (default none)} (Reference Manual: StateEffect.define)
unfoldable pub effect_of : List ℕ → Data → Result EffectDeclaration Refusal
effect_of command d = do
  members ← members_at command d
  name ← text_member (codes "name") d
  map ← optional (codes "map") number_at d
  known ← only (codes "name" ∷ codes "map" ∷ []) members
  Ok (record { name = name; map = map })

-- `inverse`: {effect, back}
unfoldable pub inverse_of : List ℕ → Data → Result InverseDeclaration Refusal
inverse_of command d = do
  members ← members_at command d
  effect ← text_member (codes "effect") d
  back ← text_member (codes "back") d
  known ← only (codes "effect" ∷ codes "back" ∷ []) members
  Ok (record { effect = effect; back = back })

-- the rules of a facet: {combine, compareInput (default 1), compare (default 1), static (default false)}
unfoldable pub facet_rules_of : Data → Result FacetDef Refusal
facet_rules_of d = do
  combine ← number_member (codes "combine") d
  compare_input ← defaulted (codes "compareInput") number_at 1 d
  compare ← defaulted (codes "compare") number_at 1 d
  is_static ← defaulted (codes "static") flag_at false d
  Ok (record { combine = combine; compare_input = compare_input; compare = compare; is_static = is_static })

-- `facet`: {name, its rules, enables (default [])} (Reference Manual: Facet.define)
unfoldable pub facet_of : List ℕ → Data → Result FacetDeclaration Refusal
facet_of command d = do
  members ← members_at command d
  name ← text_member (codes "name") d
  def ← facet_rules_of d
  enables ← defaulted (codes "enables") (list_of text_at) [] d
  known ← only (codes "name" ∷ codes "combine" ∷ codes "compareInput" ∷ codes "compare" ∷ codes "static" ∷ codes "enables" ∷ []) members
  Ok (record { name = name; def = def; enables = enables })

-- an item of what a field provides: {facet, rule (default 4)}
unfoldable pub provided_of : List ℕ → Data → Result ProvidedDeclaration Refusal
provided_of name d = do
  members ← members_at name d
  facet ← text_member (codes "facet") d
  rule ← defaulted (codes "rule") number_at 4 d
  known ← only (codes "facet" ∷ codes "rule" ∷ []) members
  Ok (record { facet = facet; rule = rule })

-- the rules of a field: {create, update, compare (default 1)}
unfoldable pub field_rules_of : Data → Result FieldRules Refusal
field_rules_of d = do
  create ← number_member (codes "create") d
  update ← number_member (codes "update") d
  compare ← defaulted (codes "compare") number_at 1 d
  Ok (record { create = create; update = update; compare = compare })

-- what a field names: {reads (default []), listens (default []), provides (default [])}
unfoldable pub field_names_of : Data → Result FieldNames Refusal
field_names_of d = do
  reads ← defaulted (codes "reads") (list_of text_at) [] d
  listens ← defaulted (codes "listens") (list_of text_at) [] d
  provides ← defaulted (codes "provides") (list_of provided_of) [] d
  Ok (record { reads = reads; listens = listens; provides = provides })

-- `field`: {name, its rules, what it names} (Reference Manual: StateField.define)
unfoldable pub field_of : List ℕ → Data → Result FieldDeclaration Refusal
field_of command d = do
  members ← members_at command d
  name ← text_member (codes "name") d
  rules ← field_rules_of d
  names ← field_names_of d
  known ← only (codes "name" ∷ codes "create" ∷ codes "update" ∷ codes "compare" ∷ codes "reads" ∷ codes "listens" ∷ codes "provides" ∷ []) members
  Ok (record { name = name; rules = rules; names = names })

-- `compartment`: {name} (Reference Manual: Compartment)
unfoldable pub compartment_of : List ℕ → Data → Result CompartmentDeclaration Refusal
compartment_of command d = do
  members ← members_at command d
  name ← text_member (codes "name") d
  known ← only (codes "name" ∷ []) members
  Ok (record { name = name })

-- `input`: {name, facet, value} (Reference Manual: Facet.of)
unfoldable pub input_of : List ℕ → Data → Result InputDeclaration Refusal
input_of command d = do
  members ← members_at command d
  name ← text_member (codes "name") d
  facet ← text_member (codes "facet") d
  value ← required_as (codes "value") written_of d
  known ← only (codes "name" ∷ codes "facet" ∷ codes "value" ∷ []) members
  Ok (record { name = name; facet = facet; value = value })

-- `compute`: {name, facet, rule, deps, many (default false)} (Reference Manual: Facet.compute, Facet.computeN)
unfoldable pub compute_of : List ℕ → Data → Result ComputeDeclaration Refusal
compute_of command d = do
  members ← members_at command d
  name ← text_member (codes "name") d
  facet ← text_member (codes "facet") d
  rule ← number_member (codes "rule") d
  deps ← required_as (codes "deps") (list_of text_at) d
  many ← defaulted (codes "many") flag_at false d
  known ← only (codes "name" ∷ codes "facet" ∷ codes "rule" ∷ codes "deps" ∷ codes "many" ∷ []) members
  Ok (record { name = name; facet = facet; rule = rule; deps = deps; many = many })

-- `from`: {name, facet, field, rule (default 4)} (Reference Manual: Facet.from)
unfoldable pub from_of : List ℕ → Data → Result FromDeclaration Refusal
from_of command d = do
  members ← members_at command d
  name ← text_member (codes "name") d
  facet ← text_member (codes "facet") d
  field ← text_member (codes "field") d
  rule ← defaulted (codes "rule") number_at 4 d
  known ← only (codes "name" ∷ codes "facet" ∷ codes "field" ∷ codes "rule" ∷ []) members
  Ok (record { name = name; facet = facet; field = field; rule = rule })

-- `init`: {name, field, value} (Reference Manual: StateField.init)
unfoldable pub init_of : List ℕ → Data → Result InitDeclaration Refusal
init_of command d = do
  members ← members_at command d
  name ← text_member (codes "name") d
  field ← text_member (codes "field") d
  value ← required_as (codes "value") written_of d
  known ← only (codes "name" ∷ codes "field" ∷ codes "value" ∷ []) members
  Ok (record { name = name; field = field; value = value })

-- `group`: {name, of} (Reference Manual: Extension)
unfoldable pub group_of : List ℕ → Data → Result GroupDeclaration Refusal
group_of command d = do
  members ← members_at command d
  name ← text_member (codes "name") d
  of ← required_as (codes "of") (list_of text_at) d
  known ← only (codes "name" ∷ codes "of" ∷ []) members
  Ok (record { name = name; of = of })

-- `prec`: {name, at, of} (Reference Manual: Prec)
unfoldable pub prec_of : List ℕ → Data → Result PrecDeclaration Refusal
prec_of command d = do
  members ← members_at command d
  name ← text_member (codes "name") d
  at ← required_as (codes "at") precedence_at d
  of ← text_member (codes "of") d
  known ← only (codes "name" ∷ codes "at" ∷ codes "of" ∷ []) members
  Ok (record { name = name; at = at; of = of })

-- `slot`: {name, compartment, of} (Reference Manual: Compartment.of)
unfoldable pub slot_of : List ℕ → Data → Result SlotDeclaration Refusal
slot_of command d = do
  members ← members_at command d
  name ← text_member (codes "name") d
  compartment ← text_member (codes "compartment") d
  of ← text_member (codes "of") d
  known ← only (codes "name" ∷ codes "compartment" ∷ codes "of" ∷ []) members
  Ok (record { name = name; compartment = compartment; of = of })
