-- What each declaring command makes of the registry and the names, or the first refusal: a name that is not declared or of
-- another sort, in the order of the fields; a name that is taken; what a written value is refused as; what the registry refuses,
-- with ids as the names that the command has for them.
use Rattle.std.specs.Prelude.{ℕ, ◌+◌, List, length, Bool, true, false, ◌&&◌, ◌==◌, Result, Ok, if◌then◌else◌, option_and_then, slice_get, position}
use Rattle.std.specs.Option.{option_map_or}
use Rattle.cm_plain.specs.Form.{fits}
use Rattle.configuration.specs.declared.dependency.Dependency.{Dependency}
use Rattle.configuration.specs.declared.field_def.FieldDef.{FieldDef}
use Rattle.values.specs.Declarations.{with_pair}
use Rattle.values.specs.Rules.{Rules}
use Rattle.registry.specs.declared.provided.Provided.{Provided}
use Rattle.registry.specs.Refusals.{first_of, is_rule, pair_refusals}
use Rattle.registry.specs.WholeFields.{whole_field_refusals, with_whole_field}
use Rattle.requests.specs.declared.computed_declarations.ComputeDeclaration.{ComputeDeclaration}
use Rattle.requests.specs.declared.computed_declarations.FromDeclaration.{FromDeclaration}
use Rattle.requests.specs.declared.declaration.Declaration.{Declaration}
use Rattle.requests.specs.declared.declaration.Declaration.TheVariants as declare
use Rattle.requests.specs.declared.effect_declarations.EffectDeclaration.{EffectDeclaration}
use Rattle.requests.specs.declared.effect_declarations.InverseDeclaration.{InverseDeclaration}
use Rattle.requests.specs.declared.extension_declarations.CompartmentDeclaration.{CompartmentDeclaration}
use Rattle.requests.specs.declared.extension_declarations.GroupDeclaration.{GroupDeclaration}
use Rattle.requests.specs.declared.extension_declarations.PrecDeclaration.{PrecDeclaration}
use Rattle.requests.specs.declared.extension_declarations.SlotDeclaration.{SlotDeclaration}
use Rattle.requests.specs.declared.facet_declaration.FacetDeclaration.{FacetDeclaration}
use Rattle.requests.specs.declared.field_declaration.ProvidedDeclaration.{ProvidedDeclaration}
use Rattle.requests.specs.declared.field_declaration.FieldDeclaration.{FieldDeclaration}
use Rattle.requests.specs.declared.value_declarations.InitDeclaration.{InitDeclaration}
use Rattle.requests.specs.declared.value_declarations.InputDeclaration.{InputDeclaration}
use Rattle.names.specs.Names.{NameList, as_effect, as_compartment, as_facet, as_field, as_node, as_read, found, all_found, each_of, is_free}
use Rattle.names.specs.Adding.{World, world, new_in, passing, with_thing}
use Rattle.names.specs.Sets.{value_of}
use Rattle.names.specs.declared.new_thing.NewThing.{NewThing}
use Rattle.names.specs.declared.new_thing.NewThing.TheVariants as new
use Rattle.names.specs.declared.named.Named.TheVariants.{Field}
use Rattle.script.specs.declared.refusal.Refusal.{Refusal}
use Rattle.script.specs.Reading.{◌>>=◌}

-- which of two names an effect kind has, of which the first one has this id
abbrev pub one_of : ℕ → List ℕ → List ℕ → ℕ → List ℕ
one_of effect first second id = if id == effect then first else second

-- `inverse`
abbrev pub inverse_in : World → InverseDeclaration → Result World Refusal
inverse_in w i = do
  effect ← found as_effect w.names i.effect
  back ← found as_effect w.names i.back
  declared ← passing (one_of effect i.effect i.back) (first_of (pair_refusals w.declared effect back)) (with_pair w.declared effect back)
  Ok (world w.names declared)

-- an input that a field provides
abbrev pub provided_in : NameList → ProvidedDeclaration → Result Provided Refusal
provided_in names p = do
  facet ← found as_facet names p.facet
  Ok (record { facet = facet; rule = p.rule })

-- what a field provides
abbrev pub all_provided : NameList → List ProvidedDeclaration → Result (List Provided) Refusal
all_provided names ps = each_of (provided_in names) ps

-- the name of a facet among those that a field provides inputs of, and else the field's own
abbrev pub provided_name : List ℕ → List ProvidedDeclaration → List Provided → ℕ → List ℕ
provided_name own ps qs id = option_map_or (λ (p : ProvidedDeclaration). p.facet) (option_and_then (slice_get ps) (position (λ (q : Provided). q.facet == id) qs)) own

abbrev pub field_def : FieldDeclaration → List Dependency → List ℕ → FieldDef
field_def f rs listens = record { create = f.rules.create; update = f.rules.update; compare = f.rules.compare; reads = rs; listens = listens }

-- whether what a creator gives is of the shape that an updater takes
abbrev pub creator_fits : Rules → (create update : ℕ) → Bool
creator_fits rules create update =
    is_rule rules.creators create && (is_rule rules.updaters update && fits (rules.create_output create) (rules.update_shape update))

abbrev pub name_among : (creator_fits : Bool) → List ℕ → List ProvidedDeclaration → List Provided → ℕ → List ℕ
name_among false own ps qs id = own
name_among true own ps qs id = provided_name own ps qs id

-- the name of what has a wrong shape: the field that is to be declared, where its creator doesn't fit; else a facet
abbrev pub field_names : Rules → FieldDeclaration → List Provided → ℕ → List ℕ
field_names rules f ps = name_among (creator_fits rules f.rules.create f.rules.update) f.name f.names.provides ps

-- what the names of a field stand for
pub record FieldThings : Type 0 where
  pub reads : List Dependency
  pub listens : List ℕ
  pub provided : List Provided

abbrev pub field_things : NameList → FieldDeclaration → Result FieldThings Refusal
field_things names f = do
  rs ← all_found as_read names f.names.reads
  listens ← all_found as_effect names f.names.listens
  provided ← all_provided names f.names.provides
  Ok (record { reads = rs; listens = listens; provided = provided })

-- a field whose names stand for these things
abbrev pub field_with : Rules → World → FieldDeclaration → FieldThings → Result World Refusal
field_with rules w f t =
    with_thing w f.name (Field (length w.declared.fields) (length w.declared.nodes + length t.provided)) (field_names rules f t.provided)
    (whole_field_refusals rules w.declared (field_def f t.reads t.listens) t.provided) (with_whole_field w.declared (field_def f t.reads t.listens) t.provided)

-- `field`
abbrev pub field_in : Rules → World → FieldDeclaration → Result World Refusal
field_in rules w f = do
  things ← field_things w.names f
  free ← is_free w.names f.name
  field_with rules w f things

-- `effect`
abbrev pub effect_in : Rules → World → EffectDeclaration → Result World Refusal
effect_in rules w e = do
  free ← is_free w.names e.name
  new_in rules w e.name e.name (new.Effect e.map)

-- `facet`
abbrev pub facet_in : Rules → World → FacetDeclaration → Result World Refusal
facet_in rules w f = do
  enables ← all_found as_node w.names f.enables
  free ← is_free w.names f.name
  new_in rules w f.name f.name (new.Facet f.def enables)

-- `compartment`
abbrev pub compartment_in : Rules → World → CompartmentDeclaration → Result World Refusal
compartment_in rules w c = do
  free ← is_free w.names c.name
  new_in rules w c.name c.name new.Compartment

-- `input`
abbrev pub input_in : Rules → World → InputDeclaration → Result World Refusal
input_in rules w i = do
  facet ← found as_facet w.names i.facet
  free ← is_free w.names i.name
  value ← value_of i.value
  new_in rules w i.name i.facet (new.Input facet value)

-- an input that a rule computes, or several
abbrev pub computed : (many : Bool) → (facet rule : ℕ) → List Dependency → NewThing
computed false facet rule rs = new.Compute facet rule rs
computed true facet rule rs = new.ComputeN facet rule rs

-- `compute`
abbrev pub compute_in : Rules → World → ComputeDeclaration → Result World Refusal
compute_in rules w c = do
  facet ← found as_facet w.names c.facet
  rs ← all_found as_read w.names c.deps
  free ← is_free w.names c.name
  new_in rules w c.name c.facet (computed c.many facet c.rule rs)

-- `from`
abbrev pub from_in : Rules → World → FromDeclaration → Result World Refusal
from_in rules w f = do
  facet ← found as_facet w.names f.facet
  field ← found as_field w.names f.field
  free ← is_free w.names f.name
  new_in rules w f.name f.facet (new.From facet field f.rule)

-- `init`
abbrev pub init_in : Rules → World → InitDeclaration → Result World Refusal
init_in rules w i = do
  field ← found as_field w.names i.field
  free ← is_free w.names i.name
  value ← value_of i.value
  new_in rules w i.name i.field (new.Init field value)

-- `group`
abbrev pub group_in : Rules → World → GroupDeclaration → Result World Refusal
group_in rules w g = do
  of ← all_found as_node w.names g.of
  free ← is_free w.names g.name
  new_in rules w g.name g.name (new.Group of)

-- `prec`
abbrev pub prec_in : Rules → World → PrecDeclaration → Result World Refusal
prec_in rules w p = do
  of ← found as_node w.names p.of
  free ← is_free w.names p.name
  new_in rules w p.name p.name (new.Prec p.at of)

-- `slot`
abbrev pub slot_in : Rules → World → SlotDeclaration → Result World Refusal
slot_in rules w s = do
  compartment ← found as_compartment w.names s.compartment
  of ← found as_node w.names s.of
  free ← is_free w.names s.name
  new_in rules w s.name s.name (new.Slot compartment of)

-- the names and what is declared after a declaration, or its first refusal
abbrev pub declared_in : Rules → World → Declaration → Result World Refusal
declared_in rules w (declare.Effect e) = effect_in rules w e
declared_in rules w (declare.Inverse i) = inverse_in w i
declared_in rules w (declare.Facet f) = facet_in rules w f
declared_in rules w (declare.Field f) = field_in rules w f
declared_in rules w (declare.Compartment c) = compartment_in rules w c
declared_in rules w (declare.Input i) = input_in rules w i
declared_in rules w (declare.Compute c) = compute_in rules w c
declared_in rules w (declare.From f) = from_in rules w f
declared_in rules w (declare.Init i) = init_in rules w i
declared_in rules w (declare.Group g) = group_in rules w g
declared_in rules w (declare.Prec p) = prec_in rules w p
declared_in rules w (declare.Slot s) = slot_in rules w s
