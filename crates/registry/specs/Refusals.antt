-- Why each declaration is refused: the first of its refusals in order.
use Rattle.std.specs.Prelude.{◌≡◌, ℕ, List, [], ◌∷◌, Bool, cond, not, ◌&&◌, is_none, nat_lt, nat_le, map, Option, Some, None, length, slice_get, ⊤}
use Rattle.std.specs.Option.{option_or}
use Rattle.cm_plain.specs.Form.{Form, fits}
use Rattle.configuration.specs.declared.dependency.Dependency.{Dependency}
use Rattle.configuration.specs.declared.dependency.Dependency.TheVariants as reads
use Rattle.configuration.specs.declared.facet_def.FacetDef.{FacetDef}
use Rattle.configuration.specs.declared.field_def.FieldDef.{FieldDef}
use Rattle.transaction.specs.Effects.{map_of}
use Rattle.values.specs.declared.val.Val.{Val}
use Rattle.values.specs.Rules.{Rules}
use Rattle.values.specs.Vals.{is_of}
use Rattle.registry.specs.declared.id_sort.IdSort.{IdSort}
use Rattle.registry.specs.declared.id_sort.IdSort.TheVariants.{Compartment, Effect, Facet, Field, Node}
use Rattle.registry.specs.declared.rule_sort.RuleSort.{RuleSort}
use Rattle.registry.specs.declared.rule_sort.RuleSort.TheVariants.{Combine, Compare, Compute, ComputeN, Create, Update, EffectMap}
use Rattle.registry.specs.declared.registry_error.RegistryError.{RegistryError}
use Rattle.registry.specs.declared.registry_error.RegistryError.TheVariants.{NoMemory, UnknownId, UnknownRule, StaticFacet, WrongShape, AlreadyPlaced, BadInverse, InverseTaken, TooMany}
use Rattle.values.specs.Declarations.{Declarations, is_placed, max_count}
use Rattle.values.specs.Lawful.{are_inverse}

-- refused as this error unless a condition holds
abbrev pub unless : Bool → RegistryError → Option RegistryError
unless holds error = cond holds None (Some error)

-- first refusal of a list
abbrev pub first_of : List (Option RegistryError) → Option RegistryError
first_of [] = None
first_of (r ∷ rs) = option_or r (first_of rs)

-- what a call is refused as, of refusals in order: an error other than out of memory is the first of them
abbrev pub IsRefused : List (Option RegistryError) → RegistryError → Type 0
IsRefused rs NoMemory = ⊤
IsRefused rs error = first_of rs ≡ Some error

-- a call isn't refused where none of its refusals holds
abbrev pub Passes : List (Option RegistryError) → Type 0
Passes rs = first_of rs ≡ None

-- an id is known where it is less than how many there are
abbrev pub known : IdSort → ℕ → ℕ → Option RegistryError
known sort count id = unless (nat_lt id count) (UnknownId sort id)

-- each id of a list is known
abbrev pub all_known : IdSort → ℕ → List ℕ → Option RegistryError
all_known sort count ids = first_of (map (known sort count) ids)

-- a read names a facet or field that is declared, of so many
abbrev pub read_known : (facets fields : ℕ) → Dependency → Option RegistryError
read_known facets fields reads.Doc = None
read_known facets fields reads.Selection = None
read_known facets fields (reads.Facet facet) = known Facet facets facet
read_known facets fields (reads.Field field) = known Field fields field

-- each read of a list names one that is declared
abbrev pub reads_known : Declarations → List Dependency → Option RegistryError
reads_known d rs = first_of (map (read_known (length d.facets) (length d.fields)) rs)

-- a number of a sort of rules that has so many: they run from 1
abbrev pub is_rule : ℕ → ℕ → Bool
is_rule count number = nat_le 1 number && nat_le number count

abbrev pub rule_known : RuleSort → ℕ → ℕ → Option RegistryError
rule_known sort count number = unless (is_rule count number) (UnknownRule sort number)

-- there is room for one more
abbrev pub has_room : IdSort → ℕ → Option RegistryError
has_room kind count = unless (nat_lt count max_count) (TooMany kind)

-- a computed input: its facet isn't static
abbrev pub computes : ℕ → Option FacetDef → Option RegistryError
computes facet None = None
computes facet (Some def) = unless (not def.is_static) (StaticFacet facet)

-- a value is of the shape that the combiner of its facet takes
abbrev pub value_fits : Rules → ℕ → Option FacetDef → Val → Option RegistryError
value_fits rules facet None value = None
value_fits rules facet (Some def) value = unless (is_of (rules.combine_input def.combine) value) (WrongShape facet)

-- what a rule gives fits the shape that the combiner of its facet takes
abbrev pub output_fits : Rules → ℕ → Option FacetDef → Form → Option RegistryError
output_fits rules facet None output = None
output_fits rules facet (Some def) output = unless (fits output (rules.combine_input def.combine)) (WrongShape facet)

-- an init value is of the shape that the updater of its field takes
abbrev pub init_fits : Rules → ℕ → Option FieldDef → Val → Option RegistryError
init_fits rules field None value = None
init_fits rules field (Some def) value = unless (is_of (rules.update_shape def.update) value) (WrongShape field)

-- a field isn't placed yet
abbrev pub unplaced : Declarations → ℕ → Option RegistryError
unplaced d field = unless (not (is_placed d field)) (AlreadyPlaced field)

-- facet: known nodes that it enables; its rules; room
abbrev pub facet_refusals : Rules → Declarations → FacetDef → List ℕ → List (Option RegistryError)
facet_refusals rules d def enables =
    all_known Node (length d.nodes) enables
    ∷ rule_known Combine rules.combiners def.combine
    ∷ rule_known Compare rules.comparers def.compare_input
    ∷ rule_known Compare rules.comparers def.compare
    ∷ has_room Facet (length d.facets)
    ∷ []

-- what a field names: known reads and effects; its rules
abbrev pub field_names : Rules → Declarations → FieldDef → List (Option RegistryError)
field_names rules d def =
    reads_known d def.reads
    ∷ all_known Effect (length d.maps) def.listens
    ∷ rule_known Create rules.creators def.create
    ∷ rule_known Update rules.updaters def.update
    ∷ rule_known Compare rules.comparers def.compare
    ∷ []

-- field: what it names; what its creator gives fits its updater; room
abbrev pub field_refusals : Rules → Declarations → FieldDef → List (Option RegistryError)
field_refusals rules d def =
    first_of (field_names rules d def)
    ∷ unless (fits (rules.create_output def.create) (rules.update_shape def.update)) (WrongShape (length d.fields))
    ∷ has_room Field (length d.fields)
    ∷ []

-- placing a field: a known field and known nodes that it provides; not placed yet; room
abbrev pub place_refusals : Declarations → ℕ → List ℕ → List (Option RegistryError)
place_refusals d field provides =
    known Field (length d.fields) field
    ∷ all_known Node (length d.nodes) provides
    ∷ unplaced d field
    ∷ has_room Node (length d.nodes)
    ∷ []

-- map number of an effect kind, if it has one
abbrev pub map_known : Rules → Option ℕ → Option RegistryError
map_known rules None = None
map_known rules (Some number) = rule_known EffectMap rules.effect_maps number

-- effect kind: its map; room
abbrev pub effect_refusals : Rules → Declarations → Option ℕ → List (Option RegistryError)
effect_refusals rules d number = map_known rules number ∷ has_room Effect (length d.maps) ∷ []

-- compartment: room
abbrev pub compartment_refusals : Declarations → List (Option RegistryError)
compartment_refusals d = has_room Compartment d.compartments ∷ []

-- group: known nodes; room
abbrev pub group_refusals : Declarations → List ℕ → List (Option RegistryError)
group_refusals d of = all_known Node (length d.nodes) of ∷ has_room Node (length d.nodes) ∷ []

-- precedence: a known node; room
abbrev pub prec_refusals : Declarations → ℕ → List (Option RegistryError)
prec_refusals d of = known Node (length d.nodes) of ∷ has_room Node (length d.nodes) ∷ []

-- slot: a known compartment and a known node; room
abbrev pub slot_refusals : Declarations → (compartment of : ℕ) → List (Option RegistryError)
slot_refusals d compartment of =
    known Compartment d.compartments compartment ∷ known Node (length d.nodes) of ∷ has_room Node (length d.nodes) ∷ []

-- input with a value: a known facet; the value fits; room
abbrev pub input_refusals : Rules → Declarations → ℕ → Val → List (Option RegistryError)
input_refusals rules d facet value =
    known Facet (length d.facets) facet
    ∷ value_fits rules facet (slice_get d.facets facet) value
    ∷ has_room Node (length d.nodes)
    ∷ []

-- what a computed input names: a known facet and known reads; its rule; the facet isn't static
abbrev pub computed_names : Declarations → ℕ → List Dependency → RuleSort → (count rule : ℕ) → List (Option RegistryError)
computed_names d facet rs sort count rule =
    known Facet (length d.facets) facet
    ∷ reads_known d rs
    ∷ rule_known sort count rule
    ∷ computes facet (slice_get d.facets facet)
    ∷ []

-- computed input: what it names; what the rule gives fits; room
abbrev pub computed_refusals : Rules → Declarations → ℕ → List Dependency → RuleSort → (count : ℕ) → (output : ℕ → Form) → (rule : ℕ) → List (Option RegistryError)
computed_refusals rules d facet rs sort count output rule =
    first_of (computed_names d facet rs sort count rule)
    ∷ output_fits rules facet (slice_get d.facets facet) (output rule)
    ∷ has_room Node (length d.nodes)
    ∷ []

-- input that a rule computes
abbrev pub compute_refusals : Rules → Declarations → (facet rule : ℕ) → List Dependency → List (Option RegistryError)
compute_refusals rules d facet rule rs = computed_refusals rules d facet rs Compute rules.computers rules.compute_output rule

-- inputs that a rule computes
abbrev pub compute_n_refusals : Rules → Declarations → (facet rule : ℕ) → List Dependency → List (Option RegistryError)
compute_n_refusals rules d facet rule rs = computed_refusals rules d facet rs ComputeN rules.list_computers rules.list_output rule

-- input from a field: one that a rule computes from that field alone
abbrev pub from_refusals : Rules → Declarations → (facet field rule : ℕ) → List (Option RegistryError)
from_refusals rules d facet field rule = compute_refusals rules d facet rule (reads.Field field ∷ [])

-- a field that is placed
abbrev pub placed_known : Declarations → ℕ → Option RegistryError
placed_known d field = unless (is_placed d field) (UnknownId Field field)

-- init: a field that is placed; the value fits; room
abbrev pub init_refusals : Rules → Declarations → ℕ → Val → List (Option RegistryError)
init_refusals rules d field value =
    placed_known d field
    ∷ init_fits rules field (slice_get d.fields field) value
    ∷ has_room Node (length d.nodes)
    ∷ []

-- an effect kind has no pair yet
abbrev pub unpaired : Declarations → ℕ → Option RegistryError
unpaired d effect = unless (is_none (map_of d.pairs effect)) (InverseTaken effect)

-- pair: two known effect kinds; their maps undo each other; neither has a pair
abbrev pub pair_refusals : Declarations → (effect back : ℕ) → List (Option RegistryError)
pair_refusals d effect back =
    known Effect (length d.maps) effect
    ∷ known Effect (length d.maps) back
    ∷ unless (are_inverse (map_of d.maps effect) (map_of d.maps back)) (BadInverse effect back)
    ∷ unpaired d effect
    ∷ unpaired d back
    ∷ []
