-- Why there is no configuration, with the names of ids.
use Rattle.std.specs.Prelude.{ℕ, List, [], map, Option, Some, None}
use Rattle.std.specs.Option.{unwrap_or}
use Rattle.configuration.specs.declared.config_error.ConfigError.{ConfigError}
use Rattle.configuration.specs.declared.config_error.ConfigError.TheVariants as causes
use Rattle.configuration.specs.declared.vertex.Vertex.{Vertex}
use Rattle.configuration.specs.declared.vertex.Vertex.TheVariants as vertices
use Rattle.names.specs.Names.{NameList, name_of}
use Rattle.registry.specs.declared.id_sort.IdSort.{IdSort}
use Rattle.registry.specs.declared.id_sort.IdSort.TheVariants.{Compartment, Facet, Field, Node}
use Rattle.script.specs.declared.extension_refusal.ExtensionRefusal.TheVariants.{DuplicateCompartment, CompartmentLoop, Cycle}
use Rattle.script.specs.declared.refusal.Refusal.{Refusal}
use Rattle.script.specs.declared.refusal.Refusal.TheVariants.{UnknownName, Extensions}

-- how an id is written: the name of what is known by it among the things of a sort, or the empty text where it has none
abbrev pub written : NameList → IdSort → ℕ → List ℕ
written names sort id = unwrap_or (name_of sort id names) []

-- how a facet or field is written
abbrev pub written_vertex : NameList → Vertex → List ℕ
written_vertex names (vertices.Facet id) = written names Facet id
written_vertex names (vertices.Field id) = written names Field id

-- a refusal of a configuration. A node that isn't declared doesn't come, since names stand for what is declared. Out of memory
-- is none.
abbrev pub config_refusal : NameList → ConfigError → Option Refusal
config_refusal names causes.NoMemory = None
config_refusal names (causes.UnknownExt id) = Some (UnknownName (written names Node id))
config_refusal names (causes.DuplicateCompartment compartment first second) =
    Some (Extensions (DuplicateCompartment (written names Compartment compartment) (written names Node first) (written names Node second)))
config_refusal names (causes.CompartmentLoop path) = Some (Extensions (CompartmentLoop (map (written names Node) path)))
config_refusal names (causes.Cycle members) = Some (Extensions (Cycle (map (written_vertex names) members)))
