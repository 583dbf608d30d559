use Rattle.std.specs.Prelude.{ℕ, List, ⊤}
use Rattle.dep_graph.specs.declared.edge.Edge.{Edge}
use Rattle.configuration.specs.Vertices.{AreCircle}
use Rattle.ext_tree.specs.declared.ext_error.ExtError.{ExtError}
use Rattle.ext_tree.specs.declared.ext_error.ExtError.TheVariants as extension
use Rattle.configuration.specs.declared.config_error.ConfigError.{ConfigError}
use Rattle.configuration.specs.declared.config_error.ConfigError.TheVariants as config

-- error of the extension tree, as one of the configuration
abbrev pub of_extensions : ExtError → ConfigError
of_extensions extension.NoMemory = config.NoMemory
of_extensions (extension.UnknownExt id) = config.UnknownExt id
of_extensions (extension.DuplicateCompartment compartment first second) = config.DuplicateCompartment compartment first second
of_extensions (extension.CompartmentLoop path) = config.CompartmentLoop path

-- cause of an error of ordering: its members are the circle that the pairs have
abbrev pub IsOrderCause : ℕ → ℕ → List Edge → ConfigError → Type 0
IsOrderCause facets count es config.NoMemory = ⊤
IsOrderCause facets count es (config.Cycle members) = AreCircle facets count es members
IsOrderCause facets count es e = ⊥
