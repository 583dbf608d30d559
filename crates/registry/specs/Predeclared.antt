-- What is declared from the start, in order: facets, the effect kind `note`, the field `history` with its node.
use Rattle.std.specs.Prelude.{ℕ, List, [], ◌∷◌, Bool, true, false, None}
use Rattle.configuration.specs.declared.dependency.Dependency.TheVariants as reads
use Rattle.configuration.specs.declared.facet_def.FacetDef.{FacetDef}
use Rattle.configuration.specs.declared.field_def.FieldDef.{FieldDef}
use Rattle.values.specs.Declarations.{Declarations, nothing, with_effect, with_facet, with_field, with_placed}

-- with some facets, in order, none of which enables anything
abbrev pub with_facets : Declarations → List FacetDef → Declarations
with_facets d [] = d
with_facets d (def ∷ rest) = with_facets (with_facet d def []) rest

-- a facet by its combiner, whose inputs and values are the same where they are equal
abbrev pub combined_by : (combine : ℕ) → (is_static : Bool) → FacetDef
combined_by combine is_static = record { combine = combine; compare_input = 1; compare = 1; is_static = is_static }

-- the facets saveSeparator, allowMultipleSelections, tabSize, readOnly, changeFilter, transactionFilter,
-- transactionExtender, decorations, historyConfig, filterData
abbrev pub predeclared_facets : List FacetDef
predeclared_facets =
    combined_by 8 true
    ∷ combined_by 3 true
    ∷ combined_by 7 false
    ∷ combined_by 13 false
    ∷ combined_by 9 false
    ∷ combined_by 10 false
    ∷ combined_by 11 false
    ∷ combined_by 6 false
    ∷ combined_by 12 false
    ∷ combined_by 1 false
    ∷ []

-- the field history, which reads historyConfig
abbrev pub history_def : FieldDef
history_def = record { create = 6; update = 6; compare = 1; reads = reads.Facet 8 ∷ []; listens = [] }

-- Predeclared: the facets, the effect kind `note` without a map, and the field history with its node.
abbrev pub predeclared : Declarations
predeclared = with_placed (with_field (with_effect (with_facets nothing predeclared_facets) None) history_def) 0 []
