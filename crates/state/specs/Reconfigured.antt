-- Effects on the configuration, and what it becomes by them (Reference Manual, Compartment.reconfigure,
-- StateEffect.reconfigure, StateEffect.appendConfig).
use Rattle.std.specs.Prelude.{◌≡◌, List, [], ◌∷◌, ◌++◌, Bool, true, false, fold}
use Rattle.std.specs.List.{list_any}
use Rattle.compartments.specs.Contents.{with_content}
use Rattle.ext_tree.specs.Tree.{Tree, tree_of}
use Rattle.configuration.specs.Config.{ConfigView}
use Rattle.configuration.specs.Resolved.{IsConfig}
use Rattle.transaction.specs.declared.effect.Effect.{Effect}
use Rattle.transaction.specs.declared.effect.Effect.TheVariants.{Kind, Reconfigure, Root, Append}
use Rattle.values.specs.declared.val.Val.{Val}
use Rattle.values.specs.Declarations.{Declarations}
use Rattle.facet_slots.specs.Lent.{definitions}
use Rattle.facet_slots.specs.Setups.{Setup}
use Rattle.state.specs.declared.extensions.Extensions.{Extensions}

-- the extensions that a configuration was resolved from
abbrev pub extensions_of : ConfigView → Extensions
extensions_of config = record { base = config.base; contents = config.contents }

-- Extended: `Reconfigure` sets the content of a compartment; `Root` replaces the root and drops what was appended, and set
-- contents stay; `Append` adds a node to the root.
abbrev pub extended : Extensions → Effect Val → Extensions
extended e (Kind id value) = e
extended e (Reconfigure compartment to) = record { base = e.base; contents = with_content e.contents compartment to }
extended e (Root ids) = record { base = ids; contents = e.contents }
extended e (Append id) = record { base = e.base ++ id ∷ []; contents = e.contents }

-- Extensions after effects, which act in order.
abbrev pub extensions_after : Extensions → List (Effect Val) → Extensions
extensions_after e effects = fold extended e effects

-- whether an effect is one on the configuration
abbrev pub is_configuring : Effect Val → Bool
is_configuring (Kind id value) = false
is_configuring (Reconfigure compartment to) = true
is_configuring (Root ids) = true
is_configuring (Append id) = true

-- whether some effect is
abbrev pub configures : List (Effect Val) → Bool
configures effects = list_any is_configuring effects

-- the tree that extensions are walked in, over what is declared
abbrev pub tree_in : Declarations → Extensions → Tree
tree_in d e = tree_of d.nodes e.contents d.links

-- a configuration that the extensions come to
abbrev pub IsConfigOf : Declarations → Extensions → ConfigView → Type 0
IsConfigOf d e config = IsConfig (tree_in d e) d.facets d.fields d.node_defs e.base config

-- Configuration after effects: the old one where none is on the configuration; else what the extensions come to after all of
-- them. A set content of a compartment that isn't met is dropped then.
abbrev pub IsConfigAfter : (is_configured : Bool) → Declarations → ConfigView → List (Effect Val) → ConfigView → Type 0
IsConfigAfter false d old effects config = config ≡ old
IsConfigAfter true d old effects config = IsConfigOf d (extensions_after (extensions_of old) effects) config

-- a configuration over all that is declared
abbrev pub setup_in : Declarations → ConfigView → Setup
setup_in d config = record { defs = definitions d; config = config }

-- Setup after effects: that configuration, over all that is declared.
pub record IsSetupAfter (d : Declarations) (old : ConfigView) (effects : List (Effect Val)) (setup : Setup) : Type 0 where
  pub defs : setup.defs ≡ definitions d
  pub config : IsConfigAfter (configures effects) d old effects setup.config
