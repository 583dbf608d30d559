-- What a registry holds, as setups need it.
use Rattle.std.proofs.Common.{◌≡◌, ◌∙◌, refl, sym, ap, subst}
use Rattle.configuration.specs.Config.{ConfigView}
use Rattle.configuration.specs.Resolved.{IsConfig}
use Rattle.configuration.specs.declared.defs.Defs.{Defs}
use Rattle.ext_tree.specs.Tree.{tree_of}
use Rattle.values.specs.declared.val.Val.{Val}
use Rattle.values.specs.Declarations.{AreDefs, Declarations}
use Rattle.values.specs.Lawful.{IsLawful as AreLawfulDeclarations}
use Rattle.values.specs.Rules.{Rules}
use Rattle.facet_slots.specs.Agreement.{IsGrown}
use Rattle.facet_slots.specs.Lawful.{IsLawful}
use Rattle.facet_slots.specs.Lent.{definitions, defs_of}
use Rattle.facet_slots.specs.Resolving.{IsResolved}
use Rattle.facet_slots.specs.Setups.{Definitions, Setup}
use Rattle.facet_slots.proofs.Declared.{later-lawful, lent-are, setup-lawful, setup-resolved}
use Rattle.state.specs.declared.extensions.Extensions.{Extensions}
use Rattle.state.specs.Reconfigured.{IsConfigOf, setup_in}

module _ (rules : Rules) (d : Declarations) (lawful : AreLawfulDeclarations rules d) (defs : Defs Val) (is : AreDefs defs d) where
  lent-config : (e : Extensions) (config : ConfigView) → IsConfigOf d e config → IsConfig (tree_of d.nodes e.contents defs.links) defs.facets defs.fields defs.node_defs e.base config
  lent-config e config resolved = rw (is.links_are, is.facets_are, is.fields_are, is.node_defs_are) resolved

  -- a configuration that extensions come to makes a resolved and lawful setup
  pub resolved-in : (e : Extensions) (config : ConfigView) → IsConfigOf d e config → IsResolved (setup_in d config)
  resolved-in e config resolved =
      subst (λ (k : Definitions). IsResolved (record { defs = k; config = config })) (lent-are defs d is)
      (setup-resolved rules d lawful defs is d.nodes refl e.contents e.base config (lent-config e config resolved))

  pub lawful-in : (e : Extensions) (config : ConfigView) → IsConfigOf d e config → IsLawful rules (setup_in d config)
  lawful-in e config resolved =
      subst (λ (k : Definitions). IsLawful rules (record { defs = k; config = config })) (lent-are defs d is)
      (setup-lawful rules d lawful defs is d.nodes refl e.contents e.base config (lent-config e config resolved))

  -- an older setup stays lawful over all that is declared
  pub later-in : (old : Setup) → IsResolved old → IsGrown old.defs (definitions d) → IsLawful rules old → IsLawful rules (setup_in d old.config)
  later-in old resolved grown law =
      subst (λ (k : Definitions). IsLawful rules (record { defs = k; config = old.config })) (lent-are defs d is)
      (later-lawful rules d lawful defs is old resolved (subst (IsGrown old.defs) (sym (lent-are defs d is)) grown) law)

-- the setup of shared definitions and a shared configuration
abbrev pub setup_with : Definitions → ConfigView → Setup
setup_with defs config = record { defs = defs; config = config }

pub setup-is : (d : Declarations) (defs : Defs Val) → AreDefs defs d → (k : Definitions) → k ≡ defs_of defs → (shared config : ConfigView) → shared ≡ config → setup_with k shared ≡ setup_in d config
setup-is d defs is k same shared config e = ap (λ (x : Definitions). setup_with x shared) (same ∙ lent-are defs d is) ∙ ap (setup_with (definitions d)) e
