-- The configuration of extensions, or why there is none, is the function's answer.
use Rattle.std.proofs.Common.{◌≡◌, ◌∙◌, ℕ, List, [], Option, Some, None, true, false, Ok, Err, sym, ap}
use Rattle.compartments.specs.Contents.{AreAscending}
use Rattle.configuration.specs.Config.{ConfigView}
use Rattle.configuration.specs.Resolved.{IsCause}
use Rattle.configuration.specs.declared.config_error.ConfigError.{ConfigError}
use Rattle.configuration.specs.declared.config_error.ConfigError.TheVariants as config_error
use Rattle.resolution.specs.Resolution.{IsPlain, PlainConfig, plain_config, resolved}
use Rattle.resolution.proofs.Resolving.{is-plain, plain-ascending, plain-contents, refuses, resolves}
use Rattle.transaction.specs.declared.effect.Effect.{Effect}
use Rattle.values.specs.declared.val.Val.{Val}
use Rattle.values.specs.Declarations.{Declarations}
use Rattle.state.specs.declared.extensions.Extensions.{Extensions}
use Rattle.state.specs.declared.state_error.StateError.{StateError}
use Rattle.state.specs.declared.state_error.StateError.TheVariants.{NoMemory}
use Rattle.state.specs.Plainly.{changed_if, config_after, config_from, config_or, config_with, unordered_config}
use Rattle.state.specs.Reconfigured.{IsConfigOf, configures, extensions_after, extensions_of, tree_in}
use Rattle.state.specs.Refusals.{of_config_error}

abbrev config_of : List ℕ → List ℕ → List (List ℕ) → List (Option ℕ) → List (ℕ × ℕ) → ConfigView
config_of base flat inputs fields contents = record { base = base; flat = flat; inputs = inputs; fields = fields; order = []; contents = contents }

-- without its order a configuration is the plain one
unordered-is : (config : ConfigView) (plain : PlainConfig) → IsPlain config plain → config.contents ≡ plain.contents → unordered_config config ≡ config_with plain
unordered-is config plain p same =
    ap (λ (x : List ℕ). config_of x config.flat config.inputs config.fields config.contents) p.base_is
    ∙ ap (λ (x : List ℕ). config_of plain.base x config.inputs config.fields config.contents) p.flat_is
    ∙ ap (λ (x : List (List ℕ)). config_of plain.base plain.flat x config.fields config.contents) p.inputs_are
    ∙ ap (λ (x : List (Option ℕ)). config_of plain.base plain.flat plain.inputs x config.contents) p.fields_are
    ∙ ap (config_of plain.base plain.flat plain.inputs plain.fields) same

module _ (d : Declarations) (e : Extensions) where
  pub config-found : (config : ConfigView) → IsConfigOf d e config → AreAscending config.contents → config_from d e ≡ Ok (unordered_config config)
  config-found config is ascending =
      let plain : PlainConfig = plain_config (tree_in d e) d.facets d.fields e.base in
      let comes : resolved (tree_in d e) d.facets d.fields d.node_defs e.base ≡ Ok plain = resolves (tree_in d e) d.facets d.fields d.node_defs e.base config is in
      let p : IsPlain config plain = is-plain (tree_in d e) d.facets d.fields d.node_defs e.base config is in
      ap config_or comes
      ∙ ap (λ (x : ConfigView). Ok x) (sym (unordered-is config plain p (plain-contents config plain p ascending (plain-ascending (tree_in d e) d.facets d.fields d.node_defs e.base plain comes))))

  pub config-refused : (cause : ConfigError) → IsCause (tree_in d e) d.facets d.fields d.node_defs e.base cause → (error : StateError) → error ≡ of_config_error cause → (error ≡ NoMemory → ⊥) → config_from d e ≡ Err error
  config-refused cause is error same other =
      ap config_or (refuses (tree_in d e) d.facets d.fields d.node_defs e.base cause is (λ (memory : cause ≡ config_error.NoMemory). other (same ∙ ap of_config_error memory)))
      ∙ ap (λ (x : StateError). Err x) (sym same)

module _ (d : Declarations) (old : ConfigView) (effects : List (Effect Val)) where
  pub none-after : configures effects ≡ false → config_after d old effects ≡ Ok None
  none-after e = ap (λ b. changed_if b (config_from d (extensions_after (extensions_of old) effects))) e

  pub some-after : (config : ConfigView) → configures effects ≡ true → config_from d (extensions_after (extensions_of old) effects) ≡ Ok config → config_after d old effects ≡ Ok (Some config)
  some-after config e found = ap (λ b. changed_if b (config_from d (extensions_after (extensions_of old) effects))) e ∙ ap (changed_if true) found

  pub refused-after : (error : StateError) → configures effects ≡ true → config_from d (extensions_after (extensions_of old) effects) ≡ Err error → config_after d old effects ≡ Err error
  refused-after error e refused = ap (λ b. changed_if b (config_from d (extensions_after (extensions_of old) effects))) e ∙ ap (changed_if true) refused
