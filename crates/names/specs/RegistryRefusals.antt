-- The refusals of the registry under their names in a reply, with the names of ids.
use Rattle.std.specs.Prelude.{◌≡◌, ℕ, List, Option, Some, None, codes, ⊤}
use Rattle.registry.specs.declared.id_sort.IdSort.{IdSort}
use Rattle.registry.specs.declared.id_sort.IdSort.TheVariants as sorts
use Rattle.registry.specs.declared.rule_sort.RuleSort.{RuleSort}
use Rattle.registry.specs.declared.rule_sort.RuleSort.TheVariants as rules
use Rattle.registry.specs.declared.registry_error.RegistryError.{RegistryError}
use Rattle.registry.specs.declared.registry_error.RegistryError.TheVariants as refused
use Rattle.script.specs.declared.declaration_refusal.DeclarationRefusal.TheVariants.{UnknownRule, StaticFacet, WrongShape, BadInverse, InverseTaken, TooMany}
use Rattle.script.specs.declared.refusal.Refusal.{Refusal}
use Rattle.script.specs.declared.refusal.LineError.{LineError}
use Rattle.script.specs.declared.refusal.LineError.TheVariants as errors
use Rattle.script.specs.declared.refusal.Refusal.TheVariants.{UnknownName, NameTaken, Declaration}

abbrev pub rule_sort_word : RuleSort → List ℕ
rule_sort_word rules.Combine = codes "combine"
rule_sort_word rules.Compare = codes "compare"
rule_sort_word rules.Compute = codes "compute"
rule_sort_word rules.ComputeN = codes "computeN"
rule_sort_word rules.Create = codes "create"
rule_sort_word rules.Update = codes "update"
rule_sort_word rules.EffectMap = codes "effectMap"

abbrev pub kind_word : IdSort → List ℕ
kind_word sorts.Compartment = codes "compartment"
kind_word sorts.Effect = codes "effect"
kind_word sorts.Facet = codes "facet"
kind_word sorts.Field = codes "field"
kind_word sorts.Node = codes "node"

-- a refusal of the registry, where ids have these names. An id that isn't declared, or is placed already, doesn't come, since
-- names stand for what is declared. Out of memory is none.
abbrev pub registry_refusal : (ℕ → List ℕ) → RegistryError → Option Refusal
registry_refusal names refused.NoMemory = None
registry_refusal names (refused.UnknownId sort id) = Some (UnknownName (names id))
registry_refusal names (refused.UnknownRule sort number) = Some (Declaration (UnknownRule (rule_sort_word sort) number))
registry_refusal names (refused.StaticFacet id) = Some (Declaration (StaticFacet (names id)))
registry_refusal names (refused.WrongShape id) = Some (Declaration (WrongShape (names id)))
registry_refusal names (refused.AlreadyPlaced id) = Some (NameTaken (names id))
registry_refusal names (refused.BadInverse one back) = Some (Declaration (BadInverse (names one) (names back)))
registry_refusal names (refused.InverseTaken id) = Some (Declaration (InverseTaken (names id)))
registry_refusal names (refused.TooMany kind) = Some (Declaration (TooMany (kind_word kind)))

-- an error of a line is the refusal that a refusal of the registry is, or out of memory
abbrev pub IsWritten : (ℕ → List ℕ) → RegistryError → LineError → Type 0
IsWritten names error errors.NoMemory = ⊤
IsWritten names error (errors.Refused r) = registry_refusal names error ≡ Some r
