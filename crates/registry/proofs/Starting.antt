-- What is declared from the start is lawful, and isn't refused.
use Rattle.std.proofs.Common.{◌≡◌, ℕ, ◌<◌, ◌≤◌, ◌+◌, List, [], ◌∷◌, ◌++◌, Bool, true, false, ◌&&◌, nat_lt, nat_le, Option, None, length, length-append, refl, arith}
use Rattle.std.specs.List.{AllByRecursion}
use Rattle.std.proofs.lemmas.Grind.{common_steps}
use Rattle.cm_plain.specs.Form.{fits}
use Rattle.configuration.specs.declared.facet_def.FacetDef.{FacetDef}
use Rattle.transaction.specs.Numbers.{IsNumber}
use Rattle.values.specs.Rules.{Rules}
use Rattle.values.specs.Shipped.{KeepsShipped}
use Rattle.values.specs.Declarations.{Declarations, is_placed, max_count, nothing, with_effect, with_facet, with_field}
use Rattle.values.specs.Lawful.{IsLawful, IsLawfulFacet}
use Rattle.registry.specs.declared.id_sort.IdSort.{IdSort}
use Rattle.registry.specs.declared.id_sort.IdSort.TheVariants.{Effect, Facet, Field, Node}
use Rattle.registry.specs.declared.rule_sort.RuleSort.{RuleSort}
use Rattle.registry.specs.declared.rule_sort.RuleSort.TheVariants.{Combine, Compare, Create, Update}
use Rattle.registry.specs.declared.registry_error.RegistryError.{RegistryError}
use Rattle.registry.specs.Predeclared.{combined_by, history_def, predeclared, predeclared_facets, with_facets}
use Rattle.registry.specs.PrivateRegistered.{IsRegistered}
use Rattle.registry.specs.Refusals.{Passes, effect_refusals, facet_refusals, field_names, field_refusals, first_of, has_room, known, place_refusals, rule_known, unless}
use Rattle.registry.proofs.Declaring.{declare-effect, declare-facet, declare-field, declare-place, lawful-nothing}
use Rattle.registry.proofs.Growing.{grows-same}

passes-unless : (b : Bool) (e : RegistryError) → b ≡ true → unless b e ≡ None
passes-unless true e h = refl
passes-unless false e h = absurd (grind (arith, h))

has-rule : (sort : RuleSort) (count number : ℕ) → IsNumber count number → rule_known sort count number ≡ None
has-rule sort count number h = let l = h.low in let k = h.high in passes-unless (nat_le 1 number && nat_le number count) _ (grind (arith, common_steps, l, k))

is-room : (kind : IdSort) (count : ℕ) → count < max_count → has_room kind count ≡ None
is-room kind count l = passes-unless (nat_lt count max_count) _ (grind (arith, common_steps, l))

is-there : (sort : IdSort) (count id : ℕ) → id < count → known sort count id ≡ None
is-there sort count id l = passes-unless (nat_lt id count) _ (grind (arith, common_steps, l))

pub facet-passes : (rules : Rules) (d : Declarations) (def : FacetDef) → IsLawfulFacet rules def → length d.facets < max_count → Passes (facet_refusals rules d def [])
facet-passes rules d def h l = rw (has-rule Combine rules.combiners def.combine h.combine, has-rule Compare rules.comparers def.compare_input h.compare_input, has-rule Compare rules.comparers def.compare h.compare, is-room Facet (length d.facets) l) refl

pub effect-passes : (rules : Rules) (d : Declarations) → length d.maps < max_count → Passes (effect_refusals rules d None)
effect-passes rules d l = rw (is-room Effect (length d.maps) l) refl

pub place-passes : (d : Declarations) → 0 < length d.fields → is_placed d 0 ≡ false → length d.nodes < max_count → Passes (place_refusals d 0 [])
place-passes d k u l = rw (is-there Field (length d.fields) 0 k, u, is-room Node (length d.nodes) l) refl

module _ (rules : Rules) (keeps : KeepsShipped rules) where
  is-combiner : (n : ℕ) → 1 ≤ n → n ≤ 13 → IsNumber rules.combiners n
  is-combiner n l k = let h = keeps.combiners in record { low = l; high = omega (arith, k, h) }

  is-equality : IsNumber rules.comparers 1
  is-equality = let h = keeps.comparers in record { low = omega arith; high = omega (arith, h) }

  lawful-facet : (n : ℕ) (is_static : Bool) → 1 ≤ n → n ≤ 13 → IsLawfulFacet rules (combined_by n is_static)
  lawful-facet n is_static l k = record { combine = is-combiner n l k; compare_input = is-equality; compare = is-equality }

  pub lawful-facets : AllByRecursion (IsLawfulFacet rules) predeclared_facets
  lawful-facets =
      (lawful-facet 8 true (omega arith) (omega arith), (lawful-facet 3 true (omega arith) (omega arith), (lawful-facet 7 false (omega arith) (omega arith), (lawful-facet 13 false (omega arith) (omega arith), (lawful-facet 9 false (omega arith) (omega arith), (lawful-facet 10 false (omega arith) (omega arith), (lawful-facet 11 false (omega arith) (omega arith), (lawful-facet 6 false (omega arith) (omega arith), (lawful-facet 12 false (omega arith) (omega arith), (lawful-facet 1 false (omega arith) (omega arith), tt))))))))))

  history-fits : fits (rules.create_output 6) (rules.update_shape 6) ≡ true
  history-fits = rw (keeps.create_output.kept 6 (record { low = omega arith; high = omega arith }), keeps.update_shape.kept 6 (record { low = omega arith; high = omega arith })) refl

  history-names : (d : Declarations) → 8 < length d.facets → first_of (field_names rules d history_def) ≡ None
  history-names d k =
      let creators = keeps.creators in
      let updaters = keeps.updaters in
      rw (is-there Facet (length d.facets) 8 k, has-rule Create rules.creators 6 (record { low = omega arith; high = omega (arith, creators) }), has-rule Update rules.updaters 6 (record { low = omega arith; high = omega (arith, updaters) }), has-rule Compare rules.comparers 1 is-equality) refl

  pub history-passes : (d : Declarations) → 8 < length d.facets → length d.fields < max_count → Passes (field_refusals rules d history_def)
  history-passes d k l = rw (history-names d k, history-fits, is-room Field (length d.fields) l) refl

  lawful-added : (d : Declarations) → IsLawful rules d → (defs : List FacetDef) → AllByRecursion (IsLawfulFacet rules) defs → length d.facets + length defs ≤ max_count → IsLawful rules (with_facets d defs)
  lawful-added d h [] a l = h
  lawful-added d h (def ∷ defs) a l =
      let e : length (d.facets ++ def ∷ []) ≡ length d.facets + 1 = length-append d.facets (def ∷ []) in
      lawful-added (with_facet d def []) (declare-facet rules d h def [] (facet-passes rules d def a.0 (omega (arith, l)))) defs a.1 (omega (arith, l, e))

  abbrev with_all : Declarations
  with_all = with_facets nothing predeclared_facets

  abbrev with_note : Declarations
  with_note = with_effect with_all None

  abbrev with_history : Declarations
  with_history = with_field with_note history_def

  note-lawful : IsLawful rules with_note
  note-lawful = declare-effect rules with_all (lawful-added nothing (lawful-nothing rules) predeclared_facets lawful-facets (omega arith)) None (effect-passes rules with_all (omega arith))

  history-lawful : IsLawful rules with_history
  history-lawful = declare-field rules with_note note-lawful history_def (history-passes with_note (omega arith) (omega arith))

  -- what is declared from the start is lawful, and has grown from itself
  pub starts-registered : IsRegistered rules predeclared
  starts-registered = record {
    lawful = declare-place rules with_history history-lawful 0 [] (place-passes with_history (omega arith) refl (omega arith));
    grown = grows-same predeclared;
  }
