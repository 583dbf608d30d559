-- Configurations over definitions that only grow agree, and a transaction alone keeps the configuration.
use Rattle.std.proofs.Common.{◌≡◌, ◌≤◌, ◌<◌, ◌∙◌, ℕ, zero, suc, List, [], ◌∷◌, ◌++◌, Option, None, Some, length, drop, slice_get, get_or, map, refl, sym, ap, arith, ⊎_elim}
use Rattle.std.specs.Option.{option_and_then, option_flatten, option_map}
use Rattle.std.specs.List.{AllByRecursion}
use Rattle.std.proofs.lemmas.Option.{slice_get_cases}
use Rattle.std.proofs.lemmas.List.{length-append}
use Rattle.configuration.specs.declared.facet_def.FacetDef.{FacetDef}
use Rattle.configuration.specs.declared.field_def.FieldDef.{FieldDef}
use Rattle.configuration.specs.declared.node_def.NodeDef.{NodeDef}
use Rattle.configuration.specs.Config.{ConfigView}
use Rattle.values.specs.declared.val.Val.{Val}
use Rattle.facet_slots.specs.Setups.{Definitions, Setup, InputNode, PresentFacet, PresentField, input_node, inputs_at, facet_at, init_of, node_at, field_with, field_at}
use Rattle.facet_slots.specs.Agreement.{Extends, IsGrown, NodesAgree, Agree, IsContinued}
use Rattle.facet_slots.specs.Resolving.{IsFormed}
use Rattle.facet_slots.proofs.Places.{got-first}

pub some-same : {X : Type 0} {x y : X} → Some x ≡ Some y → x ≡ y
some-same e = cc

-- an id keeps its definition
pub stays-got : {X : Type 0} (old new : List X) → Extends old new → (i : ℕ) (x : X) → slice_get old i ≡ Some x → slice_get new i ≡ Some x
stays-got {X} old new is i x e = ap (λ (xs : List X). slice_get xs i) is ∙ got-first old (drop (length old) new) i x e

pub same-got : {X : Type 0} (old new : List X) → Extends old new → (i : ℕ) (x y : X) → slice_get old i ≡ Some x → slice_get new i ≡ Some y → x ≡ y
same-got old new is i x y a b = some-same (sym (stays-got old new is i x a) ∙ b)

pub same-inside : {X : Type 0} (old new : List X) → Extends old new → (i : ℕ) → i < length old → slice_get old i ≡ slice_get new i
same-inside old new is i inside =
    ⊎_elim (λ found. found.2 ∙ sym (stays-got old new is i found.0 found.2)) (λ past. absurd (omega (arith, past.0, inside))) ((slice_get_cases old i).1)

pub longer : {X : Type 0} (old new : List X) → Extends old new → length old ≤ length new
longer {X} old new is =
    let e : length new ≡ length (old ++ drop (length old) new) = ap (λ (xs : List X). length xs) is in
    let a = length-append old (drop (length old) new) in
    omega (arith, e, a)

-- the parts of a facet that is declared
pub facet-parts : (setup : Setup) (f : ℕ) (o : Option FacetDef) (facet : PresentFacet)
    → option_map (λ (def : FacetDef). record { def = def; inputs = inputs_at setup f }) o ≡ Some facet → (o ≡ Some facet.def) × (facet.inputs ≡ inputs_at setup f)
facet-parts setup f None facet e = cc
facet-parts setup f (Some def) facet e =
    let same : record { def = def; inputs = inputs_at setup f } ≡ facet = some-same e in
    (ap (λ (p : PresentFacet). Some p.def) same, sym (ap (λ (p : PresentFacet). p.inputs) same))

field-node-parts : (setup : Setup) (f n : ℕ) (o : Option FieldDef) (field : PresentField)
    → option_map (λ (def : FieldDef). record { def = def; init = init_of (slice_get setup.defs.node_defs n) }) o ≡ Some field → o ≡ Some field.def
field-node-parts setup f n None field e = cc
field-node-parts setup f n (Some def) field e =
    let same : record { def = def; init = init_of (slice_get setup.defs.node_defs n) } ≡ field = some-same e in ap (λ (p : PresentField). Some p.def) same

-- the definition of a field that is present
pub field-parts : (setup : Setup) (f : ℕ) (o : Option ℕ) (field : PresentField) → option_and_then (field_with setup f) o ≡ Some field → slice_get setup.defs.fields f ≡ Some field.def
field-parts setup f None field e = cc
field-parts setup f (Some n) field e = field-node-parts setup f n (slice_get setup.defs.fields f) field e

module _ (old new : List (NodeDef Val)) (grown : Extends old new) where
  one-agrees : (a : ℕ) → slice_get old a ≡ slice_get new a → (is : List ℕ) → AllByRecursion (λ (b : InputNode). a ≡ b.node → slice_get old a ≡ b.input) (map (input_node new) is)
  one-agrees a h [] = tt
  one-agrees a h (b ∷ bs) = (λ e. h ∙ ap (slice_get new) e, one-agrees a h bs)

  nodes-agree : (was is : List ℕ) → AllByRecursion (λ (n : ℕ). n < length old) was → NodesAgree (map (input_node old) was) (map (input_node new) is)
  nodes-agree [] is h = tt
  nodes-agree (a ∷ was) is h = (one-agrees a (same-inside old new grown a h.0) is, nodes-agree was is h.1)

  -- nodes that are defined stay as they are
  pub inputs-kept : (is : List ℕ) → AllByRecursion (λ (n : ℕ). n < length old) is → map (input_node old) is ≡ map (input_node new) is
  inputs-kept [] h = refl
  inputs-kept (i ∷ is) h =
      let one : input_node old i ≡ input_node new i = ap (λ (o : Option (NodeDef Val)). record { node = i; input = o }) (same-inside old new grown i h.0) in
      let rest = inputs-kept is h.1 in cc

-- what stands in two configurations has one definition
pub grown-agree : (old new : Setup) → IsFormed old → IsGrown old.defs new.defs → Agree old new
grown-agree old new formed grown = record {
  facets = λ f was facet there at. same-got old.defs.facets new.defs.facets grown.facets f was.def facet.def (facet-parts old f (slice_get old.defs.facets f) was there).0 (facet-parts new f (slice_get new.defs.facets f) facet at).0;
  nodes = λ f was facet there at.
      let a = (facet-parts old f (slice_get old.defs.facets f) was there).1 in
      let b = (facet-parts new f (slice_get new.defs.facets f) facet at).1 in
      rw (a, b) (nodes-agree old.defs.node_defs new.defs.node_defs grown.node_defs (get_or old.config.inputs f []) (get_or new.config.inputs f []) (formed.inputs_defined f));
  fields = λ f was field there at. same-got old.defs.fields new.defs.fields grown.fields f was.def field.def (field-parts old f (node_at old f) was there) (field-parts new f (node_at new f) field at);
}

pub past-empty : {X : Type 0} (xs : List (List X)) (f : ℕ) → length xs ≤ f → get_or xs f [] ≡ []
past-empty [] f le = refl
past-empty (x ∷ xs) zero le = absurd (omega (arith, le))
past-empty (x ∷ xs) (suc f) le = past-empty xs f (omega (arith, le))

module _ (old new : Definitions) (config : ConfigView) (formed : IsFormed (record { defs = old; config = config })) (grown : IsGrown old new) where
  inputs-stay : (f : ℕ) → inputs_at (record { defs = old; config = config }) f ≡ inputs_at (record { defs = new; config = config }) f
  inputs-stay f = inputs-kept old.node_defs new.node_defs grown.node_defs (get_or config.inputs f []) (formed.inputs_defined f)

  facet-stays : (f : ℕ) (facet : PresentFacet) → facet_at (record { defs = old; config = config }) f ≡ Some facet → facet_at (record { defs = new; config = config }) f ≡ Some facet
  facet-stays f facet at =
      let parts = facet-parts (record { defs = old; config = config }) f (slice_get old.facets f) facet at in
      ap (option_map (λ (def : FacetDef). record { def = def; inputs = inputs_at (record { defs = new; config = config }) f })) (stays-got old.facets new.facets grown.facets f facet.def parts.0)
      ∙ ap (λ (is : List InputNode). Some (record { def = facet.def; inputs = is })) (sym (parts.1 ∙ inputs-stay f))

  facet-none : (f : ℕ) (o : Option FacetDef) → option_map {U = PresentFacet} (λ (def : FacetDef). record { def = def; inputs = inputs_at (record { defs = old; config = config }) f }) o ≡ None → o ≡ None
  facet-none f None e = refl
  facet-none f (Some d) e = cc

  new-empty : (f : ℕ) (facet : PresentFacet) → facet_at (record { defs = old; config = config }) f ≡ None → facet_at (record { defs = new; config = config }) f ≡ Some facet → facet.inputs ≡ []
  new-empty f facet none at =
      let gone : slice_get old.facets f ≡ None = facet-none f (slice_get old.facets f) none in
      let is : get_or config.inputs f [] ≡ [] =
      ⊎_elim (λ found. absurd (none-some (sym gone ∙ found.2))) (λ past. past-empty config.inputs f (omega (arith, past.0, formed.inputs))) ((slice_get_cases old.facets f).1) in
      (facet-parts (record { defs = new; config = config }) f (slice_get new.facets f) facet at).1 ∙ ap (λ (ns : List ℕ). map (input_node new.node_defs) ns) is
    where
      none-some : {X : Type 0} {x : X} → None ≡ Some x → ⊥
      none-some e = cc

  field-stays : (f : ℕ) (o : Option ℕ) → f < length old.fields → ((n : ℕ) → o ≡ Some n → n < length old.node_defs) → option_and_then (field_with (record { defs = new; config = config }) f) o ≡ option_and_then (field_with (record { defs = old; config = config }) f) o
  field-stays f None inside defined = refl
  field-stays f (Some n) inside defined =
      let one = same-inside old.fields new.fields grown.fields f inside in
      let two = same-inside old.node_defs new.node_defs grown.node_defs n (defined n refl) in
      rw (one, two) refl

  fields-stay : (f : ℕ) → field_at (record { defs = new; config = config }) f ≡ field_at (record { defs = old; config = config }) f
  fields-stay f =
      ⊎_elim (λ found. field-stays f (option_flatten (slice_get config.fields f)) (omega (arith, found.1, formed.fields)) (formed.fields_defined f))
      (λ past. ap (λ (o : Option (Option ℕ)). option_and_then (field_with (record { defs = new; config = config }) f) (option_flatten o)) past.1
      ∙ sym (ap (λ (o : Option (Option ℕ)). option_and_then (field_with (record { defs = old; config = config }) f) (option_flatten o)) past.1)) ((slice_get_cases config.fields f).1)

  -- the configuration stays over what was declared since
  pub grown-continued : IsContinued (record { defs = old; config = config }) (record { defs = new; config = config })
  grown-continued = record { facets = facet-stays; new_facets = new-empty; fields = fields-stay }
