-- The inputs that a field provides, made one after another, and undone where one can't be made.
use Rattle.std.proofs.Common.{◌≡◌, ℕ, suc, ◌+◌, ◌-◌, ◌<◌, ◌≤◌, List, [], ◌∷◌, ◌++◌, Option, None, Result, Ok, Err, OnOk, IfErr, length, take, refl, sym, ◌∙◌, ap, subst, arith, length-append}
use Rattle.std.specs.List.{range_with_len}
use Rattle.std.specs.Option.{option_or}
use Rattle.std.proofs.Math.Seq.{take-append_seam, take-length}
use Rattle.std.proofs.lemmas.List.{take-append-le}
use Rattle.configuration.specs.declared.field_def.FieldDef.{FieldDef}
use Rattle.configuration.specs.declared.node_def.NodeDef.TheVariants as defs
use Rattle.ext_tree.specs.declared.node.Node.TheVariants as nodes
use Rattle.values.specs.Declarations.{Declarations, with_field, with_placed}
use Rattle.values.specs.Growth.{IsGrowth}
use Rattle.values.specs.Lawful.{AreAligned}
use Rattle.values.specs.Rules.{Rules}
use Rattle.registry.specs.declared.provided.Provided.{Provided}
use Rattle.registry.specs.declared.registry_error.RegistryError.{RegistryError}
use Rattle.registry.specs.declared.registry_error.RegistryError.TheVariants as errors
use Rattle.registry.specs.PrivateUndoing.{IsBegun, shortened}
use Rattle.registry.specs.Refusals.{IsRefused, Passes, first_of, from_refusals, place_refusals}
use Rattle.registry.specs.WholeFields.{inputs_refusals, with_input_from, with_inputs_from, next_nodes, provided_refusals, with_provided}
use Rattle.registry.proofs.Growing.{grows-node, grows-same}

pub range_step : (a b : ℕ) → a < b → range_with_len a (b - a) ≡ a ∷ range_with_len (a + 1) (b - (a + 1))
range_step a b l = let e : b - a ≡ suc (b - (a + 1)) = omega (arith, l) in ap (range_with_len a) e

snoc : (xs : List ℕ) (x : ℕ) (ys : List ℕ) → (xs ++ x ∷ []) ++ ys ≡ xs ++ x ∷ ys
snoc [] x ys = refl
snoc (z ∷ zs) x ys = ap (λ (l : List ℕ). z ∷ l) (snoc zs x ys)

pub ids-more : (ids new all : List ℕ) (id end : ℕ) → id < end → ids ++ range_with_len id (end - id) ≡ all → new ≡ ids ++ id ∷ [] → new ++ range_with_len (id + 1) (end - (id + 1)) ≡ all
ids-more ids new all id end l e n =
    ap (λ (xs : List ℕ). xs ++ range_with_len (id + 1) (end - (id + 1))) n
    ∙ snoc ids id (range_with_len (id + 1) (end - (id + 1)))
    ∙ ap (λ (xs : List ℕ). ids ++ xs) (sym (range_step id end l))
    ∙ e

pub grows-trans : (a b c : Declarations) → IsGrowth a b → IsGrowth b c → IsGrowth a c
grows-trans a b c g h = record {
  facets = λ i x e. h.facets i x (g.facets i x e);
  fields = λ i x e. h.fields i x (g.fields i x e);
  nodes = λ i x e. h.nodes i x (g.nodes i x e);
  node_defs = λ i x e. h.node_defs i x (g.node_defs i x e);
  maps = λ i x e. h.maps i x (g.maps i x e);
  pairs = λ x y e. h.pairs x y (g.pairs x y e);
  enabled = λ i x e. h.enabled i x (g.enabled i x e);
  placed = λ f e. h.placed f (g.placed f e);
  provided = λ f e. h.provided f (g.placed f e) ∙ g.provided f e;
  compartments = let p = g.compartments in let q = h.compartments in omega (arith, p, q);
}

-- an error that is the first refusal of two calls
pub same-refusal : (rs qs : List (Option RegistryError)) → first_of rs ≡ first_of qs → (e : RegistryError) → IsRefused rs e → IsRefused qs e
same-refusal rs qs s errors.NoMemory h = tt
same-refusal rs qs s (errors.UnknownId sort id) h = sym s ∙ h
same-refusal rs qs s (errors.UnknownRule sort number) h = sym s ∙ h
same-refusal rs qs s (errors.StaticFacet facet) h = sym s ∙ h
same-refusal rs qs s (errors.WrongShape id) h = sym s ∙ h
same-refusal rs qs s (errors.AlreadyPlaced field) h = sym s ∙ h
same-refusal rs qs s (errors.BadInverse effect back) h = sym s ∙ h
same-refusal rs qs s (errors.InverseTaken effect) h = sym s ∙ h
same-refusal rs qs s (errors.TooMany kind) h = sym s ∙ h

-- an error of the first of some calls
pub first-refusal : (rs : List (Option RegistryError)) (rest : List (Option RegistryError)) (e : RegistryError) → IsRefused rs e → IsRefused (first_of rs ∷ rest) e
first-refusal rs rest errors.NoMemory h = tt
first-refusal rs rest (errors.UnknownId sort id) h = ap (λ o. option_or o (first_of rest)) h
first-refusal rs rest (errors.UnknownRule sort number) h = ap (λ o. option_or o (first_of rest)) h
first-refusal rs rest (errors.StaticFacet facet) h = ap (λ o. option_or o (first_of rest)) h
first-refusal rs rest (errors.WrongShape id) h = ap (λ o. option_or o (first_of rest)) h
first-refusal rs rest (errors.AlreadyPlaced field) h = ap (λ o. option_or o (first_of rest)) h
first-refusal rs rest (errors.BadInverse effect back) h = ap (λ o. option_or o (first_of rest)) h
first-refusal rs rest (errors.InverseTaken effect) h = ap (λ o. option_or o (first_of rest)) h
first-refusal rs rest (errors.TooMany kind) h = ap (λ o. option_or o (first_of rest)) h

-- what comes after a call that isn't refused
pub later : (rs : List (Option RegistryError)) (rest : List (Option RegistryError)) → Passes rs → first_of (first_of rs ∷ rest) ≡ first_of rest
later rs rest p = ap (λ o. option_or o (first_of rest)) p

-- under way: some inputs from a field are made, and these are still to be made
pub record IsUnderWay (rules : Rules) (old : Declarations) (field : ℕ) (all : List Provided) (d : Declarations) (rest : List Provided) : Type 0 where
  pub making : with_inputs_from d field rest ≡ with_inputs_from old field all
  pub refusing : first_of (inputs_refusals rules d field rest) ≡ first_of (inputs_refusals rules old field all)
  pub begun : IsBegun old field d
  pub grown : IsGrowth old d

module _ (rules : Rules) (field : ℕ) where
  pub under-way : (d : Declarations) (all : List Provided) → IsUnderWay rules d field all d all
  under-way d all = record { making = refl; refusing = refl; begun = ([], refl); grown = grows-same d }

  one-later : (d : Declarations) (made : List Provided) (p : Provided) → with_inputs_from d field (made ++ p ∷ []) ≡ with_input_from (with_inputs_from d field made) field p
  one-later d [] p = refl
  one-later d (q ∷ made) p = one-later (with_input_from d field q) made p

  pub goes-on : (old d : Declarations) (all : List Provided) (p : Provided) (rest : List Provided) → IsUnderWay rules old field all d (p ∷ rest) → Passes (from_refusals rules d p.facet field p.rule) → IsUnderWay rules old field all (with_input_from d field p) rest
  goes-on old d all p rest w passes = record {
    making = w.making;
    refusing = sym (later (from_refusals rules d p.facet field p.rule) (inputs_refusals rules (with_input_from d field p) field rest) passes) ∙ w.refusing;
    begun = (w.begun.0 ++ p ∷ [], ap (λ (x : Declarations). with_input_from x field p) w.begun.1 ∙ sym (one-later old w.begun.0 p));
    grown = grows-trans old d (with_input_from d field p) w.grown (grows-node d (nodes.Input p.facet) (defs.From field p.rule));
  }

  pub is-refused : (old d : Declarations) (all : List Provided) (p : Provided) (rest : List Provided) → IsUnderWay rules old field all d (p ∷ rest) → (e : RegistryError) → IsRefused (from_refusals rules d p.facet field p.rule) e → IsRefused (inputs_refusals rules old field all) e
  is-refused old d all p rest w e h =
      same-refusal (inputs_refusals rules d field (p ∷ rest)) (inputs_refusals rules old field all) w.refusing e
      (first-refusal (from_refusals rules d p.facet field p.rule) (inputs_refusals rules (with_input_from d field p) field rest) e h)

more-nodes : {X : Type 0} (xs : List X) (x : X) (n : ℕ) → n ≤ length xs → n ≤ length (xs ++ x ∷ [])
more-nodes xs x n l = let e = length-append xs (x ∷ []) in omega (arith, l, e)

inputs-undone : (d : Declarations) (field : ℕ) (made : List Provided) (fields nodes : ℕ) → nodes ≤ length d.nodes → nodes ≤ length d.node_defs → shortened (with_inputs_from d field made) fields nodes ≡ shortened d fields nodes
inputs-undone d field [] fields n k l = refl
inputs-undone d field (p ∷ made) fields n k l =
    inputs-undone (with_input_from d field p) field made fields n (more-nodes d.nodes (nodes.Input p.facet) n k) (more-nodes d.node_defs (defs.From field p.rule) n l)
    ∙ rw (take-append-le n d.nodes (nodes.Input p.facet ∷ []) k, take-append-le n d.node_defs (defs.From field p.rule ∷ []) l) refl

take-more : {X : Type 0} (xs : List X) (x : X) (n : ℕ) → n ≡ length xs → take n (xs ++ x ∷ []) ≡ xs
take-more xs x n e = ap (λ (i : ℕ). take i (xs ++ x ∷ [])) e ∙ take-append_seam xs (x ∷ [])

take-whole : {X : Type 0} (xs : List X) (n : ℕ) → n ≡ length xs → take n xs ≡ xs
take-whole xs n e = ap (λ (i : ℕ). take i xs) e ∙ take-length xs

-- a field that was declared, with some inputs from it, is undone
pub field-undone : (d : Declarations) → AreAligned d → (def : FieldDef) (field : ℕ) (new : Declarations) → IsBegun (with_field d def) field new → shortened new (length d.fields) (length d.nodes) ≡ d
field-undone d a def field new b =
    ap (λ (x : Declarations). shortened x (length d.fields) (length d.nodes)) b.1
    ∙ inputs-undone (with_field d def) field b.0 (length d.fields) (length d.nodes) (omega arith) (let e = a.node_defs in omega (arith, e))
    ∙ rw (take-more d.fields def (length d.fields) refl, take-whole d.nodes (length d.nodes) refl, take-whole d.node_defs (length d.nodes) (sym a.node_defs), take-more d.links.provided [] (length d.fields) (sym a.provided), take-more d.placed _ (length d.fields) (sym a.placed)) refl

pub undone : (d old mid new part after : Declarations) (def : FieldDef) (field fields nodes : ℕ) → AreAligned d → d ≡ old → mid ≡ with_field old def → IsBegun mid field new → part ≡ new → fields ≡ length d.fields → nodes ≡ length d.nodes → after ≡ shortened part fields nodes → after ≡ d
undone d old mid new part after def field fields nodes a o m b p f n e =
    let begun : IsBegun (with_field d def) field new = subst (λ (x : Declarations). IsBegun x field new) (m ∙ ap (λ (x : Declarations). with_field x def) (sym o)) b in
    e
    ∙ ap (λ (x : Declarations). shortened x fields nodes) p
    ∙ ap (λ (i : ℕ). shortened new i nodes) f
    ∙ ap (λ (i : ℕ). shortened new (length d.fields) i) n
    ∙ field-undone d a def field new begun

pub inputs-length : (d : Declarations) (field : ℕ) (ps : List Provided) → length (with_inputs_from d field ps).nodes ≡ length d.nodes + length ps
inputs-length d field [] = omega arith
inputs-length d field (p ∷ ps) =
    let e = inputs-length (with_input_from d field p) field ps in
    let f = length-append d.nodes (nodes.Input p.facet ∷ []) in
    omega (arith, e, f)

on-ok : {A B P Q : Type 0} (r : Result A B) → (P → Q) → OnOk r P → OnOk r Q
on-ok (Ok a) f h = f h
on-ok (Err b) f h = h

if-err : {A B : Type 0} {P Q : B → Type 0} (r : Result A B) → ((b : B) → P b → Q b) → IfErr r P → IfErr r Q
if-err (Ok a) f h = h
if-err (Err b) f h = f b h

-- the nodes that were made are the next ones of before
pub made-nodes : (d mid : Declarations) (field first : ℕ) (ps : List Provided) (ids : List ℕ) → mid ≡ with_inputs_from d field ps → first ≡ length d.nodes → ids ≡ range_with_len first (length mid.nodes - first) → ids ≡ next_nodes d ps
made-nodes d mid field first ps ids m f e =
    let l : length mid.nodes ≡ length d.nodes + length ps = ap (λ (x : Declarations). length x.nodes) m ∙ inputs-length d field ps in
    let n : length mid.nodes - first ≡ length ps = omega (arith, l, f) in
    e ∙ ap (λ (i : ℕ). range_with_len i (length mid.nodes - first)) f ∙ ap (range_with_len (length d.nodes)) n

module _ {A : Type 0} (rules : Rules) (d mid new : Declarations) (field : ℕ) (ps : List Provided) (ids : List ℕ) (m : mid ≡ with_inputs_from d field ps) (i : ids ≡ next_nodes d ps) (r : Result A RegistryError) where
  pub provided-made : OnOk r (new ≡ with_placed mid field ids) → OnOk r (new ≡ with_provided d field ps)
  provided-made h = on-ok r (λ e. e ∙ ap (λ (x : Declarations). with_placed x field ids) m ∙ ap (λ (l : List ℕ). with_placed (with_inputs_from d field ps) field l) i) h

  placing : first_of (place_refusals mid field ids) ≡ first_of (place_refusals (with_inputs_from d field ps) field (next_nodes d ps))
  placing = ap (λ (x : Declarations). first_of (place_refusals x field ids)) m ∙ ap (λ (l : List ℕ). first_of (place_refusals (with_inputs_from d field ps) field l)) i

  module _ (passes : Passes (inputs_refusals rules d field ps)) where
    rest : first_of (provided_refusals rules d field ps) ≡ first_of (first_of (place_refusals (with_inputs_from d field ps) field (next_nodes d ps)) ∷ [])
    rest = later (inputs_refusals rules d field ps) (first_of (place_refusals (with_inputs_from d field ps) field (next_nodes d ps)) ∷ []) passes

    pub provided-passes : OnOk r (Passes (place_refusals mid field ids)) → OnOk r (Passes (provided_refusals rules d field ps))
    provided-passes h = on-ok r (λ e. rest ∙ ap (λ o. option_or o None) (sym placing ∙ e)) h

    pub provided-refused : IfErr r (IsRefused (place_refusals mid field ids)) → IfErr r (IsRefused (provided_refusals rules d field ps))
    provided-refused h =
        if-err r
        (λ e k. same-refusal (first_of (place_refusals (with_inputs_from d field ps) field (next_nodes d ps)) ∷ []) (provided_refusals rules d field ps) (sym rest) e
        (first-refusal (place_refusals (with_inputs_from d field ps) field (next_nodes d ps)) [] e
        (same-refusal (place_refusals mid field ids) (place_refusals (with_inputs_from d field ps) field (next_nodes d ps)) placing e k)))
        h
