-- Each name stands for what is declared, and what has to have a name has one, after a declaration too.
use Rattle.std.specs.Bool.{⊤}
use Rattle.std.proofs.Common.{◌≡◌, ℕ, ◌+◌, ◌<◌, List, [], ◌∷◌, ◌++◌, length, get_or, Option, Some, None, Result, Ok, Err, refl, sym, ap, ◌∙◌, subst, arith, true≢false, option_and_then, is_ok, OnErr}
use Rattle.std.specs.Result.{result_unwrap_or}
use Rattle.std.proofs.lemmas.List.{length-append, append-nil}
use Rattle.std.proofs.lemmas.Option.{slice_get_within, slice_get-get_or}
use Rattle.ext_tree.proofs.Done.{all-append}
use Rattle.configuration.specs.declared.field_def.FieldDef.{FieldDef}
use Rattle.configuration.specs.declared.node_def.NodeDef.TheVariants as defs
use Rattle.ext_tree.specs.declared.node.Node.TheVariants as tree
use Rattle.values.specs.Declarations.{Declarations, with_field, with_pair}
use Rattle.values.specs.Growth.{IsGrowth, Keeps}
use Rattle.values.specs.Rules.{Rules}
use Rattle.registry.specs.declared.provided.Provided.{Provided}
use Rattle.registry.specs.declared.registry_error.RegistryError.{RegistryError}
use Rattle.registry.specs.Refusals.{first_of, pair_refusals}
use Rattle.registry.specs.WholeFields.{whole_field_refusals, with_inputs_from, with_input_from, with_whole_field}
use Rattle.registry.proofs.Providing.{inputs-length}
use Rattle.requests.specs.declared.declaration.Declaration.{Declaration}
use Rattle.requests.specs.declared.effect_declarations.InverseDeclaration.{InverseDeclaration}
use Rattle.requests.specs.declared.field_declaration.FieldDeclaration.{FieldDeclaration}
use Rattle.requests.specs.declared.written.Written.{Written}
use Rattle.names.specs.Sets.{value_of}
use Rattle.values.specs.declared.val.Val.{Val}
use Rattle.requests.specs.declared.declaration.Declaration.TheVariants as declare
use Rattle.script.specs.declared.refusal.Refusal.{Refusal}
use Rattle.script.specs.declared.refusal.LineError.{LineError}
use Rattle.script.specs.Reading.{◌>>=◌, Gives}
use Rattle.script.specs.Refused.{unless}
use Rattle.names.specs.Adding.{World, world, new_in, new_refusals, next_named, passing, with_new, with_thing}
use Rattle.names.specs.Declaring.{computed, declared_in, field_def, field_in, field_names, field_things, field_with, inverse_in, one_of}
use Rattle.names.specs.declared.new_thing.NewThing.{NewThing}
use Rattle.names.specs.declared.new_thing.NewThing.TheVariants as new
use Rattle.names.proofs.Naming.{named_compartment, named_effect, named_facet, named_field, named_node, named_pair}
use Rattle.names.specs.Known.{AreKnown, AreNamed, IsKept, IsKnown}
use Rattle.names.specs.Names.{NameList, all_found, as_compartment, as_effect, as_facet, as_field, as_node, as_read, found, is_free, with_name}
use Rattle.names.specs.RegistryRefusals.{registry_refusal}
use Rattle.names.specs.declared.named.Named.{Named}
use Rattle.names.specs.declared.named.Named.TheVariants.{Doc, Selection, Compartment, Effect, Facet, Field, Node}

-- what a list kept has its place still
still_there : {X : Type 0} (old new : List X) (id : ℕ) → Keeps old new → id < length old → id < length new
still_there [] new id keeps h = absurd (omega (arith, h))
still_there (x ∷ old) new id keeps h = slice_get_within new id (get_or (x ∷ old) id x) (keeps id (get_or (x ∷ old) id x) (slice_get-get_or (x ∷ old) id x h))

-- what was known is known after growth
grown : (old new : Declarations) (thing : Named) → IsGrowth old new → IsKnown old thing → IsKnown new thing
grown old new Doc g k = tt
grown old new Selection g k = tt
grown old new (Compartment id) g k = let le = g.compartments in omega (arith, le, k)
grown old new (Effect id) g k = still_there old.maps new.maps id g.maps k
grown old new (Facet id) g k = still_there old.facets new.facets id g.facets k
grown old new (Field field node) g k = (still_there old.fields new.fields field g.fields k.0, still_there old.nodes new.nodes node g.nodes k.1)
grown old new (Node node) g k = still_there old.nodes new.nodes node g.nodes k

all_grown : (names : NameList) (old new : Declarations) → IsGrowth old new → AreKnown names old → AreKnown names new
all_grown [] old new g known = tt
all_grown (e ∷ names) old new g known = (grown old new e.1 g known.0, all_grown names old new g known.1)

-- what a step leads to: the names before, and at most one more, which stands for what is declared; and what has to have a name has one
record Steps (w v : World) : Type 0 where
  pub added : NameList
  pub names_are : v.names ≡ w.names ++ added
  pub are_known : AreKnown added v.declared
  pub are_named : AreNamed w.names w.declared → AreNamed v.names v.declared

-- what holds however it was read on
read_on : {A B P : Type 0} (r : Result A Refusal) (f : A → Result B Refusal) (y : B) → ((x : A) → f x ≡ Ok y → P) → (r >>= f) ≡ Ok y → P
read_on (Ok x) f y goes h = goes x h
read_on (Err e) f y goes h = absurd (true≢false (sym (ap is_ok h)))

same : {A : Type 0} (x y : A) → (let r : Result A Refusal = Ok x in r) ≡ Ok y → x ≡ y
same x y h = ap (λ r. result_unwrap_or r x) h

was_passed : (refusal : Option Refusal) (next declared : Declarations) → unless refusal next ≡ Ok declared → declared ≡ next
was_passed None next declared h = sym (same next declared h)
was_passed (Some r) next declared h = absurd (true≢false (sym (ap is_ok h)))

one_more : (w : World) (name : List ℕ) (thing : Named) (next : Declarations) → IsKnown next thing → (AreNamed w.names w.declared → AreNamed (with_name w.names name thing) next) → Steps w (world (with_name w.names name thing) next)
one_more w name thing next known named = record { added = (name, thing) ∷ []; names_are = refl; are_known = (known, tt); are_named = named }

-- a declaration with a name
named_next : (w v : World) (name : List ℕ) (thing : Named) (ids : ℕ → List ℕ) (rs : List (Option RegistryError)) (next : Declarations) → IsKnown next thing → (AreNamed w.names w.declared → AreNamed (with_name w.names name thing) next)
    → with_thing w name thing ids rs next ≡ Ok v → Steps w v
named_next w v name thing ids rs next known named h = on (passing ids (first_of rs) next) refl h where
  on : (r : Result Declarations Refusal) → passing ids (first_of rs) next ≡ r → (r >>= λ declared. Ok (world (with_name w.names name thing) declared)) ≡ Ok v → Steps w v
  on (Ok declared) is h =
      subst (Steps w) (ap (λ d. world (with_name w.names name thing) d) (sym (was_passed (option_and_then (registry_refusal ids) (first_of rs)) next declared is)) ∙ same (world (with_name w.names name thing) declared) v h)
      (one_more w name thing next known named)
  on (Err e) is h = absurd (true≢false (sym (ap is_ok h)))

-- the next place of a list
next_place : {X : Type 0} (xs : List X) (x : X) → length xs < length (xs ++ x ∷ [])
next_place xs x = let e = length-append xs (x ∷ []) in omega (arith, e)

-- inputs from a field are no fields
fields_same : (d : Declarations) (field : ℕ) (ps : List Provided) → length (with_inputs_from d field ps).fields ≡ length d.fields
fields_same d field [] = refl
fields_same d field (p ∷ ps) = fields_same (with_input_from d field p) field ps

field_known : (d : Declarations) (def : FieldDef) (ps : List Provided) → IsKnown (with_whole_field d def ps) (Field (length d.fields) (length d.nodes + length ps))
field_known d def ps =
    let made = with_inputs_from (with_field d def) (length d.fields) ps in
    let e = fields_same (with_field d def) (length d.fields) ps in
    let f = next_place d.fields def in
    let g = inputs-length (with_field d def) (length d.fields) ps in
    let h = length-append made.nodes (tree.Field (length d.fields) ∷ []) in
    (omega (arith, e, f), omega (arith, g, h))

paired : (w v : World) (effect back : ℕ) (ids : ℕ → List ℕ) (rs : List (Option RegistryError)) → (passing ids (first_of rs) (with_pair w.declared effect back) >>= λ declared. Ok (world w.names declared)) ≡ Ok v → Steps w v
paired w v effect back ids rs h = on (passing ids (first_of rs) (with_pair w.declared effect back)) refl h where
  start : Steps w (world w.names (with_pair w.declared effect back))
  start = record { added = []; names_are = sym (append-nil w.names); are_known = tt; are_named = λ n. named_pair w.names w.declared effect back n }

  on : (r : Result Declarations Refusal) → passing ids (first_of rs) (with_pair w.declared effect back) ≡ r → (r >>= λ declared. Ok (world w.names declared)) ≡ Ok v → Steps w v
  on (Ok declared) is h =
      subst (Steps w) (ap (λ d. world w.names d) (sym (was_passed (option_and_then (registry_refusal ids) (first_of rs)) (with_pair w.declared effect back) declared is)) ∙ same (world w.names declared) v h) start
  on (Err e) is h = absurd (true≢false (sym (ap is_ok h)))

-- a thing that is declared is known
thing_known : (d : Declarations) (thing : NewThing) → IsKnown (with_new d thing) (next_named d thing)
thing_known d (new.Effect number) = next_place d.maps number
thing_known d (new.Facet def enables) = next_place d.facets def
thing_known d new.Compartment = omega arith
thing_known d (new.Input facet value) = next_place d.nodes (tree.Input facet)
thing_known d (new.Compute facet rule rs) = next_place d.nodes (tree.Input facet)
thing_known d (new.ComputeN facet rule rs) = next_place d.nodes (tree.Input facet)
thing_known d (new.From facet field rule) = next_place d.nodes (tree.Input facet)
thing_known d (new.Init field value) = next_place d.nodes (tree.Init field)
thing_known d (new.Group of) = next_place d.nodes (tree.Group of)
thing_known d (new.Prec at of) = next_place d.nodes (tree.Prec at of)
thing_known d (new.Slot compartment of) = next_place d.nodes (tree.Slot compartment of)

-- and it has its name
thing_named : (names : NameList) (name : List ℕ) (d : Declarations) (thing : NewThing) → AreNamed names d → AreNamed (with_name names name (next_named d thing)) (with_new d thing)
thing_named names name d (new.Effect number) n = named_effect names name d number n
thing_named names name d (new.Facet def enables) n = named_facet names name d def enables n
thing_named names name d new.Compartment n = named_compartment names name d n
thing_named names name d (new.Input facet value) n = named_node names name d (tree.Input facet) (defs.Of value) n
thing_named names name d (new.Compute facet rule rs) n = named_node names name d (tree.Input facet) (defs.Compute rule rs) n
thing_named names name d (new.ComputeN facet rule rs) n = named_node names name d (tree.Input facet) (defs.ComputeN rule rs) n
thing_named names name d (new.From facet field rule) n = named_node names name d (tree.Input facet) (defs.From field rule) n
thing_named names name d (new.Init field value) n = named_node names name d (tree.Init field) (defs.Init value) n
thing_named names name d (new.Group of) n = named_node names name d (tree.Group of) defs.Branch n
thing_named names name d (new.Prec at of) n = named_node names name d (tree.Prec at of) defs.Branch n
thing_named names name d (new.Slot compartment of) n = named_node names name d (tree.Slot compartment of) defs.Branch n

-- a declaration of such a thing
new_next : (rules : Rules) (w v : World) (name other : List ℕ) (thing : NewThing) → new_in rules w name other thing ≡ Ok v → Steps w v
new_next rules w v name other thing h =
    named_next w v name (next_named w.declared thing) (λ id. other) (new_refusals rules w.declared thing) (with_new w.declared thing) (thing_known w.declared thing) (λ n. thing_named w.names name w.declared thing n) h

-- a declaration under a name that is free
free_next : (rules : Rules) (w v : World) (name other : List ℕ) (thing : NewThing) → (is_free w.names name >>= λ free. new_in rules w name other thing) ≡ Ok v → Steps w v
free_next rules w v name other thing h = read_on (is_free w.names name) (λ free. new_in rules w name other thing) v (λ free h. new_next rules w v name other thing h) h

-- after one look-up
one_next : {A : Type 0} (rules : Rules) (w v : World) (r : Result A Refusal) (name other : List ℕ) (thing : A → NewThing)
    → (r >>= λ x. is_free w.names name >>= λ free. new_in rules w name other (thing x)) ≡ Ok v → Steps w v
one_next rules w v r name other thing h =
    read_on r (λ x. is_free w.names name >>= λ free. new_in rules w name other (thing x)) v (λ x h. free_next rules w v name other (thing x) h) h

-- after two
two_next : {A B : Type 0} (rules : Rules) (w v : World) (r : Result A Refusal) (q : Result B Refusal) (name other : List ℕ) (thing : A → B → NewThing)
    → (r >>= λ x. q >>= λ y. is_free w.names name >>= λ free. new_in rules w name other (thing x y)) ≡ Ok v → Steps w v
two_next rules w v r q name other thing h =
    read_on r (λ x. q >>= λ y. is_free w.names name >>= λ free. new_in rules w name other (thing x y)) v (λ x h. one_next rules w v q name other (thing x) h) h

-- after one, with a value that is written
value_next : {A : Type 0} (rules : Rules) (w v : World) (r : Result A Refusal) (written : Written) (name other : List ℕ) (thing : A → Val → NewThing)
    → (r >>= λ x. is_free w.names name >>= λ free. value_of written >>= λ value. new_in rules w name other (thing x value)) ≡ Ok v → Steps w v
value_next rules w v r written name other thing h =
    read_on r (λ x. is_free w.names name >>= λ free. value_of written >>= λ value. new_in rules w name other (thing x value)) v
    (λ x h. read_on (is_free w.names name) (λ free. value_of written >>= λ value. new_in rules w name other (thing x value)) v
    (λ free h. read_on (value_of written) (λ value. new_in rules w name other (thing x value)) v (λ value h. new_next rules w v name other (thing x value) h) h) h) h

-- a pair of effect kinds
pair_next : (w v : World) (i : InverseDeclaration) → inverse_in w i ≡ Ok v → Steps w v
pair_next w v i h = read_on (found as_effect w.names i.effect) (λ effect. found as_effect w.names i.back >>= λ back. passing (one_of effect i.effect i.back) (first_of (pair_refusals w.declared effect back)) (with_pair w.declared effect back) >>= λ declared. Ok (world w.names declared)) v
    (λ effect h. read_on (found as_effect w.names i.back) (λ back. passing (one_of effect i.effect i.back) (first_of (pair_refusals w.declared effect back)) (with_pair w.declared effect back) >>= λ declared. Ok (world w.names declared)) v (λ back h. paired w v effect back (one_of effect i.effect i.back) (pair_refusals w.declared effect back) h) h) h

-- a field
field_next : (rules : Rules) (w v : World) (f : FieldDeclaration) → field_in rules w f ≡ Ok v → Steps w v
field_next rules w v f h = read_on (field_things w.names f) (λ things. is_free w.names f.name >>= λ free. field_with rules w f things) v
    (λ things h. read_on (is_free w.names f.name) (λ free. field_with rules w f things) v
    (λ free h. named_next w v f.name (Field (length w.declared.fields) (length w.declared.nodes + length things.provided)) (field_names rules f things.provided)
    (whole_field_refusals rules w.declared (field_def f things.reads things.listens) things.provided) (with_whole_field w.declared (field_def f things.reads things.listens) things.provided)
    (field_known w.declared (field_def f things.reads things.listens) things.provided) (λ n. named_field w.names f.name w.declared (field_def f things.reads things.listens) things.provided n) h) h) h

steps : (rules : Rules) (w v : World) (declaration : Declaration) → declared_in rules w declaration ≡ Ok v → Steps w v
steps rules w v (declare.Effect e) h = free_next rules w v e.name e.name (new.Effect e.map) h
steps rules w v (declare.Inverse i) h = pair_next w v i h
steps rules w v (declare.Facet f) h = one_next rules w v (all_found as_node w.names f.enables) f.name f.name (λ enables. new.Facet f.def enables) h
steps rules w v (declare.Field f) h = field_next rules w v f h
steps rules w v (declare.Compartment c) h = free_next rules w v c.name c.name new.Compartment h
steps rules w v (declare.Input i) h = value_next rules w v (found as_facet w.names i.facet) i.value i.name i.facet (λ facet value. new.Input facet value) h
steps rules w v (declare.Compute c) h = two_next rules w v (found as_facet w.names c.facet) (all_found as_read w.names c.deps) c.name c.facet (λ facet rs. computed c.many facet c.rule rs) h
steps rules w v (declare.From f) h = two_next rules w v (found as_facet w.names f.facet) (found as_field w.names f.field) f.name f.facet (λ facet field. new.From facet field f.rule) h
steps rules w v (declare.Init i) h = value_next rules w v (found as_field w.names i.field) i.value i.name i.field (λ field value. new.Init field value) h
steps rules w v (declare.Group g) h = one_next rules w v (all_found as_node w.names g.of) g.name g.name (λ of. new.Group of) h
steps rules w v (declare.Prec p) h = one_next rules w v (found as_node w.names p.of) p.name p.name (λ of. new.Prec p.at of) h
steps rules w v (declare.Slot s) h = two_next rules w v (found as_compartment w.names s.compartment) (found as_node w.names s.of) s.name s.name (λ compartment of. new.Slot compartment of) h

-- what the names and the registry keep
pub still_kept : (rules : Rules) (w v : World) (declaration : Declaration) → declared_in rules w declaration ≡ Ok v → IsGrowth w.declared v.declared → IsKept w.names w.declared → IsKept v.names v.declared
still_kept rules w v declaration h grows kept =
    let s = steps rules w v declaration h in
    record {
      are_known = subst (λ names. AreKnown names v.declared) (sym s.names_are) (all-append (λ e. IsKnown v.declared e.1) w.names s.added (all_grown w.names w.declared v.declared grows kept.are_known) s.are_known);
      are_named = s.are_named kept.are_named;
    }

-- after a declaration that is refused, or out of memory, all is as before
pub keeps : (rules : Rules) (result : Result ⊤ LineError) (declaration : Declaration) (names after : NameList) (d next : Declarations)
    → Gives (λ x. world after next) result (declared_in rules (world names d) declaration) → OnErr result (after ≡ names) → OnErr result (next ≡ d) → IsGrowth d next
    → IsKept names d → IsKept after next
keeps rules (Ok x) declaration names after d next answer names_same unchanged grows kept = still_kept rules (world names d) (world after next) declaration answer grows kept
keeps rules (Err e) declaration names after d next answer names_same unchanged grows kept =
    subst (λ ns. IsKept ns next) (sym names_same) (subst (λ ds. IsKept names ds) (sym unchanged) kept)
