-- What is declared by name, in order of declaration. All names stand in one name space.
use Rattle.std.specs.Prelude.{ℕ, List, [], ◌∷◌, ◌++◌, ⊤, Bool, false, ◌==◌, is_none, Option, Some, None, Result, Ok, Err, if◌then◌else◌, option_and_then}
use Rattle.std.specs.Option.{option_map_or}
use Rattle.std.specs.Str.{bytes_eq}
use Rattle.configuration.specs.declared.dependency.Dependency.{Dependency}
use Rattle.configuration.specs.declared.dependency.Dependency.TheVariants as reads
use Rattle.registry.specs.declared.id_sort.IdSort.{IdSort}
use Rattle.registry.specs.declared.id_sort.IdSort.TheVariants as sorts
use Rattle.names.specs.declared.named.Named.{Named}
use Rattle.names.specs.declared.named.Named.TheVariants.{Doc, Selection, Compartment, Effect, Facet, Field, Node}
use Rattle.names.specs.declared.valued.Valued.{Valued}
use Rattle.names.specs.declared.valued.Valued.TheVariants as valued
use Rattle.script.specs.declared.refusal.Refusal.{Refusal}
use Rattle.script.specs.declared.refusal.Refusal.TheVariants.{UnknownName, NameTaken}
use Rattle.script.specs.Reading.{◌>>=◌}

-- names, each with what it stands for, in order of declaration
abbrev pub NameList : Type 0
NameList = List (List ℕ × Named)

-- what a name stands for, if it is declared
abbrev pub meaning_of : List ℕ → NameList → Option Named
meaning_of name [] = None
meaning_of name (e ∷ es) = if bytes_eq name e.0 then Some e.1 else meaning_of name es

-- the next name, and what it stands for
abbrev pub with_name : NameList → List ℕ → Named → NameList
with_name names name thing = names ++ (name, thing) ∷ []

-- the id of an effect kind
abbrev pub as_effect : Named → Option ℕ
as_effect (Effect id) = Some id
as_effect thing = None

-- the id of a compartment
abbrev pub as_compartment : Named → Option ℕ
as_compartment (Compartment id) = Some id
as_compartment thing = None

-- the id of a facet
abbrev pub as_facet : Named → Option ℕ
as_facet (Facet id) = Some id
as_facet thing = None

-- the id of a field
abbrev pub as_field : Named → Option ℕ
as_field (Field field node) = Some field
as_field thing = None

-- the id of a node: a field's name is also the name of its node
abbrev pub as_node : Named → Option ℕ
as_node (Field field node) = Some node
as_node (Node node) = Some node
as_node thing = None

-- by what a thing is known among those of a sort, if it is of that sort
abbrev pub id_of : IdSort → Named → Option ℕ
id_of sorts.Compartment thing = as_compartment thing
id_of sorts.Effect thing = as_effect thing
id_of sorts.Facet thing = as_facet thing
id_of sorts.Field thing = as_field thing
id_of sorts.Node thing = as_node thing

abbrev pub has_id : IdSort → ℕ → Named → Bool
has_id sort id thing = option_map_or (λ n. n == id) (id_of sort thing) false

-- the first name of what is known by this id among the things of a sort
abbrev pub name_of : IdSort → ℕ → NameList → Option (List ℕ)
name_of sort id [] = None
name_of sort id (e ∷ es) = if has_id sort id e.1 then Some e.0 else name_of sort id es

-- what a rule may read: the document, the selection, a facet, or a field
abbrev pub as_read : Named → Option Dependency
as_read Doc = Some reads.Doc
as_read Selection = Some reads.Selection
as_read (Facet id) = Some (reads.Facet id)
as_read (Field field node) = Some (reads.Field field)
as_read thing = None

-- what has a value: a facet, or a field
abbrev pub as_value : Named → Option Valued
as_value (Facet id) = Some (valued.Facet id)
as_value (Field field node) = Some (valued.Field field)
as_value thing = None

abbrev pub or_unknown : {A : Type 0} → List ℕ → Option A → Result A Refusal
or_unknown name None = Err (UnknownName name)
or_unknown name (Some x) = Ok x

-- what a name stands for, as a thing of the sort that is wanted; a name that is not declared, or is of another sort, is refused
abbrev pub found : {A : Type 0} → (Named → Option A) → NameList → List ℕ → Result A Refusal
found as_sort names name = or_unknown name (option_and_then as_sort (meaning_of name names))

-- the items one after the other, up to the first that is refused
abbrev pub each_of : {X A : Type 0} → (X → Result A Refusal) → List X → Result (List A) Refusal
each_of read [] = Ok []
each_of read (x ∷ xs) = do
  first ← read x
  others ← each_of read xs
  Ok (first ∷ others)

-- what some names stand for, in order; the first one that is refused is
abbrev pub all_found : {A : Type 0} → (Named → Option A) → NameList → List (List ℕ) → Result (List A) Refusal
all_found as_sort names wanted = each_of (found as_sort names) wanted

-- a name that is to be declared is not taken
abbrev pub is_free : NameList → List ℕ → Result ⊤ Refusal
is_free names name = if is_none (meaning_of name names) then Ok tt else Err (NameTaken name)
