-- What follows from a refusal that doesn't come.
use Rattle.std.proofs.Common.{◌≡◌, ℕ, ◌<◌, List, [], ◌∷◌, Bool, true, false, ◌&&◌, Option, Some, None, map, length, nat_lt, nat_le, refl, sym, arith}
use Rattle.std.specs.Option.{option_or}
use Rattle.std.specs.List.{AllByRecursion}
use Rattle.std.proofs.lemmas.Option.{none-some}
use Rattle.std.proofs.lemmas.Grind.{common_steps}
use Rattle.configuration.specs.declared.dependency.Dependency.{Dependency}
use Rattle.configuration.specs.declared.dependency.Dependency.TheVariants as reads
use Rattle.ext_tree.specs.Tree.{IsOlder}
use Rattle.transaction.specs.Numbers.{IsNumber}
use Rattle.registry.specs.declared.id_sort.IdSort.{IdSort}
use Rattle.registry.specs.declared.rule_sort.RuleSort.{RuleSort}
use Rattle.registry.specs.declared.registry_error.RegistryError.{RegistryError}
use Rattle.values.specs.Declarations.{Declarations, max_count}
use Rattle.registry.specs.Refusals.{all_known, first_of, has_room, known, read_known, rule_known, unless}
use Rattle.values.specs.Lawful.{IsRead}

pub or-first : {X : Type 0} (a b : Option X) → option_or a b ≡ None → a ≡ None
or-first None b e = refl
or-first (Some x) b e = absurd (none-some x (sym e))

pub or-rest : {X : Type 0} (a b : Option X) → option_or a b ≡ None → b ≡ None
or-rest None b e = e
or-rest (Some x) b e = absurd (none-some x (sym e))

pub holds : (b : Bool) (error : RegistryError) → unless b error ≡ None → b ≡ true
holds true error e = refl
holds false error e = absurd (none-some error (sym e))

pub is-known : (sort : IdSort) (count id : ℕ) → known sort count id ≡ None → id < count
is-known sort count id e = grind (arith, common_steps, holds (nat_lt id count) _ e)

pub are-known : (sort : IdSort) (count : ℕ) (ids : List ℕ) → all_known sort count ids ≡ None → AllByRecursion (IsOlder count) ids
are-known sort count [] e = tt
are-known sort count (id ∷ ids) e =
    (is-known sort count id (or-first (known sort count id) (all_known sort count ids) e), are-known sort count ids (or-rest (known sort count id) (all_known sort count ids) e))

pub is-read : (d : Declarations) (read : Dependency) → read_known (length d.facets) (length d.fields) read ≡ None → IsRead d read
is-read d reads.Doc e = tt
is-read d reads.Selection e = tt
is-read d (reads.Facet facet) e = is-known _ (length d.facets) facet e
is-read d (reads.Field field) e = is-known _ (length d.fields) field e

pub are-reads : (d : Declarations) (rs : List Dependency) → first_of (map (read_known (length d.facets) (length d.fields)) rs) ≡ None → AllByRecursion (IsRead d) rs
are-reads d [] e = tt
are-reads d (r ∷ rs) e =
    let first = read_known (length d.facets) (length d.fields) r in
    let rest = first_of (map (read_known (length d.facets) (length d.fields)) rs) in
    (is-read d r (or-first first rest e), are-reads d rs (or-rest first rest e))

pub is-rule : (sort : RuleSort) (count number : ℕ) → rule_known sort count number ≡ None → IsNumber count number
is-rule sort count number e =
    let h = holds (nat_le 1 number && nat_le number count) _ e in
    record { low = grind (arith, common_steps, h); high = grind (arith, common_steps, h) }

pub room : (kind : IdSort) (count : ℕ) → has_room kind count ≡ None → count < max_count
room kind count e = grind (arith, common_steps, holds (nat_lt count max_count) _ e)

-- none of the refusals of a call that passes holds
pub none-of : (rs : List (Option RegistryError)) → first_of rs ≡ None → AllByRecursion (λ r. r ≡ None) rs
none-of [] e = tt
none-of (r ∷ rs) e = (or-first r (first_of rs) e, none-of rs (or-rest r (first_of rs) e))

pub or_none : {X : Type 0} (a : Option X) → option_or a None ≡ a
or_none None = refl
or_none (Some x) = refl
