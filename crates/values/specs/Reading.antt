-- Words that the tables of shipped rules share: rows by number, whole numbers, and what is read of values.
use Rattle.std.specs.Prelude.{ℕ, zero, suc, ◌-◌, Bool, true, false, cond, eqb, ltb, ℤ, pos, negsuc, List, [], ◌∷◌, map, fold, filter_map, slice_get, Option, Some, None}
use Rattle.std.specs.Option.{option_and_then, option_flatten, unwrap_or}
use Rattle.std.specs.Int.{saturate_signed, w64}
use Rattle.std.specs.Prelude.{◌+ℤ◌, ◌≡◌, refl}
use Rattle.std.proofs.Common.{ap}
use Rattle.cm_plain.specs.Datum.{Datum, unit, boolean, number, text, list, depth, max_depth, items_of, items-data}
use Rattle.cm_plain.specs.Form.{Form, numbers}
use Rattle.cm_plain.specs.Plain.{datum_of}
use Rattle.cm_plain.specs.declared.plain.Plain.{Plain as PlainData}
use Rattle.cm_plain.specs.declared.plain.Plain.TheVariants as plain
use Rattle.range_set.specs.declared.ranged.Ranged.{Ranged}
use Rattle.decoration.specs.declared.deco.Deco.{Deco}
use Rattle.values.specs.declared.val.Val.{Val}
use Rattle.values.specs.declared.val.Val.TheVariants.{Plain, Ranges, Layers, History}
use Rattle.values.specs.Views.{DepsView}

-- Row: the one of a number in a table of numbered rows; another one where there is no such row.
abbrev pub row : {X : Type 0} → ℕ → (other : X) → List (ℕ × X) → X
row n other [] = other
row n other (r ∷ rows) = cond (eqb n r.0) r.1 (row n other rows)

-- any whole number of 64 bits with sign
abbrev pub any_int : Form
any_int = numbers (negsuc 9223372036854775807) (pos 9223372036854775807)

-- Sum: from the left, from 0; it stops at the ends of these numbers.
abbrev pub plus : ℤ → ℤ → ℤ
plus a b = saturate_signed w64 (a +ℤ b)

abbrev pub sum_of : List ℤ → ℤ
sum_of zs = fold plus (pos 0) zs

-- the plain value that a datum is
abbrev pub value_of : Datum → PlainData
value_of unit = plain.Unit
value_of (boolean b) = plain.Bool b
value_of (number z) = plain.Int z
value_of (text cs) = plain.Text cs
value_of (list ds) = plain.List (items_of ds)

-- a plain value is the one that its datum is
pub value-datum : (p : PlainData) → value_of (datum_of p) ≡ p
value-datum plain.Unit = refl
value-datum (plain.Bool b) = refl
value-datum (plain.Int z) = refl
value-datum (plain.Text s) = refl
value-datum (plain.List ds) = ap plain.List (items-data ds)

abbrev pub int : ℤ → Val
int z = Plain (plain.Int z)

abbrev pub nothing : Val
nothing = Plain plain.Unit

-- the number that a value is, if it is one
abbrev pub number_in : Val → Option ℤ
number_in (Plain (plain.Int z)) = Some z
number_in v = None

-- the plain value that a value is, or Unit
abbrev pub plain_or_unit : Val → PlainData
plain_or_unit (Plain p) = p
plain_or_unit v = plain.Unit

-- the items of a value that is a list
abbrev pub items_in : Val → List Datum
items_in (Plain (plain.List items)) = items
items_in v = []

-- Item: a plain value as an item of a list; one of the greatest depth stands as Unit.
abbrev pub item : PlainData → Datum
item p = cond (ltb (depth (datum_of p)) max_depth) (datum_of p) unit

-- a whole number as a place, if it is at least 0 and fits 32 bits
abbrev pub place_in : ℤ → Option ℕ
place_in (pos n) = cond (ltb n 4294967296) (Some n) None
place_in (negsuc n) = None

-- two whole numbers as two places
abbrev pub places_in : ℤ × ℤ → Option (ℕ × ℕ)
places_in (from, to) = option_and_then (λ p. option_and_then (λ q. Some (p, q)) (place_in to)) (place_in from)

-- the set that a value is, or none
abbrev pub ranges_in : Val → List (Ranged Deco)
ranges_in (Ranges rs) = rs
ranges_in v = []

-- First read: the value of the first declared facet or field, none where that is absent.
abbrev pub first_read : DepsView → Option Val
first_read deps = option_flatten (slice_get deps.values 0)

-- the first read where it is plain, or Unit
abbrev pub first_plain : DepsView → Val
first_plain deps = Plain (plain_or_unit (unwrap_or (first_read deps) nothing))
