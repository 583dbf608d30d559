-- When the numbers of values lie in the ranges of their types: whole numbers are of 64 bits with sign, places and ids of 32 bits.
-- Of a history nothing is asked: a rule reads no number of it.
use Rattle.std.specs.Prelude.{◌≡◌, ℕ, ◌≤◌, Bool, true, ◌&&◌, leb, ℤ, pos, negsuc, int_le, List, Option, IfSome}
use Rattle.std.specs.List.{AllByRecursion, list_all}
use Rattle.cm_plain.specs.Datum.{Datum, unit, boolean, number, text, list, Data, no_data, datum}
use Rattle.cm_plain.specs.Plain.{datum_of}
use Rattle.cm_plain.specs.declared.kept_effect.KeptEffect.{KeptEffect}
use Rattle.range_set.specs.declared.ranged.Ranged.{Ranged}
use Rattle.decoration.specs.declared.deco.Deco.{Deco}
use Rattle.transaction.specs.declared.annotation.Annotation.{Annotation}
use Rattle.values.specs.declared.val.Val.{Val}
use Rattle.values.specs.declared.val.Val.TheVariants.{Plain, Ranges, Layers, History}
use Rattle.values.specs.declared.shown_effect.ShownEffect.{ShownEffect}

-- the greatest number of 32 bits
abbrev pub max_u32 : ℕ
max_u32 = 4294967295

-- a whole number of 64 bits with sign
abbrev pub is_i64 : ℤ → Bool
is_i64 z = int_le (negsuc 9223372036854775807) z && int_le z (pos 9223372036854775807)

abbrev mutual
  -- each whole number of plain data is of 64 bits
  pub datum_in_range : Datum → Bool
  datum_in_range unit = true
  datum_in_range (boolean b) = true
  datum_in_range (number z) = is_i64 z
  datum_in_range (text cs) = true
  datum_in_range (list ds) = data_in_range ds

  pub data_in_range : Data → Bool
  data_in_range no_data = true
  data_in_range (datum d ds) = datum_in_range d && data_in_range ds

-- both ends of a range are of 32 bits
abbrev pub ends_in_range : Ranged Deco → Bool
ends_in_range r = leb r.from max_u32 && leb r.to max_u32

abbrev pub set_in_range : List (Ranged Deco) → Bool
set_in_range rs = list_all ends_in_range rs

-- In range: each number of a value lies in the range of its type.
abbrev pub in_range : Val → Bool
in_range (Plain p) = datum_in_range (datum_of p)
in_range (Ranges rs) = set_in_range rs
in_range (Layers ls) = list_all set_in_range ls
in_range (History h) = true

abbrev pub IsInRange : Val → Type 0
IsInRange v = in_range v ≡ true

-- each value that is there is in range
abbrev pub AreInRange : List (Option Val) → Type 0
AreInRange vs = AllByRecursion (λ (v : Option Val). IfSome v IsInRange) vs

-- an effect that is shown: its id and its value
pub record IsShownInRange (e : ShownEffect) : Type 0 where
  pub id : e.id ≤ max_u32
  pub value : IsInRange e.value

-- an effect that is kept: its id and its value
pub record IsKeptInRange (e : KeptEffect) : Type 0 where
  pub id : e.id ≤ max_u32
  pub value : datum_in_range (datum_of e.value) ≡ true

abbrev pub IsNoteInRange : Annotation → Type 0
IsNoteInRange a = datum_in_range (datum_of a.value) ≡ true
