-- Plain data as contracts see it, its depth, and a code by which proofs tell its values apart.
use Rattle.std.specs.Prelude.{◌≡◌, ℕ, zero, suc, max, Bool, true, false, ℤ, pos, negsuc, List, [], ◌∷◌, refl}
use Rattle.std.specs.Coded.{Coded, coded_list}
use Rattle.std.proofs.Common.{sym, ◌∙◌, ap}
use base.Stored.{Gv, gnil, gnum, gcons}

mutual
  pub data Datum : Type 0 where
    unit : Datum
    boolean : Bool → Datum
    number : ℤ → Datum
    text : List ℕ → Datum
    list : Data → Datum

  -- the items of a list
  pub data Data : Type 0 where
    no_data : Data
    datum : Datum → Data → Data

abbrev pub data_of : List Datum → Data
data_of [] = no_data
data_of (d ∷ ds) = datum d (data_of ds)

abbrev pub items_of : Data → List Datum
items_of no_data = []
items_of (datum d ds) = d ∷ items_of ds

pub items-data : (ds : List Datum) → items_of (data_of ds) ≡ ds
items-data [] = refl
items-data (d ∷ ds) = ap (λ x. d ∷ x) (items-data ds)

-- A scalar and an empty list have depth 1, another list one more than its deepest item.
abbrev mutual
  pub depth : Datum → ℕ
  depth unit = 1
  depth (boolean b) = 1
  depth (number z) = 1
  depth (text cs) = 1
  depth (list ds) = suc (deepest ds)

  -- the greatest depth of the items, or 0
  pub deepest : Data → ℕ
  deepest no_data = 0
  deepest (datum d ds) = max (depth d) (deepest ds)

-- how deep a value may be
abbrev pub max_depth : ℕ
max_depth = 16

abbrev pub code_text : List ℕ → Gv
code_text [] = gnil
code_text (c ∷ cs) = gcons (gnum c) (code_text cs)

abbrev pub code_number : ℤ → Gv
code_number (pos n) = gnum n
code_number (negsuc n) = gcons gnil (gnum n)

abbrev code_boolean : Bool → Gv
code_boolean false = gnum 0
code_boolean true = gnum 1

abbrev mutual
  code_datum : Datum → Gv
  code_datum unit = gnil
  code_datum (boolean b) = code_boolean b
  code_datum (number z) = gcons gnil (code_number z)
  code_datum (text cs) = gcons (gnum 0) (code_text cs)
  code_datum (list ds) = gcons (gcons gnil gnil) (code_items ds)

  code_items : Data → Gv
  code_items no_data = gnil
  code_items (datum d ds) = gcons (code_datum d) (code_items ds)

abbrev pub back_text : Gv → List ℕ
back_text gnil = []
back_text (gnum n) = []
back_text (gcons gnil b) = 0 ∷ back_text b
back_text (gcons (gnum n) b) = n ∷ back_text b
back_text (gcons (gcons a c) b) = 0 ∷ back_text b

abbrev pub back_number : Gv → ℤ
back_number gnil = pos 0
back_number (gnum n) = pos n
back_number (gcons a gnil) = pos 0
back_number (gcons a (gnum n)) = negsuc n
back_number (gcons a (gcons b c)) = pos 0

abbrev mutual
  back_datum : Gv → Datum
  back_datum gnil = unit
  back_datum (gnum zero) = boolean false
  back_datum (gnum (suc n)) = boolean true
  back_datum (gcons gnil p) = number (back_number p)
  back_datum (gcons (gnum n) p) = text (back_text p)
  back_datum (gcons (gcons a b) p) = list (back_items p)

  back_items : Gv → Data
  back_items gnil = no_data
  back_items (gnum n) = no_data
  back_items (gcons a b) = datum (back_datum a) (back_items b)

pub back_text-code : (cs : List ℕ) → back_text (code_text cs) ≡ cs
back_text-code [] = refl
back_text-code (c ∷ cs) = ap (λ x. c ∷ x) (back_text-code cs)

pub back_number-code : (z : ℤ) → back_number (code_number z) ≡ z
back_number-code (pos n) = refl
back_number-code (negsuc n) = refl

mutual
  back_datum-code : (d : Datum) → back_datum (code_datum d) ≡ d
  back_datum-code unit = refl
  back_datum-code (boolean true) = refl
  back_datum-code (boolean false) = refl
  back_datum-code (number z) = ap number (back_number-code z)
  back_datum-code (text cs) = ap text (back_text-code cs)
  back_datum-code (list ds) = ap list (back_items-code ds)

  back_items-code : (ds : Data) → back_items (code_items ds) ≡ ds
  back_items-code no_data = refl
  back_items-code (datum d ds) =
      ap (λ x. datum x (back_items (code_items ds))) (back_datum-code d) ∙ ap (datum d) (back_items-code ds)

pub code_datum-inj : (x y : Datum) → code_datum x ≡ code_datum y → x ≡ y
code_datum-inj x y p = sym (back_datum-code x) ∙ ap back_datum p ∙ back_datum-code y

abbrev pub coded_datum : Coded Datum
coded_datum = record { code = code_datum; inj = code_datum-inj }

abbrev pub coded_data : Coded (List Datum)
coded_data = coded_list coded_datum
