-- Whether two values are equal, as a test.
use Rattle.std.specs.Prelude.{◌≡◌, ◌↔◌, ℕ, Bool, true, false, ◌&&◌, eqb, refl, IsTrue}
use Rattle.std.specs.Bool.{Decides, one_answer}
use Rattle.std.specs.Coded.{Coded, codes}
use Rattle.std.proofs.Common.{sym, ◌∙◌, ap}
use Rattle.std.proofs.lemmas.Bool.Decides.{Decides-eqb}
use base.Stored.{Gv, gnil, gnum, gcons}
use Rattle.cm_plain.specs.Datum.{Datum, coded_datum}
use Rattle.cm_plain.specs.Plain.{datum_of}
use Rattle.cm_plain.specs.declared.plain.Plain.{Plain as PlainData}
use Rattle.cm_plain.specs.declared.plain.Plain.TheVariants as plain
use Rattle.values.specs.declared.val.Val.{Val}
use Rattle.values.specs.declared.val.Val.TheVariants.{Plain, Ranges, Layers, History}
use Rattle.values.specs.Reading.{value_of, value-datum}

-- whether two codes are the same
abbrev pub alike : Gv → Gv → Bool
alike gnil gnil = true
alike gnil (gnum n) = false
alike gnil (gcons c d) = false
alike (gnum m) gnil = false
alike (gnum m) (gnum n) = eqb m n
alike (gnum m) (gcons c d) = false
alike (gcons a b) gnil = false
alike (gcons a b) (gnum n) = false
alike (gcons a b) (gcons c d) = alike a c && alike b d

both : (a b : Bool) → (a && b) ≡ true → (a ≡ true) × (b ≡ true)
both true b h = (refl, h)
both false b h = cc

alike-sound : (a b : Gv) → alike a b ≡ true → a ≡ b
alike-sound gnil gnil h = refl
alike-sound gnil (gnum n) h = cc
alike-sound gnil (gcons c d) h = cc
alike-sound (gnum m) gnil h = cc
alike-sound (gnum m) (gnum n) h = ap gnum ((Decides-eqb m n).0 h)
alike-sound (gnum m) (gcons c d) h = cc
alike-sound (gcons a b) gnil h = cc
alike-sound (gcons a b) (gnum n) h = cc
alike-sound (gcons a b) (gcons c d) h =
    let k = both (alike a c) (alike b d) h in
    ap (λ x. gcons x b) (alike-sound a c k.0) ∙ ap (gcons c) (alike-sound b d k.1)

alike-same : (a : Gv) → alike a a ≡ true
alike-same gnil = refl
alike-same (gnum n) = (Decides-eqb n n).1 refl
alike-same (gcons a b) = let e : alike a a ≡ true = alike-same a in let f : alike b b ≡ true = alike-same b in cc

pub coded_val : Coded Val
coded_val = hlevel (codes, coded_datum)

-- Equal: of the same code; that this is equality is the law `equal-is`. Of plain values it computes.
abbrev pub equal : Val → Val → Bool
equal (Plain p) (Plain q) = alike (coded_datum.code (datum_of p)) (coded_datum.code (datum_of q))
equal a b = alike (coded_val.code a) (coded_val.code b)

plain-equal : (p q : PlainData) → alike (coded_datum.code (datum_of p)) (coded_datum.code (datum_of q)) ≡ true → p ≡ q
plain-equal p q h =
    sym (value-datum p) ∙ ap value_of (coded_datum.inj (datum_of p) (datum_of q) (alike-sound (coded_datum.code (datum_of p)) (coded_datum.code (datum_of q)) h)) ∙ value-datum q

coded-equal : (a b : Val) → alike (coded_val.code a) (coded_val.code b) ≡ true → a ≡ b
coded-equal a b h = coded_val.inj a b (alike-sound (coded_val.code a) (coded_val.code b) h)

equal-sound : (a b : Val) → equal a b ≡ true → a ≡ b
equal-sound (Plain p) (Plain q) h = ap Plain (plain-equal p q h)
equal-sound (Plain p) (Ranges r) h = coded-equal (Plain p) (Ranges r) h
equal-sound (Plain p) (Layers r) h = coded-equal (Plain p) (Layers r) h
equal-sound (Plain p) (History r) h = coded-equal (Plain p) (History r) h
equal-sound (Ranges r) b h = coded-equal (Ranges r) b h
equal-sound (Layers r) b h = coded-equal (Layers r) b h
equal-sound (History r) b h = coded-equal (History r) b h

equal-same : (a : Val) → equal a a ≡ true
equal-same (Plain p) = alike-same (coded_datum.code (datum_of p))
equal-same (Ranges r) = alike-same (coded_val.code (Ranges r))
equal-same (Layers r) = alike-same (coded_val.code (Layers r))
equal-same (History r) = alike-same (coded_val.code (History r))

-- the test holds exactly where the values are equal
pub equal-is : (a b : Val) → Decides (equal a b) (a ≡ b)
equal-is a b = (equal-sound a b, λ e. ap (equal a) (sym e) ∙ equal-same a)

-- a test that tells equality is this one
pub test_is : (r : Bool) (a b : Val) → (IsTrue r ↔ (a ≡ b)) → r ≡ equal a b
test_is r a b h = one_answer r (equal a b) h (equal-is a b)
