-- The values of effects, one more at a time.
use Rattle.std.specs.Prelude.{◌≡◌, List, [], ◌∷◌, ◌++◌, fold, Option, Some, None, refl}
use Rattle.std.proofs.lemmas.List.Sums.{fold-append}
use Rattle.cm_plain.specs.declared.plain.Plain.{Plain as PlainData}
use Rattle.values.specs.declared.val.Val.{Val}
use Rattle.values.specs.declared.val.Val.TheVariants.{Plain}
use Rattle.values.specs.Updating.{last_or}

-- the last of some plain values, if there are any
abbrev pub last_of : List PlainData → Option PlainData
last_of ps = fold (λ found p. Some p) None ps

abbrev pub plain_or : Val → Option PlainData → Val
plain_or old (Some p) = Plain p
plain_or old None = old

last-found : (old : Val) (found : Option PlainData) (ps : List PlainData) → fold (λ v p. Plain p) (plain_or old found) ps ≡ plain_or old (fold (λ found p. Some p) found ps)
last-found old found [] = refl
last-found old found (p ∷ ps) = last-found old (Some p) ps

pub last-is : (old : Val) (ps : List PlainData) → last_or old ps ≡ plain_or old (last_of ps)
last-is old ps = last-found old None ps

pub last-push : (ps : List PlainData) (p : PlainData) → last_of (ps ++ p ∷ []) ≡ Some p
last-push ps p = fold-append (λ found p. Some p) None ps (p ∷ [])

some-found : (p : PlainData) (ps qs : List PlainData) → fold (λ found p. Some p) (Some p) ps ≡ None → qs ≡ []
some-found p [] qs e = cc
some-found p (q ∷ ps) qs e = some-found q ps qs e

-- where there is no last one, there is none
pub none-last : (ps : List PlainData) → last_of ps ≡ None → ps ≡ []
none-last [] e = refl
none-last (p ∷ ps) e = some-found p ps (p ∷ ps) e
