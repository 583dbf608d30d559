-- A colour is known by its number.
use Rattle.std.proofs.Common.{◌≡◌, ℕ, zero, suc, refl, sym, ap, ◌∙◌}
use Rattle.decoration.specs.declared.color.Color.{Color}
use Rattle.decoration.specs.declared.color.Color.TheVariants.{Black, Red, Green, Yellow, Blue, Magenta, Cyan, White}
use Rattle.decoration.specs.Colors.{number_of}

abbrev color_of : ℕ → Color
color_of zero = Black
color_of (suc zero) = Red
color_of (suc (suc zero)) = Green
color_of (suc (suc (suc zero))) = Yellow
color_of (suc (suc (suc (suc zero)))) = Blue
color_of (suc (suc (suc (suc (suc zero))))) = Magenta
color_of (suc (suc (suc (suc (suc (suc zero)))))) = Cyan
color_of (suc (suc (suc (suc (suc (suc (suc n))))))) = White

back : (c : Color) → color_of (number_of c) ≡ c
back Black = refl
back Red = refl
back Green = refl
back Yellow = refl
back Blue = refl
back Magenta = refl
back Cyan = refl
back White = refl

pub same_number : (a b : Color) → number_of a ≡ number_of b → a ≡ b
same_number a b e = sym (back a) ∙ ap color_of e ∙ back b
