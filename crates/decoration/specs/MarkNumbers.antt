-- The parts of a mark give back the numbers that it is kept in. These lemmas stand here because the model of a mark needs them.
use Rattle.std.proofs.Common.{◌≡◌, ℕ, zero, suc, ◌≤◌, refl, arith}
use Rattle.decoration.specs.Marks.{color_of, color_number, style_of, style_number, inclusive_of, inclusive_number}

pub color_back : (n : ℕ) → n ≤ 8 → color_number (color_of n) ≡ n
color_back zero h = refl
color_back (suc zero) h = refl
color_back (suc (suc zero)) h = refl
color_back (suc (suc (suc zero))) h = refl
color_back (suc (suc (suc (suc zero)))) h = refl
color_back (suc (suc (suc (suc (suc zero))))) h = refl
color_back (suc (suc (suc (suc (suc (suc zero)))))) h = refl
color_back (suc (suc (suc (suc (suc (suc (suc zero))))))) h = refl
color_back (suc (suc (suc (suc (suc (suc (suc (suc n)))))))) h = omega (arith, h)

pub flags_back : (n : ℕ) → n ≤ 7 → style_number (style_of 8 8 n) ≡ n
flags_back zero h = refl
flags_back (suc zero) h = refl
flags_back (suc (suc zero)) h = refl
flags_back (suc (suc (suc zero))) h = refl
flags_back (suc (suc (suc (suc zero)))) h = refl
flags_back (suc (suc (suc (suc (suc zero))))) h = refl
flags_back (suc (suc (suc (suc (suc (suc zero)))))) h = refl
flags_back (suc (suc (suc (suc (suc (suc (suc zero))))))) h = refl
flags_back (suc (suc (suc (suc (suc (suc (suc (suc n)))))))) h = absurd (omega (arith, h))

pub ends_back : (n : ℕ) → n ≤ 3 → inclusive_number (inclusive_of n) ≡ n
ends_back zero h = refl
ends_back (suc zero) h = refl
ends_back (suc (suc zero)) h = refl
ends_back (suc (suc (suc zero))) h = refl
ends_back (suc (suc (suc (suc n)))) h = absurd (omega (arith, h))
