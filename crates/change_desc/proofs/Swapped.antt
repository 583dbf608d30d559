-- How long the text is that two descriptions come to, whichever is mapped over the other.
use Rattle.std.proofs.Common.{◌≡◌, ℕ, false, refl, arith}
use Rattle.change_desc.specs.Sections.{counted}
use Rattle.change_desc.specs.Columns.{Row, last, next, Fate, stays, leaves, follows}
use Rattle.change_desc.specs.Compose.{text_of}
use Rattle.change_desc.specs.Map.{character, text_size}
use Rattle.change_desc.specs.MapSteps.{merged_len, pieces_new}
use Rattle.change_desc.proofs.MapLengths.{column_new, ends_new}

text_sizes : (x : Fate ℕ) → text_size x ≡ text_of counted x
text_sizes stays = refl
text_sizes (leaves t) = refl
text_sizes follows = refl

one_character : (x y : Fate ℕ) → pieces_new (character counted x y) ≡ pieces_new (character counted y x)
one_character stays stays = refl
one_character stays (leaves u) = refl
one_character stays follows = refl
one_character (leaves t) stays = refl
one_character (leaves t) (leaves u) = refl
one_character (leaves t) follows = refl
one_character follows stays = refl
one_character follows (leaves u) = refl
one_character follows follows = refl

pub merged_len-swap : (r s : Row ℕ (Fate ℕ)) → merged_len r s ≡ merged_len s r
merged_len-swap (last i) (last j) = omega (arith, ends_new false i j, ends_new false j i)
merged_len-swap (last i) (next j y s) = refl
merged_len-swap (next i x r) (last j) = refl
merged_len-swap (next i x r) (next j y s) =
    omega (arith, column_new false i x r j y s, column_new false j y s i x r, text_sizes x, text_sizes y, one_character x y, merged_len-swap r s)
