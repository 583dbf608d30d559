-- Where no layer has a decoration that stands for what it covers, each line is a block.
use Rattle.std.proofs.Common.{◌≡◌, ℕ, suc, ◌+◌, Bool, true, false, ◌||◌, cond, List, [], ◌∷◌, refl, sym, ap, ◌∙◌, arith}
use Rattle.std.specs.Prelude.{slice_get, Some}
use Rattle.std.specs.List.{list_any}
use Rattle.range_set.specs.declared.ranged.Ranged.{Ranged}
use Rattle.range_set.specs.Points.{points_of, stands}
use Rattle.decoration.specs.declared.deco.Deco.{Deco}
use Rattle.decoration.specs.Sides.{deco_rules}
use Rattle.line_tree.specs.declared.line.Line as lines
use Rattle.line_tree.specs.Lines.{lines_of}
use Rattle.blocks.specs.Hiding.{blocks_after, blocks_of, hides, hides_break, is_hidden, joined_lines, next_block, set_hides}
use Rattle.blocks.specs.Points.{has_point, has_points}
use Rattle.blocks.proofs.Covered.{blocks_same, hidden_by_points, or_parts}
use Rattle.blocks.proofs.Lines.{IsNumbered, lines_numbered}

-- whether a set has a point, by its points
abbrev by_first : Bool → List (Ranged Deco) → Type 0
by_first b [] = b ≡ false
by_first b (r ∷ rs) = b ≡ true

pub any_point : (rs : List (Ranged Deco)) → by_first (has_point rs) (points_of deco_rules rs)
any_point [] = refl
any_point (r ∷ rs) = at (stands deco_rules r) (any_point rs) where
  at : (b : Bool) → by_first (has_point rs) (points_of deco_rules rs) → by_first (b || has_point rs) (cond b (r ∷ points_of deco_rules rs) (points_of deco_rules rs))
  at true more = refl
  at false more = more

pub some_point : (rs left : List (Ranged Deco)) (r : Ranged Deco) → points_of deco_rules rs ≡ r ∷ left → true ≡ has_point rs
some_point rs left r is = let first = any_point rs in sym (rw is at first)

pub no_point : (rs : List (Ranged Deco)) → points_of deco_rules rs ≡ [] → false ≡ has_point rs
no_point rs is = let first = any_point rs in sym (rw is at first)

pub none_of : (rs : List (Ranged Deco)) → has_point rs ≡ false → points_of deco_rules rs ≡ []
none_of [] none = refl
none_of (r ∷ rs) none =
    let parts = or_parts (stands deco_rules r) (has_point rs) none in
    rw parts.0 (none_of rs parts.1)

none_hidden : (p : ℕ) (layers : List (List (Ranged Deco))) → has_points layers ≡ false → is_hidden layers p ≡ false
none_hidden p [] none = refl
none_hidden p (set ∷ sets) none =
    let parts = or_parts (has_point set) (has_points sets) none in
    let here : set_hides p set ≡ false = sym (hidden_by_points p set) ∙ ap (list_any (hides p)) (none_of set parts.0) in
    rw here (none_hidden p sets parts.1)

abbrev never : lines.Line → Bool
never line = false

alone_after : (block last : lines.Line) (ls : List lines.Line) → ((k : ℕ) (l : lines.Line) → slice_get (block ∷ ls) k ≡ Some l → l.number ≡ block.number + k) → blocks_after never block last ls ≡ block ∷ ls
unfolding blocks_after
alone_after block last [] numbered = refl
alone_after block last (line ∷ ls) numbered =
    let number : line.number ≡ block.number + 1 = numbered 1 line refl in
    let next : next_block block line ≡ line = λ i. record { number = sym number i; from = line.from; to = line.to } in
    ap (λ (bs : List lines.Line). block ∷ bs)
    (ap (λ (b : lines.Line). blocks_after never b line ls) next
    ∙ alone_after line line ls (λ k l is. let n = numbered (suc k) l is in omega (arith, n, number)))

alone_lines : (ls : List lines.Line) → IsNumbered ls → joined_lines never ls ≡ ls
alone_lines [] numbered = refl
alone_lines (x ∷ xs) numbered =
    let first = numbered 0 x refl in
    alone_after x x xs (λ k l is. let n = numbered k l is in omega (arith, n, first))

pub plain_blocks : (text : List ℕ) (layers : List (List (Ranged Deco))) → has_points layers ≡ false → blocks_of text layers ≡ lines_of text
plain_blocks text layers none =
    blocks_same (hides_break layers) never (lines_of text) (lines_numbered text) (λ l is more. none_hidden l.to layers none)
    ∙ alone_lines (lines_of text) (lines_numbered text)
