use Rattle.std.proofs.Common.{◌≡◌, ℕ, ◌∙◌, ap, List, Result, Ok, Err, IfOk}
use Rattle.std.specs.List.{list_any}
use Rattle.range_set.specs.declared.ranged.Ranged.{Ranged}
use Rattle.decoration.specs.declared.deco.Deco.{Deco}
use Rattle.line_tree.specs.Lines.{lines_of}
use Rattle.blocks.specs.Hiding.{blocks_of, hides_break, joined_lines}
use Rattle.blocks.specs.Joins.{covers, holds, is_joined}
use Rattle.blocks.specs.declared.joins.Joins.{Joins}
use Rattle.blocks.specs.declared.line_range.LineRange.{LineRange}
use Rattle.blocks.proofs.Lines.{lines_numbered}
use Rattle.blocks.proofs.Covered.{blocks_same}
use Rattle.blocks.proofs.collecting.joins_of.Goals as goal

if_ok : {X Y : Type 0} (P Q : X → Type 0) → ((x : X) → P x → Q x) → (r : Result X Y) → IfOk r P → IfOk r Q
if_ok {X} {Y} P Q f (Ok x) p = f x p
if_ok {X} {Y} P Q f (Err e) p = p

pub returns-clause-same : goal.returns-clause-same
returns-clause-same c =
    if_ok (λ (joins : Joins). (n : ℕ) → list_any (holds n) joins.list.items ≡ list_any (covers n) c.as_slice.result.now)
    (λ (joins : Joins). joined_lines (is_joined joins.list.items) (lines_of c.args.text.now.characters) ≡ blocks_of c.args.text.now.characters c.args.layers.now)
    (λ joins same. blocks_same (is_joined joins.list.items) (hides_break c.args.layers.now) (lines_of c.args.text.now.characters) (lines_numbered c.args.text.now.characters)
    (λ l is more.
    same l.number
    ∙ (ap (λ (rs : List LineRange). list_any (covers l.number) rs) c.as_slice.ensures.value
    ∙ (c.in_ok-ranges.ensures.breaks l is more
    ∙ ap (λ (sets : List (List (Ranged Deco))). hides_break sets l) c.sets.ensures))))
    c.joined.result c.joined.ensures.same
