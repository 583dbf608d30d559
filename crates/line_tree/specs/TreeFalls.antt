-- A part is lower than the whole.
use Rattle.std.specs.Prelude.{ℕ, ◌+◌, ◌≤◌, List, [], ◌∷◌}
use Rattle.std.proofs.Common.{arith}
use denote.Param.Weighed.{most}
use Rattle.line_tree.specs.Text.{TextView}
use Rattle.line_tree.specs.Parts.{HaveHeight}
use Rattle.line_tree.specs.Tree.{view_of, IsSound}
use Rattle.line_tree.specs.declared.text.Node.{Node}
use Rattle.line_tree.specs.declared.text.Node.TheVariants as node
use Rattle.line_tree.specs.declared.text.Text.TheDeep.{deep-Node}

most_le-height : (h : ℕ) (vs : List TextView) → HaveHeight h vs → most (λ v. v.height + 1) vs ≤ h + 1
most_le-height h [] k = omega arith
most_le-height h (v ∷ vs) k = omega (arith, k.0, most_le-height h vs k.1)

pub deep_le-height : (n : Node) → IsSound n → deep-Node n ≤ (view_of n).height
deep_le-height (node.Leaf leaf) h = omega arith
deep_le-height (node.Branch branch) h = omega (arith, h.lower.1, most_le-height h.lower.0 branch.parts.items h.lower.2)
