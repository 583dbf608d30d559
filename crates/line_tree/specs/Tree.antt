-- What a node is seen as, and what holds of it.
use Rattle.std.specs.Prelude.{◌≡◌, ℕ, ◌+◌, ◌<◌, ◌≤◌, ◌^◌, List, length}
use Rattle.line_tree.specs.Text.{TextView}
use Rattle.line_tree.specs.Breaks.{count_breaks, IsCounted}
use Rattle.line_tree.specs.Parts.{joined, HaveHeight}
use Rattle.line_tree.specs.declared.text.Branch.{Branch}
use Rattle.line_tree.specs.declared.text.Node.{Node}
use Rattle.line_tree.specs.declared.text.Node.TheVariants as node

abbrev pub view_of : Node → TextView
view_of (node.Leaf leaf) = record { characters = leaf; height = 0 }
view_of (node.Branch branch) = record { characters = joined branch.parts.items; height = branch.height }

pub record IsSoundLeaf (leaf : List ℕ) : Type 0 where
  pub few : count_breaks leaf < 64
  pub fits : length leaf < 2 ^ 32

pub record IsSoundBranch (branch : Branch) : Type 0 where
  pub counted : IsCounted (joined branch.parts.items) branch.len branch.breaks
  pub several : 2 ≤ length branch.parts.items
  pub few : length branch.parts.items ≤ 32
  pub tall : 2 ^ branch.height ≤ branch.breaks + 1
  pub lower : (h : ℕ) × (branch.height ≡ h + 1) × HaveHeight h branch.parts.items

abbrev pub IsSound : Node → Type 0
IsSound (node.Leaf leaf) = IsSoundLeaf leaf
IsSound (node.Branch branch) = IsSoundBranch branch
