-- What is known of a text whose node was opened.
use Rattle.std.proofs.Common.{◌≡◌, List, ℕ, sym, ◌∙◌, ap, subst}
use Rattle.line_tree.specs.Text.{TextView}
use Rattle.line_tree.specs.Parts.{joined}
use Rattle.line_tree.specs.Tree.{view_of, IsSound, IsSoundBranch, IsSoundLeaf}
use Rattle.line_tree.specs.declared.text.Branch.{Branch}
use Rattle.line_tree.specs.declared.text.Node.{Node}
use Rattle.line_tree.specs.declared.text.Node.TheVariants as node

pub record AtBranch (branch : Branch) (whole : TextView) : Type 0 where
  pub characters : whole.characters ≡ joined branch.parts.items
  pub height : whole.height ≡ branch.height
  pub sound : IsSoundBranch branch

pub at_branch : (n : Node) (branch : Branch) (whole : TextView) → view_of n ≡ whole → IsSound n → n ≡ node.Branch branch → AtBranch branch whole
at_branch n branch whole seen sound is = record {
  characters = ap (λ (v : TextView). v.characters) (sym seen ∙ ap view_of is);
  height = ap (λ (v : TextView). v.height) (sym seen ∙ ap view_of is);
  sound = subst IsSound is sound;
}

pub record AtLeaf (leaf : List ℕ) (whole : TextView) : Type 0 where
  pub characters : whole.characters ≡ leaf
  pub height : whole.height ≡ 0
  pub sound : IsSoundLeaf leaf

pub at_leaf : (n : Node) (leaf : List ℕ) (whole : TextView) → view_of n ≡ whole → IsSound n → n ≡ node.Leaf leaf → AtLeaf leaf whole
at_leaf n leaf whole seen sound is = record {
  characters = ap (λ (v : TextView). v.characters) (sym seen ∙ ap view_of is);
  height = ap (λ (v : TextView). v.height) (sym seen ∙ ap view_of is);
  sound = subst IsSound is sound;
}
