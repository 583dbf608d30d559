use Rattle.std.proofs.Common.{◌≡◌, ◌∙◌, ap, not, eqb, ℕ, List, Some, sym}
use Rattle.ext_tree.specs.Tree.{Tree}
use Rattle.ext_tree.specs.Unfolding.{compartment_of, is_blocked}
use Rattle.ext_tree.specs.Marks.{count_of, AreOpen}
use Rattle.ext_tree.proofs.Marking.{slots-stand}
use Rattle.ext_tree.proofs.open_slots.OpenSlots.holds.Goals as goal

held : (t : Tree) (path : List ℕ) (counts : List (ℕ × ℕ)) (n c count : ℕ) → compartment_of t n ≡ Some c → AreOpen t path counts → count ≡ count_of counts c → not (eqb count 0) ≡ is_blocked t n path
held t path counts n c count is h e = rw is (ap (λ (k : ℕ). not (eqb k 0)) (e ∙ h c) ∙ slots-stand t c path)

pub returns-in-Some : goal.returns-in-Some
returns-in-Some c =
    held c.args.tree.now c.args.self.now.path.items c.args.self.now.counts.entries c.args.node c.in-Some.compartment c.count_of.result (sym c.in-Some.ensures) c.requires c.count_of.ensures
