use Rattle.std.proofs.Common.{◌≡◌, ℕ, None, length, sym, subst}
use Rattle.ext_tree.specs.Unknown.{least_unknown}
use Rattle.ext_tree.proofs.Known.{all-known}
use Rattle.ext_tree.proofs.arena.Arena.group.Goals as goal

pub add-requires-clause-older : goal.add-requires-clause-older
add-requires-clause-older c = rw (c.of.ensures, c.in_ok-extend_from_slice.ensures.items, c.new-ids.ensures.items) (all-known (length c.args.self.now) c.args.members.now (subst (λ (n : ℕ). least_unknown n c.args.members.now ≡ None) c.len.ensures (sym c.in_default.ensures)))
