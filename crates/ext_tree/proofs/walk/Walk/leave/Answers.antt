use Rattle.std.proofs.Common.{reverse}
use Rattle.ext_tree.specs.Tree.{Tree}
use Rattle.ext_tree.specs.declared.walk.Walk.{Walk}
use Rattle.ext_tree.specs.Memo.{is_walked}
use Rattle.ext_tree.specs.Shared.{is_list_walked}
use Rattle.ext_tree.proofs.UnderWay.{leaves-node, less-left}
use Rattle.ext_tree.proofs.walk.Walk.leave.Goals as goal

pub returns-clause-goes_on : goal.returns-clause-goes_on
returns-clause-goes_on c os w =
    let t : Tree = c.args.tree.now in
    let old : Walk = c.args.self.now in
    record {
      is_walk = rw c.leave.ensures.path
          (leaves-node t os c.args.visit (reverse old.tasks.items) old.slots.path.items old.met.nodes.items old.leaves.items (is_walked old.memo.walked.items) (is_walked c.mark.new.self.walked.items)
          (is_list_walked old.lists.facets.walked.items old.lists.fields.walked.items) (is_list_walked c.mark_list.new.self.facets.walked.items c.mark_list.new.self.fields.walked.items) c.list_after.result
          w c.mark.ensures.others c.list_after.ensures c.mark_list.ensures);
      less = rw c.leave.ensures.path
          (less-left t os c.args.visit (reverse old.tasks.items) old.slots.path.items old.met.nodes.items old.leaves.items (is_walked old.memo.walked.items) (is_walked old.memo.walked.items)
          (is_list_walked old.lists.facets.walked.items old.lists.fields.walked.items) (is_list_walked old.lists.facets.walked.items old.lists.fields.walked.items) c.list_after.result);
    }
