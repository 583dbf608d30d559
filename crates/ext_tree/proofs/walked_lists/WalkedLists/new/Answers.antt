use Rattle.ext_tree.proofs.Lists.{unmarked}
use Rattle.ext_tree.proofs.walked_lists.WalkedLists.new.Goals as goal

pub returns : goal.returns
returns c = unmarked _ _ c.in_ok-new.ensures.none c.in_ok-new-2.ensures.none
