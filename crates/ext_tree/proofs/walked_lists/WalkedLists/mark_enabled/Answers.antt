use Rattle.ext_tree.proofs.Lists.{mark-enabled}
use Rattle.ext_tree.proofs.walked_lists.WalkedLists.mark_enabled.Goals as goal

pub returns : goal.returns
returns c = mark-enabled c.args.self.now.facets.walked.items c.mark.new.self.walked.items c.args.self.now.fields.walked.items c.args.facet c.mark.ensures.others
