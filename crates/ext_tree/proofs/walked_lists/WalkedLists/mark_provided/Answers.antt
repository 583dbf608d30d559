use Rattle.ext_tree.proofs.Lists.{mark-provided}
use Rattle.ext_tree.proofs.walked_lists.WalkedLists.mark_provided.Goals as goal

pub returns : goal.returns
returns c = mark-provided c.args.self.now.facets.walked.items c.args.self.now.fields.walked.items c.mark.new.self.walked.items c.args.field c.args.precedence c.mark.ensures.others
