use Rattle.std.proofs.Common.{take, ap, ◌∙◌}
use Rattle.names.proofs.Entries.{seen, shortened}
use Rattle.names.proofs.names.Names.shorten.Goals as goal

pub returns : goal.returns
returns c =
    ap seen c.truncate.ensures.entries ∙ shortened c.args.count c.self.inside.entries.entries ∙ ap (take c.args.count) c.self.view_is
