use Rattle.std.proofs.Common.{◌∙◌, ap}
use Rattle.change_desc.specs.Sections.{lengths, old_size, spelled}
use Rattle.change_desc.proofs.Merges.{old_size-lengths}
use Rattle.shipped_rules.proofs.marking.mapped.Goals as goal

pub map-requires : goal.map-requires
map-requires c =
    rw (ap old_size (c.in_ok-changes.ensures ∙ ap (lengths spelled) c.changes.ensures) ∙ (old_size-lengths spelled c.args.transaction.now.changes ∙ c.requires.known.starts)) c.requires.inside
