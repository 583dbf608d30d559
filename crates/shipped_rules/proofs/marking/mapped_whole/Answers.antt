use Rattle.std.proofs.Common.{◌≡◌, ap, length, subst}
use Rattle.std.specs.Prelude.{IfOk}
use Rattle.change_desc.specs.Sections.{lengths, spelled}
use Rattle.decoration.specs.Sides.{deco_rules}
use Rattle.range_set.specs.Mapping.{map_ranges}
use Rattle.values.specs.Updating.{DecoRanges}
use Rattle.shipped_rules.proofs.InsideSets.{kept_whole}
use Rattle.shipped_rules.proofs.marking.mapped_whole.Goals as goal

pub returns : goal.returns
returns c =
    let t = c.args.transaction.now in
    subst (λ (rs : DecoRanges). IfOk c.mapped.result (λ s. s ≡ map_ranges deco_rules (lengths spelled t.changes) rs)) (kept_whole (length t.start) c.args.set.now c.known.ensures.order c.requires.inside) c.mapped.ensures
