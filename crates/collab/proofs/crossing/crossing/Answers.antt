use Rattle.std.proofs.Common.{◌≡◌, true, false, sym, ap, ◌∙◌, arith}
use Rattle.change_desc.specs.Sections.{spelled, old_size, new_size}
use Rattle.change_desc.specs.Map.{map_over}
use Rattle.change_desc.proofs.Merges.{old_size-lengths}
use Rattle.collab.specs.Clients.{set_over, set_before}
use Rattle.collab.proofs.Crossings.{mapped-new, mapped-size, over-is, before-is}
use Rattle.collab.proofs.crossing.crossing.Goals as goal

pub map-requires-clause-meet : goal.map-requires-clause-meet
map-requires-clause-meet c = ap old_size c.requires.others ∙ (old_size-lengths spelled c.args.taken.now ∙ sym c.requires.meet)

pub map-requires-clause-fits : goal.map-requires-clause-fits
map-requires-clause-fits c =
    let e : new_size spelled (map_over spelled c.args.update.now.changes c.args.others.now false) ≡ new_size spelled (set_over c.args.taken.now c.args.update.now.changes) =
    ap (new_size spelled) (over-is c.args.taken.now c.args.update.now.changes c.args.others.now c.requires.others) in
    omega (arith, e, mapped-size c.args.taken.now c.args.update.now.changes c.args.own.now c.args.others.now c.requires.own c.requires.others, c.requires.short)

pub map-requires-2-clause-meet : goal.map-requires-2-clause-meet
map-requires-2-clause-meet c = ap old_size c.requires.own ∙ (old_size-lengths spelled c.args.update.now.changes ∙ c.requires.meet)

pub map-requires-2-clause-fits : goal.map-requires-2-clause-fits
map-requires-2-clause-fits c =
    let e : new_size spelled (map_over spelled c.args.taken.now c.args.own.now true) ≡ new_size spelled (set_before c.args.taken.now c.args.update.now.changes) =
    ap (new_size spelled) (before-is c.args.taken.now c.args.update.now.changes c.args.own.now c.requires.own) in
    omega (
      arith,
      e,
      mapped-new c.args.taken.now c.args.update.now c.requires.meet,
      mapped-size c.args.taken.now c.args.update.now.changes c.args.own.now c.args.others.now c.requires.own c.requires.others,
      c.requires.short,
    )
