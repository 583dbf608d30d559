use Rattle.std.proofs.Common.{◌≡◌, arith, sym, ap, ◌∙◌}
use Rattle.std.proofs.lemmas.Result.{IfOk-weaker}
use Rattle.change_desc.specs.Sections.{spelled, old_size, inverted}
use Rattle.change_desc.proofs.Merges.{old_size-lengths}
use Rattle.filters.specs.PrivateParts.{LeadsBack}
use Rattle.filters.proofs.Halves.{back-is, leads-back, over-size}
use Rattle.filters.proofs.parts.way_back.Goals as goal

pub map-requires-clause-meet : goal.map-requires-clause-meet
map-requires-clause-meet c =
    let parts = c.args.parts.now in
    ap old_size c.in_ok-kept.ensures ∙
    (old_size-lengths spelled parts.kept ∙ (sym c.requires.parts.meet ∙ (sym (old_size-lengths spelled parts.dropped) ∙ ap old_size (sym c.in_ok-dropped.ensures))))

pub map-requires-clause-fits : goal.map-requires-clause-fits
map-requires-clause-fits c =
    let parts = c.args.parts.now in
    let e = over-size c.args.all.now parts.kept parts.dropped c.in_ok-kept.kept c.in_ok-dropped.dropped c.requires.parts c.in_ok-kept.ensures c.in_ok-dropped.ensures in
    omega (arith, e, c.requires.fits)

pub returns-clause-leads : goal.returns-clause-leads
returns-clause-leads c =
    let parts = c.args.parts.now in
    IfOk-weaker c.inverted.result (λ back. back ≡ inverted c.in_ok-over.over) (λ back. LeadsBack c.args.all.now parts.kept back)
    (λ back e. leads-back c.args.all.now parts.kept parts.dropped back c.requires.parts
    (e ∙ back-is parts.kept parts.dropped c.in_ok-kept.kept c.in_ok-dropped.dropped c.in_ok-over.over c.in_ok-kept.ensures c.in_ok-dropped.ensures c.in_ok-over.ensures))
    c.inverted.ensures
