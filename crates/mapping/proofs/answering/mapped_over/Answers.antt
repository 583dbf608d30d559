use Rattle.std.proofs.Common.{sym, ap, ◌∙◌, length, arith}
use Rattle.change_desc.specs.Sections.{spelled, counted, new_size}
use Rattle.change_desc.specs.Map.{map_over}
use Rattle.mapping.proofs.SetLengths.{mapped_new, lengths_new, applied_len}
use Rattle.mapping.proofs.answering.mapped_over.Goals as goal

pub map-requires-clause-fits : goal.map-requires-clause-fits
map-requires-clause-fits c =
    omega (
      arith,
      ap (λ d. new_size spelled (map_over spelled c.args.b.now d c.args.before)) c.in_ok-over.ensures,
      mapped_new c.args.a.now c.args.b.now c.args.before (c.requires.over ∙ sym c.requires.meet),
      c.requires.fits,
    )

pub apply-requires-2 : goal.apply-requires-2
apply-requires-2 c =
    c.in_ok-set.ensures.starts ∙ ap (new_size counted) c.in_ok-over.ensures ∙ lengths_new c.args.a.now
    ∙ sym (applied_len c.args.a.now c.args.doc.now.characters c.requires.over) ∙ ap length (sym c.in_ok-apply.ensures)
