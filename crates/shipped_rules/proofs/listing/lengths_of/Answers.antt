use Rattle.std.proofs.Common.{◌≡◌, ◌-◌, Some, ap, sym, ◌∙◌, arith}
use Rattle.std.specs.Prelude.{slice_get}
use Rattle.std.proofs.lemmas.Grind.{common_steps}
use Rattle.line_tree.specs.Lines.{lines_of}
use Rattle.shipped_rules.specs.Lists.{line-widths, take-next}
use Rattle.shipped_rules.proofs.listing.lengths_of.Goals as goal

pub loop-breaks-preserved : goal.loop-breaks-preserved
loop-breaks-preserved c =
    let lines = lines_of c.args.document.now.characters in
    let e : c.line-line.result.number - 1 ≡ c.loop-breaks.breaks = omega (arith, c.line-line.ensures.number) in
    let at : slice_get lines c.loop-breaks.breaks ≡ Some c.line-line.result = ap (slice_get lines) (sym e) ∙ c.line-line.ensures.line in
    let next = take-next lines c.loop-breaks.breaks c.line-line.result at in
    grind (arith, common_steps, next)

pub returns : goal.returns
returns c = let e = line-widths c.args.document.now.characters in grind (arith, common_steps, e)
