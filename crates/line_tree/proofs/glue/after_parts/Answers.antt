use Rattle.std.proofs.Common.{arith}
use Rattle.std.proofs.lemmas.List.{length-take}
use Rattle.std.proofs.lemmas.Result.{IfOk-weaker}
use Rattle.std.proofs.Common.{take}
use Rattle.line_tree.proofs.Seams.{HaveHeight-take}
use Rattle.line_tree.proofs.PartPlaces.{lead_lines, length-before_break}
use Rattle.line_tree.proofs.glue.after_parts.Goals as goal

pub join_copies-requires-clause-same : goal.join_copies-requires-clause-same
join_copies-requires-clause-same c = HaveHeight-take _ _ _ c.requires.same

pub join_copies-requires-clause-fits : goal.join_copies-requires-clause-fits
join_copies-requires-clause-fits c =
    let parts = take c.args.count c.args.parts.now in
    omega (arith, length-before_break parts (omega (arith, length-take c.args.count c.args.parts.now)))

pub append_lines-requires : goal.append_lines-requires
append_lines-requires c =
    let parts = take c.args.count c.args.parts.now in
    rw c.in_ok-prefix.ensures (omega (arith, length-before_break parts (omega (arith, length-take c.args.count c.args.parts.now))))

pub returns : goal.returns
returns c =
    let parts = take c.args.count c.args.parts.now in
    IfOk-weaker c.append_lines.result _ _
    (λ t e. lead_lines parts c.in_ok-prefix.prefix.characters c.args.text.characters t.characters (omega (arith, length-take c.args.count c.args.parts.now)) c.in_ok-prefix.ensures e)
    c.append_lines.ensures
