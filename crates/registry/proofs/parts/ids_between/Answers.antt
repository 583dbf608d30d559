use Rattle.std.proofs.Common.{◌<◌, ◌-◌, arith}
use Rattle.std.specs.List.{range_with_len}
use Rattle.std.proofs.lemmas.Grind.{common_steps}
use Rattle.registry.proofs.Providing.{ids-more}
use Rattle.registry.proofs.parts.ids_between.Goals as goal

pub loop-id-preserved : goal.loop-id-preserved
loop-id-preserved c =
    let l : c.loop-id.id < c.args.end = grind (arith, common_steps, c.loop-id-test.true) in
    ids-more c.loop-id.ids.items c.push.new.self.items (range_with_len c.args.first (c.args.end - c.args.first)) c.loop-id.id c.args.end l c.loop-id.invariant c.in_ok-push.ensures.items
