use Rattle.names.proofs.Settling.{gone, leaves, settles}
use Rattle.names.specs.Names.{with_name}
use Rattle.names.specs.Adding.{new_refusals, next_named, with_new}
use Rattle.names.proofs.declare_new.declare_new.Goals as goal

pub returns-clause-answer : goal.returns-clause-answer
returns-clause-answer g c =
    settles c.settled.result c.made-outcome.result (λ id. c.args.other.now) (new_refusals g.M.Meanings.rules c.args.registry.now c.args.thing) (with_new c.args.registry.now c.args.thing) c.made-outcome.new.registry
    (with_name c.args.names.now c.args.name.now (next_named c.args.registry.now c.args.thing)) c.add_name.new.names c.settled.new.names c.made-outcome.ensures.made c.made-outcome.ensures.passes c.made-outcome.ensures.refused
    c.settled.ensures.passed c.settled.ensures.failed c.settled.ensures.refused c.in_ok-count.ensures.added c.settled.ensures.done

pub returns-clause-names_same : goal.returns-clause-names_same
returns-clause-names_same g c =
    gone c.settled.result c.in_ok-count.count c.args.names.now c.add_name.new.names c.settled.new.names (c.args.name.now, next_named c.args.registry.now c.args.thing) c.in_ok-count.ensures.count c.in_ok-count.ensures.added c.settled.ensures.undone

pub returns-clause-same : goal.returns-clause-same
returns-clause-same g c = leaves _ c.settled.result c.made-outcome.result c.settled.ensures.failed c.made-outcome.ensures.same
