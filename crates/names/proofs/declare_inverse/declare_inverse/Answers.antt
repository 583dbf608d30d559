use Rattle.std.proofs.Common.{refl}
use Rattle.names.proofs.Settling.{leaves, none_gone, settles}
use Rattle.names.specs.Declaring.{one_of}
use Rattle.registry.specs.Refusals.{pair_refusals}
use Rattle.values.specs.Declarations.{with_pair}
use Rattle.names.proofs.declare_inverse.declare_inverse.Goals as goal

pub returns-clause-answer : goal.returns-clause-answer
returns-clause-answer g c =
    rw (c.in_ok-effect.ensures, c.in_ok-back.ensures) (settles c.settled.result c.pair-outcome.result (one_of c.in_ok-effect.effect c.args.inverse.now.effect c.args.inverse.now.back)
    (pair_refusals c.args.registry.now c.in_ok-effect.effect c.in_ok-back.back) (with_pair c.args.registry.now c.in_ok-effect.effect c.in_ok-back.back) c.pair-outcome.new.self c.args.names.now c.args.names.now
    c.settled.new.names c.pair-outcome.ensures.paired c.pair-outcome.ensures.passes c.pair-outcome.ensures.refused c.settled.ensures.passed c.settled.ensures.failed c.settled.ensures.refused refl c.settled.ensures.done)

pub returns-clause-names_same : goal.returns-clause-names_same
returns-clause-names_same g c =
    none_gone c.settled.result c.len-count.result c.args.names.now c.settled.new.names c.len-count.ensures c.settled.ensures.undone

pub returns-clause-same : goal.returns-clause-same
returns-clause-same g c = leaves _ c.settled.result c.pair-outcome.result c.settled.ensures.failed c.pair-outcome.ensures.same
