use Rattle.std.proofs.Common.{take, sym, ap, ◌∙◌, arith}
use Rattle.std.proofs.lemmas.List.{drop_all}
use Rattle.collab.specs.Worlds.{taken_name}
use Rattle.collab.proofs.Distinct.{all_distinct}
use Rattle.collab.proofs.name_list.first_taken.Goals as goal

pub returns-clause-distinct : goal.returns-clause-distinct
returns-clause-distinct c =
    λ e. all_distinct c.args.names.now
    (sym c.loop-index.invariant ∙
    ap (taken_name (take c.loop-index.index c.args.names.now)) (drop_all c.loop-index.index c.args.names.now (omega arith)))
