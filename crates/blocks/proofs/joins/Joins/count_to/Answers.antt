use Rattle.std.proofs.Common.{leb, leb-true, leb-false, length, List, refl, ap, arith, rules}
use Rattle.std.proofs.lemmas.List.Sorted.{IsPartitionPoint-from_clause, IsPartitionedBy-leb}
use Rattle.blocks.specs.declared.joins.Join.{Join}
use Rattle.blocks.proofs.Finding.{begun, numbers_rise}
use Rattle.blocks.proofs.joins.Joins.count_to.Goals as goal

pub returns-clause-begun : goal.returns-clause-begun
returns-clause-begun c =
    let rises = numbers_rise c.args.self.now.lines 0 0 _ c.requires in
    let parted = IsPartitionedBy-leb (λ (j : Join). j.number) c.deref.result.now c.args.number (rw c.deref.ensures.value rises) in
    let point = IsPartitionPoint-from_clause (λ (j : Join). leb j.number c.args.number) _ _ c.partition_point.ensures.partitioned parted (λ a r q k. search rules) in
    let low = begun (λ (j : Join). j.number) c.partition_point.result c.args.number c.deref.result.now refl (λ k d inside. leb-true _ _ (point.0 k d (omega arith) inside)) in
    rw c.deref.ensures.value at low

pub returns-clause-next : goal.returns-clause-next
returns-clause-next c = λ d inside.
    let rises = numbers_rise c.args.self.now.lines 0 0 _ c.requires in
    let parted = IsPartitionedBy-leb (λ (j : Join). j.number) c.deref.result.now c.args.number (rw c.deref.ensures.value rises) in
    let point = IsPartitionPoint-from_clause (λ (j : Join). leb j.number c.args.number) _ _ c.partition_point.ensures.partitioned parted (λ a r q k. search rules) in
    let long = ap (λ (js : List Join). length js) c.deref.ensures.value in
    let high = leb-false _ _ (point.1 c.partition_point.result d (omega arith) (omega (arith, inside, long))) in
    rw c.deref.ensures.value at high
