use Rattle.std.proofs.Common.{◌<◌, length}
use Rattle.values.proofs.kit.Kit.computer.Goals as goal

pub unreachable-requires : goal.unreachable-requires
unreachable-requires g c = c.in-None.ensures (rw c.as_slice.ensures.value (c.requires.whole.all.computers.each c.args.number c.requires.number))

pub returns-clause-meant : goal.returns-clause-meant
returns-clause-meant g c =
    let inside : c.in-Some.place < length c.args.self.now.lists.computers.items = rw (← c.as_slice.ensures.value) c.in-Some.ensures.inside in
    rw c.index.ensures (c.requires.whole.answers.computers c.in-Some.place c.index.result.now inside)

pub returns-clause-lent : goal.returns-clause-lent
returns-clause-lent g c =
    let inside : c.in-Some.place < length c.args.self.now.lists.computers.items = rw (← c.as_slice.ensures.value) c.in-Some.ensures.inside in
    (c.in-Some.place, (inside, c.index.ensures))
