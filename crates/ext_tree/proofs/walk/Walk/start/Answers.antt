use Rattle.std.proofs.Common.{◌≡◌, ◌++◌, List, [], map, reverse}
use Rattle.std.proofs.lemmas.List.{reverse-reverse}
use Rattle.ext_tree.specs.declared.task.Task.{Task}
use Rattle.ext_tree.specs.declared.precedence.Precedence.TheVariants as precedence
use Rattle.ext_tree.specs.Walks.{enter_at}
use Rattle.ext_tree.proofs.UnderWay.{starts}
use Rattle.ext_tree.proofs.walk.Walk.start.Goals as goal

put : (old new tasks : List Task) → old ≡ [] → new ≡ old ++ reverse tasks → reverse new ≡ tasks
put old new tasks none is = rw (is, none) (reverse-reverse tasks)

pub returns-clause-walk : goal.returns-clause-walk
returns-clause-walk c =
    let t = c.args.tree.now in
    rw (put c.new-tasks.result.items c.push_all.new.tasks.items (map (enter_at precedence.Default) c.args.roots.now) c.new-tasks.ensures.items c.in_ok-push_all.ensures, c.new.ensures.path, c.new-2.ensures.nodes, c.new-3.ensures.items)
    (starts t c.args.roots.now _ _ c.requires c.in_ok-new.ensures.none c.in_ok-unwalked.ensures)
