use Rattle.std.proofs.Common.{◌≡◌, ◌++◌, ◌∷◌, [], List, reverse, refl, subst, Some, None, Option, IfSome}
use Rattle.std.proofs.lemmas.List.{reverse-append}
use Rattle.std.proofs.lemmas.Result.{err_from_is_err_and}
use Rattle.ext_tree.specs.Tree.{Tree}
use Rattle.ext_tree.specs.declared.task.Task.{Task}
use Rattle.ext_tree.specs.declared.walk.Walk.{Walk}
use Rattle.ext_tree.specs.Unfolding.{Occurrence, unfolding_of}
use Rattle.ext_tree.specs.Refusal.{Refusal, refusal, refusal_of}
use Rattle.ext_tree.specs.Walks.{IsWalk, IsRefused}
use Rattle.ext_tree.proofs.walk.walk_from.Goals as goal
use Rattle.ext_tree.proofs.walk.walk_from.Goals.{In-Some}

popped : (old new : List Task) (x : Task) → old ≡ new ++ x ∷ [] → reverse old ≡ x ∷ reverse new
popped old new x e = rw (e, reverse-append) refl

-- the tasks as they are taken from the end
taken : (c : In-Some) → reverse c.loop-task.walk.tasks.items ≡ c.in-Some.task ∷ reverse c.pop.new.self.items
taken c = popped c.loop-task.walk.tasks.items c.pop.new.self.items c.in-Some.task c.in-Some.ensures.items

under_way : (c : In-Some) → IsWalk c.args.tree.now (unfolding_of c.args.tree.now c.args.roots.now) (c.in-Some.task ∷ reverse c.pop.new.self.items) c.loop-task.walk
under_way c = subst (λ (ts : List Task). IsWalk c.args.tree.now (unfolding_of c.args.tree.now c.args.roots.now) ts c.loop-task.walk) (taken c) c.loop-task.invariant.walk

first-refused : (t : Tree) (os : List Occurrence) (ts : List Task) (w : Walk) (o : Option Refusal) → IsWalk t os ts w → IfSome o (λ r. IsRefused t ts w r) → IfSome o (λ r. refusal t os ≡ Some r)
first-refused t os ts w None u h = h
first-refused t os ts w (Some r) u h = h os u

pub loop-task-smaller : goal.loop-task-smaller
loop-task-smaller c =
    let r = c.in_ok-step.ensures.goes_on (unfolding_of c.args.tree.now c.args.roots.now) (under_way (goal.at.loop-task-smaller c).In-Some) in
    rw (taken (goal.at.loop-task-smaller c).In-Some) r.less

pub loop-task-preserved : goal.loop-task-preserved
loop-task-preserved c = record {
  walk = (c.in_ok-step.ensures.goes_on (unfolding_of c.args.tree.now c.args.roots.now) (under_way (goal.at.loop-task-preserved c).In-Some)).is_walk;
  marked = c.in_ok-step.ensures.marked;
}

pub returns-in_err-step-clause-refuses : goal.returns-in_err-step-clause-refuses
returns-in_err-step-clause-refuses c =
    let p = err_from_is_err_and c.from_residual-in_err-step.result c.from_residual-in_err-step.ensures.1 in
    rw (p.1, p.2)
    (first-refused c.args.tree.now (unfolding_of c.args.tree.now c.args.roots.now) (c.in-Some.task ∷ reverse c.pop.new.self.items) (record c.loop-task.walk { tasks = c.pop.new.self })
    (refusal_of c.in_err-step.field-0.0) (under_way (goal.at.returns-in_err-step-clause-refuses c).In-Some) c.in_err-step.ensures.refuses)
