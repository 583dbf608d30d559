use Rattle.std.proofs.Common.{◌≡◌, ◌<◌, ◌++◌, ◌∷◌, ◌∙◌, [], List, map, reverse, sym, refl, true, None, Some, Option, Bool, ℕ, IfSome}
use Rattle.std.proofs.lemmas.List.{reverse-append, reverse-reverse}
use Rattle.std.proofs.lemmas.Result.{err_from_is_err_and}
use Rattle.ext_tree.specs.Tree.{Tree, IsTree}
use Rattle.ext_tree.specs.declared.visit.Visit.{Visit}
use Rattle.ext_tree.specs.declared.task.Task.{Task}
use Rattle.ext_tree.specs.declared.task.Task.TheVariants.{Enter, Leave}
use Rattle.ext_tree.specs.declared.walk.Walk.{Walk}
use Rattle.ext_tree.specs.Unfolding.{Occurrence, compartment_of, path_below}
use Rattle.ext_tree.specs.Refusal.{Refusal, refusal_of, refused, refused_as, meet}
use Rattle.ext_tree.specs.Flat.{leaf}
use Rattle.ext_tree.specs.Memo.{is_walked}
use Rattle.ext_tree.specs.Shared.{list_after, is_list_walked, to_walk}
use Rattle.ext_tree.specs.declared.shared_list.SharedList.{SharedList}
use Rattle.ext_tree.specs.Walking.{occurrence, enter_below, entered, IsUnderWay, to_do}
use Rattle.ext_tree.specs.Walks.{IsRefused}
use Rattle.ext_tree.proofs.UnderWay.{pass-over, refuses, enters-next, less-over}
use Rattle.ext_tree.proofs.walk.Walk.enter.Goals as goal

-- the next tasks, read from the end of the list
tasks-next : (t : Tree) (v : Visit) (ms : List ℕ) (old mid new : List Task) → mid ≡ old ++ Leave v ∷ [] → new ≡ mid ++ reverse (map (enter_below t v) ms) → reverse new ≡ entered t v ms (reverse old)
tasks-next t v ms old mid new e d = rw (d, reverse-append, reverse-reverse, e, reverse-append) refl

-- a walk whose parts are these goes on
module _ (t : Tree) (tree : IsTree t) (v : Visit) (ts : List Task) (os : List Occurrence) (path met : List ℕ) (vs : List Visit) (memo : Visit → Bool) (lists : SharedList → Bool)
    (w : IsUnderWay t os (Enter v ∷ ts) path met vs memo lists) (h : refused t met (occurrence v path) ≡ None) where
  goes-on : (ts' : List Task) (path' met' : List ℕ) (vs' : List Visit) → ts' ≡ entered t v (to_walk lists t v) ts → path' ≡ path_below t v.node path → met' ≡ meet t met v.node → vs' ≡ vs ++ leaf t v
      → IsUnderWay t os ts' path' met' vs' memo lists × (to_do t path' ts' < to_do t path (Enter v ∷ ts))
  goes-on ts' path' met' vs' a b d e = rw (a, b, d, e) (enters-next t tree os v ts path met vs memo lists w h (list_after t v) refl)

-- a slot that is refused ends the walk
slot-refused : (t : Tree) (tree : IsTree t) (v : Visit) (ts : List Task) (w : Walk) (o : Option Refusal)
    → IfSome o (λ r. refused_as t w.met.nodes.items v.node w.slots.path.items (compartment_of t v.node) ≡ Some r) → IfSome o (λ r. IsRefused t (Enter v ∷ ts) w r)
slot-refused t tree v ts w None h = h
slot-refused t tree v ts w (Some r) h = λ os u.
    refuses t tree os v ts w.slots.path.items w.met.nodes.items w.leaves.items (is_walked w.memo.walked.items) (is_list_walked w.lists.facets.walked.items w.lists.fields.walked.items) r u h

pub returns-then-is_walked-clause-goes_on : goal.returns-then-is_walked-clause-goes_on
returns-then-is_walked-clause-goes_on c os w =
    let t : Tree = c.args.tree.now in
    let old : Walk = c.args.self.now in
    let walked : is_walked old.memo.walked.items c.args.visit ≡ true = sym c.is_walked.ensures ∙ c.if-is_walked.true in
    record {
      is_walk = pass-over t c.requires.tree os c.args.visit (reverse old.tasks.items) old.slots.path.items old.met.nodes.items old.leaves.items (is_walked old.memo.walked.items) (is_list_walked old.lists.facets.walked.items old.lists.fields.walked.items) w walked;
      less = less-over t c.requires.tree os c.args.visit (reverse old.tasks.items) old.slots.path.items old.met.nodes.items old.leaves.items (is_walked old.memo.walked.items) (is_list_walked old.lists.facets.walked.items old.lists.fields.walked.items) w;
    }

pub returns-in_err-check_slot-clause-refuses : goal.returns-in_err-check_slot-clause-refuses
returns-in_err-check_slot-clause-refuses c =
    let p = err_from_is_err_and c.from_residual.result c.from_residual.ensures.1 in
    rw (p.1, p.2)
    (slot-refused c.args.tree.now c.requires.tree c.args.visit (reverse c.args.self.now.tasks.items) c.args.self.now (refusal_of c.in_err-check_slot.field-0.0) c.in_err-check_slot.ensures.refuses)

pub returns-clause-goes_on : goal.returns-clause-goes_on
returns-clause-goes_on c os w =
    let t : Tree = c.args.tree.now in
    let old : Walk = c.args.self.now in
    let h : refused t old.met.nodes.items (occurrence c.args.visit old.slots.path.items) ≡ None = c.in_ok-check_slot.ensures.passes in
    let r = goes-on t c.requires.tree c.args.visit (reverse old.tasks.items) os old.slots.path.items old.met.nodes.items old.leaves.items (is_walked old.memo.walked.items) (is_list_walked old.lists.facets.walked.items old.lists.fields.walked.items) w h
    (reverse c.push_unwalked.new.tasks.items) c.enter.new.self.path.items c.meet.new.self.nodes.items c.note_leaf.new.leaves.items
    (tasks-next t c.args.visit (to_walk (is_list_walked old.lists.facets.walked.items old.lists.fields.walked.items) t c.args.visit) old.tasks.items c.push.new.self.items c.push_unwalked.new.tasks.items c.in_ok-push.ensures.items c.in_ok-push_unwalked.ensures)
    c.in_ok-enter.ensures.path c.in_ok-meet.ensures.nodes c.in_ok-note_leaf.ensures in
    record { is_walk = r.0; less = r.1 }
