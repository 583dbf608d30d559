-- What is kept of a stored rule: it may be called on every input of its shapes, and its answers there are its number's meaning.
use Rattle.std.specs.Prelude.{◌≡◌, ℕ, ◌≤◌, Bool, true, IsTrue, List, All, Option, Result, unwrap_or}
use Rattle.std.specs.Fn.{Mut}
use denote.Param.Callables.{Sure}
use Rattle.std.specs.Borrow.{Bor}
use Rattle.std.specs.Result.{ForOk}
use Rattle.std.specs.declared.alloc.AllocError.{AllocError}
use Rattle.change_desc.specs.declared.section.Section.{Section}
use Rattle.values.specs.declared.val.Val.{Val}
use Rattle.values.specs.declared.update_view.UpdateView.{UpdateView}
use Rattle.values.specs.declared.answers.Guarding.{Guarding}
use Rattle.values.specs.declared.answers.Filtering.{Filtering}
use Rattle.values.specs.declared.answers.Extension.{Extension}
use Rattle.values.specs.declared.combiner.Combiner.{Combiner}
use Rattle.values.specs.declared.comparer.Comparer.{Comparer}
use Rattle.values.specs.declared.computer.Computer.{Computer}
use Rattle.values.specs.declared.computer_n.ComputerN.{ComputerN}
use Rattle.values.specs.declared.creator.Creator.{Creator}
use Rattle.values.specs.declared.updater.Updater.{Updater}
use Rattle.values.specs.declared.effect_map.EffectMap.{EffectMap}
use Rattle.values.specs.declared.change_guard.ChangeGuard.{ChangeGuard}
use Rattle.values.specs.declared.tr_filter.TrFilter.{TrFilter}
use Rattle.values.specs.declared.extender.Extender.{Extender}
use Rattle.cm_plain.specs.Form.{Form}
use Rattle.values.specs.InRange.{IsInRange}
use Rattle.values.specs.Vals.{IsOf}
use Rattle.values.specs.Views.{AreDeps, DepsView, IsTransaction, TransactionView, AreWithin}
use Rattle.values.specs.Rules.{Rules}

-- what each update may rely on: the old value is of the rule's shape, and what is shown keeps to the limits
pub record IsUpdate (shape : Form) (old : Val) (view : UpdateView) : Type 0 where
  pub fits : IsOf shape old
  pub transaction : IsTransaction view.transaction
  pub deps : AreDeps view.deps

module _ {M X : Type 0} {F : X → Type 0} where
  pub record Combines {g : Mut ((x : X) × F x) (Bor (List Val) × Unit {0}) (Result Val AllocError)} (rules : Rules) (c : Combiner M X F g) : Type 0 where
    pub callable : (p : Bor (List Val)) → All (IsOf (rules.combine_input c.number)) p.now → Sure (g.pre (c.rule.vtable, c.rule.value) (p, tt))
    pub gives : (p : Bor (List Val)) (r : Result Val AllocError) → All (IsOf (rules.combine_input c.number)) p.now → g.post (c.rule.vtable, c.rule.value) (p, tt) r → ForOk r (λ v. v ≡ rules.combine c.number p.now)

  pub record Compares {g : Mut ((x : X) × F x) (Bor Val × (Bor Val × Unit {0})) Bool} (rules : Rules) (c : Comparer M X F g) : Type 0 where
    pub callable : (p q : Bor Val) → Sure (g.pre (c.rule.vtable, c.rule.value) (p, (q, tt)))
    pub answers : (p q : Bor Val) (r : Bool) → g.post (c.rule.vtable, c.rule.value) (p, (q, tt)) r → r ≡ rules.compare c.number p.now q.now
    pub reflexive : IsTrue c.reflexive → (v : Val) → rules.compare c.number v v ≡ true

  pub record Computes {g : Mut ((x : X) × F x) (Bor DepsView × Unit {0}) (Result Val AllocError)} (rules : Rules) (c : Computer M X F g) : Type 0 where
    pub callable : (p : Bor DepsView) → AreDeps p.now → Sure (g.pre (c.rule.vtable, c.rule.value) (p, tt))
    pub gives : (p : Bor DepsView) (r : Result Val AllocError) → AreDeps p.now → g.post (c.rule.vtable, c.rule.value) (p, tt) r → ForOk r (λ v. v ≡ rules.compute c.number p.now)

  pub record ComputesLists {g : Mut ((x : X) × F x) (Bor DepsView × Unit {0}) (Result (List Val) AllocError)} (rules : Rules) (c : ComputerN M X F g) : Type 0 where
    pub callable : (p : Bor DepsView) → AreDeps p.now → Sure (g.pre (c.rule.vtable, c.rule.value) (p, tt))
    pub gives : (p : Bor DepsView) (r : Result (List Val) AllocError) → AreDeps p.now → g.post (c.rule.vtable, c.rule.value) (p, tt) r → ForOk r (λ vs. vs ≡ rules.compute_list c.number p.now)

  pub record Creates {g : Mut ((x : X) × F x) (Bor DepsView × Unit {0}) (Result Val AllocError)} (rules : Rules) (c : Creator M X F g) : Type 0 where
    pub callable : (p : Bor DepsView) → AreDeps p.now → Sure (g.pre (c.rule.vtable, c.rule.value) (p, tt))
    pub gives : (p : Bor DepsView) (r : Result Val AllocError) → AreDeps p.now → g.post (c.rule.vtable, c.rule.value) (p, tt) r → ForOk r (λ v. v ≡ rules.create c.number p.now)

  pub record Updates {g : Mut ((x : X) × F x) (Bor Val × (Bor UpdateView × Unit {0})) (Result (Option Val) AllocError)} (rules : Rules) (c : Updater M X F g) : Type 0 where
    pub callable : (p : Bor Val) (q : Bor UpdateView) → IsUpdate (rules.update_shape c.number) p.now q.now → Sure (g.pre (c.rule.vtable, c.rule.value) (p, (q, tt)))
    pub gives : (p : Bor Val) (q : Bor UpdateView) (r : Result (Option Val) AllocError) → IsUpdate (rules.update_shape c.number) p.now q.now
        → g.post (c.rule.vtable, c.rule.value) (p, (q, tt)) r → ForOk r (λ answer. unwrap_or answer p.now ≡ rules.update c.number p.now q.now.transaction q.now.deps)

  pub record MapsEffects {g : Mut ((x : X) × F x) (Val × (Bor (List (Section ℕ)) × Unit {0})) (Result (Option Val) AllocError)} (rules : Rules) (c : EffectMap M X F g) : Type 0 where
    pub callable : (v : Val) (d : Bor (List (Section ℕ))) → IsInRange v → AreWithin d.now → Sure (g.pre (c.rule.vtable, c.rule.value) (v, (d, tt)))
    pub gives : (v : Val) (d : Bor (List (Section ℕ))) (r : Result (Option Val) AllocError) → IsInRange v → AreWithin d.now
        → g.post (c.rule.vtable, c.rule.value) (v, (d, tt)) r → ForOk r (λ mapped. mapped ≡ rules.map_effect c.number v d.now)

  pub record Guards {g : Mut ((x : X) × F x) (Bor TransactionView × (Bor Val × Unit {0})) (Result Guarding AllocError)} (rules : Rules) (c : ChangeGuard M X F g) : Type 0 where
    pub callable : (t : Bor TransactionView) (v : Bor Val) → IsTransaction t.now → IsInRange v.now → Sure (g.pre (c.rule.vtable, c.rule.value) (t, (v, tt)))
    pub gives : (t : Bor TransactionView) (v : Bor Val) (r : Result Guarding AllocError) → IsTransaction t.now → IsInRange v.now
        → g.post (c.rule.vtable, c.rule.value) (t, (v, tt)) r → ForOk r (λ a. a ≡ rules.guard c.number t.now v.now)

  pub record Filters {g : Mut ((x : X) × F x) (Bor TransactionView × (Bor Val × Unit {0})) (Result Filtering AllocError)} (rules : Rules) (c : TrFilter M X F g) : Type 0 where
    pub callable : (t : Bor TransactionView) (v : Bor Val) → IsTransaction t.now → IsInRange v.now → Sure (g.pre (c.rule.vtable, c.rule.value) (t, (v, tt)))
    pub gives : (t : Bor TransactionView) (v : Bor Val) (r : Result Filtering AllocError) → IsTransaction t.now → IsInRange v.now
        → g.post (c.rule.vtable, c.rule.value) (t, (v, tt)) r → ForOk r (λ a. a ≡ rules.filter c.number t.now v.now)

  pub record Extends {g : Mut ((x : X) × F x) (Bor TransactionView × (Bor Val × Unit {0})) (Result Extension AllocError)} (rules : Rules) (c : Extender M X F g) : Type 0 where
    pub callable : (t : Bor TransactionView) (v : Bor Val) → IsTransaction t.now → IsInRange v.now → Sure (g.pre (c.rule.vtable, c.rule.value) (t, (v, tt)))
    pub gives : (t : Bor TransactionView) (v : Bor Val) (r : Result Extension AllocError) → IsTransaction t.now → IsInRange v.now
        → g.post (c.rule.vtable, c.rule.value) (t, (v, tt)) r → ForOk r (λ a. a ≡ rules.extend c.number t.now v.now)
