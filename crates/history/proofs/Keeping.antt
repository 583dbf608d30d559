-- What each step leaves of a history is one that leads from the new document.
use Rattle.std.proofs.Common.{◌≡◌, ℕ, Bool, true, false, cond, ℤ, pos, List, ◌∷◌, drop, length, None, refl, sym, subst, ◌∙◌}
use Rattle.std.specs.Prelude.{◌&&◌, ◌==◌}
use Rattle.std.proofs.lemmas.Bool.{and_parts, and_from}
use Rattle.change_desc.specs.declared.section.Section.{Section}
use Rattle.change_desc.specs.Sections.{spelled, lengths, new_size}
use Rattle.change_desc.specs.Ranges.{changes_nothing}
use Rattle.change_desc.proofs.Merges.{old_size-lengths, new_size-lengths}
use Rattle.history.specs.declared.case.Case.{Case}
use Rattle.history.specs.declared.case.Case.TheVariants.{Undo, Redo, UndoSelection, RedoSelection, Unchanged, Unrecorded, Recorded}
use Rattle.history.specs.declared.item.Item.{Item}
use Rattle.history.specs.declared.item.Item.TheVariants.{Change, Select}
use Rattle.history.specs.declared.group.Group.{Group}
use Rattle.history.specs.declared.group.Group.TheVariants.{Closed}
use Rattle.history.specs.declared.lists.Lists.{Lists}
use Rattle.history.specs.Inputs.{StepView}
use Rattle.history.specs.Histories.{IsHistory, LeadOn, empty, leads, leads_from}
use Rattle.history.specs.Items.{begins_with_change, begins_with_select, keep_changes, keep_selects, most_selects}
use Rattle.history.specs.Joining.{joins}
use Rattle.history.specs.Moving.{items_over}
use Rattle.history.specs.Selecting.{makes_select, with_left}
use Rattle.history.specs.Steps.{IsStep, case_of, cut_to, goes_over, in_case, is_from, is_newest, joined_to, kept_count, step, way_back}
use Rattle.history.proofs.Leading.{joined-leads, keep_changes-leads, keep_selects-leads, leading, led, older-leads, rest-leads, way_back-leads, with_left-leads}
use Rattle.history.proofs.Moved.{items_over-leads, nothing-sizes}

-- lists that lead from a document of this length
pub record Leads (len : ℕ) (h : Lists) : Type 0 where
  pub done : LeadOn len h.done
  pub undone : LeadOn len h.undone

pub led_from : (len : ℕ) (h : Lists) → IsHistory h → leads_from len h ≡ true → Leads len h
led_from len h i k =
    let p : (leads len h.done ≡ true) × (leads len h.undone ≡ true) = and_parts (leads len h.done) (leads len h.undone) k in
    record { done = led len h.done i.done p.0; undone = led len h.undone i.undone p.1 }

pub leading_from : (len : ℕ) (h : Lists) → Leads len h → leads_from len h ≡ true
leading_from len h k = and_from (leads len h.done) (leads len h.undone) (leading len h.done k.done) (leading len h.undone k.undone)

cut-leads : (len : ℕ) (depth : ℤ) (h : Lists) → Leads len h → Leads len (cut_to depth h)
cut-leads len depth h k = record {
  done = keep_selects-leads most_selects len (keep_changes (kept_count depth) h.done) (keep_changes-leads (kept_count depth) len h.done k.done);
  undone = keep_selects-leads most_selects len h.undone k.undone;
}

closed-if : (b : Bool) (group : Group) → b ≡ false → cond b group Closed ≡ Closed
closed-if true group e = cc
closed-if false group e = refl

pub cut-kept : (len : ℕ) (depth : ℤ) (h : Lists) → Leads len h → IsHistory (cut_to depth h)
cut-kept len depth h k =
    let l : Leads len (cut_to depth h) = cut-leads len depth h k in
    record {
      done = (len, l.done);
      undone = (len, l.undone);
      group = closed-if (begins_with_change (keep_selects most_selects (keep_changes (kept_count depth) h.done))) h.group;
    }

-- what is cut part by part
pub cut-made : (len : ℕ) (depth : ℤ) (h : Lists) (count : ℕ) (kept done undone : List Item) (b : Bool) (group : Group) → count ≡ kept_count depth → kept ≡ keep_changes count h.done →
    done ≡ keep_selects most_selects kept → undone ≡ keep_selects most_selects h.undone → b ≡ begins_with_change done → group ≡ cond b h.group Closed →
    LeadOn len h.done → LeadOn len h.undone → IsHistory (record { done = done; undone = undone; group = group })
cut-made len depth h count kept done undone b group n k d u p g l m = rw (g, p, d, k, n, u) (cut-kept len depth h (record { done = l; undone = m }))

undo-case : (a b c d e f : Bool) → cond a Undo (cond b Redo (cond c UndoSelection (cond d RedoSelection (cond e Unchanged (cond f Unrecorded Recorded))))) ≡ Undo → a ≡ true
undo-case true b c d e f h = refl
undo-case false true c d e f h = cc
undo-case false false true d e f h = cc
undo-case false false false true e f h = cc
undo-case false false false false true f h = cc
undo-case false false false false false true h = cc
undo-case false false false false false false h = cc

redo-case : (a b c d e f : Bool) → cond a Undo (cond b Redo (cond c UndoSelection (cond d RedoSelection (cond e Unchanged (cond f Unrecorded Recorded))))) ≡ Redo → b ≡ true
redo-case true b c d e f h = cc
redo-case false true c d e f h = refl
redo-case false false true d e f h = cc
redo-case false false false true e f h = cc
redo-case false false false false true f h = cc
redo-case false false false false false true h = cc
redo-case false false false false false false h = cc

undo_selection-case : (a b c d e f : Bool) → cond a Undo (cond b Redo (cond c UndoSelection (cond d RedoSelection (cond e Unchanged (cond f Unrecorded Recorded))))) ≡ UndoSelection → c ≡ true
undo_selection-case true b c d e f h = cc
undo_selection-case false true c d e f h = cc
undo_selection-case false false true d e f h = refl
undo_selection-case false false false true e f h = cc
undo_selection-case false false false false true f h = cc
undo_selection-case false false false false false true h = cc
undo_selection-case false false false false false false h = cc

redo_selection-case : (a b c d e f : Bool) → cond a Undo (cond b Redo (cond c UndoSelection (cond d RedoSelection (cond e Unchanged (cond f Unrecorded Recorded))))) ≡ RedoSelection → d ≡ true
redo_selection-case true b c d e f h = cc
redo_selection-case false true c d e f h = cc
redo_selection-case false false true d e f h = cc
redo_selection-case false false false true e f h = refl
redo_selection-case false false false false true f h = cc
redo_selection-case false false false false false true h = cc
redo_selection-case false false false false false false h = cc

unchanged-case : (a b c d e f : Bool) → cond a Undo (cond b Redo (cond c UndoSelection (cond d RedoSelection (cond e Unchanged (cond f Unrecorded Recorded))))) ≡ Unchanged → e ≡ true
unchanged-case true b c d e f h = cc
unchanged-case false true c d e f h = cc
unchanged-case false false true d e f h = cc
unchanged-case false false false true e f h = cc
unchanged-case false false false false true f h = refl
unchanged-case false false false false false true h = cc
unchanged-case false false false false false false h = cc

module _ (i : StepView) (s : IsStep i) (h : Lists) (k : Leads (length i.document.characters) h) where
  same-len : changes_nothing i.changes ≡ true → length i.document.characters ≡ new_size spelled i.changes
  same-len e = sym (nothing-sizes i.changes e ∙ s.starts)

  over : changes_nothing i.changes ≡ true → (items : List Item) → LeadOn (length i.document.characters) items → LeadOn (new_size spelled i.changes) items
  over e items l = subst (λ n. LeadOn n items) (same-len e) l

  start-leads : changes_nothing i.changes ≡ true → (items : List Item) → LeadOn (length i.document.characters) items →
      LeadOn (new_size spelled i.changes) (Select (record { selection = i.selection; time = None; user_event = None }) ∷ items)
  start-leads e items l = over e (Select (record { selection = i.selection; time = None; user_event = None }) ∷ items) (s.inside, l)

  goes-parts : (number : ℤ) (b : Bool) → goes_over number i b ≡ true → (changes_nothing i.changes ≡ true) × (b ≡ true)
  goes-parts number b e =
      let p : ((is_from number i.from_history && changes_nothing i.changes) ≡ true) × (b ≡ true) = and_parts (is_from number i.from_history && changes_nothing i.changes) b e in
      let q : (is_from number i.from_history ≡ true) × (changes_nothing i.changes ≡ true) = and_parts (is_from number i.from_history) (changes_nothing i.changes) p.0 in
      (q.1, p.1)

  moved-leads : (items : List Item) → LeadOn (length i.document.characters) items → LeadOn (new_size spelled i.changes) (items_over (lengths spelled i.changes) items)
  moved-leads items l =
      let o : List (Section ℕ) = lengths spelled i.changes in
      subst (λ m. LeadOn m (items_over o items)) (new_size-lengths spelled i.changes)
      (items_over-leads o items (subst (λ m. LeadOn m items) (sym (old_size-lengths spelled i.changes ∙ s.starts)) l))

  left-leads : (b : Bool) → LeadOn (length i.document.characters) (cond b (with_left i h.done) h.done)
  left-leads true = with_left-leads i s h.done k.done
  left-leads false = k.done

  recorded-leads : (b : Bool) → LeadOn (new_size spelled i.changes) (cond b (joined_to (way_back i) h.done) (Change (way_back i) ∷ h.done))
  recorded-leads true = joined-leads i s h.done k.done
  recorded-leads false = way_back-leads i s h.done k.done

  case-leads : (case : Case) → case_of h i ≡ case → Leads (new_size spelled i.changes) (in_case case h i)
  case-leads Undo e =
      let n : (is_from (pos 0) i.from_history ≡ true) × (is_newest i.changes h.done ≡ true) = and_parts (is_from (pos 0) i.from_history) (is_newest i.changes h.done) (undo-case _ _ _ _ _ _ e) in
      record { done = older-leads i s (length i.document.characters) h.done k.done n.1; undone = way_back-leads i s h.undone k.undone }
  case-leads Redo e =
      let n : (is_from (pos 1) i.from_history ≡ true) × (is_newest i.changes h.undone ≡ true) = and_parts (is_from (pos 1) i.from_history) (is_newest i.changes h.undone) (redo-case _ _ _ _ _ _ e) in
      record { done = way_back-leads i s h.done k.done; undone = older-leads i s (length i.document.characters) h.undone k.undone n.1 }
  case-leads UndoSelection e =
      let p = goes-parts (pos 2) (begins_with_select h.done) (undo_selection-case _ _ _ _ _ _ e) in
      record { done = over p.0 (drop 1 h.done) (rest-leads (length i.document.characters) h.done k.done p.1); undone = start-leads p.0 h.undone k.undone }
  case-leads RedoSelection e =
      let p = goes-parts (pos 3) (begins_with_select h.undone) (redo_selection-case _ _ _ _ _ _ e) in
      record { done = start-leads p.0 h.done k.done; undone = over p.0 (drop 1 h.undone) (rest-leads (length i.document.characters) h.undone k.undone p.1) }
  case-leads Unchanged e =
      let p : (changes_nothing i.changes ≡ true) × ((length i.effects == 0) ≡ true) = and_parts (changes_nothing i.changes) (length i.effects == 0) (unchanged-case _ _ _ _ _ _ e) in
      record { done = over p.0 (cond (makes_select i) (with_left i h.done) h.done) (left-leads (makes_select i)); undone = over p.0 h.undone k.undone }
  case-leads Unrecorded e = record { done = moved-leads h.done k.done; undone = moved-leads h.undone k.undone }
  case-leads Recorded e = record { done = recorded-leads (joins h i); undone = tt }

  pub next-leads : leads_from (new_size spelled i.changes) (cut_to i.min_depth (in_case (case_of h i) h i)) ≡ true
  next-leads =
      leading_from (new_size spelled i.changes) (cut_to i.min_depth (in_case (case_of h i) h i))
      (cut-leads (new_size spelled i.changes) i.min_depth (in_case (case_of h i) h i) (case-leads (case_of h i) refl))

  pub lists-lead : (next : Lists) → next ≡ in_case (case_of h i) h i → Leads (new_size spelled i.changes) next
  lists-lead next e = subst (Leads (new_size spelled i.changes)) (sym e) (case-leads (case_of h i) refl)

pub empty-leads : (len : ℕ) → Leads len empty
empty-leads len = record { done = tt; undone = tt }

pub empty-kept : IsHistory empty
empty-kept = record { done = (0, tt); undone = (0, tt); group = λ e. refl }

-- a history that doesn't lead from the start document counts as empty
pub step-led : (i : StepView) (h : Lists) (b : Bool) → b ≡ leads_from (length i.document.characters) h →
    step h i ≡ cut_to i.min_depth (in_case (case_of (cond b h empty) i) (cond b h empty) i)
step-led i h b e = rw e refl

pub start-leads-from : (i : StepView) (h : Lists) → IsHistory h → (b : Bool) → b ≡ leads_from (length i.document.characters) h → Leads (length i.document.characters) (cond b h empty)
start-leads-from i h k true e = led_from (length i.document.characters) h k (sym e)
start-leads-from i h k false e = empty-leads (length i.document.characters)

pub step-leads : (i : StepView) → IsStep i → (h : Lists) → IsHistory h → (b : Bool) → b ≡ leads_from (length i.document.characters) h → (n : Lists) →
    n ≡ cut_to i.min_depth (in_case (case_of (cond b h empty) i) (cond b h empty) i) → leads_from (new_size spelled i.changes) n ≡ true
step-leads i s h k b e n f = subst (λ m. leads_from (new_size spelled i.changes) m ≡ true) (sym f) (next-leads i s (cond b h empty) (start-leads-from i h k b e))
