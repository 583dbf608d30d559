-- Histories that steps leave as they are.
use Rattle.std.proofs.Common.{◌≡◌, ℕ, ◌+◌, ◌≤◌, ◌<◌, Bool, true, false, ◌&&◌, cond, List, [], ◌∷◌, length, Option, Some, None, refl, ap, ◌∙◌, arith}
use Rattle.std.specs.Prelude.{◌||◌, ◌==◌, ℤ, pos, not, is_none, is_some}
use Rattle.std.specs.Option.{option_map_or}
use Rattle.std.proofs.lemmas.List.Sums.{count_by-le-length, sum_by-cons}
use Rattle.change_desc.specs.Ranges.{changes_nothing}
use Rattle.history.specs.declared.case.Case.{Case}
use Rattle.history.specs.declared.case.Case.TheVariants.{Undo, Redo, UndoSelection, RedoSelection, Unchanged, Unrecorded, Recorded}
use Rattle.history.specs.declared.group.Group.TheVariants.{Closed}
use Rattle.history.specs.declared.item.Item.{Item}
use Rattle.history.specs.declared.item.Item.TheVariants.{Change, Select}
use Rattle.history.specs.declared.lists.Lists.{Lists}
use Rattle.history.specs.Inputs.{StepView}
use Rattle.history.specs.Histories.{empty, leads_from}
use Rattle.history.specs.Items.{begins_with_change, begins_with_select, change_count, is_change, keep_changes, keep_selects, most_selects}
use Rattle.history.specs.Selecting.{is_false, same_selection, with_left}
use Rattle.history.specs.Steps.{case_of, cut_to, in_case, is_from, is_idle_step, is_newest, kept_count, step}
use Rattle.history.proofs.Cuts.{few-kept}
use Rattle.selection.specs.Selections.{SelectionView}
use Rattle.values.specs.Updating.{history_input}
use Rattle.values.specs.Views.{TransactionView}
use Rattle.shipped_rules.specs.Stepping.{HasNothingForHistory}

-- the case of a step that says this of where it comes from, and is idle or not
abbrev case_from : Lists → StepView → Option ℤ → Bool → Case
case_from h i from idle =
    cond (is_from (pos 0) from && is_newest i.changes h.done) Undo
    (cond (is_from (pos 1) from && is_newest i.changes h.undone) Redo
    (cond (is_from (pos 2) from && changes_nothing i.changes && begins_with_select h.done) UndoSelection
    (cond (is_from (pos 3) from && changes_nothing i.changes && begins_with_select h.undone) RedoSelection
    (cond idle Unchanged (cond (is_some from || is_false i.add_to_history) Unrecorded Recorded)))))

-- a step of no changes and no effects, which doesn't come from the history
idle_case : (h : Lists) (i : StepView) → changes_nothing i.changes ≡ true → i.effects ≡ [] → i.from_history ≡ None → case_of h i ≡ Unchanged
idle_case h i c e f =
    ap (λ from. case_from h i from (is_idle_step i)) f
    ∙ ap (case_from h i None) (ap (λ b. b && length i.effects == 0) c ∙ ap (λ effects. length effects == 0) e)

-- what a step makes of the lists that gives this selection
abbrev with_given : Lists → StepView → Option SelectionView → Lists
with_given h i given =
    record {
      done = cond (option_map_or (λ s. not (same_selection i.selection s)) given false && not (is_false i.add_to_history) && is_none i.from_history) (with_left i h.done) h.done;
      undone = h.undone;
      group = cond (is_none given) h.group Closed;
    }

idle_step : (h : Lists) (i : StepView) → changes_nothing i.changes ≡ true → i.effects ≡ [] → i.given ≡ None → i.from_history ≡ None →
    leads_from (length i.document.characters) h ≡ true → cut_to i.min_depth h ≡ h → step h i ≡ h
idle_step h i c e g f l k =
    ap (λ s. cut_to i.min_depth (in_case (case_of s i) s i)) (ap (λ b. cond b h empty) l)
    ∙ (ap (λ case. cut_to i.min_depth (in_case case h i)) (idle_case h i c e f)
    ∙ (ap (λ given. cut_to i.min_depth (with_given h i given)) g ∙ k))

pub stays : (h : Lists) (t : TransactionView) (bounds : ℤ × ℤ) → HasNothingForHistory t → leads_from (length t.start) h ≡ true → cut_to bounds.0 h ≡ h → step h (history_input t bounds) ≡ h
stays h t bounds is l k =
    idle_step h (history_input t bounds) is.changes is.effects (ap (λ b. cond b (Some t.selection) None) is.given) is.from l k

-- lists of Changes alone
counts-more : (item : Item) (items : List Item) → change_count (item ∷ items) ≡ cond (is_change item) 1 0 + change_count items
counts-more item items = sum_by-cons (λ x. cond (is_change x) 1 0) item items

no-select : {X : Type 0} (s : _) (items : List Item) → length (Select s ∷ items) ≡ change_count (Select s ∷ items) → X
no-select s items e = absurd (let m = counts-more (Select s) items in let n = count_by-le-length is_change items in omega (arith, e, m, n))

changes-kept : (room : ℕ) (items : List Item) → length items ≡ change_count items → keep_selects room items ≡ items
changes-kept room [] e = refl
changes-kept room (Change c ∷ items) e = ap (λ xs. Change c ∷ xs) (changes-kept most_selects items (let m = counts-more (Change c) items in omega (arith, e, m)))
changes-kept room (Select s ∷ items) e = no-select s items e

changes-begin : (items : List Item) → 0 < change_count items → length items ≡ change_count items → begins_with_change items ≡ true
changes-begin [] p e = absurd (omega (arith, p))
changes-begin (Change c ∷ items) p e = refl
changes-begin (Select s ∷ items) p e = no-select s items e

-- a history of few Changes alone, of which some can be undone
pub uncut : (depth : ℤ) (h : Lists) → 0 < change_count h.done → length h.done ≡ change_count h.done → length h.undone ≡ change_count h.undone → change_count h.done ≤ kept_count depth →
    cut_to depth h ≡ h
uncut depth h p d u k =
    let done : keep_selects most_selects (keep_changes (kept_count depth) h.done) ≡ h.done =
    ap (keep_selects most_selects) (few-kept (kept_count depth) h.done k) ∙ changes-kept most_selects h.done d in
    ap (λ items. record { done = items; undone = keep_selects most_selects h.undone; group = cond (begins_with_change items) h.group Closed }) done
    ∙ (ap (λ items. record { done = h.done; undone = items; group = cond (begins_with_change h.done) h.group Closed }) (changes-kept most_selects h.undone u)
    ∙ ap (λ b. record { done = h.done; undone = h.undone; group = cond b h.group Closed }) (changes-begin h.done p d))
