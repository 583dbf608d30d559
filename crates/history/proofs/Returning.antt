-- The newest Change after a step leads back.
use Rattle.std.proofs.Common.{◌≡◌, ℕ, zero, suc, Bool, true, false, cond, not, ◌&&◌, ℤ, pos, negsuc, ◌≤ℤ◌, List, [], ◌∷◌, length, Some, refl, sym, ap, subst, ◌∙◌, arith}
use Rattle.std.proofs.lemmas.Bool.{and_parts, eqb-true}
use Rattle.std.proofs.lemmas.Int.{ints}
use Rattle.std.specs.Prelude.{option_map}
use Rattle.change_desc.specs.declared.section.Section.{Section}
use Rattle.change_desc.specs.Sections.{apply, invert, old_size}
use Rattle.change_desc.proofs.Applies.{apply-compose, invert-apply}
use Rattle.change_set.proofs.Sizes.{length-apply}
use Rattle.history.specs.declared.case.Case.{Case}
use Rattle.history.specs.declared.case.Case.TheVariants.{Redo, Recorded}
use Rattle.history.specs.declared.item.ChangeItem.{ChangeItem}
use Rattle.history.specs.declared.item.Item.{Item}
use Rattle.history.specs.declared.item.Item.TheVariants.{Change, Select}
use Rattle.history.specs.declared.lists.Lists.{Lists}
use Rattle.history.specs.Inputs.{StepView}
use Rattle.history.specs.Histories.{empty, leads, leads_from}
use Rattle.history.specs.Items.{keep_changes, keep_selects, most_selects, newest_change}
use Rattle.history.specs.Joining.{closes_before, is_joinable, is_near, is_soon, joins}
use Rattle.history.specs.Restoring.{Restores, before_group, given_by, new_text, old_text}
use Rattle.history.specs.Steps.{IsStep, case_of, cut_to, in_case, joined_to, kept_count, start_of, step, way_back}
use Rattle.history.proofs.Keeping.{step-led}
use Rattle.history.proofs.Leading.{invert-new, invert-old}

-- the newest Change of what is kept is the newest of all
newest-selects : (room : ℕ) (items : List Item) → newest_change (keep_selects room items) ≡ newest_change items
newest-selects room [] = refl
newest-selects room (Change c ∷ items) = refl
newest-selects zero (Select s ∷ items) = newest-selects zero items
newest-selects (suc room) (Select s ∷ items) = newest-selects room items

newest-changes : (n : ℕ) (items : List Item) → newest_change (keep_changes (suc n) items) ≡ newest_change items
newest-changes n [] = refl
newest-changes n (Change c ∷ items) = refl
newest-changes n (Select s ∷ items) = newest-changes n items

given-selects : (items : List Item) (text : List ℕ) → given_by (keep_selects most_selects items) text ≡ given_by items text
given-selects items text = ap (λ o. option_map (λ (c : ChangeItem). apply c.changes text) o) (newest-selects most_selects items)

given-cut : (depth : ℤ) (items : List Item) (text : List ℕ) → pos 1 ≤ℤ depth → given_by (keep_selects most_selects (keep_changes (kept_count depth) items)) text ≡ given_by items text
given-cut (pos zero) items text h = absurd (omega (arith, ints))
given-cut (pos (suc n)) items text h =
    given-selects (keep_changes (suc n) items) text ∙ ap (λ o. option_map (λ (c : ChangeItem). apply c.changes text) o) (newest-changes n items)
given-cut (negsuc n) items text h = absurd (omega (arith, ints))

module _ (i : StepView) (s : IsStep i) where
  way_back-gives : (items : List Item) → given_by (Change (way_back i) ∷ items) (new_text i) ≡ Some (old_text i)
  way_back-gives items = ap Some (invert-apply i.changes i.document.characters s.starts)

  joined-gives : (items : List Item) → leads (length i.document.characters) items ≡ true → is_near i items ≡ true →
      given_by (joined_to (way_back i) items) (new_text i) ≡ given_by items (old_text i)
  joined-gives [] l n = cc
  joined-gives (Select t ∷ items) l n = cc
  joined-gives (Change c ∷ items) l n =
      let doc : List ℕ = i.document.characters in
      let w : List (Section (List ℕ)) = invert i.changes doc in
      ap Some
      (apply-compose w c.changes (apply i.changes doc) (invert-old i.changes doc ∙ sym (length-apply i.changes doc s.starts))
      (invert-new i.changes doc s.starts ∙ sym (eqb-true (old_size c.changes) (length doc) l)) ∙ ap (apply c.changes) (invert-apply i.changes doc s.starts))

  near-if : (h : Lists) → joins h i ≡ true → is_near i h.done ≡ true
  near-if h e =
      let soon : Bool = is_soon h.group i.time i.delay in
      let lets : Bool = is_joinable i.user_event in
      let open_before : Bool = not (closes_before i.isolate) in
      let near : Bool = is_near i h.done in
      (and_parts (soon && lets && open_before) near e).1

  recorded-gives : (h : Lists) → leads_from (length i.document.characters) h ≡ true → given_by (in_case Recorded h i).done (new_text i) ≡ before_group h i
  recorded-gives h l = cases (joins h i) refl
    where
      cases : (b : Bool) → joins h i ≡ b →
          given_by (cond b (joined_to (way_back i) h.done) (Change (way_back i) ∷ h.done)) (new_text i) ≡ cond b (given_by h.done (old_text i)) (Some (old_text i))
      cases true e = joined-gives h.done (and_parts (leads (length i.document.characters) h.done) (leads (length i.document.characters) h.undone) l).0 (near-if h e)
      cases false e = way_back-gives h.done

  -- what the case makes of the history, cut
  abbrev next : Lists → Case → Lists
  next h c = cut_to i.min_depth (in_case c h i)

  restores-from : (h : Lists) → leads_from (length i.document.characters) h ≡ true → Restores h i (next h (case_of h i))
  restores-from h l = record {
    recorded = λ e d. subst (λ c. given_by (next h c).done (new_text i) ≡ before_group h i) (sym e)
        (given-cut i.min_depth (in_case Recorded h i).done (new_text i) d ∙ recorded-gives h l);
    undone = λ e. subst (λ c. given_by (next h c).undone (new_text i) ≡ Some (old_text i)) (sym e)
        (given-selects (Change (way_back i) ∷ h.undone) (new_text i) ∙ way_back-gives h.undone);
    redone = λ e d. subst (λ c. given_by (next h c).done (new_text i) ≡ Some (old_text i)) (sym e)
        (given-cut i.min_depth (in_case Redo h i).done (new_text i) d ∙ way_back-gives h.done);
  }

  pub start-leads : (h : Lists) → leads_from (length i.document.characters) (start_of h i) ≡ true
  start-leads h = cases (leads_from (length i.document.characters) h) refl
    where
      cases : (b : Bool) → leads_from (length i.document.characters) h ≡ b → leads_from (length i.document.characters) (cond b h empty) ≡ true
      cases true e = e
      cases false e = refl

  pub restores : (h : Lists) → Restores (start_of h i) i (step h i)
  restores h = restores-from (start_of h i) (start-leads h)

pub next-restores : (i : StepView) → IsStep i → (h : Lists) → (b : Bool) → b ≡ leads_from (length i.document.characters) h → (n : Lists) →
    n ≡ cut_to i.min_depth (in_case (case_of (cond b h empty) i) (cond b h empty) i) → Restores (start_of h i) i n
next-restores i s h b e n f = subst (Restores (start_of h i) i) (sym (f ∙ sym (step-led i h b e))) (restores i s h)
