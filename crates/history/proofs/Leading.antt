-- Where the items of a list lead.
use Rattle.std.proofs.Common.{◌≡◌, ℕ, zero, suc, ◌+◌, ◌≤◌, Bool, true, false, cond, List, [], ◌∷◌, drop, length, Some, refl, sym, ap, subst, ◌∙◌, arith, length-take-le, length-drop}
use Rattle.std.specs.Prelude.{is_none, ltb}
use Rattle.std.proofs.lemmas.Bool.{eqb-true, eq-eqb, and_parts, and_from, ltb-false, le-ltb}
use Rattle.line_tree.specs.Text.{max_len}
use Rattle.change_desc.specs.declared.section.Section.{Section}
use Rattle.change_desc.specs.declared.section.Section.TheVariants.{Keep, Replace}
use Rattle.change_desc.specs.Sections.{spelled, old_size, new_size, invert}
use Rattle.change_desc.specs.Compose.{compose}
use Rattle.change_set.proofs.Sizes.{old_size-compose, new_size-compose}
use Rattle.change_set.proofs.Sameness.{sections-equal}
use Rattle.selection.specs.declared.range.Range.{Range}
use Rattle.selection.specs.Ranges.{high}
use Rattle.selection.specs.Selections.{LieIn, first_outside}
use Rattle.history.specs.declared.item.Item.{Item}
use Rattle.history.specs.declared.item.Item.TheVariants.{Change, Select}
use Rattle.history.specs.Inputs.{StepView}
use Rattle.history.specs.Histories.{AreItems, LeadOn, leads}
use Rattle.history.specs.Items.{begins_with_select, keep_changes, keep_selects, most_selects, older}
use Rattle.history.specs.Selecting.{with_left, select_joins, select_at, left_select}
use Rattle.history.specs.Steps.{IsStep, way_back, is_newest, joined_to}

-- the way back starts in the new document and leads to the old one
pub invert-old : {C : Type 0} (s : List (Section (List C))) (doc : List C) → old_size (invert s doc) ≡ new_size spelled s
invert-old [] doc = refl
invert-old (Keep n ∷ s) doc = ap (λ m. n + m) (invert-old s (drop n doc))
invert-old (Replace n t ∷ s) doc = ap (λ m. length t + m) (invert-old s (drop n doc))

pub invert-new : {C : Type 0} (s : List (Section (List C))) (doc : List C) → old_size s ≡ length doc → new_size spelled (invert s doc) ≡ length doc
invert-new [] doc h = h
invert-new (Keep n ∷ s) doc h = omega (arith, length-drop n doc, invert-new s (drop n doc) (omega (arith, length-drop n doc)))
invert-new (Replace n t ∷ s) doc h =
    omega (arith, length-take-le n doc (omega arith), length-drop n doc, invert-new s (drop n doc) (omega (arith, length-drop n doc)))

-- ranges lie in a document exactly where none is the first outside
inside : (len : ℕ) (rs : List Range) → is_none (first_outside len rs) ≡ true → LieIn len rs
inside len [] h = tt
inside len (r ∷ rs) h = cases (ltb len (high r)) refl h (λ k. inside len rs k)
  where
    cases : (b : Bool) → ltb len (high r) ≡ b → is_none (cond b (Some (high r)) (first_outside len rs)) ≡ true → (is_none (first_outside len rs) ≡ true → LieIn len rs) →
        (high r ≤ len) × LieIn len rs
    cases true e k f = cc
    cases false e k f = (ltb-false len (high r) e, f k)

none-outside : (len : ℕ) (rs : List Range) → LieIn len rs → is_none (first_outside len rs) ≡ true
none-outside len [] h = refl
none-outside len (r ∷ rs) h = subst (λ b. is_none (cond b (Some (high r)) (first_outside len rs)) ≡ true) (sym (le-ltb len (high r) h.0)) (none-outside len rs h.1)

-- a list leads on from a document that it leads from
leads-on : (len start : ℕ) (items : List Item) → LeadOn start items → leads len items ≡ true → LeadOn len items
leads-on len start [] h k = tt
leads-on len start (Change c ∷ items) h k = subst (λ n. LeadOn n (Change c ∷ items)) (sym h.0 ∙ eqb-true (old_size c.changes) len k) h
leads-on len start (Select s ∷ items) h k =
    let p : (is_none (first_outside len s.selection.ranges) ≡ true) × (leads len items ≡ true) = and_parts (is_none (first_outside len s.selection.ranges)) (leads len items) k in
    (inside len s.selection.ranges p.0, leads-on len start items h.1 p.1)

pub led : (len : ℕ) (items : List Item) → AreItems items → leads len items ≡ true → LeadOn len items
led len items h k = leads-on len h.0 items h.1 k

pub leading : (len : ℕ) (items : List Item) → LeadOn len items → leads len items ≡ true
leading len [] h = refl
leading len (Change c ∷ items) h = eq-eqb (old_size c.changes) len h.0
leading len (Select s ∷ items) h =
    and_from (is_none (first_outside len s.selection.ranges)) (leads len items) (none-outside len s.selection.ranges h.0) (leading len items h.1)

-- what is cut leads on
pub keep_changes-leads : (count len : ℕ) (items : List Item) → LeadOn len items → LeadOn len (keep_changes count items)
keep_changes-leads count len [] h = tt
keep_changes-leads count len (Select s ∷ items) h = (h.0, keep_changes-leads count len items h.1)
keep_changes-leads zero len (Change c ∷ items) h = tt
keep_changes-leads (suc count) len (Change c ∷ items) h = (h.0, h.1, h.2, keep_changes-leads count (new_size spelled c.changes) items h.3)

pub keep_selects-leads : (room len : ℕ) (items : List Item) → LeadOn len items → LeadOn len (keep_selects room items)
keep_selects-leads room len [] h = tt
keep_selects-leads room len (Change c ∷ items) h = (h.0, h.1, h.2, keep_selects-leads most_selects (new_size spelled c.changes) items h.3)
keep_selects-leads zero len (Select s ∷ items) h = keep_selects-leads zero len items h.1
keep_selects-leads (suc room) len (Select s ∷ items) h = (h.0, keep_selects-leads room len items h.1)

-- the rest of a list that begins with a Select leads on from the same document
pub rest-leads : (len : ℕ) (items : List Item) → LeadOn len items → begins_with_select items ≡ true → LeadOn len (drop 1 items)
rest-leads len [] h k = cc
rest-leads len (Change c ∷ items) h k = cc
rest-leads len (Select s ∷ items) h k = h.1

module _ (i : StepView) (s : IsStep i) where
  pub way_back-leads : (items : List Item) → LeadOn (length i.document.characters) items → LeadOn (new_size spelled i.changes) (Change (way_back i) ∷ items)
  way_back-leads items h =
      let e : new_size spelled (invert i.changes i.document.characters) ≡ length i.document.characters = invert-new i.changes i.document.characters s.starts in (
        invert-old i.changes i.document.characters,
        subst (λ n. n ≤ max_len) (sym e) s.short,
        subst (λ n. LieIn n i.selection.ranges) (sym e) s.inside,
        subst (λ n. LeadOn n items) (sym e) h,
      )

  pub older-leads : (len : ℕ) (items : List Item) → LeadOn len items → is_newest i.changes items ≡ true → LeadOn (new_size spelled i.changes) (older items)
  older-leads len [] h k = cc
  older-leads len (Change c ∷ items) h k = subst (λ x. LeadOn (new_size spelled x) items) (sym (sections-equal i.changes c.changes k)) h.3
  older-leads len (Select t ∷ items) h k = older-leads len items h.1 k

  pub joined-leads : (items : List Item) → LeadOn (length i.document.characters) items → LeadOn (new_size spelled i.changes) (joined_to (way_back i) items)
  joined-leads [] h = way_back-leads [] tt
  joined-leads (Select t ∷ items) h = way_back-leads (Select t ∷ items) h
  joined-leads (Change c ∷ items) h =
      let w : List (Section (List ℕ)) = invert i.changes i.document.characters in
      let m : new_size spelled w ≡ old_size c.changes = invert-new i.changes i.document.characters s.starts ∙ sym h.0 in
      let n : new_size spelled (compose spelled w c.changes) ≡ new_size spelled c.changes = new_size-compose w c.changes m in (
        old_size-compose w c.changes m ∙ invert-old i.changes i.document.characters,
        subst (λ k. k ≤ max_len) (sym n) h.1,
        subst (λ k. LieIn k c.selection.ranges) (sym n) h.2,
        subst (λ k. LeadOn k items) (sym n) h.3,
      )

  pub with_left-leads : (items : List Item) → LeadOn (length i.document.characters) items → LeadOn (length i.document.characters) (with_left i items)
  with_left-leads [] h = (s.inside, h)
  with_left-leads (Change c ∷ items) h = (s.inside, h)
  with_left-leads (Select t ∷ items) h = cases (select_joins t i)
    where
      cases : (b : Bool) → LeadOn (length i.document.characters) (cond b (Select (select_at i.time t) ∷ items) (Select (left_select i) ∷ Select t ∷ items))
      cases true = h
      cases false = (s.inside, h)
