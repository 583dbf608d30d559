-- Items over changes that are not recorded.
use Rattle.std.proofs.Common.{◌≡◌, ℕ, ◌+◌, ◌≤◌, ◌<◌, ◌^◌, Bool, true, false, cond, not, List, [], ◌∷◌, ◌++◌, length, map, refl, sym, ap, subst, ◌∙◌, append_assoc, arith}
use Rattle.std.specs.Prelude.{◌==◌}
use Rattle.std.proofs.lemmas.List.{append-nil}
use Rattle.std.proofs.lemmas.Bool.{and_parts, le-ltb, lt-ltb, ltb-false}
use Rattle.line_tree.specs.Text.{max_len}
use Rattle.change_desc.specs.declared.section.Section.{Section}
use Rattle.change_desc.specs.declared.section.Section.TheVariants.{Keep, Replace}
use Rattle.change_desc.specs.Sections.{spelled, counted, lengths, old_size, new_size}
use Rattle.change_desc.specs.Columns.{along_old}
use Rattle.change_desc.specs.Map.{map_over}
use Rattle.change_desc.specs.Ranges.{changes_nothing}
use Rattle.change_desc.proofs.Lengths.{map_over-lengths, spelled_sizes}
use Rattle.change_desc.proofs.Measures.{new_size-map_over}
use Rattle.change_desc.proofs.Merges.{old_size-lengths, new_size-lengths, old_size-map_over}
use Rattle.kept_effects.specs.MappedValues.{moved_effects}
use Rattle.cm_plain.specs.declared.kept_effect.KeptEffect.{KeptEffect}
use Rattle.selection.specs.Ranges.{moved_range}
use Rattle.selection.specs.Selections.{LieIn, SelectionView, moved_selection}
use Rattle.selection.proofs.Moves.{all_moved-inside}
use Rattle.selection.proofs.Normals.{normal-inside}
use Rattle.change_desc.proofs.Swapped.{merged_len-swap}
use Rattle.history.specs.declared.item.ChangeItem.{ChangeItem}
use Rattle.history.specs.declared.item.SelectItem.{SelectItem}
use Rattle.history.specs.declared.item.Item.{Item}
use Rattle.history.specs.declared.item.Item.TheVariants.{Change, Select}
use Rattle.history.specs.declared.moving.Moved.{Moved}
use Rattle.history.specs.Histories.{LeadOn}
use Rattle.history.specs.Moving.{changes_over, is_idle, is_too_long, items_over, moved_change, moved_select, newest_stays, over_after, put_kept}
use Rattle.history.specs.PrivateMoved.{IsMoved, PutsNone, PutsSome}

-- where nothing is changed both documents have one length
pub nothing-sizes : (s : List (Section (List ℕ))) → changes_nothing s ≡ true → new_size spelled s ≡ old_size s
nothing-sizes [] h = refl
nothing-sizes (Keep n ∷ s) h = ap (λ m. n + m) (nothing-sizes s h)
nothing-sizes (Replace n t ∷ s) h = cc

-- the moved changes start where the changes lead, and both ways lead to documents of one length
pub over-old : (over : List (Section ℕ)) (c : ChangeItem) → old_size c.changes ≡ old_size over → old_size (changes_over over c) ≡ new_size counted over
over-old over c h = old_size-map_over spelled c.changes over false (sym h)

pub over-new : (over : List (Section ℕ)) (c : ChangeItem) (before : Bool) →
    new_size spelled (changes_over over c) ≡ new_size counted (map_over counted (lengths spelled c.changes) over before)
over-new over c before =
    let own : List (Section ℕ) = lengths spelled c.changes in
    sym (new_size-lengths spelled (changes_over over c)) ∙
    (ap (new_size counted) (map_over-lengths spelled spelled_sizes c.changes over false) ∙
    (new_size-map_over own over false ∙ sym (new_size-map_over own over before)))

pub after-old : (over : List (Section ℕ)) (c : ChangeItem) → old_size c.changes ≡ old_size over → old_size (over_after over c) ≡ new_size spelled c.changes
after-old over c h =
    old_size-map_over counted over (lengths spelled c.changes) true (old_size-lengths spelled c.changes ∙ h) ∙ new_size-lengths spelled c.changes

pub after-new : (over : List (Section ℕ)) (c : ChangeItem) → new_size counted (over_after over c) ≡ new_size spelled (changes_over over c)
after-new over c =
    let own : List (Section ℕ) = lengths spelled c.changes in
    new_size-map_over over own true ∙
    (merged_len-swap (along_old counted own) (along_old counted over) ∙ (sym (new_size-map_over own over false) ∙ sym (over-new over c false)))

moved-inside : (over : List (Section ℕ)) (s : SelectionView) → LieIn (new_size counted over) (moved_selection over s).ranges
moved-inside over s = normal-inside (new_size counted over) (map (moved_range over) s.ranges) s.main (all_moved-inside over s.ranges)

idle-sizes : (c : ChangeItem) → is_idle c ≡ true → new_size spelled c.changes ≡ old_size c.changes
idle-sizes c h = nothing-sizes c.changes (and_parts (changes_nothing c.changes) (length c.effects == 0) h).0

put-leads : (len : ℕ) (c : ChangeItem) (items : List Item) → old_size c.changes ≡ len → new_size spelled c.changes ≤ max_len → LieIn (new_size spelled c.changes) c.selection.ranges →
    LeadOn (new_size spelled c.changes) items → LeadOn len (put_kept c items)
put-leads len c items o n i h = cases (is_idle c) refl
  where
    cases : (b : Bool) → is_idle c ≡ b → LeadOn len (cond b items (Change c ∷ items))
    cases true k = subst (λ m. LeadOn m items) (idle-sizes c k ∙ o) h
    cases false k = (o, n, i, h)

pub items_over-leads : (over : List (Section ℕ)) (items : List Item) → LeadOn (old_size over) items → LeadOn (new_size counted over) (items_over over items)
items_over-leads over [] h = tt
items_over-leads over (Select s ∷ items) h = (moved-inside over s.selection, items_over-leads over items h.1)
items_over-leads over (Change c ∷ items) h =
    cases (is_too_long over c) refl
    (subst (λ n. LeadOn n (items_over (over_after over c) items)) (after-new over c)
    (items_over-leads (over_after over c) items (subst (λ n. LeadOn n items) (sym (after-old over c h.0)) h.3)))
  where
    cases : (b : Bool) → is_too_long over c ≡ b → LeadOn (new_size spelled (changes_over over c)) (items_over (over_after over c) items) →
        LeadOn (new_size counted over) (cond b [] (put_kept (moved_change over c) (items_over (over_after over c) items)))
    cases true k l = tt
    cases false k l =
        put-leads (new_size counted over) (moved_change over c) (items_over (over_after over c) items) (over-old over c h.0)
        (ltb-false max_len (new_size spelled (changes_over over c)) k)
        (subst (λ n. LieIn n (moved_change over c).selection.ranges) (after-new over c) (moved-inside (over_after over c) c.selection)) l

same : (d e : ChangeItem) → d.changes ≡ e.changes → d.effects ≡ e.effects → d.selection ≡ e.selection → d ≡ e
same d e p q r =
    let by : List (Section (List ℕ)) → List KeptEffect → SelectionView → ChangeItem = λ c f s. record { changes = c; effects = f; selection = s } in
    ap (λ c. by c d.effects d.selection) p ∙ (ap (λ f. by e.changes f d.selection) q ∙ ap (λ s. by e.changes e.effects s) r)

-- one Change, whose changes are described
module _ (over : List (Section ℕ)) (c : ChangeItem) (own : List (Section ℕ)) (o : own ≡ lengths spelled c.changes) (h : old_size c.changes ≡ old_size over) where
  pub own-old : old_size own ≡ old_size over
  own-old = ap old_size o ∙ (old_size-lengths spelled c.changes ∙ h)

  pub measured : (n : ℕ) → ((before : Bool) → n ≡ new_size counted (map_over counted own over before)) → n ≡ new_size spelled (changes_over over c)
  measured n k = k false ∙ (ap (λ s. new_size counted (map_over counted s over false)) o ∙ sym (over-new over c false))

  pub too-long : (n : ℕ) → ((before : Bool) → n ≡ new_size counted (map_over counted own over before)) → max_len < n → is_too_long over c ≡ true
  too-long n k l = lt-ltb max_len (new_size spelled (changes_over over c)) (subst (λ m. max_len < m) (measured n k) l)

  pub changes-fit : (n : ℕ) → ((before : Bool) → n ≡ new_size counted (map_over counted own over before)) → n ≤ max_len → new_size spelled (changes_over over c) < 2 ^ 32
  changes-fit n k l = omega (arith, measured n k)

  after-is : map_over counted over own true ≡ over_after over c
  after-is = ap (λ s. map_over counted over s true) o

  pub after-fits : (n : ℕ) → ((before : Bool) → n ≡ new_size counted (map_over counted own over before)) → n ≤ max_len → new_size counted (map_over counted over own true) < 2 ^ 32
  after-fits n k l = omega (arith, measured n k, ap (new_size counted) after-is, after-new over c)

  pub selection-inside : (b : List (Section ℕ)) → b ≡ map_over counted over own true → LieIn (new_size spelled c.changes) c.selection.ranges → LieIn (old_size b) c.selection.ranges
  selection-inside b p l = subst (λ n. LieIn n c.selection.ranges) (sym (ap old_size (p ∙ after-is) ∙ after-old over c h)) l

  pub is_moved : (n : ℕ) (m : Moved) → ((before : Bool) → n ≡ new_size counted (map_over counted own over before)) → n ≤ max_len → m.item.changes ≡ changes_over over c →
      m.after ≡ map_over counted over own true → m.item.selection ≡ moved_selection m.after c.selection → m.item.effects ≡ moved_effects m.after c.effects → IsMoved over c m
  is_moved n m k l p b s f = record {
    fits = le-ltb max_len (new_size spelled (changes_over over c)) (subst (λ k. k ≤ max_len) (measured n k) l);
    item = same m.item (moved_change over c) p (f ∙ ap (λ x. moved_effects x c.effects) (b ∙ after-is)) (s ∙ ap (λ x. moved_selection x c.selection) (b ∙ after-is));
    after_it = b ∙ after-is;
  }

-- what was put, and what stands after it
pub puts-select : (over : List (Section ℕ)) (s : SelectItem) (old new : List Item) → new ≡ old ++ Select (moved_select over s) ∷ [] → PutsSome over (Select s) old new over
puts-select over s old new e = record {
  gives = λ items. ap (λ x. x ++ items_over over items) e ∙ append_assoc old (Select (moved_select over s) ∷ []) (items_over over items);
  leads = λ items h. h.1;
}

pub puts-none : (over : List (Section ℕ)) (c : ChangeItem) (old new : List Item) → new ≡ old → is_too_long over c ≡ true → PutsNone over (Change c) old new
puts-none over c old new e k = record {
  gives = λ items. ap (λ b. cond b [] (put_kept (moved_change over c) (items_over (over_after over c) items))) k;
  same = e;
}

put-append : (c : ChangeItem) (items : List Item) → put_kept c [] ++ items ≡ put_kept c items
put-append c items = cases (is_idle c)
  where
    cases : (b : Bool) → cond b [] (Change c ∷ []) ++ items ≡ cond b items (Change c ∷ items)
    cases true = refl
    cases false = refl

pub puts-change : (over : List (Section ℕ)) (c : ChangeItem) (m : Moved) (old new : List Item) → IsMoved over c m → new ≡ old ++ put_kept m.item [] →
    PutsSome over (Change c) old new m.after
puts-change over c m old new i e = record {
  gives = λ items.
      ap (λ x. x ++ items_over m.after items) e ∙
      (append_assoc old (put_kept m.item []) (items_over m.after items) ∙
      ap (λ x. old ++ x)
      (put-append m.item (items_over m.after items) ∙
      (ap (λ d. put_kept d (items_over m.after items)) i.item ∙
      (ap (λ a. put_kept (moved_change over c) (items_over a items)) i.after_it ∙
      ap (λ b. cond b [] (put_kept (moved_change over c) (items_over (over_after over c) items))) (sym i.fits)))));
  leads = λ items h. subst (λ n. LeadOn n items) (sym (ap old_size i.after_it ∙ after-old over c h.0)) h.3;
}

-- the first of a list that leads on does so alone
pub first-leads : (len : ℕ) (item : Item) (items : List Item) → LeadOn len (item ∷ items) → LeadOn len (item ∷ [])
first-leads len (Change c) items h = (h.0, h.1, h.2, tt)
first-leads len (Select s) items h = (h.0, tt)

pub first-change : (len : ℕ) (item : Item) (c : ChangeItem) → item ≡ Change c → LeadOn len (item ∷ []) → LeadOn len (Change c ∷ [])
first-change len item c e h = subst (λ x. LeadOn len (x ∷ [])) e h

pub first-select : (len : ℕ) (item : Item) (s : SelectItem) → item ≡ Select s → LeadOn len (item ∷ []) → LeadOn len (Select s ∷ [])
first-select len item s e h = subst (λ x. LeadOn len (x ∷ [])) e h

-- the newest item stays exactly where something was put
module _ (over copy : List (Section ℕ)) (item newest : Item) (items others old new : List Item) (c : copy ≡ over) (e : item ≡ newest) (i : items ≡ newest ∷ others) (n : old ≡ []) where
  alone : items_over over (newest ∷ []) ≡ items_over copy (item ∷ [])
  alone = ap (λ o. items_over o (newest ∷ [])) (sym c) ∙ ap (λ x. items_over copy (x ∷ [])) (sym e)

  stays-alone : (kept : List Item) → items_over copy (item ∷ []) ≡ kept → newest_stays over items ≡ not (length kept == 0)
  stays-alone kept k = ap (newest_stays over) i ∙ ap (λ x. not (length x == 0)) (alone ∙ k)

  pub stays-none : PutsNone copy item old new → false ≡ newest_stays over items
  stays-none p = sym (stays-alone [] (p.gives []))

  pub stays-some : (after : List (Section ℕ)) (b : Bool) → PutsSome copy item old new after → b ≡ (length new == 0) → not b ≡ newest_stays over items
  stays-some after b p f =
      ap not f ∙ sym (stays-alone new (ap (λ x. x ++ items_over copy (item ∷ [])) (sym n) ∙ (sym (p.gives []) ∙ append-nil new)))
