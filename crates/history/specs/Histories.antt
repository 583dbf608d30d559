-- Where the items of a history lead from (manual: history, historyField).
use Rattle.std.specs.Prelude.{◌≡◌, ℕ, ◌≤◌, Bool, true, false, eqb, ◌&&◌, List, [], ◌∷◌, is_none}
use Rattle.line_tree.specs.Text.{max_len}
use Rattle.change_desc.specs.Sections.{spelled, old_size, new_size}
use Rattle.selection.specs.Selections.{LieIn, first_outside}
use Rattle.history.specs.declared.item.Item.{Item}
use Rattle.history.specs.declared.item.Item.TheVariants.{Change, Select}
use Rattle.history.specs.declared.group.Group.TheVariants.{Closed}
use Rattle.history.specs.declared.lists.Lists.{Lists}
use Rattle.history.specs.Items.{begins_with_change}

abbrev pub empty : Lists
empty = record { done = []; undone = []; group = Closed }

-- the newest Change of a list, if there is one, starts in a document of this length, in which each newer Select lies
abbrev pub leads : ℕ → List Item → Bool
leads len [] = true
leads len (Change c ∷ items) = eqb (old_size c.changes) len
leads len (Select s ∷ items) = is_none (first_outside len s.selection.ranges) && leads len items

-- Leads from: both lists do.
abbrev pub leads_from : ℕ → Lists → Bool
leads_from len h = leads len h.done && leads len h.undone

-- each item of a list starts where the one before it leads, the first in a document of this length; a Select leads nowhere else.
-- No document between is too long, and each selection lies in the document that its item leads to.
abbrev pub LeadOn : ℕ → List Item → Type 0
LeadOn len [] = Unit {0}
LeadOn len (Change c ∷ items) =
    (old_size c.changes ≡ len) × (new_size spelled c.changes ≤ max_len) × LieIn (new_size spelled c.changes) c.selection.ranges × LeadOn (new_size spelled c.changes) items
LeadOn len (Select s ∷ items) = LieIn len s.selection.ranges × LeadOn len items

-- a list of items that lead on from some document
abbrev pub AreItems : List Item → Type 0
AreItems items = (len : ℕ) × LeadOn len items

-- what each history keeps: both lists lead on, and a group is open only where a Change is the newest item that can be undone
pub record IsHistory (h : Lists) : Type 0 where
  pub done : AreItems h.done
  pub undone : AreItems h.undone
  pub group : begins_with_change h.done ≡ false → h.group ≡ Closed
