use Rattle.std.proofs.Common.{◌≡◌, ◌++◌, length}
use Rattle.change_desc.specs.Sections.{old_size}
use Rattle.history.specs.Histories.{LeadOn}
use Rattle.history.specs.Moving.{items_over}
use Rattle.history.proofs.moving.extend_moved.Given as goal

-- what is left leads on from the changes as they stand after what is done, and both are the whole
abbrev pub invariant-loop-item : goal.invariant-loop-item
invariant-loop-item l = record {
  lead_on : LeadOn (old_size l.after) l.rest;
  gives : l.to.items ++ items_over l.after l.rest ≡ l.fn.to.items ++ items_over l.fn.over l.fn.items;
}

abbrev pub decreases-loop-item : goal.decreases-loop-item
decreases-loop-item l = length l.rest
