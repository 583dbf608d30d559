use Rattle.std.proofs.Common.{◌≤◌, ◌+◌, drop, sum_by}
use Rattle.facet_slots.specs.Setups.{order_of}
use Rattle.facet_slots.specs.Keeping.{held_inputs}
use Rattle.facet_slots.specs.Flags.{change_of, flags_of}
use Rattle.facet_slots.specs.Due.{calls_due}
use Rattle.facet_slots.specs.Lent.{flags_in, scene_in, setup_of, state_in, transition_of, values_in, HasFlagRoomIn, HasRoomIn}
use Rattle.facet_slots.specs.Shelves.{AreLasting, IsStillIn}
use Rattle.facet_slots.proofs.Walking.{IsDrafted}
use Rattle.facet_slots.proofs.walk.kept_after.Given as goal

abbrev pub invariant-loop-place : goal.invariant-loop-place
invariant-loop-place g l = record {
  drafted : IsDrafted g.M.Meanings.rules (transition_of l.transition) (state_in l.old_setup l.old) (setup_of l.setup) (scene_in l.draft.kept) l.draft.moved (values_in l.draft.kept) (flags_in l.draft.kept) (held_inputs l.draft.kept.shelf.inputs) l.place;
  room : HasRoomIn l.setup l.draft.kept;
  lasting : AreLasting (IsStillIn (setup_of l.setup) l.old.shelf) l.draft.kept.shelf;
  flag_room : HasFlagRoomIn l.setup l.draft.kept;
  cost : l.calls + sum_by (calls_due g.M.Meanings.rules (transition_of l.transition) (change_of g.M.Meanings.rules (transition_of l.transition) (state_in l.old_setup l.old) (setup_of l.setup)) (flags_of g.M.Meanings.rules (change_of g.M.Meanings.rules (transition_of l.transition) (state_in l.old_setup l.old) (setup_of l.setup)))) (drop l.place (order_of (setup_of l.setup)))
      ≤ l.initial.calls + sum_by (calls_due g.M.Meanings.rules (transition_of l.transition) (change_of g.M.Meanings.rules (transition_of l.transition) (state_in l.old_setup l.old) (setup_of l.setup)) (flags_of g.M.Meanings.rules (change_of g.M.Meanings.rules (transition_of l.transition) (state_in l.old_setup l.old) (setup_of l.setup)))) (order_of (setup_of l.setup));
}
