use Rattle.std.proofs.Common.{◌≡◌, drop}
use Rattle.filters.specs.Facets.{facets_of}
use Rattle.filters.specs.Filtered.{filtered_by}
use Rattle.filters.specs.Outcomes.{in_turn}
use Rattle.filters.specs.Starts.{StartsIn, start_of}
use Rattle.filters.proofs.filters.filtered_in_turn.Given as goal

abbrev pub invariant-loop-number : goal.invariant-loop-number
invariant-loop-number g l = record {
  starts : StartsIn (start_of l.start) l.draft.value;
  value : in_turn (filtered_by g.M.Meanings.rules (facets_of l.facets) (start_of l.start)) (drop l.number-index l.numbers) l.draft.value
      ≡ in_turn (filtered_by g.M.Meanings.rules (facets_of l.facets) (start_of l.start)) l.numbers l.fn.draft.value;
}
