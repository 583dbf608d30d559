use Rattle.std.proofs.Common.{◌≡◌, drop}
use Rattle.filters.specs.Extended.{extended_by}
use Rattle.filters.specs.Facets.{facets_of}
use Rattle.filters.specs.Outcomes.{in_turn}
use Rattle.filters.specs.Starts.{StartsIn, start_of}
use Rattle.filters.proofs.extenders.extended_in_turn.Given as goal

abbrev pub invariant-loop-number : goal.invariant-loop-number
invariant-loop-number g l = record {
  starts : StartsIn (start_of l.start) l.draft.value;
  value : in_turn (extended_by g.M.Meanings.rules (facets_of l.facets) (start_of l.start) l.transaction) (drop l.number-index l.numbers) l.draft.value
      ≡ in_turn (extended_by g.M.Meanings.rules (facets_of l.facets) (start_of l.start) l.transaction) l.numbers l.fn.draft.value;
}
