use Rattle.filters.specs.PrivateSteps.{Follow}
use Rattle.filters.specs.Starts.{start_of}
use Rattle.filters.proofs.following.merged_with.Given as goal

abbrev pub invariant-loop-spec : goal.invariant-loop-spec
invariant-loop-spec g l = Follow g.M.Meanings.rules (start_of l.start) l.fn.draft.value l.fn.specs.items l.draft.value l.spec-iterator.rest.items
