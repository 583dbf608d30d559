use Rattle.std.proofs.Common.{◌≡◌}
use Rattle.names.specs.Names.{each_of}
use Rattle.names.specs.Transacting.{spec_of, specs_of}
use Rattle.names.proofs.Each.{with_prefix}
use Rattle.names.proofs.transacting.specs_of.Given as goal

abbrev pub invariant-loop-request : goal.invariant-loop-request
invariant-loop-request l = with_prefix l.specs.items (each_of (spec_of l.names) l.request-iterator.rest.items) ≡ specs_of l.names l.fn.requests
