use Rattle.std.proofs.Common.{◌≡◌, drop}
use Rattle.names.specs.Names.{each_of}
use Rattle.names.specs.Declaring.{provided_in}
use Rattle.names.proofs.Each.{with_prefix}
use Rattle.names.proofs.declare_field.all_provided.Given as goal

abbrev pub invariant-loop-declared : goal.invariant-loop-declared
invariant-loop-declared l = with_prefix l.provided.items (each_of (provided_in l.names) (drop l.declared-index l.provides)) ≡ each_of (provided_in l.names) l.provides
