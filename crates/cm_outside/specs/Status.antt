-- The exit status of a run: a number for each way in which it ends.
use Rattle.std.specs.Prelude.{ℕ}
use Rattle.cm_outside.specs.declared.status.Status.{Status}
use Rattle.cm_outside.specs.declared.status.Status.TheVariants.{Ok, Usage, ReadFault, WriteFault, StoreFault, NoMemory, TooMuch, BadFile}

-- the number with which the program ends
abbrev pub exit_code : Status → ℕ
exit_code Ok = 0
exit_code Usage = 2
exit_code ReadFault = 3
exit_code WriteFault = 4
exit_code StoreFault = 5
exit_code NoMemory = 6
exit_code TooMuch = 7
exit_code BadFile = 8
