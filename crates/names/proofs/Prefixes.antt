-- Making the ranges of a list of decorations one after the other, as a loop does.
use Rattle.std.proofs.Common.{List, ◌++◌, Option}
use Rattle.decoration.specs.declared.deco.Deco.{Deco}
use Rattle.range_set.specs.declared.ranged.Ranged.{Ranged}
use Rattle.script.specs.declared.declaration_refusal.DeclarationRefusal.{DeclarationRefusal}

-- ranges that were made, before those that are still made
abbrev pub after : List (Ranged Deco) → List (Ranged Deco) × Option DeclarationRefusal → List (Ranged Deco) × Option DeclarationRefusal
after front rest = (front ++ rest.0, rest.1)
