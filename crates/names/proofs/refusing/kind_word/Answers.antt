-- Each word is the characters of its text.
use Rattle.std.specs.Str.{chars}
use Rattle.names.proofs.refusing.kind_word.Goals as goal

pub returns-in-Compartment : goal.returns-in-Compartment
unfolding chars
returns-in-Compartment c = rw c.in-Compartment.is c.of_text.ensures

pub returns-in-Effect : goal.returns-in-Effect
unfolding chars
returns-in-Effect c = rw c.in-Effect.is c.of_text-in-Effect.ensures

pub returns-in-Facet : goal.returns-in-Facet
unfolding chars
returns-in-Facet c = rw c.in-Facet.is c.of_text-in-Facet.ensures

pub returns-in-Field : goal.returns-in-Field
unfolding chars
returns-in-Field c = rw c.in-Field.is c.of_text-in-Field.ensures

pub returns-in-Node : goal.returns-in-Node
unfolding chars
returns-in-Node c = rw c.in-Node.is c.of_text-in-Node.ensures
