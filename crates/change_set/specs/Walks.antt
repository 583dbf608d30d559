-- What private clauses say of walks over sections.
use Rattle.std.specs.Prelude.{List, length, take}
use Rattle.change_desc.specs.declared.section.Section.{Section}
use Rattle.change_desc.specs.declared.section.Section.TheVariants.{Keep, Replace}

-- what one section gives over the rest of a text
abbrev pub given_by : {C : Type 0} → Section (List C) → List C → List C
given_by (Keep n) doc = take n doc
given_by (Replace n t) doc = t

-- one section turned round over the rest of a text
abbrev pub turned_at : {C : Type 0} → List C → Section (List C) → Section (List C)
turned_at doc (Keep n) = Keep n
turned_at doc (Replace n t) = Replace (length t) (take n doc)
