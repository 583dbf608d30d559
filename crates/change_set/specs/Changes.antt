-- A change of a document, as a set of changes over the whole of it (Reference Manual: ChangeSpec).
use Rattle.std.specs.Prelude.{ℕ, List, map}
use Rattle.change_desc.specs.declared.section.Section.{Section}
use Rattle.change_desc.specs.Sections.{spelled}
use Rattle.change_desc.specs.Of.{span}
use Rattle.change_set.specs.declared.change.Change.{Change}
use Rattle.change_set.specs.declared.change.Change.TheVariants.{Span, Set}

-- a change as a set over a document of this length: a range replaced by a text, or the set as it stands
abbrev pub as_set : (len : ℕ) → Change → List (Section (List ℕ))
as_set len (Span from to insert) = span spelled len from to insert
as_set len (Set changes) = changes

-- each change of a list as a set
abbrev pub as_sets : (len : ℕ) → List Change → List (List (Section (List ℕ)))
as_sets len = map (as_set len)
