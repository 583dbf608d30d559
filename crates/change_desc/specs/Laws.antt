-- The laws of change sets, as facts of what the calls answer.
use Rattle.std.specs.Prelude.{◌≡◌, ℕ, Bool, List, length}
use Rattle.std.specs.List.{Contains}
use Rattle.change_desc.specs.declared.section.Section.{Section}
use Rattle.change_desc.specs.Sections.{Sections, spelled, counted, apply, lengths, old_size}
use Rattle.change_desc.specs.Positions.{cuts}
use Rattle.change_desc.specs.Compose.{compose}
use Rattle.change_desc.specs.Map.{map_over, merge}

-- Composed: applied, it is the second applied to the first applied.
abbrev pub AppliesInTurn : (first second both : Sections) → Type 0
AppliesInTurn first second both = (doc : List ℕ) → old_size first ≡ length doc → apply both doc ≡ apply second (apply first doc)

-- Composed, by cuts: each cut of what the two give goes through a place of the text between where both have a cut.
abbrev pub CutsAreShared : (first second both : Sections) → Type 0
CutsAreShared first second both = (o n : ℕ) → Contains (cuts spelled both) (o, n) →
    (q : ℕ) × Contains (cuts spelled first) (o, q) × Contains (cuts spelled second) (q, n)

-- Mapped: applied after the other set, it gives the merge of both.
abbrev pub Merges : (own mapped : Sections) (over : List (Section ℕ)) (before : Bool) → Type 0
Merges own mapped over before = (other : Sections) (doc : List ℕ) → lengths spelled other ≡ over → old_size other ≡ length doc →
    apply mapped (apply other doc) ≡ merge other own before doc

-- Inverted: applied after the set, it gives the old text.
abbrev pub LeadsBack : (set back : Sections) (doc : List ℕ) → Type 0
LeadsBack set back doc = apply back (apply set doc) ≡ doc

-- The description of a composed or mapped set is the composed or mapped description.
abbrev pub DescribesComposed : (first second both : Sections) → Type 0
DescribesComposed first second both = lengths spelled both ≡ compose counted (lengths spelled first) (lengths spelled second)

abbrev pub DescribesMapped : (own mapped : Sections) (over : List (Section ℕ)) (before : Bool) → Type 0
DescribesMapped own mapped over before = lengths spelled mapped ≡ map_over counted (lengths spelled own) over before
