-- Places in parts that are joined, and texts that are added to a list. For private clauses.
use Rattle.std.specs.Prelude.{◌≡◌, ℕ, ◌+◌, ◌<◌, ◌≤◌, max, List, [], ◌∷◌, ◌++◌, length, take, slice_index_or}
use Rattle.line_tree.specs.Text.{TextView, line_feed}
use Rattle.line_tree.specs.Breaks.{count_breaks}
use Rattle.line_tree.specs.Parts.{joined, HaveHeight}

-- the part at an index
abbrev pub part_of : List TextView → ℕ → TextView
part_of parts index = slice_index_or parts index (record { characters = []; height = 0 })

-- the characters of some parts, each with the break that follows it
abbrev pub before_break : List TextView → List ℕ
before_break [] = []
before_break (part ∷ parts) = part.characters ++ line_feed ∷ before_break parts

-- The part at the index starts at the place `from`, after so many breaks.
pub record PartStartsAt (parts : List TextView) (index from breaks : ℕ) : Type 0 where
  pub in_range : index < length parts
  pub from_is : from ≡ length (before_break (take index parts))
  pub breaks_is : breaks ≡ count_breaks (before_break (take index parts))

-- The place stands in this part, or at its end.
pub record PartHoldsPlace (parts : List TextView) (place index from breaks : ℕ) : Type 0 where
  pub is : PartStartsAt parts index from breaks
  pub starts : from ≤ place
  pub ends : place ≤ from + length (part_of parts index).characters

-- The break after so many others stands in this part, or at its end.
pub record PartHoldsBreak (parts : List TextView) (before index from breaks : ℕ) : Type 0 where
  pub is : PartStartsAt parts index from breaks
  pub starts : breaks ≤ before
  pub ends : before ≤ breaks + count_breaks (part_of parts index).characters

-- One or two texts of this height were added to a list, and joined they are these characters.
pub record AddsTexts (height : ℕ) (characters : List ℕ) (old new : List TextView) : Type 0 where
  pub texts : List TextView
  pub added : new ≡ old ++ texts
  pub some : 0 < length texts
  pub few : length texts ≤ 2
  pub same : HaveHeight height texts
  pub joins : joined texts ≡ characters

-- the same of two texts and what stands between them: no character, or a break
abbrev pub AddsBoth : TextView → List ℕ → TextView → List TextView → List TextView → Type 0
AddsBoth left between right old new = AddsTexts (max left.height right.height) (left.characters ++ (between ++ right.characters)) old new

-- the parts of a text of this height, or else the text alone
pub record IsLevel (text : TextView) (height : ℕ) (parts : List TextView) : Type 0 where
  pub joins : joined parts ≡ text.characters
  pub some : 0 < length parts
  pub few : length parts ≤ 32
  pub alone : text.height < height → parts ≡ text ∷ []
  pub several : text.height ≡ height → 2 ≤ length parts
  pub lower : text.height ≡ height → (h : ℕ) × (height ≡ h + 1) × HaveHeight h parts
