-- The parts of a text that is kept as a tree.
use Rattle.std.specs.Prelude.{◌≡◌, ℕ, ◌+◌, ◌≤◌, List, [], ◌∷◌, ◌++◌, length}
use Rattle.line_tree.specs.Text.{TextView, line_feed}
use Rattle.line_tree.specs.Lines.{lines_of}

-- the characters of the parts that follow another part: each stands after a break
abbrev pub after_break : List TextView → List ℕ
after_break [] = []
after_break (part ∷ parts) = line_feed ∷ (part.characters ++ after_break parts)

-- the characters of the parts, with a break between each two
abbrev pub joined : List TextView → List ℕ
joined [] = []
joined (part ∷ parts) = part.characters ++ after_break parts

-- each part has this height
abbrev pub HaveHeight : ℕ → List TextView → Type 0
HaveHeight height [] = Unit {0}
HaveHeight height (part ∷ parts) = (part.height ≡ height) × HaveHeight height parts

pub record AreSeveralPartsOf (whole : TextView) (parts : List TextView) : Type 0 where
  pub characters : whole.characters ≡ joined parts
  pub several : 2 ≤ length parts
  pub few : length parts ≤ 32
  pub lower : (height : ℕ) × (whole.height ≡ height + 1) × HaveHeight height parts

-- what the parts of a text are: none of a leaf, which has at most 64 lines, and else 2 to 32, each lower by one
abbrev pub ArePartsOf : TextView → List TextView → Type 0
ArePartsOf whole [] = (whole.height ≡ 0) × (length (lines_of whole.characters) ≤ 64)
ArePartsOf whole (part ∷ parts) = AreSeveralPartsOf whole (part ∷ parts)
