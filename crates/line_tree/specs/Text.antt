-- A text is a list of characters in which LF is the break (Reference Manual: Text).
use Rattle.line_tree.specs.declared.text.TheConstants.{MAX_LEN}
use Rattle.std.specs.Prelude.{◌≡◌, ℕ, ◌-◌, List, [], ◌∷◌, ◌++◌, take, drop, count_by, Bool, true, false, ◌==◌, ◌&&◌, if◌then◌else◌}

-- what contracts see of a text: its characters, and how many levels stand above its leaves
pub record TextView : Type 0 where
  pub characters : List ℕ
  pub height : ℕ

-- the greatest length of a document, in characters
abbrev pub max_len : ℕ
max_len = MAX_LEN

abbrev pub line_feed : ℕ
line_feed = 10

abbrev pub carriage_return : ℕ
carriage_return = 13

-- CR, and CR with LF, become LF: after a CR an LF is passed over
abbrev pub cut_after : Bool → List ℕ → List ℕ
cut_after was_cr [] = []
cut_after was_cr (c ∷ cs) =
    if c == carriage_return then line_feed ∷ cut_after true cs
    else (if c == line_feed && was_cr then cut_after false cs else c ∷ cut_after false cs)

-- the text of some characters, cut at CRLF, CR and LF
abbrev pub cut : List ℕ → List ℕ
cut cs = cut_after false cs

-- For private clauses: characters without CR, and characters that are none or begin with CR.
abbrev pub HasNoReturn : List ℕ → Type 0
HasNoReturn cs = count_by (λ c. c == carriage_return) cs ≡ 0

abbrev pub BeginsWithReturn : List ℕ → Type 0
BeginsWithReturn [] = Unit {0}
BeginsWithReturn (c ∷ cs) = c ≡ carriage_return

-- the characters from one place to another (Text.slice)
abbrev pub slice : ℕ → ℕ → List ℕ → List ℕ
slice from to text = take (to - from) (drop from text)

-- the text with another in place of the characters from one place to another (Text.replace)
abbrev pub replaced : ℕ → ℕ → List ℕ → List ℕ → List ℕ
replaced from to inserted text = take from text ++ (inserted ++ drop to text)
