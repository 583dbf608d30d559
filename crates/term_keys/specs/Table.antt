-- The table of keys: control characters, and the sequences that terminals of the xterm family send (ECMA-48, control
-- sequences). 0x1B is ESC.
use Rattle.std.specs.Prelude.{◌≡◌, ℕ, List, [], ◌∷◌, ◌++◌, codes}
use Rattle.term_keys.specs.declared.key.Key.{Key}
use Rattle.term_keys.specs.declared.key.Key.TheVariants as keys
use Rattle.term_keys.specs.declared.key.Move.TheVariants.{Left, Right, Up, Down, LineStart, LineEnd, DocStart, DocEnd}
use Rattle.term_keys.specs.Keys.{keys_of}

-- some bytes, and the key that they are
pub record Row : Type 0 where
  pub bytes : List ℕ
  pub key : Key

abbrev pub row : List ℕ → Key → Row
row bytes key = record { bytes = bytes; key = key }

abbrev pub table : List Row
table =
    row (0x01 ∷ []) keys.SelectAll ∷
    row (0x11 ∷ []) keys.Quit ∷
    row (0x13 ∷ []) keys.Save ∷
    row (0x19 ∷ []) keys.Redo ∷
    row (0x1A ∷ []) keys.Undo ∷
    row (0x08 ∷ []) keys.DeleteBack ∷
    row (0x7F ∷ []) keys.DeleteBack ∷
    row (0x09 ∷ []) (keys.Char 0x09) ∷
    row (0x0A ∷ []) keys.Newline ∷
    row (0x0D ∷ []) keys.Newline ∷
    row (0x1B ∷ codes "[A") (keys.Move Up) ∷
    row (0x1B ∷ codes "OA") (keys.Move Up) ∷
    row (0x1B ∷ codes "[1;2A") (keys.Extend Up) ∷
    row (0x1B ∷ codes "[B") (keys.Move Down) ∷
    row (0x1B ∷ codes "OB") (keys.Move Down) ∷
    row (0x1B ∷ codes "[1;2B") (keys.Extend Down) ∷
    row (0x1B ∷ codes "[C") (keys.Move Right) ∷
    row (0x1B ∷ codes "OC") (keys.Move Right) ∷
    row (0x1B ∷ codes "[1;2C") (keys.Extend Right) ∷
    row (0x1B ∷ codes "[D") (keys.Move Left) ∷
    row (0x1B ∷ codes "OD") (keys.Move Left) ∷
    row (0x1B ∷ codes "[1;2D") (keys.Extend Left) ∷
    row (0x1B ∷ codes "[H") (keys.Move LineStart) ∷
    row (0x1B ∷ codes "OH") (keys.Move LineStart) ∷
    row (0x1B ∷ codes "[1;2H") (keys.Extend LineStart) ∷
    row (0x1B ∷ codes "[F") (keys.Move LineEnd) ∷
    row (0x1B ∷ codes "OF") (keys.Move LineEnd) ∷
    row (0x1B ∷ codes "[1;2F") (keys.Extend LineEnd) ∷
    row (0x1B ∷ codes "[1~") (keys.Move LineStart) ∷
    row (0x1B ∷ codes "[4~") (keys.Move LineEnd) ∷
    row (0x1B ∷ codes "[3~") keys.DeleteForward ∷
    row (0x1B ∷ codes "[1;5H") (keys.Move DocStart) ∷
    row (0x1B ∷ codes "[1;5F") (keys.Move DocEnd) ∷ []

-- the bytes of each row are its key, whatever follows them
abbrev pub AreRows : List Row → Type 0
AreRows [] = Unit {0}
AreRows (r ∷ rs) = ((more : List ℕ) → keys_of (r.bytes ++ more) ≡ r.key ∷ keys_of more) × AreRows rs
