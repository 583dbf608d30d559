-- The text of files: what a save writes, and what the bytes of a file read as (Reference Manual: Text.of, Text.toString,
-- EditorState.lineBreak).
use Rattle.std.specs.Prelude.{◌≡◌, ◌⊎◌, ℕ, nat_le, List, [], ◌∷◌, length, flat_map, encode_utf8_all, Option, Some, None, Result, Ok, Err, if◌then◌else◌}
use Rattle.std.specs.Str.{chars, is_utf8}
use Rattle.line_tree.specs.Text.{cut, max_len, line_feed, carriage_return, HasNoReturn}
use Rattle.line_tree.specs.Lines.{is_break}

-- what a character of a text is saved as: a break as the separator, another character as itself
abbrev pub saved_char : List ℕ → ℕ → List ℕ
saved_char separator c = if is_break c then separator else c ∷ []

-- the text with the separator in place of each break
abbrev pub saved_chars : List ℕ → List ℕ → List ℕ
saved_chars separator text = flat_map (saved_char separator) text

-- the same in UTF-8: the bytes that a save writes
abbrev pub saved_bytes : List ℕ → List ℕ → List ℕ
saved_bytes separator text = encode_utf8_all (saved_chars separator text)

-- the text of a file's bytes, cut at CRLF, CR and LF; none where they aren't UTF-8
abbrev pub read_chars : List ℕ → Option (List ℕ)
read_chars bytes = if is_utf8 bytes then Some (cut (chars bytes)) else None

-- a line end that reading cuts at: LF, CRLF or CR
abbrev pub IsLineEnd : List ℕ → Type 0
IsLineEnd separator = (separator ≡ line_feed ∷ []) ⊎ ((separator ≡ carriage_return ∷ line_feed ∷ []) ⊎ (separator ≡ carriage_return ∷ []))

-- with such a separator, the bytes read as the text, if it has no CR
abbrev pub ReadsBack : List ℕ → List ℕ → List ℕ → Type 0
ReadsBack separator text bytes = IsLineEnd separator → HasNoReturn text → read_chars bytes ≡ Some text

-- why the bytes of a file give no text: they aren't UTF-8, or the text would have this length, which is too long
pub data FileFault : Type 0 where
  NotUtf8 : FileFault
  TooLong : ℕ → FileFault

-- the text, unless it is longer than a document may be
abbrev pub within_limit : List ℕ → Result (List ℕ) FileFault
within_limit text = if nat_le (length text) max_len then Ok text else Err (TooLong (length text))

-- the text that was read, or the fault
abbrev pub file_text_of : Option (List ℕ) → Result (List ℕ) FileFault
file_text_of None = Err NotUtf8
file_text_of (Some text) = within_limit text

-- the text of a file's bytes, or the fault
abbrev pub file_text : List ℕ → Result (List ℕ) FileFault
file_text bytes = file_text_of (read_chars bytes)
