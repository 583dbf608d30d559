-- The keys that a list of bytes stands for, as terminals of the xterm family send them (ECMA-48: control sequences; the
-- Unicode Standard, table 3-7: UTF-8). What was read of a key is one of five forms, and a byte takes one to the next.
use Rattle.std.specs.Prelude.{codes, ℕ, ◌==◌, nat_lt, ◌||◌, List, [], ◌∷◌, ◌++◌, take, drop, slice_get, Option, Some, None, is_some, if◌then◌else◌}
use Rattle.std.specs.Int.{is_in_range}
use Rattle.std.specs.Option.{option_map, option_to_list, unwrap_or}
use Rattle.std.specs.Str.{bytes_eq, chars, is_utf8}
use Rattle.std.specs.Str.Lossy.{utf8_valid_len, utf8_error_len}
use Rattle.term_keys.specs.declared.key.Key.{Key}
use Rattle.term_keys.specs.declared.key.Key.TheVariants as keys
use Rattle.term_keys.specs.declared.key.Move.{Move}
use Rattle.term_keys.specs.declared.key.Move.TheVariants.{Left, Right, Up, Down, LineStart, LineEnd, DocStart, DocEnd}

-- what was read of a key that isn't whole yet
pub data Reading : Type 0 where
  at_start : Reading
  -- the first bytes of a UTF-8 character
  character : List ℕ → Reading
  -- ESC
  escape : Reading
  -- ESC O
  single : Reading
  -- ESC [ and the bytes after it, of which nine are kept
  sequence : List ℕ → Reading

-- a byte more: nine are kept, since no sequence of more than three is known
abbrev pub with_byte : List ℕ → ℕ → List ℕ
with_byte bytes byte = take 9 (bytes ++ byte ∷ [])

-- the key of a byte less than U+0020, or of U+007F
abbrev pub control_key : ℕ → Option Key
control_key b =
    if b == 0x01 then Some keys.SelectAll
    else if (b == 0x08) || (b == 0x7F) then Some keys.DeleteBack
    else if b == 0x09 then Some (keys.Char 0x09)
    else if (b == 0x0A) || (b == 0x0D) then Some keys.Newline
    else if b == 0x11 then Some keys.Quit
    else if b == 0x13 then Some keys.Save
    else if b == 0x19 then Some keys.Redo
    else if b == 0x1A then Some keys.Undo
    else None

-- the move of the letter that ends a sequence: A to D the arrows, H and F the ends of the line
abbrev pub arrow : ℕ → Option Move
arrow b =
    if b == 0x41 then Some Up
    else if b == 0x42 then Some Down
    else if b == 0x43 then Some Right
    else if b == 0x44 then Some Left
    else if b == 0x48 then Some LineStart
    else if b == 0x46 then Some LineEnd
    else None

-- the key of ESC [ N ~
abbrev pub numbered_key : List ℕ → Option Key
numbered_key bytes =
    if bytes_eq bytes (codes "1") then Some (keys.Move LineStart)
    else if bytes_eq bytes (codes "3") then Some keys.DeleteForward
    else if bytes_eq bytes (codes "4") then Some (keys.Move LineEnd)
    else None

-- the end of the document that H or F means with the control key
abbrev pub document_end : ℕ → Option Move
document_end b = if b == 0x48 then Some DocStart else if b == 0x46 then Some DocEnd else None

-- the key of ESC [, these bytes and this last one
abbrev pub sequence_key : List ℕ → ℕ → Option Key
sequence_key bytes b =
    if b == 0x7E then numbered_key bytes
    else if bytes_eq bytes [] then option_map keys.Move (arrow b)
    else if bytes_eq bytes (codes "1;2") then option_map keys.Extend (arrow b)
    else if bytes_eq bytes (codes "1;5") then option_map keys.Move (document_end b)
    else None

-- what the bytes of one character give: the character, or the reading that waits for more, or `None` where they can begin no character
abbrev pub spelled : List ℕ → Option (Reading × Option Key)
spelled bytes =
    if is_utf8 bytes then Some (at_start, option_map keys.Char (slice_get (chars bytes) 0))
    else if is_some (utf8_error_len (drop (utf8_valid_len bytes) bytes)) then None
    else Some (character bytes, None)

-- a byte that begins a key
abbrev pub begin : ℕ → Reading × Option Key
begin b =
    if b == 0x1B then (escape, None)
    else if nat_lt b 0x20 || (b == 0x7F) then (at_start, control_key b)
    else unwrap_or (spelled (with_byte [] b)) (at_start, None)

-- a byte within a character: one that breaks it is read anew
abbrev pub in_character : List ℕ → ℕ → Reading × Option Key
in_character bytes b = unwrap_or (spelled (with_byte bytes b)) (begin b)

-- a byte after ESC
abbrev pub after_escape : ℕ → Reading
after_escape b =
    if b == 0x5B then sequence [] else if b == 0x4F then single else if b == 0x1B then escape else at_start

-- a byte after ESC [: one that belongs to no sequence is read anew
abbrev pub in_sequence : List ℕ → ℕ → Reading × Option Key
in_sequence bytes b =
    if is_in_range 0x20 0x3F b then (sequence (with_byte bytes b), None)
    else if is_in_range 0x40 0x7E b then (at_start, sequence_key bytes b)
    else begin b

-- what a byte makes of a reading, and the key that it ends
abbrev pub step : Reading → ℕ → Reading × Option Key
step at_start b = begin b
step (character bytes) b = in_character bytes b
step escape b = (after_escape b, None)
step single b = (at_start, option_map keys.Move (arrow b))
step (sequence bytes) b = in_sequence bytes b

-- the keys of bytes that follow a reading
abbrev pub keys_after : Reading → List ℕ → List Key
keys_after reading [] = []
keys_after reading (b ∷ bs) = option_to_list (step reading b).1 ++ keys_after (step reading b).0 bs

-- the keys of a list of bytes
abbrev pub keys_of : List ℕ → List Key
keys_of = keys_after at_start
