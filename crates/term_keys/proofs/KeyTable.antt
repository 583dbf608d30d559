-- Each row of the table of keys, and what becomes of bytes that are none.
use Rattle.std.proofs.Common.{◌≡◌, [], ◌∷◌, refl}
use Rattle.std.specs.Str.{is_utf8, chars}
use Rattle.std.specs.Str.Lossy.{utf8_valid_len, utf8_error_len}
use Rattle.term_keys.specs.declared.key.Key.TheVariants as keys
use Rattle.term_keys.specs.declared.key.Move.TheVariants.{Up}
use Rattle.term_keys.specs.Keys.{keys_of}
use Rattle.term_keys.specs.Table.{table, AreRows}

pub rows : AreRows table
rows = (λ more. refl, (λ more. refl, (λ more. refl, (λ more. refl, (λ more. refl, (λ more. refl, (λ more. refl, (λ more. refl, (λ more. refl, (λ more. refl, (λ more. refl, (λ more. refl, (λ more. refl, (λ more. refl, (λ more. refl, (λ more. refl, (λ more. refl, (λ more. refl, (λ more. refl, (λ more. refl, (λ more. refl, (λ more. refl, (λ more. refl, (λ more. refl, (λ more. refl, (λ more. refl, (λ more. refl, (λ more. refl, (λ more. refl, (λ more. refl, (λ more. refl, (λ more. refl, (λ more. refl, tt)))))))))))))))))))))))))))))))))

-- another byte under U+0020 is no key
no_control : keys_of (0x02 ∷ []) ≡ []
no_control = refl

-- ESC and the byte after it are dropped, and a second ESC begins anew
escape_drops : keys_of (0x1B ∷ 0x61 ∷ 0x01 ∷ []) ≡ keys.SelectAll ∷ []
escape_drops = refl

escape_anew : keys_of (0x1B ∷ 0x1B ∷ 0x5B ∷ 0x41 ∷ []) ≡ keys.Move Up ∷ []
escape_anew = refl

-- ESC O takes one more byte, whatever it is
single_takes : keys_of (0x1B ∷ 0x4F ∷ 0x01 ∷ 0x11 ∷ []) ≡ keys.Quit ∷ []
single_takes = refl

-- an unknown sequence, and one of more than eight bytes, run to their last byte and give no key
unknown_sequence : keys_of (0x1B ∷ 0x5B ∷ 0x39 ∷ 0x7E ∷ 0x01 ∷ []) ≡ keys.SelectAll ∷ []
unknown_sequence = refl

long_sequence : keys_of (0x1B ∷ 0x5B ∷ 0x30 ∷ 0x30 ∷ 0x30 ∷ 0x30 ∷ 0x30 ∷ 0x30 ∷ 0x30 ∷ 0x30 ∷ 0x30 ∷ 0x30 ∷ 0x41 ∷ 0x01 ∷ []) ≡ keys.SelectAll ∷ []
long_sequence = refl

-- another byte within a sequence drops it and is read anew
broken_sequence : keys_of (0x1B ∷ 0x5B ∷ 0x31 ∷ 0x01 ∷ []) ≡ keys.SelectAll ∷ []
broken_sequence = refl

-- e with an acute accent, with a character broken off before it
broken_character : keys_of (0xE6 ∷ 0xBC ∷ 0xC3 ∷ 0xA9 ∷ []) ≡ keys.Char 0xE9 ∷ []
unfolding is_utf8 chars utf8_valid_len utf8_error_len lib.Utf8.encode
broken_character = refl

-- a second byte that UTF-8 doesn't allow after the first breaks the character at once
broken_at_once : keys_of (0xED ∷ 0xA0 ∷ 0x01 ∷ []) ≡ keys.SelectAll ∷ []
unfolding is_utf8 chars utf8_valid_len utf8_error_len lib.Utf8.encode
broken_at_once = refl

-- a byte that can begin no character is dropped
no_lead : keys_of (0xFF ∷ 0x80 ∷ 0x01 ∷ []) ≡ keys.SelectAll ∷ []
unfolding is_utf8 chars utf8_valid_len utf8_error_len lib.Utf8.encode
no_lead = refl

-- a character from U+0080 to U+009F is one like others
high_control : keys_of (0xC2 ∷ 0x85 ∷ []) ≡ keys.Char 0x85 ∷ []
unfolding is_utf8 chars utf8_valid_len utf8_error_len lib.Utf8.encode
high_control = refl
