-- Values that are neither lists nor objects, and the objects of them.
use Rattle.std.specs.Prelude.{ℕ, List, fold, encode_utf8_all}
use Rattle.std.specs.Borrow.{Bor}
use Rattle.serde_json.specs.Data.{Data, null, boolean, number, string, Members, no_members, put}
use Rattle.serde_json.specs.Find.{of_integer}
use Rattle.replies.specs.declared.scalar.Scalar.{Scalar}
use Rattle.replies.specs.declared.scalar.Scalar.TheVariants.{Null, Bool, U32, U64, I32, Word, Text, Inserted}
use Rattle.replies.specs.Objects.{whole}

-- a value that is neither a list nor an object
abbrev pub scalar_data : Scalar → Data
scalar_data Null = null
scalar_data (Bool b) = boolean b
scalar_data (U32 n) = whole n
scalar_data (U64 n) = whole n
scalar_data (I32 z) = number (of_integer z)
scalar_data (Word word) = string word.now
scalar_data (Text text) = string (encode_utf8_all text.now)
scalar_data (Inserted text) = string (encode_utf8_all text.now)

-- the members of an object of such values by name, each put in its place by the byte order of the names
abbrev pub members_data : List (Bor (List ℕ) × Scalar) → Members
members_data members = fold (λ ms m. put m.0.now (scalar_data m.1) ms) no_members members
