-- Parts of JSON values that replies are written of.
use Rattle.std.specs.Prelude.{ℕ, List, map, codes, encode_utf8_all}
use Rattle.serde_json.specs.Data.{Data, number, unsigned, string, array, object, Members, no_members, member}
use Rattle.serde_json.specs.View.{items_of}

-- a whole number from 0
abbrev pub whole : ℕ → Data
whole n = number (unsigned n)

-- an object of one member
abbrev pub single : List ℕ → Data → Data
single name d = object (member name d no_members)

-- an object of the code and these members
abbrev pub coded : List ℕ → Members → Data
coded code ms = object (member (codes "code") (string code) ms)

-- a member that is a text
abbrev pub text_member : List ℕ → List ℕ → Members → Members
text_member name text ms = member name (string (encode_utf8_all text)) ms

-- a list of texts
abbrev pub texts_data : List (List ℕ) → Data
texts_data texts = array (items_of (map (λ text. string (encode_utf8_all text)) texts))
