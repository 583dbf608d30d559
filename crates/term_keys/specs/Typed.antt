-- Characters that are typed as they are.
use Rattle.std.specs.Prelude.{◌≡◌, ◌≢◌, ℕ, ◌≤◌, List, ◌∷◌, ◌++◌, encode_utf8}
use Rattle.std.specs.Char.{IsScalar}
use Rattle.term_keys.specs.declared.key.Key.TheVariants as keys
use Rattle.term_keys.specs.Keys.{keys_of}

-- a character from U+0020 on but U+007F
pub record IsTyped (c : ℕ) : Type 0 where
  pub scalar : IsScalar c
  pub printed : 32 ≤ c
  pub not_delete : c ≢ 127

-- the bytes of each such character are its key, whatever follows them
abbrev pub EachTypesItself : Type 0
EachTypesItself = (c : ℕ) → IsTyped c → (more : List ℕ) → keys_of (encode_utf8 c ++ more) ≡ keys.Char c ∷ keys_of more
