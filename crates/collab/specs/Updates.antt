-- Updates of a shared text, and lists of them.
use Rattle.std.specs.Prelude.{◌≡◌, ℕ, suc, cond, List, [], ◌∷◌}
use Rattle.std.specs.Str.{bytes_eq}
use Rattle.change_desc.specs.Sections.{spelled, apply, old_size, new_size}
use Rattle.collab.specs.declared.update.Update.{Update}

-- a text with updates applied in turn
abbrev pub applied : List Update → List ℕ → List ℕ
applied [] text = text
applied (u ∷ us) text = applied us (apply u.changes text)

-- each set starts at the length that those before it lead to, the first one in a text of this length
abbrev pub LeadOn : ℕ → List Update → Type 0
LeadOn len [] = Unit {0}
LeadOn len (u ∷ us) = (old_size u.changes ≡ len) × LeadOn (new_size spelled u.changes) us

-- all updates bear a client's name
abbrev pub AllBear : (name : List ℕ) → List Update → Type 0
AllBear name [] = Unit {0}
AllBear name (u ∷ us) = (u.client ≡ name) × AllBear name us

-- the numbers of the updates that bear a client's name, in order
abbrev pub numbers_of : (name : List ℕ) → List Update → List ℕ
numbers_of name [] = []
numbers_of name (u ∷ us) = cond (bytes_eq name u.client) (u.number ∷ numbers_of name us) (numbers_of name us)

-- numbers that count on from one: it, the next, and so on
abbrev pub CountOn : ℕ → List ℕ → Type 0
CountOn n [] = Unit {0}
CountOn n (k ∷ ks) = (k ≡ n) × CountOn (suc n) ks
