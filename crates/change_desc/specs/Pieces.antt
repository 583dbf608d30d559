-- Pieces: a set of changes made column by column, before neighbours are joined.
use Rattle.std.specs.Prelude.{ℕ, ◌+◌, Bool, true, false, cond, List, [], ◌∷◌}
use Rattle.change_desc.specs.declared.section.Section.{Section}
use Rattle.change_desc.specs.declared.section.Section.TheVariants.{Replace}
use Rattle.change_desc.specs.Sections.{Texts, is_blank, normal}

-- A section by itself, or a stretch of a Replace: stretches in a row are one Replace, up to one that starts another.
pub data Piece (T : Type 0) : Type 0 where
  single : Section T → Piece T
  stretch : (starts : Bool) → ℕ → T → Piece T

-- the Replace that is still open at the head, and the sections after it
pub record Open (T : Type 0) : Type 0 where
  pub count : ℕ
  pub text : T
  pub rest : List (Section T)

module _ {T C : Type 0} (X : Texts T C) where
  abbrev pub closed : Open T → List (Section T)
  closed o = Replace o.count o.text ∷ o.rest

  abbrev pub add : Piece T → Open T → Open T
  add (single x) o = cond (is_blank X x) o (record { count = 0; text = X.none; rest = x ∷ closed o })
  add (stretch false n t) o = record { count = n + o.count; text = X.join t o.text; rest = o.rest }
  add (stretch true n t) o = record { count = 0; text = X.none; rest = Replace (n + o.count) (X.join t o.text) ∷ o.rest }

  abbrev pub gather : List (Piece T) → Open T
  gather [] = record { count = 0; text = X.none; rest = [] }
  gather (p ∷ ps) = add p (gather ps)

  abbrev pub sections : List (Piece T) → List (Section T)
  sections ps = normal X (closed (gather ps))
