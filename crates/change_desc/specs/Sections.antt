-- Change set: a list of sections over an old text (manual: ChangeSet, ChangeDesc), generic in what is known of the texts
-- that it inserts: their characters (a change set), or their lengths alone (a description).
use Rattle.std.specs.Prelude.{◌≡◌, ℕ, zero, suc, ◌+◌, ◌<◌, ◌^◌, Bool, true, false, cond, ◌&&◌, List, [], ◌∷◌, ◌++◌, map, length, take, drop, replicate}
use Rattle.change_desc.specs.declared.section.Section.{Section}
use Rattle.change_desc.specs.declared.kind.Kind.{Kind}
use Rattle.change_desc.specs.declared.kind.Kind.TheVariants.{Keeps, Inserts, Deletes, Replaces}
use Rattle.change_desc.specs.declared.section.Section.TheVariants.{Keep, Replace}

-- sections whose texts are known by their characters
abbrev pub Sections : Type 0
Sections = List (Section (List ℕ))

-- What the definitions ask of texts T with characters C: the empty one, two in a row, the length,
-- the characters, and the text of one.
pub record Texts (T C : Type 0) : Type 0 where
  pub none : T
  pub join : T → T → T
  pub size : T → ℕ
  pub chars : T → List C
  pub one : C → T

-- a text as the list of its characters
abbrev pub spelled : {C : Type 0} → Texts (List C) C
spelled = record { none = []; join = λ t u. t ++ u; size = length; chars = λ t. t; one = λ c. c ∷ [] }

-- a text known by its length
abbrev pub counted : Texts ℕ (Unit {0})
counted = record { none = 0; join = λ m n. m + n; size = λ n. n; chars = λ n. replicate n tt; one = λ c. 1 }

abbrev pub is_zero : ℕ → Bool
is_zero zero = true
is_zero (suc _) = false

-- how long the old and the new text are, of a section and of all
abbrev pub old_of : {T : Type 0} → Section T → ℕ
old_of (Keep n) = n
old_of (Replace n _) = n

abbrev pub old_size : {T : Type 0} → List (Section T) → ℕ
old_size [] = 0
old_size (x ∷ s) = old_of x + old_size s

-- The normal form's rule: two Keeps, two pure insertions or two pure deletions in a row are one; other Replaces stay apart.
abbrev pub joins : Kind → Kind → Bool
joins Keeps Keeps = true
joins Inserts Inserts = true
joins Deletes Deletes = true
joins _ _ = false

module _ {T C : Type 0} (X : Texts T C) where
  abbrev pub new_of : Section T → ℕ
  new_of (Keep n) = n
  new_of (Replace _ t) = X.size t

  abbrev pub new_size : List (Section T) → ℕ
  new_size [] = 0
  new_size (x ∷ s) = new_of x + new_size s

  abbrev pub is_empty_text : T → Bool
  is_empty_text t = is_zero (X.size t)

  -- a section that does nothing
  abbrev pub is_blank : Section T → Bool
  is_blank (Keep n) = is_zero n
  is_blank (Replace n t) = is_zero n && is_empty_text t

  abbrev pub kind : Section T → Kind
  kind (Keep _) = Keeps
  kind (Replace zero _) = Inserts
  kind (Replace (suc _) t) = cond (is_empty_text t) Deletes Replaces

  -- two sections in a row as one
  abbrev pub joined : Section T → Section T → Section T
  joined (Keep m) (Keep n) = Keep (m + n)
  joined (Replace m t) (Replace n u) = Replace (m + n) (X.join t u)
  joined x _ = x

  -- puts a section first, joined to the next where the two join
  abbrev pub put : Section T → List (Section T) → List (Section T)
  put x [] = x ∷ []
  put x (y ∷ s) = cond (joins (kind x) (kind y)) (joined x y ∷ s) (x ∷ y ∷ s)

  -- Normal form: sections that do nothing are left out, and those in a row that join are one.
  abbrev pub normal : List (Section T) → List (Section T)
  normal [] = []
  normal (x ∷ s) = cond (is_blank x) (normal s) (put x (normal s))

-- A set of changes over a text: in normal form, and both texts have fewer than 2 ^ 32 characters.
pub record IsSet {T C : Type 0} (X : Texts T C) (s : List (Section T)) : Type 0 where
  pub is_normal : normal X s ≡ s
  pub old_fits : old_size s < 2 ^ 32
  pub new_fits : new_size X s < 2 ^ 32

-- Apply: the new text has the kept characters of the old one and the sections' texts, in the order of the sections (manual: ChangeSet.apply).
abbrev pub apply : {C : Type 0} → List (Section (List C)) → List C → List C
apply [] doc = []
apply (Keep n ∷ s) doc = take n doc ++ apply s (drop n doc)
apply (Replace n t ∷ s) doc = t ++ apply s (drop n doc)

-- Invert: the way back, over the old text (manual: ChangeSet.invert).
abbrev pub invert : {C : Type 0} → List (Section (List C)) → List C → List (Section (List C))
invert [] doc = []
invert (Keep n ∷ s) doc = Keep n ∷ invert s (drop n doc)
invert (Replace n t ∷ s) doc = Replace (length t) (take n doc) ∷ invert s (drop n doc)

-- The way back where lengths alone are known (manual: ChangeDesc.invertedDesc).
abbrev pub turned : Section ℕ → Section ℕ
turned (Keep n) = Keep n
turned (Replace n t) = Replace t n

abbrev pub inverted : List (Section ℕ) → List (Section ℕ)
inverted = map turned

-- Description: the same set with each text known by its length (manual: ChangeSet.desc).
abbrev pub measured : {T C : Type 0} → Texts T C → Section T → Section ℕ
measured X (Keep n) = Keep n
measured X (Replace n t) = Replace n (X.size t)

abbrev pub lengths : {T C : Type 0} → Texts T C → List (Section T) → List (Section ℕ)
lengths X = map (measured X)
