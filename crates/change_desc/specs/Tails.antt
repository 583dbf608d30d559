-- What is left of a section in a walk over one of its texts: for private clauses.
use Rattle.std.specs.Prelude.{◌≡◌, ℕ, zero, suc, ◌+◌, ◌-◌, ◌*◌, ◌<◌, ◌≤◌, Bool, true, false, List, replicate, length, drop}
use Rattle.change_desc.specs.declared.section.Section.{Section}
use Rattle.change_desc.specs.declared.section.Section.TheVariants.{Keep, Replace}
use Rattle.change_desc.specs.declared.tail.Tail.{Tail}
use Rattle.change_desc.specs.declared.tail.Tail.TheVariants.{Kept, Fresh, Opened}
use Rattle.change_desc.specs.Sections.{counted, old_size, new_size}
use Rattle.change_desc.specs.Columns.{along_new, along_old, Row, last, next, Fate, stays, leaves, follows, Origin, old, in_front, times, mores, spell}
use Rattle.change_desc.specs.Compose.{is_cut_new, is_cut_old}

-- what is left of a section before a row along the new text
abbrev pub row_new : Tail → Row ℕ (Origin (Unit {0})) → Row ℕ (Origin (Unit {0}))
row_new (Kept n) r = times counted n old r
row_new (Fresh n t) r = spell counted n (replicate t tt) r
row_new (Opened t) r = mores counted (replicate t tt) r

-- and along the old text
abbrev pub row_old : Tail → Row ℕ (Fate ℕ) → Row ℕ (Fate ℕ)
row_old (Kept n) s = times counted n stays s
row_old (Fresh zero t) s = in_front counted t s
row_old (Fresh (suc n) t) s = next 0 (leaves t) (times counted n follows s)
row_old (Opened n) s = times counted n follows s

-- a row that starts where no section goes on
abbrev pub is_fresh_new : Row ℕ (Origin (Unit {0})) → Bool
is_fresh_new (last n) = true
is_fresh_new (next n x r) = is_cut_new x

abbrev pub is_fresh_old : Row ℕ (Fate ℕ) → Bool
is_fresh_old (last t) = true
is_fresh_old (next t y s) = is_cut_old y

-- characters left of a section that was begun
abbrev pub opened : ℕ → Tail
opened zero = Kept 0
opened (suc n) = Opened (suc n)

abbrev pub is_opened : Tail → Bool
is_opened (Opened _) = true
is_opened _ = false

abbrev pub is_deletion : Tail → Bool
is_deletion (Fresh n zero) = true
is_deletion _ = false

abbrev pub is_insertion : Tail → Bool
is_insertion (Fresh zero t) = true
is_insertion _ = false

-- how many characters between, old ones and new ones a tail has, as one of the first set or of the second
abbrev pub left_new : Tail → ℕ
left_new (Kept n) = n
left_new (Fresh n t) = t
left_new (Opened n) = n

abbrev pub left_old : Tail → ℕ
left_old (Kept n) = n
left_old (Fresh n t) = n
left_old (Opened n) = n

abbrev pub still_old : Tail → ℕ
still_old (Kept n) = n
still_old (Fresh n t) = n
still_old (Opened _) = 0

abbrev pub still_new : Tail → ℕ
still_new (Kept n) = n
still_new (Fresh n t) = t
still_new (Opened _) = 0

abbrev pub IsTail : Tail → Type 0
IsTail (Kept n) = Unit {0}
IsTail (Fresh n t) = 0 < n + t
IsTail (Opened n) = 0 < n

-- whether anything is left
abbrev pub present : Tail → ℕ
present (Kept zero) = 0
present _ = 1

abbrev pub is_fresh : Tail → Bool
is_fresh (Fresh _ _) = true
is_fresh _ = false

-- a tail whose text is to come counts twice
abbrev pub weight : Tail → ℕ
weight (Kept zero) = 0
weight (Fresh _ _) = 2
weight _ = 1

abbrev pub is_spent : Tail → Bool
is_spent (Kept zero) = true
is_spent _ = false

-- a tail of which k characters are done
abbrev pub beyond : ℕ → Tail → Tail
beyond k (Kept n) = Kept (n - k)
beyond k (Fresh n t) = Fresh n t
beyond k (Opened n) = opened (n - k)

abbrev pub tail_of : Section ℕ → Tail
tail_of (Keep n) = Kept n
tail_of (Replace n t) = Fresh n t

-- the next section is taken where nothing is left of the one before
pub record Loads (s : List (Section ℕ)) (p q : Tail) (i j : ℕ) : Type 0 where
  pub row_new : row_new q (along_new counted (drop j s)) ≡ row_new p (along_new counted (drop i s))
  pub row_old : row_old q (along_old counted (drop j s)) ≡ row_old p (along_old counted (drop i s))
  pub is_tail : IsTail q
  pub within : j ≤ length s
  pub spent : q ≡ Kept 0 → j ≡ length s
  pub old : left_old q + old_size (drop j s) ≡ left_old p + old_size (drop i s)
  pub new : left_new q + new_size counted (drop j s) ≡ left_new p + new_size counted (drop i s)
  pub still_old : still_old q + old_size (drop j s) ≡ still_old p + old_size (drop i s)
  pub still_new : still_new q + new_size counted (drop j s) ≡ still_new p + new_size counted (drop i s)
  pub less : present q + (length s - j) ≡ present p + (length s - i)
  pub lighter : weight q + 2 * (length s - j) ≤ weight p + 2 * (length s - i)
