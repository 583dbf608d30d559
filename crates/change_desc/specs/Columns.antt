-- A change set laid out along one of its two texts: at each place what stands between two characters,
-- and for each character what becomes of it, or where it comes from.
use Rattle.std.specs.Prelude.{ℕ, zero, suc, List, [], ◌∷◌}
use Rattle.change_desc.specs.declared.section.Section.{Section}
use Rattle.change_desc.specs.declared.section.Section.TheVariants.{Keep, Replace}
use Rattle.change_desc.specs.Sections.{Texts, counted}

-- gaps of type G around characters of type C
pub data Row (G C : Type 0) : Type 0 where
  last : G → Row G C
  next : G → C → Row G C → Row G C

-- what becomes of an old character: it is kept; it is the first of a Replace, with that section's text; it is a later one
pub data Fate (T : Type 0) : Type 0 where
  stays : Fate T
  leaves : T → Fate T
  follows : Fate T

-- where a new character comes from: it was kept; it is the first of a Replace's text, with the count of
-- old characters there; it is a later one
pub data Origin (C : Type 0) : Type 0 where
  old : Origin C
  new : ℕ → C → Origin C
  more : C → Origin C

-- how many characters a row is along
abbrev pub width : {G C : Type 0} → Row G C → ℕ
width (last _) = 0
width (next _ _ r) = suc (width r)

-- adds to the first gap
abbrev pub in_front : {G C D : Type 0} → Texts G D → G → Row G C → Row G C
in_front X g (last h) = last (X.join g h)
in_front X g (next h c r) = next (X.join g h) c r

-- n characters of one kind with nothing between them
abbrev pub times : {G C D : Type 0} → Texts G D → ℕ → C → Row G C → Row G C
times X zero c r = r
times X (suc n) c r = next X.none c (times X n c r)

module _ {T C : Type 0} (X : Texts T C) where
  -- along the old text: pure insertions stand in the gaps
  abbrev pub along_old : List (Section T) → Row T (Fate T)
  along_old [] = last X.none
  along_old (Keep n ∷ s) = times X n stays (along_old s)
  along_old (Replace zero t ∷ s) = in_front X t (along_old s)
  along_old (Replace (suc n) t ∷ s) = next X.none (leaves t) (times X n follows (along_old s))

  abbrev pub mores : List C → Row ℕ (Origin C) → Row ℕ (Origin C)
  mores [] r = r
  mores (c ∷ cs) r = next 0 (more c) (mores cs r)

  abbrev pub spell : ℕ → List C → Row ℕ (Origin C) → Row ℕ (Origin C)
  spell n [] r = in_front counted n r
  spell n (c ∷ cs) r = next 0 (new n c) (mores cs r)

  -- along the new text: pure deletions stand in the gaps
  abbrev pub along_new : List (Section T) → Row ℕ (Origin C)
  along_new [] = last 0
  along_new (Keep n ∷ s) = times counted n old (along_new s)
  along_new (Replace n t ∷ s) = spell n (X.chars t) (along_new s)
