-- Cuts, kept pairs, and where a position goes (manual: ChangeDesc.mapPos, MapMode).
use Rattle.std.specs.Prelude.{ℕ, zero, suc, ◌+◌, ◌-◌, Bool, true, false, cond, not, ◌&&◌, eqb, ltb, List, [], ◌∷◌, ◌++◌, map, Some, None, ℤ, pos, int_lt}
use Rattle.std.specs.List.{filter}
use Rattle.std.specs.Option.{option_or}
use Rattle.std.specs.declared.option.Option.{Option}
use Rattle.change_desc.specs.declared.section.Section.{Section}
use Rattle.change_desc.specs.declared.section.Section.TheVariants.{Keep, Replace}
use Rattle.change_desc.specs.declared.map_mode.MapMode.{MapMode}
use Rattle.change_desc.specs.declared.map_mode.MapMode.TheVariants.{Simple, TrackDel, TrackBefore, TrackAfter}
use Rattle.change_desc.specs.Sections.{Texts, old_size}

-- a place of the old text and one of the new text that belong together
abbrev pub Pair : Type 0
Pair = ℕ × ℕ

abbrev pub shift : ℕ → ℕ → List Pair → List Pair
shift o n = map (λ (c : Pair). (o + c.0, n + c.1))

-- (0, 0), (1, 1) and so on, n of them
abbrev pub diagonal : ℕ → List Pair
diagonal zero = []
diagonal (suc n) = (0, 0) ∷ shift 1 1 (diagonal n)

module _ {T C : Type 0} (X : Texts T C) where
  -- Cuts: the pairs of an old and a new place at the start, at each section's end and at each place inside a Keep.
  abbrev pub cuts : List (Section T) → List Pair
  cuts [] = (0, 0) ∷ []
  cuts (Keep n ∷ s) = diagonal n ++ shift n n (cuts s)
  cuts (Replace n t ∷ s) = (0, 0) ∷ shift n (X.size t) (cuts s)

  -- Kept pairs: the old and the new index of each kept character.
  abbrev pub kept : List (Section T) → List Pair
  kept [] = []
  kept (Keep n ∷ s) = diagonal n ++ shift n n (kept s)
  kept (Replace n t ∷ s) = shift n (X.size t) (kept s)

-- the new place of the first or last pair, if there is one
abbrev pub first_new : List Pair → Option ℕ
first_new [] = None
first_new (c ∷ cs) = Some c.1

abbrev pub last_new : List Pair → Option ℕ
last_new [] = None
last_new (c ∷ cs) = option_or (last_new cs) (Some c.1)

abbrev pub at : ℕ → List Pair → List Pair
at p = filter (λ (c : Pair). eqb c.0 p)

abbrev pub before : ℕ → List Pair → List Pair
before p = filter (λ (c : Pair). ltb c.0 p)

abbrev pub after : ℕ → List Pair → List Pair
after p = filter (λ (c : Pair). ltb p c.0)

-- a side of a place
abbrev pub is_negative : ℤ → Bool
is_negative side = int_lt side (pos 0)

-- Position without a mode. Cuts stand in order. For a negative side the first new place of the cuts at p, or where there is none that of
-- the last cut before; for any other the last of those at p, or that of the first cut after.
abbrev pub moved : (negative : Bool) → ℕ → List Pair → Option ℕ
moved true p cs = option_or (first_new (at p cs)) (last_new (before p cs))
moved false p cs = option_or (last_new (at p cs)) (first_new (after p cs))

abbrev pub is_there : List Pair → Bool
is_there [] = false
is_there (c ∷ cs) = true

-- Lost: what the mode tracks is gone, that is a cut at p, the character before p, or the one after p.
abbrev pub is_lost : {T C : Type 0} → Texts T C → MapMode → ℕ → List (Section T) → Bool
is_lost X Simple p s = false
is_lost X TrackDel p s = not (is_there (at p (cuts X s)))
is_lost X TrackBefore p s = ltb 0 p && not (is_there (at (p - 1) (kept X s)))
is_lost X TrackAfter p s = ltb p (old_size s) && not (is_there (at p (kept X s)))

-- Position: none where what the mode tracks is lost, else the place that the cuts give (manual: ChangeDesc.mapPos).
abbrev pub map_pos : {T C : Type 0} → Texts T C → List (Section T) → ℕ → (negative : Bool) → MapMode → Option ℕ
map_pos X s p negative mode = cond (is_lost X mode p s) None (moved negative p (cuts X s))
