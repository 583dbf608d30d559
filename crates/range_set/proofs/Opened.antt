-- Groups that are opened one after another, and the groups after them.
use Rattle.std.proofs.Common.{◌≡◌, ℕ, ◌<◌, List, [], ◌∷◌, ◌++◌, map, sym, ◌∙◌, ap, subst, append_assoc}
use Rattle.range_set.specs.Rules.{RangeRules}
use Rattle.range_set.specs.PrivateChunks.{AreChunks, Ascend, flat, group_content, put_at, shift, spread}
use Rattle.range_set.specs.PrivatePages.{PlacesFirst}
use Rattle.range_set.specs.PrivateUpdates.{AreOpened, BeginPast}
use Rattle.range_set.specs.declared.chunk.Placed.{Placed}
use Rattle.range_set.specs.declared.group.PlacedGroup.{PlacedGroup}
use Rattle.range_set.proofs.Adding.{past_hull}
use Rattle.range_set.proofs.Chunks.{ascend-rest}
use Rattle.range_set.proofs.Groups.{flat-spread, flat-spread_append, flat-spread_push}

module _ {T : Type 0} where
  -- chunks have the ranges of the first of some groups, and others come after these
  pub record OpenUpTo (groups rest : List (PlacedGroup T)) (chunks : List (Placed T)) : Type 0 where
    pub taken : List (PlacedGroup T)
    pub is : groups ≡ taken ++ rest
    pub ranges : flat chunks ≡ flat (spread taken)

module _ {T : Type 0} (rules : RangeRules T) where
  pub open_next : (groups rest : List (PlacedGroup T)) (old new : List (Placed T)) (start : ℕ) (placed : PlacedGroup T) (others : List (PlacedGroup T)) → PlacesFirst rules rest start placed others
      → flat new ≡ flat old ++ map (shift start) (flat (group_content placed).chunks) → OpenUpTo groups rest old → OpenUpTo groups others new
  open_next groups rest old new start placed others h e k =
      let g : PlacedGroup T = put_at start placed in
      record {
        taken = k.taken ++ g ∷ [];
        is = k.is ∙ (ap (λ gs. k.taken ++ gs) h.is ∙ sym (append_assoc k.taken (g ∷ []) others));
        ranges = e ∙ (ap (λ rs. rs ++ map (shift start) (flat (group_content placed).chunks)) k.ranges ∙ sym (flat-spread_push k.taken g));
      }

  -- groups of which the first begins after a place have ranges that do
  past_first : (place : ℕ) (rest : List (PlacedGroup T)) (start : ℕ) (placed : PlacedGroup T) (others : List (PlacedGroup T)) → PlacesFirst rules rest start placed others → place < start
      → Ascend 0 (flat (spread rest)) → BeginPast place (flat (spread rest))
  past_first place rest start placed others h l a =
      let g : PlacedGroup T = put_at start placed in
      let is = ap (λ gs. flat (spread gs)) h.is ∙ flat-spread g others in
      subst (BeginPast place) (sym is) (past_hull 0 start place (flat (group_content placed).chunks) (flat (spread others)) h.some l (subst (Ascend 0) is a))

  ascend_left : (groups rest : List (PlacedGroup T)) (chunks : List (Placed T)) → OpenUpTo groups rest chunks → Ascend 0 (flat (spread groups)) → Ascend 0 (flat (spread rest))
  ascend_left groups rest chunks k a = ascend-rest 0 (flat (spread k.taken)) (flat (spread rest)) (subst (Ascend 0) (ap (λ gs. flat (spread gs)) k.is ∙ flat-spread_append k.taken rest) a)

  pub open_until : (place : ℕ) (groups rest : List (PlacedGroup T)) (chunks : List (Placed T)) (start : ℕ) (placed : PlacedGroup T) (others : List (PlacedGroup T)) → PlacesFirst rules rest start placed others → place < start
      → Ascend 0 (flat (spread groups)) → AreChunks rules chunks → OpenUpTo groups rest chunks → AreOpened rules place groups chunks rest
  open_until place groups rest chunks start placed others h l a are k = record {
    taken = k.taken;
    is = k.is;
    ranges = k.ranges;
    are = are;
    after = past_first place rest start placed others h l (ascend_left groups rest chunks k a);
  }
