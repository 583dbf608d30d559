-- Groups that are shared one after another, each at its place, and those whose ranges begin before a place.
use Rattle.std.proofs.Common.{◌≡◌, ℕ, List, [], ◌∷◌, ◌++◌, sym, ap, subst, ◌∙◌, append_assoc}
use Rattle.range_set.specs.Rules.{RangeRules}
use Rattle.range_set.specs.PrivateChunks.{Ascend, flat, spread}
use Rattle.range_set.specs.PrivatePages.{NextBegins}
use Rattle.range_set.specs.PrivateUpdates.{AreSharedBefore, BeginUnder}
use Rattle.range_set.specs.declared.ranged.Ranged.{Ranged}
use Rattle.range_set.specs.declared.chunk.Placed.{Placed}
use Rattle.range_set.specs.declared.group.PlacedGroup.{PlacedGroup}
use Rattle.range_set.proofs.Adding.{begin_by_group, under_append, under_less}
use Rattle.range_set.proofs.Groups.{flat-spread_append, spread-append}

module _ {T : Type 0} where
  -- more of some groups were put after chunks
  pub all_more : (gs more others : List (PlacedGroup T)) (first here new : List (Placed T)) → gs ≡ more ++ others → new ≡ here ++ spread more → here ++ spread gs ≡ first → new ++ spread others ≡ first
  all_more gs more others first here new is e h =
      ap (λ ps. ps ++ spread others) e
      ∙ (append_assoc here (spread more) (spread others) ∙ (ap (λ ps. here ++ ps) (sym (ap spread is ∙ spread-append more others)) ∙ h))

  pub before_more : (place : ℕ) (gs rest more others : List (PlacedGroup T)) (old here new : List (Placed T)) → AreSharedBefore place gs rest old here → rest ≡ more ++ others → BeginUnder place (flat (spread more))
      → new ≡ here ++ spread more → AreSharedBefore place gs others old new
  before_more place gs rest more others old here new h is under e = record {
    taken = h.taken ++ more;
    is = h.is ∙ (ap (λ hs. h.taken ++ hs) is ∙ sym (append_assoc h.taken more others));
    before = subst (BeginUnder place) (sym (flat-spread_append h.taken more)) (under_append place (flat (spread h.taken)) (flat (spread more)) h.before under);
    chunks = e ∙ (ap (λ ps. ps ++ spread more) h.chunks ∙ (append_assoc old (spread h.taken) (spread more) ∙ ap (λ ps. old ++ ps) (sym (spread-append h.taken more))));
  }

-- ranges after which a group comes that begins before a place begin before it too
pub under_next : {T : Type 0} (rules : RangeRules T) (place n : ℕ) (rs : List (Ranged T)) (others : List (PlacedGroup T)) → NextBegins rules place others → Ascend n (rs ++ flat (spread others)) → BeginUnder place rs
under_next rules place n rs [] b asc = absurd b
under_next rules place n rs (g ∷ gs) b asc = under_less g.start place rs (begin_by_group rules n rs g gs b.1.1 b.1.0.first asc) b.0
