use Rattle.std.proofs.Common.{◌≡◌, ◌++◌, drop, eqb, filter}
use Rattle.std.specs.List.{list_any}
use Rattle.values.specs.declared.shown_effect.ShownEffect.{ShownEffect}
use Rattle.facet_slots.proofs.heard.effects_heard.Given as goal

abbrev pub invariant-loop-effect : goal.invariant-loop-effect
invariant-loop-effect l =
    l.heard ++ filter (λ (e : ShownEffect). list_any (eqb e.id) l.listens) (drop l.effect-index l.effects)
    ≡ filter (λ (e : ShownEffect). list_any (eqb e.id) l.listens) l.effects
