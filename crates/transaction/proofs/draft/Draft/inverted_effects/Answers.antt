use Rattle.std.proofs.Common.{sym, ap, ◌∙◌}
use Rattle.std.specs.List.{list_any}
use Rattle.change_desc.specs.Sections.{inverted, lengths, spelled}
use Rattle.transaction.specs.PrivatePairs.{has_pair}
use Rattle.transaction.proofs.Pairs.{none-inverted}
use Rattle.transaction.proofs.draft.Draft.inverted_effects.Goals as goal

pub returns-then-not-any_has_pair : goal.returns-then-not-any_has_pair
returns-then-not-any_has_pair g c =
    c.empty.ensures ∙
    sym
    (none-inverted g.V.EffectValue.plain c.args.kinds.now.maps c.args.pairs.now (inverted (lengths spelled c.args.self.now.changes)) c.args.self.now.effects
    (ap (list_any (has_pair c.args.pairs.now)) (sym c.as_slice-effects.ensures) ∙ (sym c.any_has_pair.ensures ∙ c.if-not-any_has_pair.true)))
