use Rattle.std.proofs.Common.{◌∷◌, take, ap, ◌∙◌}
use Rattle.history.proofs.Cuts.{more-cut, take-more}
use Rattle.history.proofs.items.Items.with_shared.Goals as goal

pub invariant_of-result : goal.invariant_of-result
invariant_of-result c =
    rw (c.in_ok-with_shared.ensures, c.change_count.ensures, c.item-2.ensures)
    (more-cut c.args.item c.self.inside.chain c.self.inside.len c.in-Some.len c.self.inside.changes c.in-Some.ensures.1 c.self.invariant)

pub returns : goal.returns
returns c =
    ap (take c.in-Some.len) c.in_ok-with_shared.ensures ∙
    (take-more c.args.item c.self.inside.chain c.self.inside.len c.in-Some.len c.in-Some.ensures.1 ∙ ap (λ items. c.args.item ∷ items) c.self.view_is)
