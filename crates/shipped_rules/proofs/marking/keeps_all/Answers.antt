use Rattle.std.proofs.Common.{◌≡◌, ◌∙◌, length, subst, sym}
use Rattle.values.specs.Updating.{DecoRanges}
use Rattle.shipped_rules.proofs.Staying.{same_number, set_stays}
use Rattle.shipped_rules.proofs.marking.keeps_all.Goals as goal

pub returns : goal.returns
returns c = λ is.
    let e : length c.args.mapped.now ≡ length c.args.set.now = sym c.len.ensures ∙ (same_number c.len.result c.len-2.result is ∙ c.len-2.ensures) in
    c.requires.mapped ∙ set_stays c.args.transaction.now c.args.set.now c.known-2.ensures c.requires.nothing c.known.ensures.order
    (subst (λ (rs : DecoRanges). length rs ≡ length c.args.set.now) c.requires.mapped e)
