use Rattle.std.proofs.Common.{◌∙◌, ap, length, subst}
use Rattle.range_set.specs.Mapping.{EndWithin}
use Rattle.values.specs.Updating.{kept_within}
use Rattle.shipped_rules.proofs.InsideSets.{kept-inside}
use Rattle.shipped_rules.proofs.marking.mapped_inside.Goals as goal

pub mapped-requires-clause-inside : goal.mapped-requires-clause-inside
mapped-requires-clause-inside c =
    rw c.in_ok-kept.ensures (subst (λ n. EndWithin n (kept_within c.len-len.result c.args.set.now)) (c.len-len.ensures ∙ ap length c.start.ensures) (kept-inside c.len-len.result c.args.set.now))
