use Rattle.std.proofs.Common.{◌∙◌, ap, refl, arith}
use Rattle.range_set.specs.PrivateChunks.{spread}
use Rattle.range_set.specs.declared.group.Group.{Group}
use Rattle.range_set.proofs.Builders.{grown_one}
use Rattle.range_set.proofs.Groups.{spread-push}
use Rattle.range_set.proofs.group_builder.GroupBuilder.put.Goals as goal

pub returns-clause-builder : goal.returns-clause-builder
returns-clause-builder g c =
    let n = ap (λ (x : Group g.row.T.Denot). x.count) c.deref.ensures in
    let count = c.requires.group.count in
    grown_one g.T.RangeValue.rules c.args.self.now _ c.args.placed c.deref.result.now.count c.requires.builder c.in_ok-push_quick.ensures refl refl (omega (arith, n, count)) c.requires.group c.requires.some c.requires.room

pub returns-clause-ranges : goal.returns-clause-ranges
returns-clause-ranges g c = ap spread c.in_ok-push_quick.ensures ∙ spread-push c.args.self.now.done c.args.placed
