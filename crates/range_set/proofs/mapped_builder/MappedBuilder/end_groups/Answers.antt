use Rattle.std.proofs.Common.{◌≡◌, ◌++◌, sym, ap, subst, ◌∙◌}
use Rattle.std.proofs.lemmas.Result.{IfOk-weaker}
use Rattle.range_set.specs.PrivateChunks.{Ascend, flat}
use Rattle.range_set.specs.PrivateBuilders.{built, grouped, put_down}
use Rattle.range_set.proofs.Chunks.{flat-append}
use Rattle.range_set.proofs.mapped_builder.MappedBuilder.end_groups.Goals as goal

pub put_all-requires-clause-order : goal.put_all-requires-clause-order
put_all-requires-clause-order g c =
    let old = c.args.self.now in
    let same = c.finish.ensures.ranges ∙ ap built c.replace-chunks.ensures.value in
    subst (Ascend 0) (ap (λ rs. flat (grouped old.groups) ++ rs) (sym same) ∙ sym (flat-append (grouped old.groups) c.finish.result.items)) c.requires.order

pub returns-clause-ranges : goal.returns-clause-ranges
returns-clause-ranges g c =
    let old = c.args.self.now in
    let same = c.finish.ensures.ranges ∙ ap built c.replace-chunks.ensures.value in
    IfOk-weaker c.put_all.result (λ _. grouped c.put_all.new.self ≡ grouped old.groups ++ c.finish.result.items) (λ _. flat (grouped c.put_all.new.self) ≡ put_down old)
    (λ _ e. ap flat e ∙ (flat-append (grouped old.groups) c.finish.result.items ∙ ap (λ rs. flat (grouped old.groups) ++ rs) same))
    c.put_all.ensures.ranges
