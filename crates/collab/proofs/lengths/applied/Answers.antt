use Rattle.std.proofs.Common.{◌≡◌, ◌+◌, ◌∷◌, List, length, drop, sym, ap, subst, ◌∙◌, arith}
use Rattle.change_set.proofs.Sizes.{length-apply}
use Rattle.collab.specs.declared.update.Update.{Update}
use Rattle.collab.specs.Updates.{applied, LeadOn}
use Rattle.collab.proofs.Items.{next-item}
use Rattle.collab.proofs.lengths.applied.Goals as goal

pub loop-update-preserved : goal.loop-update-preserved
loop-update-preserved c =
    let rest : List Update = drop (c.loop-update.update-index + 1) c.args.updates.now in
    let d : drop c.loop-update.update-index c.args.updates.now ≡ c.update-item.result ∷ rest =
    next-item c.args.updates.now c.loop-update.update-index c.update-item.result (omega arith) c.update-item.is in
    let l : LeadOn (length c.loop-update.all.characters) (c.update-item.result ∷ rest) = subst (LeadOn (length c.loop-update.all.characters)) d c.loop-update.invariant.leads in
    record {
      leads = subst (λ n. LeadOn n rest) (sym (ap length c.in_ok-next.ensures ∙ length-apply c.update-item.result.changes c.loop-update.all.characters l.0)) l.1;
      goes = ap (applied rest) c.in_ok-next.ensures ∙ (sym (ap (λ us. applied us c.loop-update.all.characters) d) ∙ c.loop-update.invariant.goes);
    }
