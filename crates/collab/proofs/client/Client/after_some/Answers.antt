use Rattle.std.proofs.Common.{◌≡◌, ◌+◌, ◌∷◌, List, drop, sym, ap, subst, ◌∙◌, arith}
use Rattle.collab.specs.declared.update.Update.{Update}
use Rattle.collab.specs.Clients.{CanReceive, all_taken, taken, taking_refusal}
use Rattle.collab.proofs.Taking.{can-next, refusal-next}
use Rattle.collab.proofs.Items.{next-item}
use Rattle.collab.proofs.client.Client.after_some.Goals as goal

pub loop-update-init : goal.loop-update-init
loop-update-init c =
    let first : Update = c.args.first.now in
    let rest : List Update = c.args.rest.now in
    let t : c.in_ok-client.client ≡ taken c.args.self.now first = c.in_ok-client.ensures.taken in
    record {
      can = subst (λ x. CanReceive x rest) (sym t) (can-next c.args.self.now first rest c.requires);
      goes = ap (λ x. all_taken x rest) t;
      long = ap (λ x. taking_refusal x rest) t ∙ sym (refusal-next c.args.self.now first rest c.in_ok-client.ensures.short);
    }

pub loop-update-preserved : goal.loop-update-preserved
loop-update-preserved c =
    let rest : List Update = drop (c.loop-update.update-index + 1) c.args.rest.now in
    let u : Update = c.update-item.result in
    let now = c.loop-update.client in
    let d : drop c.loop-update.update-index c.args.rest.now ≡ u ∷ rest =
    next-item c.args.rest.now c.loop-update.update-index u (omega arith) c.update-item.is in
    let t : c.take.new.self ≡ taken now u = c.in_ok-take.ensures.taken in
    record {
      can = subst (λ x. CanReceive x rest) (sym t) (can-next now u rest (subst (CanReceive now) d c.loop-update.invariant.can));
      goes = ap (λ x. all_taken x rest) t ∙ (sym (ap (all_taken now) d) ∙ c.loop-update.invariant.goes);
      long =
          ap (λ x. taking_refusal x rest) t ∙
          (sym (refusal-next now u rest c.in_ok-take.ensures.short) ∙ (sym (ap (taking_refusal now) d) ∙ c.loop-update.invariant.long));
    }
