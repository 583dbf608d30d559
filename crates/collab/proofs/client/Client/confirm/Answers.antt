use Rattle.std.proofs.Common.{◌≡◌, ℕ, List, ◌+◌, suc, drop, length, sym, ap, subst, ◌∙◌, arith}
use Rattle.change_desc.specs.Sections.{apply}
use Rattle.collab.specs.declared.update.Update.{Update}
use Rattle.collab.specs.Updates.{applied}
use Rattle.collab.specs.Clients.{ClientView, IsClient, IsFirst, document}
use Rattle.collab.specs.Views.{client_view}
use Rattle.collab.proofs.Taking.{confirmed_is, confirmed-text}
use Rattle.collab.proofs.client.Client.confirm.Goals as goal

pub remove-requires : goal.remove-requires
remove-requires c =
    let v : ClientView = client_view c.self.inside in
    let p : IsFirst c.args.update.now v.pending = subst (λ x. IsFirst c.args.update.now x.pending) (sym c.self.view_is) c.requires.first in
    omega (arith, ap length p.1)

pub invariant_of-self : goal.invariant_of-self
invariant_of-self c =
    let v : ClientView = client_view c.self.inside in
    let u : Update = c.args.update.now in
    let p : IsFirst u v.pending = subst (λ x. IsFirst u x.pending) (sym c.self.view_is) c.requires.first in
    let texts : c.in_ok-confirmed.confirmed.characters ≡ apply u.changes v.confirmed = c.in_ok-confirmed.ensures in
    let items : c.remove.new.self.items ≡ drop 1 v.pending = c.remove.ensures.by_index.2 in (
      c.self.invariant.0 ∙ (confirmed-text v u p ∙ (sym (ap (λ us. applied us (apply u.changes v.confirmed)) items) ∙ sym (ap (applied c.remove.new.self.items) texts))),
      confirmed_is v u (c.self.inside.version + 1) c.in_ok-confirmed.confirmed.characters c.remove.new.self.items c.self.invariant.1 p (omega arith) texts items,
    )
