use Rattle.std.proofs.Common.{◌≡◌, ◌+◌, suc, length, sym, ap, subst, ◌∙◌, arith}
use Rattle.change_desc.specs.Sections.{apply, old_size}
use Rattle.collab.specs.Updates.{applied}
use Rattle.collab.specs.Clients.{IsClient, crossed, document}
use Rattle.collab.proofs.Crossings.{crossed-texts, gone-old}
use Rattle.collab.proofs.Taking.{crossed_is}
use Rattle.collab.proofs.client.Client.over.Goals as goal

pub apply-requires-2 : goal.apply-requires-2
apply-requires-2 c =
    let now = c.args.self.now in
    let h : IsClient now = subst IsClient c.self.view_is c.self.invariant.1 in
    let d : c.self.inside.doc.characters ≡ document now = c.self.invariant.0 ∙ ap document c.self.view_is in
    ap old_size c.requires.taken ∙ (gone-old now.pending c.args.update.now.changes now.confirmed c.requires.starts h.leads ∙ sym (ap length d))

pub with-requires-clause-doc : goal.with-requires-clause-doc
with-requires-clause-doc c =
    let now = c.args.self.now in
    let u = c.args.update.now.changes in
    let h : IsClient now = subst IsClient c.self.view_is c.self.invariant.1 in
    let d : c.self.inside.doc.characters ≡ document now = c.self.invariant.0 ∙ ap document c.self.view_is in
    let f : c.in_ok-confirmed.confirmed.characters ≡ apply u now.confirmed = c.in_ok-confirmed.ensures ∙ ap (λ x. apply u x.confirmed) c.self.view_is in
    c.in_ok-doc.ensures ∙
    (ap (λ s. apply s c.self.inside.doc.characters) c.requires.taken ∙
    (ap (apply (crossed u now.pending).taken) d ∙
    (sym (crossed-texts now.pending u now.confirmed c.requires.starts h.leads) ∙
    (sym (ap (λ us. applied us (apply u now.confirmed)) c.requires.updates) ∙ sym (ap (applied c.args.all.updates.items) f)))))

pub with-requires-clause-client : goal.with-requires-clause-client
with-requires-clause-client c =
    let v = c.self.view_is in
    let n : c.self.inside.version + 1 ≡ suc c.args.self.now.version = omega (arith, ap (λ x. x.version) v) in
    crossed_is c.args.self.now c.args.update.now (c.self.inside.version + 1) c.in_ok-confirmed.confirmed.characters c.args.all.updates.items
    (subst IsClient v c.self.invariant.1) c.requires.other c.requires.starts c.requires.short n
    (c.in_ok-confirmed.ensures ∙ ap (λ x. apply c.args.update.now.changes x.confirmed) v) c.requires.updates
