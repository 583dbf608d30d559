use Rattle.std.proofs.Common.{◌≡◌, ◌++◌, List, sym, ap, subst, ◌∙◌}
use Rattle.collab.specs.declared.update.Update.{Update}
use Rattle.collab.specs.Updates.{applied}
use Rattle.collab.specs.Authorities.{AuthorityView, IsAuthority, pushed}
use Rattle.collab.proofs.Texts.{applied-append, pushed-authority}
use Rattle.collab.proofs.authority.Authority.take.Goals as goal

pub invariant_of-self-2 : goal.invariant_of-self-2
invariant_of-self-2 c =
    let a : AuthorityView = record { start = c.self.inside.start.characters; updates = c.self.inside.updates.items } in
    let v : a ≡ c.args.self.now = c.self.view_is in
    let us : List Update = c.args.updates.now in
    let items : c.append.new.self.items ≡ a.updates ++ us = c.in_ok-append.ensures.items ∙ ap (λ xs. a.updates ++ xs) c.in_ok-more.ensures in
    let doc : c.in_ok-doc.doc.characters ≡ applied us c.self.inside.doc.characters = c.in_ok-doc.ensures in (
      doc ∙ (ap (applied us) c.self.invariant.0 ∙ (sym (applied-append a.updates us a.start) ∙ sym (ap (λ xs. applied xs a.start) items))),
      subst (λ (xs : List Update). IsAuthority (record { start = a.start; updates = xs })) (sym items)
          (subst (λ x. IsAuthority (pushed x us)) (sym v) (pushed-authority c.args.self.now c.args.name.now us (subst IsAuthority v c.self.invariant.1) c.requires.takes c.requires.short c.requires.room)),
    )
