use Rattle.std.proofs.Common.{◌≡◌, ℕ, List, ◌+◌, ◌++◌, ◌∷◌, [], length, sym, ap, ◌∙◌, arith}
use Rattle.change_desc.specs.Sections.{apply, old_size}
use Rattle.collab.specs.Updates.{applied}
use Rattle.collab.specs.Clients.{ClientView, document, local_update}
use Rattle.collab.specs.Views.{client_view}
use Rattle.collab.proofs.Taking.{local-text, made_is}
use Rattle.collab.proofs.client.Client.make.Goals as goal

pub invariant_of-self-2 : goal.invariant_of-self-2
invariant_of-self-2 c =
    let v : ClientView = client_view c.self.inside in
    let starts : old_size c.args.set ≡ length (document v) = c.requires.starts ∙ sym (ap (λ x. length (document x)) c.self.view_is) in
    let items : c.push.new.self.items ≡ v.pending ++ local_update v c.args.set ∷ [] =
    c.in_ok-push.ensures.items ∙ ap (λ (n : List ℕ). v.pending ++ record { client = n; number = v.made; changes = c.args.set } ∷ []) c.in_ok-client.ensures in (
      c.in_ok-doc.ensures ∙ (ap (apply c.args.set) c.self.invariant.0 ∙ (sym (local-text v c.args.set) ∙ sym (ap (λ us. applied us v.confirmed) items))),
      made_is v c.args.set (c.self.inside.made + 1) c.push.new.self.items c.self.invariant.1 starts c.requires.short (omega arith) items,
    )
