use Rattle.std.proofs.Common.{◌≡◌, ◌+◌, ◌<◌, ◌^◌, ◌++◌, ◌∷◌, [], List, Some, length, slice_get, sym, ap, subst, ◌∙◌}
use Rattle.collab.specs.declared.message.Message.{Message}
use Rattle.collab.specs.Clients.{ClientView}
use Rattle.collab.specs.Worlds.{WorldView, with_message}
use Rattle.collab.specs.Stepping.{push_of, with_push}
use Rattle.collab.specs.Invariants.{IsWorld}
use Rattle.collab.proofs.Worlds.{message-kept, sends}
use Rattle.collab.proofs.Outcomes.{read_item}
use Rattle.collab.proofs.world.World.send.Goals as goal

pub invariant_of-self-2 : goal.invariant_of-self-2
invariant_of-self-2 c =
    let w : WorldView = record { authority = c.self.inside.authority; clients = c.self.inside.clients.items; messages = c.self.inside.messages.items } in
    let x : ClientView = c.index.result.now in
    let exists : c.args.client < length w.clients = subst (λ y. c.args.client < length y.clients) (sym c.self.view_is) c.requires.exists in
    let at : slice_get w.clients c.args.client ≡ Some x = read_item w.clients c.args.client x exists c.index.ensures in
    let items : c.push.new.self.items ≡ w.messages ++ push_of x ∷ [] =
    c.in_ok-push-2.ensures.items ∙ ap (λ m. w.messages ++ m ∷ []) c.in_ok-push.ensures in
    let room : length w.messages + 1 < 2 ^ 32 = subst (λ y. length y.messages + 1 < 2 ^ 32) (sym c.self.view_is) c.requires.room in
    subst (λ (ms : List Message). IsWorld (record { authority = w.authority; clients = w.clients; messages = ms })) (sym items)
    (message-kept w (push_of x) c.self.invariant (sends w c.args.client x at) room)

pub returns-clause-ok : goal.returns-clause-ok
returns-clause-ok c =
    let w : WorldView = record { authority = c.self.inside.authority; clients = c.self.inside.clients.items; messages = c.self.inside.messages.items } in
    let x : ClientView = c.index.result.now in
    let exists : c.args.client < length w.clients = subst (λ y. c.args.client < length y.clients) (sym c.self.view_is) c.requires.exists in
    let at : slice_get w.clients c.args.client ≡ Some x = read_item w.clients c.args.client x exists c.index.ensures in
    let items : c.push.new.self.items ≡ w.messages ++ push_of x ∷ [] =
    c.in_ok-push-2.ensures.items ∙ ap (λ m. w.messages ++ m ∷ []) c.in_ok-push.ensures in
    let made : record { authority = w.authority; clients = w.clients; messages = c.push.new.self.items } ≡ with_message (push_of x) w =
    ap (λ (ms : List Message). record { authority = w.authority; clients = w.clients; messages = ms }) items in
    made ∙ (sym (ap (λ o. with_push o w) at) ∙ ap (λ y. with_push (slice_get y.clients c.args.client) y) c.self.view_is)
