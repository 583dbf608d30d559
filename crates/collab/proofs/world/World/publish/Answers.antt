use Rattle.std.proofs.Common.{◌≡◌, ◌+◌, ◌<◌, ◌≤◌, ◌^◌, ◌++◌, ◌∷◌, [], List, length, sym, ap, subst, ◌∙◌}
use Rattle.collab.specs.declared.message.Message.{Message}
use Rattle.collab.specs.declared.message.Message.TheVariants.{Updates}
use Rattle.collab.specs.Authorities.{update_count}
use Rattle.collab.specs.Worlds.{WorldView}
use Rattle.collab.specs.Stepping.{published}
use Rattle.collab.specs.Invariants.{IsWorld}
use Rattle.collab.proofs.Worlds.{message-kept, publishes}
use Rattle.collab.proofs.world.World.publish.Goals as goal

pub invariant_of-self-2 : goal.invariant_of-self-2
invariant_of-self-2 c =
    let w : WorldView = record { authority = c.self.inside.authority; clients = c.self.inside.clients.items; messages = c.self.inside.messages.items } in
    let items : c.push.new.self.items ≡ w.messages ++ published c.args.from c.args.to w.authority ∷ [] =
    c.in_ok-push.ensures.items ∙ ap (λ us. w.messages ++ Updates c.args.from us ∷ []) c.in_ok-updates.ensures in
    let within : c.args.to ≤ update_count w.authority = subst (λ x. c.args.to ≤ update_count x.authority) (sym c.self.view_is) c.requires.within in
    let room : length w.messages + 1 < 2 ^ 32 = subst (λ x. length x.messages + 1 < 2 ^ 32) (sym c.self.view_is) c.requires.room in
    subst (λ (ms : List Message). IsWorld (record { authority = w.authority; clients = w.clients; messages = ms })) (sym items)
    (message-kept w (published c.args.from c.args.to w.authority) c.self.invariant (publishes w c.args.from c.args.to c.requires.order within) room)
