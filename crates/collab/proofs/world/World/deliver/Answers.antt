use Rattle.std.proofs.Common.{◌≡◌, ◌<◌, Some, length, slice_get, sym, ap, subst, ◌∙◌}
use Rattle.std.proofs.lemmas.Result.{on_ok_weaker, MatchResult-weaker}
use Rattle.collab.specs.declared.message.Message.TheVariants.{Push, Updates}
use Rattle.collab.specs.Worlds.{WorldView}
use Rattle.collab.specs.Conditions.{HasPlaces}
use Rattle.collab.specs.Invariants.{HasSender, IsPart}
use Rattle.collab.proofs.Outcomes.{push-can, push-delivered, push-outcome, push-refused, read_item, updates-can, updates-delivered, updates-outcome, updates-refused}
use Rattle.collab.proofs.world.World.deliver.Goals as goal

pub push-requires-clause-takes : goal.push-requires-clause-takes
push-requires-clause-takes c =
    let w : WorldView = record { authority = c.self.inside.authority; clients = c.self.inside.clients.items; messages = c.self.inside.messages.items } in
    let within : c.args.message < length w.messages = subst (λ y. c.args.message < length y.messages) (sym c.self.view_is) c.requires.message in
    let at : slice_get w.messages c.args.message ≡ Some (Push c.in-Push.client c.in-Push.version c.as_slice.result.now) =
    read_item w.messages c.args.message c.index.result.now within c.index.ensures ∙ (ap Some c.in-Push.is ∙ ap (λ us. Some (Push c.in-Push.client c.in-Push.version us)) (sym c.as_slice.ensures)) in
    let sender : HasSender w.clients c.in-Push.client c.in-Push.version c.as_slice.result.now = c.self.invariant.messages c.args.message (Push c.in-Push.client c.in-Push.version c.as_slice.result.now) at in
    λ e. push-can w c.in-Push.client c.in-Push.version c.as_slice.result.now c.self.invariant sender e

pub invariant_of-self : goal.invariant_of-self
invariant_of-self c =
    let w : WorldView = record { authority = c.self.inside.authority; clients = c.self.inside.clients.items; messages = c.self.inside.messages.items } in
    let within : c.args.message < length w.messages = subst (λ y. c.args.message < length y.messages) (sym c.self.view_is) c.requires.message in
    let at : slice_get w.messages c.args.message ≡ Some (Push c.in-Push.client c.in-Push.version c.as_slice.result.now) =
    read_item w.messages c.args.message c.index.result.now within c.index.ensures ∙ (ap Some c.in-Push.is ∙ ap (λ us. Some (Push c.in-Push.client c.in-Push.version us)) (sym c.as_slice.ensures)) in
    let sender : HasSender w.clients c.in-Push.client c.in-Push.version c.as_slice.result.now = c.self.invariant.messages c.args.message (Push c.in-Push.client c.in-Push.version c.as_slice.result.now) at in
    let places : HasPlaces (Some (Push c.in-Push.client c.in-Push.version c.as_slice.result.now)) w =
    subst (λ o. HasPlaces o w) at (subst (λ y. HasPlaces (slice_get y.messages c.args.message) y) (sym c.self.view_is) c.requires.room) in
    push-outcome w c.in-Push.client c.in-Push.version c.as_slice.result.now c.self.invariant sender places c.push.result c.push.new.self c.push.ensures.ok c.push.ensures.accepted c.push.ensures.err

pub received_by-requires-clause-can : goal.received_by-requires-clause-can
received_by-requires-clause-can c =
    let w : WorldView = record { authority = c.self.inside.authority; clients = c.self.inside.clients.items; messages = c.self.inside.messages.items } in
    let within : c.args.message < length w.messages = subst (λ y. c.args.message < length y.messages) (sym c.self.view_is) c.requires.message in
    let at : slice_get w.messages c.args.message ≡ Some (Updates c.in-Updates.from c.as_slice-in-Updates.result.now) =
    read_item w.messages c.args.message c.index.result.now within c.index.ensures ∙ (ap Some c.in-Updates.is ∙ ap (λ us. Some (Updates c.in-Updates.from us)) (sym c.as_slice-in-Updates.ensures)) in
    let part : IsPart w.authority c.in-Updates.from c.as_slice-in-Updates.result.now = c.self.invariant.messages c.args.message (Updates c.in-Updates.from c.as_slice-in-Updates.result.now) at in
    updates-can w c.in-Updates.from c.as_slice-in-Updates.result.now c.self.invariant part

pub invariant_of-self-in-Updates : goal.invariant_of-self-in-Updates
invariant_of-self-in-Updates c =
    let w : WorldView = record { authority = c.self.inside.authority; clients = c.self.inside.clients.items; messages = c.self.inside.messages.items } in
    let within : c.args.message < length w.messages = subst (λ y. c.args.message < length y.messages) (sym c.self.view_is) c.requires.message in
    let at : slice_get w.messages c.args.message ≡ Some (Updates c.in-Updates.from c.as_slice-in-Updates.result.now) =
    read_item w.messages c.args.message c.index.result.now within c.index.ensures ∙ (ap Some c.in-Updates.is ∙ ap (λ us. Some (Updates c.in-Updates.from us)) (sym c.as_slice-in-Updates.ensures)) in
    let part : IsPart w.authority c.in-Updates.from c.as_slice-in-Updates.result.now = c.self.invariant.messages c.args.message (Updates c.in-Updates.from c.as_slice-in-Updates.result.now) at in
    updates-outcome w c.args.to c.in-Updates.from c.as_slice-in-Updates.result.now c.self.invariant part c.received_by.result c.received_by.new.clients.items c.received_by.ensures.ok c.received_by.ensures.accepted c.received_by.ensures.err

pub returns-in-Push-clause-ok : goal.returns-in-Push-clause-ok
returns-in-Push-clause-ok c =
    let w : WorldView = record { authority = c.self.inside.authority; clients = c.self.inside.clients.items; messages = c.self.inside.messages.items } in
    let within : c.args.message < length w.messages = subst (λ y. c.args.message < length y.messages) (sym c.self.view_is) c.requires.message in
    let at : slice_get w.messages c.args.message ≡ Some (Push c.in-Push.client c.in-Push.version c.as_slice.result.now) =
    read_item w.messages c.args.message c.index.result.now within c.index.ensures ∙ (ap Some c.in-Push.is ∙ ap (λ us. Some (Push c.in-Push.client c.in-Push.version us)) (sym c.as_slice.ensures)) in
    on_ok_weaker c.push.result
    (λ e. push-delivered w c.args.self.now c.args.message c.args.to c.in-Push.client c.in-Push.version c.as_slice.result.now c.push.new.self c.self.view_is at e)
    c.push.ensures.ok

pub returns-in-Push-clause-accepted : goal.returns-in-Push-clause-accepted
returns-in-Push-clause-accepted c =
    let w : WorldView = record { authority = c.self.inside.authority; clients = c.self.inside.clients.items; messages = c.self.inside.messages.items } in
    let within : c.args.message < length w.messages = subst (λ y. c.args.message < length y.messages) (sym c.self.view_is) c.requires.message in
    let at : slice_get w.messages c.args.message ≡ Some (Push c.in-Push.client c.in-Push.version c.as_slice.result.now) =
    read_item w.messages c.args.message c.index.result.now within c.index.ensures ∙ (ap Some c.in-Push.is ∙ ap (λ us. Some (Push c.in-Push.client c.in-Push.version us)) (sym c.as_slice.ensures)) in
    on_ok_weaker c.push.result
    (λ e. push-refused w c.args.self.now c.args.message c.args.to c.in-Push.client c.in-Push.version c.as_slice.result.now c.self.view_is at ∙ e)
    c.push.ensures.accepted

pub returns-in-Push-clause-refused : goal.returns-in-Push-clause-refused
returns-in-Push-clause-refused c =
    let w : WorldView = record { authority = c.self.inside.authority; clients = c.self.inside.clients.items; messages = c.self.inside.messages.items } in
    let within : c.args.message < length w.messages = subst (λ y. c.args.message < length y.messages) (sym c.self.view_is) c.requires.message in
    let at : slice_get w.messages c.args.message ≡ Some (Push c.in-Push.client c.in-Push.version c.as_slice.result.now) =
    read_item w.messages c.args.message c.index.result.now within c.index.ensures ∙ (ap Some c.in-Push.is ∙ ap (λ us. Some (Push c.in-Push.client c.in-Push.version us)) (sym c.as_slice.ensures)) in
    MatchResult-weaker c.push.result c.push.ensures.refused (λ x h. h)
    (λ e f n. push-refused w c.args.self.now c.args.message c.args.to c.in-Push.client c.in-Push.version c.as_slice.result.now c.self.view_is at ∙ f n)

pub returns-in-Updates-clause-ok : goal.returns-in-Updates-clause-ok
returns-in-Updates-clause-ok c =
    let w : WorldView = record { authority = c.self.inside.authority; clients = c.self.inside.clients.items; messages = c.self.inside.messages.items } in
    let within : c.args.message < length w.messages = subst (λ y. c.args.message < length y.messages) (sym c.self.view_is) c.requires.message in
    let at : slice_get w.messages c.args.message ≡ Some (Updates c.in-Updates.from c.as_slice-in-Updates.result.now) =
    read_item w.messages c.args.message c.index.result.now within c.index.ensures ∙ (ap Some c.in-Updates.is ∙ ap (λ us. Some (Updates c.in-Updates.from us)) (sym c.as_slice-in-Updates.ensures)) in
    on_ok_weaker c.received_by.result
    (λ e. updates-delivered w c.args.self.now c.args.message c.args.to c.in-Updates.from c.as_slice-in-Updates.result.now c.received_by.new.clients.items c.self.view_is at e)
    c.received_by.ensures.ok

pub returns-in-Updates-clause-accepted : goal.returns-in-Updates-clause-accepted
returns-in-Updates-clause-accepted c =
    let w : WorldView = record { authority = c.self.inside.authority; clients = c.self.inside.clients.items; messages = c.self.inside.messages.items } in
    let within : c.args.message < length w.messages = subst (λ y. c.args.message < length y.messages) (sym c.self.view_is) c.requires.message in
    let at : slice_get w.messages c.args.message ≡ Some (Updates c.in-Updates.from c.as_slice-in-Updates.result.now) =
    read_item w.messages c.args.message c.index.result.now within c.index.ensures ∙ (ap Some c.in-Updates.is ∙ ap (λ us. Some (Updates c.in-Updates.from us)) (sym c.as_slice-in-Updates.ensures)) in
    on_ok_weaker c.received_by.result
    (λ e. updates-refused w c.args.self.now c.args.message c.args.to c.in-Updates.from c.as_slice-in-Updates.result.now c.self.view_is at ∙ e)
    c.received_by.ensures.accepted

pub returns-in-Updates-clause-refused : goal.returns-in-Updates-clause-refused
returns-in-Updates-clause-refused c =
    let w : WorldView = record { authority = c.self.inside.authority; clients = c.self.inside.clients.items; messages = c.self.inside.messages.items } in
    let within : c.args.message < length w.messages = subst (λ y. c.args.message < length y.messages) (sym c.self.view_is) c.requires.message in
    let at : slice_get w.messages c.args.message ≡ Some (Updates c.in-Updates.from c.as_slice-in-Updates.result.now) =
    read_item w.messages c.args.message c.index.result.now within c.index.ensures ∙ (ap Some c.in-Updates.is ∙ ap (λ us. Some (Updates c.in-Updates.from us)) (sym c.as_slice-in-Updates.ensures)) in
    MatchResult-weaker c.received_by.result c.received_by.ensures.refused (λ x h. h)
    (λ e f n. updates-refused w c.args.self.now c.args.message c.args.to c.in-Updates.from c.as_slice-in-Updates.result.now c.self.view_is at ∙ f n)
