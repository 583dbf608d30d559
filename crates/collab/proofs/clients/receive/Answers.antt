use Rattle.std.proofs.Common.{option_and_then, ap, ◌∙◌}
use Rattle.std.proofs.lemmas.Result.{on_ok_weaker, MatchResult-weaker}
use Rattle.collab.specs.Clients.{receive_refusal, received}
use Rattle.collab.proofs.Outcomes.{read_item, set-changed}
use Rattle.collab.proofs.clients.receive.Goals as goal

pub returns-clause-ok : goal.returns-clause-ok
returns-clause-ok c =
    on_ok_weaker c.receive.result
    (λ e. set-changed (λ x. received x c.args.from c.args.updates.now) c.args.clients.now.items c.args.index c.index_mut-client.result.now c.receive.new.self
    (read_item c.args.clients.now.items c.args.index c.index_mut-client.result.now c.requires.exists c.index_mut-client.ensures.value) e)
    c.receive.ensures.ok

pub returns-clause-accepted : goal.returns-clause-accepted
returns-clause-accepted c =
    on_ok_weaker c.receive.result
    (λ e. ap (option_and_then (λ x. receive_refusal x c.args.from c.args.updates.now))
    (read_item c.args.clients.now.items c.args.index c.index_mut-client.result.now c.requires.exists c.index_mut-client.ensures.value) ∙ e)
    c.receive.ensures.accepted

pub returns-clause-refused : goal.returns-clause-refused
returns-clause-refused c =
    MatchResult-weaker c.receive.result c.receive.ensures.refused (λ x h. h)
    (λ e f n. ap (option_and_then (λ x. receive_refusal x c.args.from c.args.updates.now))
    (read_item c.args.clients.now.items c.args.index c.index_mut-client.result.now c.requires.exists c.index_mut-client.ensures.value) ∙ f n)
