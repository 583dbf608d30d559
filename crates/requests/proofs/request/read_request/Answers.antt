use Rattle.serde_json.specs.View.{view}
use Rattle.script.proofs.Accepting.{answers}
use Rattle.requests.specs.Requests.{request_named}
use Rattle.requests.specs.Tables.{requests}
use Rattle.script.specs.Accepted.{is_command}
use Rattle.requests.proofs.Tables.{request-exactly}
use Rattle.requests.proofs.request.read_request.Goals as goal

pub returns-clause-accepts : goal.returns-clause-accepts
returns-clause-accepts c = answers (λ x. x) c.request_named.result (request_named c.args.name.now (view c.args.value.now)) (is_command requests c.args.name.now (view c.args.value.now)) c.request_named.ensures (request-exactly c.args.name.now (view c.args.value.now))
