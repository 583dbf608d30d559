use Rattle.std.proofs.Common.{option_and_then, option_map, ap, ◌∙◌}
use Rattle.collab.specs.Errors.{of_changes_error}
use Rattle.collab.specs.Stepping.{after_local, local_refusal}
use Rattle.collab.proofs.Outcomes.{read_item, set-changed}
use Rattle.collab.proofs.clients.change.Goals as goal

pub returns-clause-ok : goal.returns-clause-ok
returns-clause-ok c =
    set-changed (after_local c.args.changes.now) c.args.clients.now.items c.args.index c.index_mut-client.result.now c.local.new.self
    (read_item c.args.clients.now.items c.args.index c.index_mut-client.result.now c.requires.exists c.index_mut-client.ensures.value) c.in_ok-local.ensures.ok

pub returns-clause-accepted : goal.returns-clause-accepted
returns-clause-accepted c =
    ap (option_and_then (local_refusal c.args.changes.now)) (read_item c.args.clients.now.items c.args.index c.index_mut-client.result.now c.requires.exists c.index_mut-client.ensures.value) ∙
    ap (option_map of_changes_error) c.in_ok-local.ensures.accepted
