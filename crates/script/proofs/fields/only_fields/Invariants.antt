use Rattle.std.proofs.Common.{◌≡◌, map}
use Rattle.serde_json.specs.View.{members_view}
use Rattle.script.specs.Reading.{only}
use Rattle.script.proofs.fields.only_fields.Given as goal

abbrev pub invariant-loop-name : goal.invariant-loop-name
invariant-loop-name l =
    (goal.iterator-loop-name).can_next l.name-iterator ×
    (goal.iterator-loop-name).is_finite l.name-iterator ×
    (only (map (λ n. n.now) l.names) (members_view l.name-iterator) ≡ only (map (λ n. n.now) l.names) (members_view l.members.entries))
