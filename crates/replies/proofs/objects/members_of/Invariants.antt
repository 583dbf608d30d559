use Rattle.std.proofs.Common.{◌≡◌, take}
use Rattle.serde_json.specs.View.{members_view}
use Rattle.replies.specs.Scalars.{members_data}
use Rattle.replies.proofs.objects.members_of.Given as goal

abbrev pub invariant-loop-name : goal.invariant-loop-name
invariant-loop-name l = members_view l.object.entries ≡ members_data (take l.name-index l.members)
