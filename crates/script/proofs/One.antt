-- Objects that have more than one member.
use Rattle.std.proofs.Common.{◌≡◌, ◌≢◌, ℕ, length, List, Result, [], ◌∷◌, Err, refl, String}
use Rattle.std.specs.declared.alloc.Global.{Global}
use Rattle.serde_json.specs.View.{members_view}
use Rattle.serde_json.specs.declared.value.Value.{Value}
use Rattle.serde_json.specs.Data.{Data}
use Rattle.script.specs.declared.refusal.Refusal.{Refusal}
use Rattle.script.specs.declared.refusal.Refusal.TheVariants.{NotCommand}
use Rattle.script.specs.Lines.{command_of_members}

-- an object that has not exactly one member is no command
pub not_one : {C : Type 0} (named : List ℕ → Data → Result C Refusal) (ms : List (String Global × Value)) → length ms ≢ 1 → command_of_members named (members_view ms) ≡ Err (NotCommand [])
not_one named [] h = refl
not_one named (m ∷ []) h = absurd (h refl)
not_one named (m ∷ n ∷ ms) h = refl
