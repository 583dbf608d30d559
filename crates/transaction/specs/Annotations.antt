-- What is looked up in a draft's annotations (manual: Transaction.annotation, Transaction.isUserEvent).
use Rattle.std.specs.Prelude.{ℕ, Bool, true, false, eqb, List, Option, Some, None, option_map}
use Rattle.std.specs.List.{find}
use Rattle.std.specs.Cmp.Lexicographic.{pointwise}
use Rattle.cm_plain.specs.UserEvents.{is_below}
use Rattle.cm_plain.specs.declared.plain.Plain.{Plain}
use Rattle.cm_plain.specs.declared.plain.Plain.TheVariants as plain
use Rattle.transaction.specs.declared.annotation.Annotation.{Annotation}
use Rattle.transaction.specs.Specs.{user_event_name}

-- an annotation of a kind
abbrev pub is_kind : (kind : List ℕ) → Annotation → Bool
is_kind kind a = pointwise eqb a.kind kind

-- Annotation: the value of the first one of a kind.
abbrev pub annotation_of : (kind : List ℕ) → List Annotation → Option Plain
annotation_of kind annotations = option_map (λ (a : Annotation). a.value) (find (is_kind kind) annotations)

abbrev pub is_event : (of : List ℕ) → Option Plain → Bool
is_event of (Some (plain.Text event)) = is_below event of
is_event of _ = false

-- User event: the first annotation 'userEvent' is a text that is the event or below it.
abbrev pub is_user_event : (of : List ℕ) → List Annotation → Bool
is_user_event of annotations = is_event of (annotation_of user_event_name annotations)
