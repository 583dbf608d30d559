-- A spec's annotations (manual: TransactionSpec.annotations, TransactionSpec.userEvent).
use Rattle.std.specs.Prelude.{ℕ, List, ◌++◌, Option, codes, option_map}
use Rattle.std.specs.Option.{option_to_list}
use Rattle.cm_plain.specs.declared.plain.Plain.TheVariants as plain
use Rattle.transaction.specs.declared.annotation.Annotation.{Annotation}
use Rattle.transaction.specs.declared.spec.Spec.{Spec}

abbrev pub user_event_name : List ℕ
user_event_name = codes "userEvent"

-- a user event as an annotation
abbrev pub event_annotation : List ℕ → Annotation
event_annotation event = record { kind = user_event_name; value = plain.Text event }

-- annotations with a user event, if there is one, after them
abbrev pub with_event : List Annotation → Option (List ℕ) → List Annotation
with_event annotations event = annotations ++ option_to_list (option_map event_annotation event)

-- A spec's annotations: those given, and then its user event.
abbrev pub all_annotations : {V : Type 0} → Spec V → List Annotation
all_annotations s = with_event s.annotations s.user_event
