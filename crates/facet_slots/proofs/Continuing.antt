-- A field that stays in its configuration is flagged where its value isn't known to be the same.
use Rattle.std.proofs.Common.{◌≡◌, Bool, true, not, ◌&&◌, Option, None, Some, refl, sym, ap, subst}
use Rattle.values.specs.declared.val.Val.{Val}
use Rattle.values.specs.Equality.{equal-is}
use Rattle.values.specs.Rules.{Rules}
use Rattle.facet_slots.specs.Setups.{PresentField}
use Rattle.facet_slots.specs.Stepping.{equal_init}
use Rattle.facet_slots.specs.Flags.{field_flag, same_value}

same-init : (o : Option Val) → equal_init o o ≡ true
same-init None = refl
same-init (Some v) = (equal-is v v).1 refl

pub field-stays : (rules : Rules) (o : Option PresentField) (field : PresentField) (old new : Option Val) → o ≡ Some field → not (same_value rules field.def.compare old new) ≡ field_flag rules o (Some field) old new
field-stays rules o field old new there =
    subst (λ (p : Option PresentField). not (same_value rules field.def.compare old new) ≡ field_flag rules p (Some field) old new) (sym there)
    (ap (λ (b : Bool). not (b && same_value rules field.def.compare old new)) (sym (same-init field.init)))
