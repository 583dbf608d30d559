use Rattle.std.proofs.Common.{◌≡◌, ℕ, true, refl, subst, sym}
use Rattle.values.specs.Comparing.{compare}
use Rattle.values.specs.Equality.{equal-is}
use Rattle.shipped_rules.proofs.Staying.{same_number}
use Rattle.shipped_rules.proofs.comparing.is_reflexive.Goals as goal

pub returns : goal.returns
returns c = λ is v. subst (λ (n : ℕ). compare n v v ≡ true) (sym (same_number c.args.number 1 is)) ((equal-is v v).1 refl)
