-- What is said of each Ok, said of one.
use Rattle.std.proofs.Common.{Result, Ok, Err, IfOk, refl}
use Rattle.std.specs.Result.{ForOk}

pub if_ok : {T E : Type 0} (r : Result T E) (P : T → Type 0) → ForOk r P → IfOk r P
if_ok (Ok x) P h = h x refl
if_ok (Err e) P h = tt
