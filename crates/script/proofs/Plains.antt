-- A value is known by its datum.
use Rattle.std.proofs.Common.{◌≡◌, refl, ap}
use Rattle.cm_plain.specs.Datum.{items-data}
use Rattle.cm_plain.specs.Plain.{datum_of}
use Rattle.cm_plain.specs.declared.plain.Plain.{Plain}
use Rattle.cm_plain.specs.declared.plain.Plain.TheVariants.{Unit as Nothing, Bool as Truth, Int, Text, List as Values}
use Rattle.script.specs.Values.{plain_of}

pub plain_again : (p : Plain) → plain_of (datum_of p) ≡ p
plain_again Nothing = refl
plain_again (Truth b) = refl
plain_again (Int z) = refl
plain_again (Text s) = refl
plain_again (Values ds) = ap Values (items-data ds)
