-- A value of a shape that fits into another one is of that one too.
use Rattle.std.specs.Prelude.{◌≡◌, true, refl}
use Rattle.cm_plain.specs.Form.{Form, any, booleans, numbers, texts, one_of, lists, ranges, layers, history, fits}
use Rattle.cm_plain.specs.Fitting.{fits-sound}
use Rattle.cm_plain.specs.Plain.{datum_of}
use Rattle.values.specs.declared.val.Val.{Val}
use Rattle.values.specs.declared.val.Val.TheVariants.{Plain, Ranges, Layers, History}
use Rattle.values.specs.Vals.{is_of, is_ranges, is_layers, is_history}

of-ranges : (f g : Form) → fits f g ≡ true → is_ranges f ≡ true → is_ranges g ≡ true
of-ranges ranges ranges e h = refl
of-ranges f g e h = cc

of-layers : (f g : Form) → fits f g ≡ true → is_layers f ≡ true → is_layers g ≡ true
of-layers layers layers e h = refl
of-layers f g e h = cc

of-history : (f g : Form) → fits f g ≡ true → is_history f ≡ true → is_history g ≡ true
of-history history history e h = refl
of-history f g e h = cc

pub is_of-fits : (f g : Form) (v : Val) → fits f g ≡ true → is_of f v ≡ true → is_of g v ≡ true
is_of-fits f g (Plain p) e h = fits-sound f g e (datum_of p) h
is_of-fits f g (Ranges rs) e h = of-ranges f g e h
is_of-fits f g (Layers ls) e h = of-layers f g e h
is_of-fits f g (History l) e h = of-history f g e h
