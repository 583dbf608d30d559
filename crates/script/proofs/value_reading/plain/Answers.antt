use Rattle.std.proofs.Common.{Ok, option_map, sym, ap, ◌∙◌}
use Rattle.cm_plain.specs.Plain.{datum_of}
use Rattle.script.specs.Reading.{or_bad}
use Rattle.script.specs.Values.{plain_of, value_at}
use Rattle.script.proofs.Plains.{plain_again}
use Rattle.script.proofs.value_reading.plain.Goals as goal

pub returns-in-Some : goal.returns-in-Some
unfolding value_at
returns-in-Some c =
    let is = sym (ap (option_map datum_of) c.in-Some.is) ∙ c.in_ok-value.ensures in
    ap (λ o. or_bad c.args.name.now (option_map plain_of o)) (sym is) ∙ ap Ok (plain_again c.in-Some.value)
