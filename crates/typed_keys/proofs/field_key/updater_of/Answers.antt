use Rattle.std.proofs.Common.{◌∙◌}
use Rattle.std.proofs.lemmas.Option.{slice_get-get_or}
use Rattle.typed_keys.proofs.field_key.updater_of.Goals as goal

pub returns-clause-number : goal.returns-clause-number
returns-clause-number g c =
    let fields = c.as_slice.ensures ∙ c.defs-defs.ensures.defs.fields_are in
    let found = slice_get-get_or c.args.registry.now.fields c.args.id c.index-as_slice-id.result c.requires in
    rw fields (c.defs-defs.ensures.lawful.fields c.args.id _ found).update
