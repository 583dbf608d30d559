use Rattle.std.proofs.Common.{◌≡◌, ◌∙◌, Some, rules, ap, get_or}
use Rattle.cm_outside.specs.MemFiles.{FileView}
use Rattle.cm_outside.proofs.MemFiles.{found_at, found_none}
use Rattle.cm_outside.proofs.mem_store.found.Goals as goal

pub returns-then-place-len : goal.returns-then-place-len
returns-then-place-len c = found_none c.args.files.now.items c.args.name.now c.place_of-place.result (search rules) (search rules)

pub returns : goal.returns
returns c =
    let file : FileView = record { name = c.behind-files.inside.name; bytes = c.behind-files.inside.bytes.items } in
    let here : get_or c.args.files.now.items c.place_of-place.result file ≡ file = search rules in
    let bytes : c.in_ok-bytes.bytes.items ≡ c.behind-files.inside.bytes.items = search rules in
    ap Some bytes ∙ found_at c.args.files.now.items c.args.name.now c.place_of-place.result file (search rules) (search rules) here
