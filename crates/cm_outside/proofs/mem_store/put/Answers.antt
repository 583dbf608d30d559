use Rattle.std.proofs.Common.{◌≡◌, rules, get_or}
use Rattle.cm_outside.specs.MemFiles.{FileView}
use Rattle.cm_outside.proofs.MemFiles.{saved_after, saved_set}
use Rattle.cm_outside.proofs.mem_store.put.Goals as goal

pub returns-then-place-len-clause-saved : goal.returns-then-place-len-clause-saved
returns-then-place-len-clause-saved c =
    let file : FileView = record { name = c.behind-files.inside.name; bytes = c.behind-files.inside.bytes.items } in
    let here : get_or c.args.files.now.items c.place_of-place.result file ≡ file = search rules in
    let bytes : c.in_ok-bytes.bytes.items ≡ c.args.bytes.now = search rules in
    saved_set c.args.files.now.items c.args.name.now c.args.bytes.now c.in_ok-bytes.bytes.items c.place_of-place.result file (search rules) (search rules) here bytes

pub returns-clause-saved : goal.returns-clause-saved
returns-clause-saved c = saved_after c.args.files.now.items c.push.new.self.items c.args.name.now c.args.bytes.now c.place_of-place.result (search rules) (search rules) (search rules)
