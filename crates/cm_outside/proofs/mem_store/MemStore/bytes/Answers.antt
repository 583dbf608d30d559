use Rattle.std.proofs.Common.{◌≡◌, ◌∙◌, Some, rules, ap, get_or}
use Rattle.cm_outside.specs.MemFiles.{FileView}
use Rattle.cm_outside.proofs.MemFiles.{found_at, found_none}
use Rattle.cm_outside.proofs.mem_store.MemStore.bytes.Goals as goal

pub returns-then-place-len : goal.returns-then-place-len
returns-then-place-len c =
    rw (← c.self.view_is) (found_none c.self.inside.files.items c.args.name.now c.place_of-place.result (search rules) (search rules))

pub returns : goal.returns
returns c =
    let file : FileView = record { name = c.behind-self.inside.name; bytes = c.behind-self.inside.bytes.items } in
    let here : get_or c.self.inside.files.items c.place_of-place.result file ≡ file = search rules in
    rw (← c.self.view_is) (ap Some (c.as_slice-2.ensures.value) ∙ found_at c.self.inside.files.items c.args.name.now c.place_of-place.result file (search rules) (search rules) here)
