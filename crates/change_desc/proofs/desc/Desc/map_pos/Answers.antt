use Rattle.std.proofs.Common.{◌∙◌}
use Rattle.change_desc.proofs.Bounds.{place-within}
use Rattle.change_desc.proofs.desc.Desc.map_pos.Goals as goal

pub returns-else-is_lost-clause-inside : goal.returns-else-is_lost-clause-inside
returns-else-is_lost-clause-inside c =
    let e = c.as_slice-else-is_lost.ensures ∙ c.self.view_is in
    rw (← e) (place-within c.as_slice-else-is_lost.result.now c.args.pos _ c.place.result c.place.ensures)
