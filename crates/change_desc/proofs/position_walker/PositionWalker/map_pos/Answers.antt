use Rattle.std.proofs.Common.{arith, ap}
use Rattle.change_desc.specs.Sections.{counted, new_size}
use Rattle.change_desc.specs.Walker.{Walk}
use Rattle.change_desc.proofs.Walks.{LandsAt, lands}
use Rattle.change_desc.proofs.position_walker.PositionWalker.map_pos.Goals as goal
use Rattle.change_desc.proofs.position_walker.PositionWalker.map_pos.Goals.{then-is_lost, else-is_lost}

pub overflow_add-result : goal.overflow_add-result
overflow_add-result c =
    let l : LandsAt c.self.inside.sections.now c.up_to-self-inside.result c.place.result =
    lands _ _ _ _ _ _ c.up_to-self-inside.ensures (rw c.rest-rest.ensures at c.place.ensures) in
    omega (arith, l.within, c.self.invariant.new_fits)

pub returns-clause-inside : goal.returns-clause-inside
returns-clause-inside c =
    let single = ap (λ (v : Walk). new_size counted v.desc) c.self.view_is in
    elim c.if-is_lost.branch [
      | then-is_lost w ↦ rw w.result-is tt
      | else-is_lost w ↦
          let l : LandsAt c.self.inside.sections.now c.up_to-self-inside.result w.place.result =
          lands _ _ _ _ _ _ c.up_to-self-inside.ensures (rw c.rest-rest.ensures at w.place.ensures) in
          rw w.result-is (omega (arith, l.within, single))
    ]
