use Rattle.std.proofs.Common.{ap}
use Rattle.std.proofs.lemmas.Result.{IfOk-weaker}
use Rattle.facet_slots.specs.Shelves.{AreLasting, IsStill, IsStillIn, Shelved}
use Rattle.facet_slots.specs.Lent.{setup_of, transition_of}
use Rattle.facet_slots.proofs.Standings.{lasting-weaker}
use Rattle.facet_slots.proofs.walk.begun.Goals as goal

pub returns-then-is_settled-clause-lasting : goal.returns-then-is_settled-clause-lasting
returns-then-is_settled-clause-lasting c =
    let old : Shelved = c.args.old.now.shelf in
    let setup = setup_of c.args.setup.now in
    IfOk-weaker c.again.result (λ (s : Shelved). AreLasting (IsStill old) s) (λ (s : Shelved). AreLasting (IsStillIn setup old) s)
    (λ (s : Shelved) (all : AreLasting (IsStill old) s). lasting-weaker (IsStill old) (IsStillIn setup old) s (λ f v still. (still, c.requires.still c.in-Update.field-0.now (ap transition_of c.in-Update.is) f v still)) all)
    c.again.ensures.lasting
