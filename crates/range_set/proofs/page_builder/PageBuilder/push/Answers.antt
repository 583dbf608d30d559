use Rattle.std.proofs.Common.{◌≡◌, ◌≤◌, length, ap, ◌∙◌, arith}
use Rattle.std.proofs.lemmas.List.{length-append}
use Rattle.range_set.specs.PrivateChunks.{flat, spread}
use Rattle.range_set.specs.PrivatePages.{laid}
use Rattle.range_set.proofs.Groups.{flat-spread_append}
use Rattle.range_set.proofs.page_builder.PageBuilder.push.Goals as goal
use Rattle.range_set.proofs.page_builder.PageBuilder.push.Goals.{then-not-is_empty+then-placed-self+in_ok-seal, else-not-is_empty, then-is_empty+in_ok-reserve_exact, else-is_empty}

pub grow-requires-clause-room : goal.grow-requires-clause-room
grow-requires-clause-room g c =
    let at = c.self.inside in
    let here : length (flat (spread c.if-not-is_empty.self-inside.growing.items)) ≤ length (flat (spread c.args.self.now)) = elim c.if-not-is_empty.branch [
      | then-not-is_empty+then-placed-self+in_ok-seal w ↦
          let none = ap (λ x. length (flat (spread x.growing.items))) w.self-inside-is ∙ ap (λ gs. length (flat (spread gs))) w.in_ok-seal.ensures.empty in
          omega (arith, none)
      | else-not-is_empty w ↦
          let same = ap (λ x. length (flat (spread x.growing.items))) w.self-inside-is in
          let whole = ap (λ gs. length (flat (spread gs))) c.self.view_is in
          let parts = ap length (flat-spread_append (laid at.done.items) at.growing.items) ∙ length-append (flat (spread (laid at.done.items))) (flat (spread at.growing.items)) in
          omega (arith, same, whole, parts)
    ] in
    let same : length (flat (spread c.if-is_empty.self-inside.growing.items)) ≡ length (flat (spread c.if-not-is_empty.self-inside.growing.items)) = elim c.if-is_empty.branch [
      | then-is_empty+in_ok-reserve_exact w ↦ ap (λ x. length (flat (spread x.growing.items))) w.self-inside-is ∙ ap (λ gs. length (flat (spread gs))) w.reserve_exact.ensures.items
      | else-is_empty w ↦ ap (λ x. length (flat (spread x.growing.items))) w.self-inside-is
    ] in
    let room = c.requires.room in
    omega (arith, here, same, room)
