use Rattle.std.proofs.Common.{◌≡◌, ◌+◌, List, length, map, ap, ◌∙◌, arith}
use Rattle.std.proofs.lemmas.List.{take_at}
use Rattle.range_set.specs.PrivateChunks.{Content, grow}
use Rattle.range_set.specs.declared.ranged.Ranged.{Ranged}
use Rattle.range_set.proofs.Alone.{grown_none}
use Rattle.range_set.proofs.chunk.Chunk.take_len.Goals as goal

pub returns-else-this-lt2 : goal.returns-else-this-lt2
returns-else-this-lt2 g c =
    let was = c.args.self.now in
    let xs = c.as_mut_slice.result.now in
    let n = ap length c.as_mut_slice.ensures.value in
    let m : length xs ≡ was.ranges.len = let k = was.ranges.ok.0 in omega (arith, k, n) in
    let reach : was.reach + 0 ≡ was.reach = omega arith in
    ap (λ (rs : List (Ranged g.row.T.Denot)). let x : Content g.row.T.Denot = record { ranges = rs; reach = was.reach + 0; is_turned = was.is_turned; has_point = was.has_point } in x)
    (ap (map (grow 0)) (take_at xs _ was.ranges.len m ∙ c.as_mut_slice.ensures.value) ∙ grown_none was.ranges.items)
    ∙ ap (λ n. let x : Content g.row.T.Denot = record { ranges = was.ranges.items; reach = n; is_turned = was.is_turned; has_point = was.has_point } in x) reach
