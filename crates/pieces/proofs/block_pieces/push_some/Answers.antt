use Rattle.pieces.proofs.block_pieces.push_some.Goals as goal

pub returns : goal.returns
returns c =
    let pushed = rw c.as_str.ensures.value at c.push_clusters.ensures in
    rw c.in_ok-text.ensures at pushed
