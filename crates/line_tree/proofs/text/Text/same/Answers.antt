use Rattle.std.proofs.Common.{◌≡◌, ◌++◌, take, drop, sym, ◌∙◌, ap, arith, rules}
use Rattle.std.proofs.Math.Seq.{take-add}
use Rattle.line_tree.proofs.Inside.{run_part}
use Rattle.line_tree.proofs.text.Text.same.Goals as goal

pub loop-pos-preserved : goal.loop-pos-preserved
loop-pos-preserved c =
    let a = c.args.self.now.characters in
    let b = c.args.other.now.characters in
    let pos = c.loop-pos.pos in
    let n = c.min-count.result in
    let mine = run_part a c.run_at-mine.result.now pos n c.run_at-mine.ensures.run (omega arith) in
    let theirs = run_part b c.run_at-theirs.result.now pos n c.run_at-theirs.ensures.run (omega arith) in
    let equal : take n c.run_at-mine.result.now ≡ take n c.run_at-theirs.result.now = search rules in
    record {
      within = omega (arith, c.run_at-mine.ensures.short);
      same = take-add pos n a ∙ ap (λ r. r ++ take n (drop pos a)) c.loop-pos.invariant.same ∙ ap (λ r. take pos b ++ r) (sym mine ∙ equal ∙ theirs) ∙ sym (take-add pos n b);
    }
