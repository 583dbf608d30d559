use Rattle.std.proofs.Common.{◌≡◌, ◌++◌, ◌+◌, take, drop, string_bytes, sym, ◌∙◌, ap, arith}
use Rattle.std.proofs.lemmas.List.{drop-drop}
use Rattle.std.proofs.Math.Seq.{take-add}
use Rattle.std.specs.Prelude.{encode_utf8_all}
use Rattle.line_tree.proofs.Encoding.{encodes-append}
use Rattle.line_tree.proofs.Inside.{run_part}
use Rattle.line_tree.proofs.text.Text.string_at.Goals as goal

pub loop-taken-preserved : goal.loop-taken-preserved
loop-taken-preserved c =
    let cs = c.args.self.now.characters in
    let from = c.args.from in
    let taken = c.loop-taken.taken in
    let now = c.min-now.result in
    let run = run_part cs c.run_at-run.result.now (from + taken) now c.run_at-run.ensures.run (omega arith) in
    let whole : take taken (drop from cs) ++ take now (drop (from + taken) cs) ≡ take (taken + now) (drop from cs) =
    ap (λ r. take taken (drop from cs) ++ take now r) (sym (drop-drop taken from cs)) ∙ sym (take-add taken now (drop from cs)) in
    record {
      within = omega arith;
      value = c.in_ok-push_characters.ensures ∙ ap (λ r. string_bytes c.loop-taken.string ++ encode_utf8_all r) run
          ∙ ap (λ r. r ++ encode_utf8_all (take now (drop (from + taken) cs))) c.loop-taken.invariant.value
          ∙ sym (encodes-append (take taken (drop from cs)) (take now (drop (from + taken) cs))) ∙ ap encode_utf8_all whole;
    }
