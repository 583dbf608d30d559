use Rattle.std.proofs.Common.{◌++◌, false, sym, ◌∙◌, ap, subst, arith}
use Rattle.std.proofs.lemmas.List.{append-nil, nil_from_length}
use Rattle.std.proofs.lemmas.Result.{IfOk-weaker}
use Rattle.line_tree.specs.Text.{BeginsWithReturn, cut, cut_after}
use Rattle.line_tree.proofs.Cutting.{run_done, run_shorter, return_done, return_shorter}
use Rattle.line_tree.proofs.text.Text.of.Goals as goal

pub push_all-requires : goal.push_all-requires
push_all-requires c =
    omega (
      arith,
      run_shorter c.loop-builder.builder c.loop-builder.rest.now c.split_at.result.0.now c.split_at.result.1.now (cut c.args.characters.now) c.until_return.result
          c.split_at.ensures.front c.split_at.ensures.back c.until_return.ensures.run c.loop-builder.invariant,
      c.requires,
    )

pub returns-in-None : goal.returns-in-None
returns-in-None c =
    let done = run_done c.loop-builder.builder c.push_all.new.self c.loop-builder.rest.now c.split_at.result.0.now c.split_at.result.1.now (cut c.args.characters.now) c.until_return.result
    c.split_at.ensures.front c.split_at.ensures.back c.until_return.ensures.run c.loop-builder.invariant c.in_ok-push_all.ensures in
    IfOk-weaker c.finish.result _ _
    (λ t e. e ∙ sym (append-nil c.push_all.new.self) ∙ ap (λ r. c.push_all.new.self ++ cut_after false r) (sym (nil_from_length c.split_at.result.1.now c.in-None.ensures.cases)) ∙ done)
    c.finish.ensures

pub push-requires : goal.push-requires
push-requires c =
    let done = run_done c.loop-builder.builder c.push_all.new.self c.loop-builder.rest.now c.split_at.result.0.now c.split_at.result.1.now (cut c.args.characters.now) c.until_return.result
    c.split_at.ensures.front c.split_at.ensures.back c.until_return.ensures.run c.loop-builder.invariant c.in_ok-push_all.ensures in
    let begins : BeginsWithReturn c.split_at.result.1.now = subst BeginsWithReturn (sym c.split_at.ensures.back) c.until_return.ensures.after in
    omega (arith, return_shorter c.push_all.new.self c.split_at.result.1.now c.in-Some.next.now (cut c.args.characters.now) c.in-Some.field-0-0.now c.in-Some.ensures.cases.0 begins done, c.requires)

pub loop-builder-preserved : goal.loop-builder-preserved
loop-builder-preserved c =
    let done = run_done c.loop-builder.builder c.push_all.new.self c.loop-builder.rest.now c.split_at.result.0.now c.split_at.result.1.now (cut c.args.characters.now) c.until_return.result
    c.split_at.ensures.front c.split_at.ensures.back c.until_return.ensures.run c.loop-builder.invariant c.in_ok-push_all.ensures in
    let begins : BeginsWithReturn c.split_at.result.1.now = subst BeginsWithReturn (sym c.split_at.ensures.back) c.until_return.ensures.after in
    return_done c.push_all.new.self c.push.new.self c.split_at.result.1.now c.in-Some.next.now c.after_return-rest.result.now (cut c.args.characters.now) c.in-Some.field-0-0.now c.in-Some.ensures.cases.0 begins done
    c.in_ok-push-in-Some.ensures c.after_return-rest.ensures.value
