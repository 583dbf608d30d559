use Rattle.std.proofs.Common.{◌∙◌, map, sym}
use Rattle.std.proofs.lemmas.Result.{IfOk-weaker}
use Rattle.clap.specs.Words.{app_of, subcommand_rows_of}
use Rattle.words.proofs.Forms.{no_option}
use Rattle.words.proofs.Parsing.{read_in_range, refused, taken}
use Rattle.words.proofs.words.Words.of.Goals as goal

pub returns-in-Ok-clause-value : goal.returns-in-Ok-clause-value
returns-in-Ok-clause-value g c =
    let words = map g.T.AsStr.text c.args.words.now in
    let is = taken (app_of c.in_ok-command.field-0) words (subcommand_rows_of c.in-Ok.matches) _ c.in_ok-command.ensures (sym c.if-has_option.ensures) c.in-Ok.ensures.kinds c.in-Ok.ensures.matches in
    IfOk-weaker c.asked.result _ _ (λ asked value. value ∙ is) c.asked.ensures

pub returns-in-Ok-clause-range : goal.returns-in-Ok-clause-range
returns-in-Ok-clause-range g c =
    let words = map g.T.AsStr.text c.args.words.now in
    let is = taken (app_of c.in_ok-command.field-0) words (subcommand_rows_of c.in-Ok.matches) _ c.in_ok-command.ensures (sym c.if-has_option.ensures) c.in-Ok.ensures.kinds c.in-Ok.ensures.matches in
    IfOk-weaker c.asked.result _ _ (λ asked value. read_in_range words asked (value ∙ is)) c.asked.ensures

pub returns : goal.returns
returns g c =
    let words = map g.T.AsStr.text c.args.words.now in
    record {
      value = refused (app_of c.in_ok-command.field-0) words c.in-Err.error c.in_ok-command.ensures (sym c.if-has_option.ensures) c.in-Err.ensures.kinds
          (λ memory. c.in_default.not-OutOfMemory (c.kind.ensures ∙ memory));
      range = tt;
    }

pub returns-then-has_option : goal.returns-then-has_option
returns-then-has_option g c = record { value = sym (no_option (map g.T.AsStr.text c.args.words.now) (sym c.if-has_option.ensures)); range = tt }
