use Rattle.std.proofs.Common.{◌≡◌, ◌∙◌, ◌||◌, ap, ap₂, codes, rules, true}
use Rattle.std.proofs.lemmas.Result.{IfOk-weaker}
use Rattle.viewport.specs.declared.viewport.TheConstants.{MAX_SIZE}
use Rattle.workload.specs.MadeLines.{max_transactions}
use Rattle.clap.specs.Words.{App, rule_of, with_rule, with_subcommand}
use Rattle.clap.specs.Simple.{app_of_fields, on_top}
use Rattle.clap.specs.declared.builder.value_parser.ValueParser.TheVariants as parser
use Rattle.words.specs.PrivateCommand.{argument}
use Rattle.words.proofs.words.command.Goals as goal

pub returns : goal.returns
returns c =
    let file : rule_of c.argument.result ≡ argument (codes "FILE") parser.NonEmptyString = search rules in
    let rows : rule_of c.argument-2.result ≡ argument (codes "ROWS") (parser.Unsigned 1 MAX_SIZE) = c.argument-2.ensures.rule ∙ ap (argument (codes "ROWS")) c.up_to.ensures in
    let cols : rule_of c.argument-3.result ≡ argument (codes "COLS") (parser.Unsigned 1 MAX_SIZE) = c.argument-3.ensures.rule ∙ ap (argument (codes "COLS")) c.up_to-2.ensures in
    let count : rule_of c.argument-4.result ≡ argument (codes "N") (parser.Unsigned 1 max_transactions) = c.argument-4.ensures.rule ∙ ap (argument (codes "N")) c.up_to-3.ensures in
    let edit = c.in_ok-edit.ensures.shape c.argument-3.ensures.local ∙ ap₂ with_rule (c.in_ok-arg-2.ensures.shape c.argument-2.ensures.local
    ∙ ap₂ with_rule (c.in_ok-arg.ensures.shape c.argument.ensures.local ∙ ap₂ with_rule c.new.ensures.app file) rows) cols in
    let make = c.in_ok-make.ensures.shape c.argument-4.ensures.local ∙ ap₂ with_rule c.new-2.ensures.app count in
    let edit_local = c.in_ok-edit.ensures.globals ∙ ap₂ ◌||◌ (c.in_ok-arg-2.ensures.globals ∙ ap₂ ◌||◌ (c.in_ok-arg.ensures.globals
    ∙ ap₂ ◌||◌ c.new.ensures.local c.argument.ensures.local) c.argument-2.ensures.local) c.argument-3.ensures.local in
    let make_local = c.in_ok-make.ensures.globals ∙ ap₂ ◌||◌ c.new-2.ensures.local c.argument-4.ensures.local in
    let unnamed = ap app_of_fields c.no_binary_name.ensures ∙ ap (on_top (λ s. record s { no_binary_name = true })) c.new-3.ensures.app in
    let no_flag = ap app_of_fields c.disable_help_flag.ensures ∙ ap (on_top (λ s. record s { disable_help_flag = true })) unnamed in
    let no_help = ap app_of_fields c.disable_help_subcommand.ensures ∙ ap (on_top (λ s. record s { disable_help_subcommand = true })) no_flag in
    let top = ap app_of_fields c.subcommand_required.ensures ∙ ap (on_top (λ s. record s { subcommand_required = true })) no_help in
    let replay = c.in_ok-subcommand.ensures.shape c.new-4.ensures.local ∙ ap₂ with_subcommand top (ap (λ (a : App). a.top) c.new-4.ensures.app) in
    let collab = c.in_ok-subcommand-2.ensures.shape c.new-5.ensures.local ∙ ap₂ with_subcommand replay (ap (λ (a : App). a.top) c.new-5.ensures.app) in
    let edits = c.in_ok-subcommand-3.ensures.shape edit_local ∙ ap₂ with_subcommand collab (ap (λ (a : App). a.top) edit) in
    IfOk-weaker c.subcommand-4.result _ _ (λ r added. added.shape make_local ∙ ap₂ with_subcommand edits (ap (λ (a : App). a.top) make)) c.subcommand-4.ensures
