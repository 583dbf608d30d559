use Rattle.std.specs.Prelude.{option_map}
use Rattle.std.specs.Box.{box_value}
use Rattle.std.proofs.Common.{◌≡◌, ◌≢◌, Some, ap, ◌∙◌}
use Rattle.std.specs.Option.{option_or}
use Rattle.std.proofs.lemmas.Result.{IfOk-weaker, IfErr-weaker}
use Rattle.transaction.specs.declared.error.TransactionError.TheVariants.{NoMemory}
use Rattle.transaction.specs.Refusals.{spec_changes_refusal, too_long}
use Rattle.transaction.specs.Merging.{next_total}
use Rattle.transaction.specs.PrivateSteps.{Advances, Follows, changes_before}
use Rattle.transaction.proofs.Steps.{advances, refused_by_length}
use Rattle.transaction.proofs.merging.advance.Goals as goal

pub returns-clause-draft : goal.returns-clause-draft
returns-clause-draft g c =
    let map_value = g.M.EffectMaps.map_value c.args.frame.now.maps.now in
    let f = c.args.frame.now in
    IfOk-weaker c.after.result (λ d. Follows f.len f.max f.kinds.now map_value (option_map box_value c.args.before) c.in-Ok.made.sequential c.in-Ok.made.draft.value d.value)
    (λ d. Advances f.len f.max f.kinds.now map_value (option_map box_value c.args.before) c.args.spec c.args.refusal.now c.or.result d.value)
    (λ d h. advances f.len f.max f.kinds.now map_value (option_map box_value c.args.before) c.args.spec c.start_len-start.result c.in-Ok.made c.args.refusal.now c.or.result d.value c.start_len-start.ensures
    c.in-Ok.ensures.made (c.or.ensures ∙ ap (λ o. option_or o c.in-Ok.made.refusal) c.take.ensures.value) h)
    c.after.ensures.draft

pub returns-clause-refused : goal.returns-clause-refused
returns-clause-refused g c =
    let f = c.args.frame.now in
    IfErr-weaker c.after.result (λ e. e ≢ NoMemory → too_long f.max (next_total (changes_before (option_map box_value c.args.before)) c.in-Ok.made.sequential c.in-Ok.made.draft.value.changes) ≡ Some e)
    (λ e. e ≢ NoMemory → spec_changes_refusal f.len f.max (changes_before (option_map box_value c.args.before)) c.args.spec ≡ Some e)
    (λ e h n. refused_by_length f.len f.max (changes_before (option_map box_value c.args.before)) c.args.spec c.start_len-start.result c.in-Ok.made e c.start_len-start.ensures c.in-Ok.ensures.made (h n))
    c.after.ensures.refused
