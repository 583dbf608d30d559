use Rattle.std.proofs.Common.{◌≡◌, ◌≢◌, Ok, Err, ◌∙◌}
use Rattle.std.proofs.lemmas.Result.{IfErr-weaker, IfOk-weaker}
use Rattle.transaction.specs.declared.error.TransactionError.TheVariants.{NoMemory}
use Rattle.filters.specs.Extended.{extended, extended_by}
use Rattle.filters.specs.Facets.{facets_of}
use Rattle.filters.specs.Outcomes.{in_turn}
use Rattle.filters.specs.Starts.{start_of}
use Rattle.filters.proofs.Chains.{extended-is}
use Rattle.filters.proofs.extenders.apply_extenders.Goals as goal

pub returns-clause-draft : goal.returns-clause-draft
returns-clause-draft g c =
    let rules = g.M.Meanings.rules in
    let facets = facets_of c.args.facets.now in
    let start = start_of c.args.start.now in
    let d = c.args.draft.value in
    let t = c.in_ok-transaction.transaction in
    let ns = c.deref-2.result.now in
    IfOk-weaker c.extended_in_turn.result (λ out. in_turn (extended_by rules facets start t) ns d ≡ Ok out.value) (λ out. extended rules facets start d ≡ Ok out.value)
    (λ out h. extended-is rules facets start d c.deref.result.now c.empty.result t ns (Ok out.value) c.deref.ensures c.empty.ensures c.in_ok-transaction.ensures
    (c.deref-2.ensures.value ∙ c.in_ok-numbers.ensures.value) h)
    c.extended_in_turn.ensures.draft

pub returns-clause-refused : goal.returns-clause-refused
returns-clause-refused g c =
    let rules = g.M.Meanings.rules in
    let facets = facets_of c.args.facets.now in
    let start = start_of c.args.start.now in
    let d = c.args.draft.value in
    let t = c.in_ok-transaction.transaction in
    let ns = c.deref-2.result.now in
    IfErr-weaker c.extended_in_turn.result (λ error. error ≢ NoMemory → in_turn (extended_by rules facets start t) ns d ≡ Err error)
    (λ error. error ≢ NoMemory → extended rules facets start d ≡ Err error)
    (λ error h n. extended-is rules facets start d c.deref.result.now c.empty.result t ns (Err error) c.deref.ensures c.empty.ensures c.in_ok-transaction.ensures
    (c.deref-2.ensures.value ∙ c.in_ok-numbers.ensures.value) (h n))
    c.extended_in_turn.ensures.refused
