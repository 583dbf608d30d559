use Rattle.std.proofs.Common.{◌≡◌, ℕ, All}
use Rattle.std.proofs.lemmas.Result.{IfOk-weaker}
use Rattle.transaction.specs.Numbers.{IsNumber}
use Rattle.filters.specs.Facets.{ListsNumbers, rule_numbers}
use Rattle.filters.proofs.RuleNumbers.{numbers-known}
use Rattle.filters.proofs.numbers.highest_first.Goals as goal

pub returns-clause-numbers : goal.returns-clause-numbers
returns-clause-numbers c =
    let v = c.args.value.now in
    IfOk-weaker c.numbers_in.result (λ ns. ns.items ≡ rule_numbers v) (λ ns. (count : ℕ) → ListsNumbers count v → All (IsNumber count) ns.items)
    (λ ns e count h. numbers-known count v ns.items e h) c.numbers_in.ensures
