use Rattle.std.proofs.Common.{ℕ, sym, ap, ◌∙◌, subst}
use Rattle.std.proofs.lemmas.Result.{IfOk-weaker}
use Rattle.change_desc.specs.Sections.{spelled, counted, old_size, new_size}
use Rattle.change_desc.proofs.Merges.{old_size-lengths, new_size-lengths}
use Rattle.transaction.specs.Merging.{SelectionIn}
use Rattle.transaction.proofs.Joins.{over-within}
use Rattle.transaction.proofs.extras.Extras.after.Goals as goal

pub moved-requires-clause-inside : goal.moved-requires-clause-inside
moved-requires-clause-inside g c =
    subst (λ n. SelectionIn n c.args.self.selection) (sym (ap old_size c.in_ok-over.ensures ∙ old_size-lengths spelled c.args.changes.now)) c.requires.inside

pub moved-requires-clause-within : goal.moved-requires-clause-within
moved-requires-clause-within g c =
    over-within c.args.frame.now.max c.in_ok-over.over c.args.changes.now c.in_ok-over.ensures c.requires.short c.requires.new_short

pub returns-clause-inside : goal.returns-clause-inside
returns-clause-inside g c =
    IfOk-weaker c.moved.result (λ m. SelectionIn (new_size counted c.in_ok-over.over) m.selection) (λ m. SelectionIn (new_size (spelled {C = ℕ}) c.args.changes.now) m.selection)
    (λ m h. subst (λ n. SelectionIn n m.selection) (ap (new_size counted) c.in_ok-over.ensures ∙ new_size-lengths spelled c.args.changes.now) h) c.moved.ensures.inside
