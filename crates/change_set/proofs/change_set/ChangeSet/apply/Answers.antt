use Rattle.std.proofs.Common.{sym, ◌∙◌, ap}
use Rattle.std.proofs.lemmas.Result.{IfOk-weaker}
use Rattle.line_tree.specs.Text.{TextView}
use Rattle.change_set.proofs.Still.{apply-still}
use Rattle.change_set.proofs.change_set.ChangeSet.apply.Goals as goal

pub returns-then-is_empty : goal.returns-then-is_empty
returns-then-is_empty c =
    IfOk-weaker c.try_copy.result _ _
    (λ text e. ap (λ (v : TextView). v.characters) e ∙ sym (apply-still c.args.self.now c.args.document.now.characters (sym c.is_empty.ensures ∙ c.if-is_empty.true) c.requires))
    c.try_copy.ensures
