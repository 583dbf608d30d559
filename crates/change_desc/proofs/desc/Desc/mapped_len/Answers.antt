use Rattle.std.proofs.Common.{sym, ap, ◌∙◌}
use Rattle.change_desc.specs.Sections.{counted}
use Rattle.change_desc.specs.Columns.{along_old}
use Rattle.change_desc.specs.MapSteps.{merged_len}
use Rattle.change_desc.proofs.Measures.{new_size-map_over}
use Rattle.change_desc.proofs.desc.Desc.mapped_len.Goals as goal

pub returns : goal.returns
returns c = λ before.
    c.mapped_len.ensures ∙
    (ap (λ s. merged_len (along_old counted s) (along_old counted c.as_slice-2.result.now)) (c.as_slice.ensures ∙ c.other.view_is) ∙
    (ap (λ s. merged_len (along_old counted c.args.other.now) (along_old counted s)) (c.as_slice-2.ensures ∙ c.self.view_is) ∙
    sym (new_size-map_over c.args.self.now c.args.other.now before)))
