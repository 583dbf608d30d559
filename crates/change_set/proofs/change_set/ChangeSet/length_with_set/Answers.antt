use Rattle.std.proofs.Common.{false, ap, sym, ◌∙◌}
use Rattle.change_desc.specs.Sections.{spelled, old_size}
use Rattle.change_desc.proofs.Merges.{old_size-lengths}
use Rattle.change_set.proofs.RunningTotals.{also-size}
use Rattle.change_set.proofs.change_set.ChangeSet.length_with_set.Goals as goal

pub mapped_len-requires : goal.mapped_len-requires
mapped_len-requires c =
    ap old_size c.in_ok-done.ensures ∙ (old_size-lengths spelled c.args.self.now ∙ (sym c.requires ∙ (sym (old_size-lengths spelled c.args.set.now) ∙ ap old_size (sym c.in_ok-own.ensures))))

pub returns : goal.returns
returns c = c.mapped_len.ensures false ∙ also-size c.args.self.now c.args.set.now c.in_ok-done.done c.in_ok-own.own c.in_ok-done.ensures c.in_ok-own.ensures c.requires
