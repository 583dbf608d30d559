use Rattle.std.proofs.Common.{◌<◌, ◌^◌, ℕ, List, false, ap, sym, subst, ◌∙◌, arith}
use Rattle.change_desc.specs.declared.section.Section.{Section}
use Rattle.change_desc.specs.Sections.{spelled, counted, old_size, new_size}
use Rattle.change_desc.specs.Of.{span}
use Rattle.change_desc.proofs.Merges.{old_size-lengths}
use Rattle.change_set.proofs.RunningTotals.{span-old, span-size, moved-bound}
use Rattle.change_set.proofs.change_set.ChangeSet.length_with_span.Goals as goal

pub mapped_len-requires : goal.mapped_len-requires
mapped_len-requires c =
    ap old_size c.in_ok-done.ensures ∙ (old_size-lengths spelled c.args.self.now ∙ (sym c.len.ensures ∙
    (sym (span-old c.len.result c.args.from c.args.to 0 c.requires.order (omega (arith, c.len.ensures, c.requires.within))) ∙ ap old_size (sym c.in_ok-deletion.ensures))))

pub overflow_add-result : goal.overflow_add-result
overflow_add-result c =
    let b = moved-bound c.in_ok-deletion.deletion c.in_ok-done.done c.mapped_len.result (c.mapped_len.ensures false) in
    let d : new_size counted c.in_ok-done.done < 2 ^ 32 = subst (λ (s : List (Section ℕ)). new_size counted s < 2 ^ 32) c.done.view_is c.done.invariant.new_fits in
    let f : new_size counted c.in_ok-deletion.deletion < 2 ^ 32 = subst (λ (s : List (Section ℕ)). new_size counted s < 2 ^ 32) c.deletion.view_is c.deletion.invariant.new_fits in
    omega (arith, b, d, f, c.from.ensures, c.len-2.type_inv)

pub returns : goal.returns
returns c =
    span-size c.args.self.now c.args.from c.args.to c.args.insert.now c.in_ok-done.done c.in_ok-deletion.deletion c.from.result c.mapped_len.result c.requires.order c.requires.within
    c.in_ok-done.ensures (c.in_ok-deletion.ensures ∙ ap (λ (n : ℕ). span counted n c.args.from c.args.to 0) c.len.ensures) (c.from.ensures ∙ c.len-2.ensures) (c.mapped_len.ensures false)
