use Rattle.std.proofs.Common.{◌<◌, ◌^◌, ℕ, List, ap, sym, subst, ◌∙◌, arith}
use Rattle.change_desc.specs.declared.section.Section.{Section}
use Rattle.change_desc.specs.Sections.{spelled, old_size, new_size}
use Rattle.change_desc.specs.Of.{span, then_also}
use Rattle.change_set.proofs.RunningTotals.{spelled-old}
use Rattle.change_set.proofs.change_set.ChangeSet.with_span.Goals as goal

pub and_also-requires : goal.and_also-requires
and_also-requires c =
    let t = c.args.insert.now in
    let e = c.in_ok-set.ensures ∙ ap (λ (n : ℕ). span spelled n c.args.from c.args.to t) c.len-3.ensures in
    let n : new_size spelled (then_also spelled c.args.self.now (span spelled (old_size c.args.self.now) c.args.from c.args.to t)) < 2 ^ 32 =
    omega (arith, c.in_ok-len.ensures, c.if-len-from.false, c.from.ensures, c.ranges.max.fits) in
    record {
      meet = ap old_size e ∙ spelled-old (old_size c.args.self.now) c.args.from c.args.to t c.requires.order c.requires.within;
      fits = subst (λ (s : List (Section (List ℕ))). new_size spelled (then_also spelled c.args.self.now s) < 2 ^ 32) (sym e) n;
    }
