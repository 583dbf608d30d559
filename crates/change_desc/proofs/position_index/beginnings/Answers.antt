use Rattle.std.proofs.Common.{◌≡◌, ◌+◌, ◌<◌, ◌^◌, ℕ, List, get_or, length, All, drop, sym, subst, ap, ◌∙◌, arith}
use Rattle.std.proofs.lemmas.List.Elements.{All-push}
use Rattle.change_desc.specs.declared.section.Section.{Section}
use Rattle.change_desc.specs.declared.section.Section.TheVariants.{Keep}
use Rattle.change_desc.specs.declared.passed.Passed.{Passed}
use Rattle.change_desc.specs.Index.{ArePassed}
use Rattle.change_desc.specs.Sections.{counted, new_size, old_size}
use Rattle.change_desc.proofs.Beginnings.{begins_at, more_passed, new_within, old_within}
use Rattle.change_desc.proofs.position_index.beginnings.Goals as goal

pub beyond-passed-requires-clause-old_fits : goal.beyond-passed-requires-clause-old_fits
beyond-passed-requires-clause-old_fits c =
    let s = c.args.sections.now in
    let w = c.loop-section.passed in
    let k = c.loop-section.invariant in
    old_within s w (get_or s c.loop-section.section-index (Keep 0)) (2 ^ 32) (begins_at s w c.loop-section.section-index (Keep 0) k.count c.loop-section-test.true) k.passed c.requires.old_fits

pub beyond-passed-requires-clause-new_fits : goal.beyond-passed-requires-clause-new_fits
beyond-passed-requires-clause-new_fits c =
    let s = c.args.sections.now in
    let w = c.loop-section.passed in
    let k = c.loop-section.invariant in
    new_within s w (get_or s c.loop-section.section-index (Keep 0)) (2 ^ 32) (begins_at s w c.loop-section.section-index (Keep 0) k.count c.loop-section-test.true) k.passed c.requires.new_fits

pub loop-section-preserved : goal.loop-section-preserved
loop-section-preserved c =
    let s = c.args.sections.now in
    let i = c.loop-section.section-index in
    let w = c.loop-section.passed in
    let k = c.loop-section.invariant in
    let short : w.count < length s = subst (λ n. n < length s) (sym k.count) c.loop-section-test.true in
    record {
      all = subst (All (ArePassed s)) (sym c.in_ok-push.ensures.items) (All-push (ArePassed s) c.loop-section.all.items w k.all k.passed);
      passed = subst (ArePassed s) (sym c.beyond-passed.ensures) (more_passed s w (get_or s i (Keep 0)) short (begins_at s w i (Keep 0) k.count c.loop-section-test.true) k.passed);
      count = ap (λ (p : Passed). p.count) c.beyond-passed.ensures ∙ ap (λ (n : ℕ). n + 1) k.count;
    }
