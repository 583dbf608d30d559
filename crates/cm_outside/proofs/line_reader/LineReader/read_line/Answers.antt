use Rattle.std.proofs.Common.{rules, ap, arith, length, inr}
use Rattle.std.proofs.lemmas.List.{length-take}
use Rattle.cm_outside.proofs.Scanning.{then_takes, rest_scanned, at_break, same_left, at_end, at_nothing, at_failure, at_budget, end_advances, filled, late_before, late_after}
use Rattle.cm_outside.proofs.line_reader.LineReader.read_line.Goals as goal

pub cut-requires : goal.cut-requires
cut-requires g c = omega (arith, ap length c.loop-line.invariant.scanned.prefix, length-take 1048577 c.loop-line.invariant.scanned.part)

pub returns-then-branch-clause-left : goal.returns-then-branch-clause-left
returns-then-branch-clause-left g c = same_left _ _ _ _ _ _ c.loop-line.invariant.scanned c.cut.ensures.counts

pub returns-then-branch-clause-reads : goal.returns-then-branch-clause-reads
returns-then-branch-clause-reads g c =
    at_break c.line_or_too_long.result c.loop-line.line.items c.cut.new.line c.args.self.now c.loop-line.self c.cut.new.self (g.S.Source.left c.args.source.now) (g.S.Source.left c.loop-line.source) c.in_ok-cut.field-0
    c.loop-line.invariant.scanned c.cut.ensures.counts c.in_ok-cut.ensures.cut c.if-branch.true c.line_or_too_long.ensures

pub loop-line-preserved : goal.loop-line-preserved
loop-line-preserved g c =
    let s = rest_scanned c.loop-line.line.items c.cut.new.line.items c.args.self.now c.loop-line.self c.cut.new.self (g.S.Source.left c.args.source.now) (g.S.Source.left c.loop-line.source) c.in_ok-cut.field-0
    c.loop-line.invariant.scanned c.cut.ensures.counts c.in_ok-cut.ensures.cut c.if-branch.false in
    record {
      scanned = filled _ _ _ _ _ _ _ s.0 s.1 c.fill.ensures.limit c.in-More.ensures.fills c.in-More.ensures.left c.in-More.ensures.told;
      counted = omega (arith, c.loop-line.invariant.counted, c.fill.ensures.counted, c.cut.ensures.counts.taken, s.0.later);
      late = inr (late_after g.S.Source.given g.S.Source.asked _ c.args.self.now c.loop-line.self c.cut.new.self c.args.source.now c.loop-line.source c.fill.new.source _ _ s c.loop-line.invariant.late
          (record { counted = omega (arith, c.loop-line.invariant.counted, c.cut.ensures.counts.taken); last = c.fill.ensures.asked; once = c.fill.ensures.once }));
      later = omega (arith, c.fill.ensures.later);
    }

pub returns-in-Ended-clause-left : goal.returns-in-Ended-clause-left
returns-in-Ended-clause-left g c =
    let s = rest_scanned c.loop-line.line.items c.cut.new.line.items c.args.self.now c.loop-line.self c.cut.new.self (g.S.Source.left c.args.source.now) (g.S.Source.left c.loop-line.source) c.in_ok-cut.field-0
    c.loop-line.invariant.scanned c.cut.ensures.counts c.in_ok-cut.ensures.cut c.if-branch.false in
    then_takes _ _ _ _ _ _ s.0.later (omega (arith, c.in-Ended.ensures.fills.0)) s.0.left c.in-Ended.ensures.left

pub returns-in-Ended-clause-reads : goal.returns-in-Ended-clause-reads
returns-in-Ended-clause-reads g c =
    let s = rest_scanned c.loop-line.line.items c.cut.new.line.items c.args.self.now c.loop-line.self c.cut.new.self (g.S.Source.left c.args.source.now) (g.S.Source.left c.loop-line.source) c.in_ok-cut.field-0
    c.loop-line.invariant.scanned c.cut.ensures.counts c.in_ok-cut.ensures.cut c.if-branch.false in
    at_nothing _ _ c.cut.new.self c.fill.new.self _ _ s.0 s.1 c.in-Ended.ensures.fills c.in-Ended.ensures.told (search rules)

pub returns-in-Ended-2-clause-left : goal.returns-in-Ended-2-clause-left
returns-in-Ended-2-clause-left g c =
    let s = rest_scanned c.loop-line.line.items c.cut.new.line.items c.args.self.now c.loop-line.self c.cut.new.self (g.S.Source.left c.args.source.now) (g.S.Source.left c.loop-line.source) c.in_ok-cut.field-0
    c.loop-line.invariant.scanned c.cut.ensures.counts c.in_ok-cut.ensures.cut c.if-branch.false in
    then_takes _ _ _ _ _ _ s.0.later (omega (arith, c.in-Ended-2.ensures.fills.0)) s.0.left c.in-Ended-2.ensures.left

pub returns-in-Ended-2-clause-reads : goal.returns-in-Ended-2-clause-reads
returns-in-Ended-2-clause-reads g c =
    let s = rest_scanned c.loop-line.line.items c.cut.new.line.items c.args.self.now c.loop-line.self c.cut.new.self (g.S.Source.left c.args.source.now) (g.S.Source.left c.loop-line.source) c.in_ok-cut.field-0
    c.loop-line.invariant.scanned c.cut.ensures.counts c.in_ok-cut.ensures.cut c.if-branch.false in
    at_end c.line_or_too_long-in-Ended-2.result c.cut.new.line _ _ _ _ _ s.0 s.1 c.in-Ended-2.ensures.fills c.in-Ended-2.ensures.told (search rules) c.line_or_too_long-in-Ended-2.ensures

pub returns-in-Ended-2-clause-advances : goal.returns-in-Ended-2-clause-advances
returns-in-Ended-2-clause-advances g c =
    let s = rest_scanned c.loop-line.line.items c.cut.new.line.items c.args.self.now c.loop-line.self c.cut.new.self (g.S.Source.left c.args.source.now) (g.S.Source.left c.loop-line.source) c.in_ok-cut.field-0
    c.loop-line.invariant.scanned c.cut.ensures.counts c.in_ok-cut.ensures.cut c.if-branch.false in
    end_advances c.line_or_too_long-in-Ended-2.result c.cut.new.line.items _ _ _ _ _ s.0 s.1 c.in-Ended-2.ensures.fills c.fill.ensures.limit (search rules)

pub returns-in-Failing-clause-left : goal.returns-in-Failing-clause-left
returns-in-Failing-clause-left g c =
    let s = rest_scanned c.loop-line.line.items c.cut.new.line.items c.args.self.now c.loop-line.self c.cut.new.self (g.S.Source.left c.args.source.now) (g.S.Source.left c.loop-line.source) c.in_ok-cut.field-0
    c.loop-line.invariant.scanned c.cut.ensures.counts c.in_ok-cut.ensures.cut c.if-branch.false in
    then_takes _ _ _ _ _ _ s.0.later (omega (arith, c.in-Failing.ensures.fills.0)) s.0.left c.in-Failing.ensures.left

pub returns-in-Failing-clause-reads : goal.returns-in-Failing-clause-reads
returns-in-Failing-clause-reads g c =
    let s = rest_scanned c.loop-line.line.items c.cut.new.line.items c.args.self.now c.loop-line.self c.cut.new.self (g.S.Source.left c.args.source.now) (g.S.Source.left c.loop-line.source) c.in_ok-cut.field-0
    c.loop-line.invariant.scanned c.cut.ensures.counts c.in_ok-cut.ensures.cut c.if-branch.false in
    at_failure _ _ c.cut.new.self c.fill.new.self _ _ s.0 s.1 c.in-Failing.ensures.fills

pub returns-in-Past-clause-left : goal.returns-in-Past-clause-left
returns-in-Past-clause-left g c =
    let s = rest_scanned c.loop-line.line.items c.cut.new.line.items c.args.self.now c.loop-line.self c.cut.new.self (g.S.Source.left c.args.source.now) (g.S.Source.left c.loop-line.source) c.in_ok-cut.field-0
    c.loop-line.invariant.scanned c.cut.ensures.counts c.in_ok-cut.ensures.cut c.if-branch.false in
    then_takes _ _ _ _ _ _ s.0.later (omega (arith, c.in-Past.ensures.fills.1)) s.0.left c.in-Past.ensures.left

pub returns-in-Past-clause-reads : goal.returns-in-Past-clause-reads
returns-in-Past-clause-reads g c =
    let s = rest_scanned c.loop-line.line.items c.cut.new.line.items c.args.self.now c.loop-line.self c.cut.new.self (g.S.Source.left c.args.source.now) (g.S.Source.left c.loop-line.source) c.in_ok-cut.field-0
    c.loop-line.invariant.scanned c.cut.ensures.counts c.in_ok-cut.ensures.cut c.if-branch.false in
    at_budget _ _ c.cut.new.self c.fill.new.self _ _ s.0 s.1 c.in-Past.ensures.fills

pub returns-in_err-cut-clause-late : goal.returns-in_err-cut-clause-late
returns-in_err-cut-clause-late g c = late_before g.S.Source.given g.S.Source.asked c.args.self.now c.loop-line.self c.args.source.now c.loop-line.source (g.S.Source.left c.args.source.now) c.loop-line.invariant.late

pub returns-then-branch-clause-late : goal.returns-then-branch-clause-late
returns-then-branch-clause-late g c = late_before g.S.Source.given g.S.Source.asked c.args.self.now c.loop-line.self c.args.source.now c.loop-line.source (g.S.Source.left c.args.source.now) c.loop-line.invariant.late

pub returns-in-Ended-clause-late : goal.returns-in-Ended-clause-late
returns-in-Ended-clause-late g c =
    let s = rest_scanned c.loop-line.line.items c.cut.new.line.items c.args.self.now c.loop-line.self c.cut.new.self (g.S.Source.left c.args.source.now) (g.S.Source.left c.loop-line.source) c.in_ok-cut.field-0
    c.loop-line.invariant.scanned c.cut.ensures.counts c.in_ok-cut.ensures.cut c.if-branch.false in
    inr (late_after g.S.Source.given g.S.Source.asked _ c.args.self.now c.loop-line.self c.cut.new.self c.args.source.now c.loop-line.source c.fill.new.source _ _ s c.loop-line.invariant.late
    (record { counted = omega (arith, c.loop-line.invariant.counted, c.cut.ensures.counts.taken); last = c.fill.ensures.asked; once = c.fill.ensures.once }))

pub returns-in-Ended-2-clause-late : goal.returns-in-Ended-2-clause-late
returns-in-Ended-2-clause-late g c =
    let s = rest_scanned c.loop-line.line.items c.cut.new.line.items c.args.self.now c.loop-line.self c.cut.new.self (g.S.Source.left c.args.source.now) (g.S.Source.left c.loop-line.source) c.in_ok-cut.field-0
    c.loop-line.invariant.scanned c.cut.ensures.counts c.in_ok-cut.ensures.cut c.if-branch.false in
    inr (late_after g.S.Source.given g.S.Source.asked _ c.args.self.now c.loop-line.self c.cut.new.self c.args.source.now c.loop-line.source c.fill.new.source _ _ s c.loop-line.invariant.late
    (record { counted = omega (arith, c.loop-line.invariant.counted, c.cut.ensures.counts.taken); last = c.fill.ensures.asked; once = c.fill.ensures.once }))

pub returns-in-Failing-clause-late : goal.returns-in-Failing-clause-late
returns-in-Failing-clause-late g c =
    let s = rest_scanned c.loop-line.line.items c.cut.new.line.items c.args.self.now c.loop-line.self c.cut.new.self (g.S.Source.left c.args.source.now) (g.S.Source.left c.loop-line.source) c.in_ok-cut.field-0
    c.loop-line.invariant.scanned c.cut.ensures.counts c.in_ok-cut.ensures.cut c.if-branch.false in
    inr (late_after g.S.Source.given g.S.Source.asked _ c.args.self.now c.loop-line.self c.cut.new.self c.args.source.now c.loop-line.source c.fill.new.source _ _ s c.loop-line.invariant.late
    (record { counted = omega (arith, c.loop-line.invariant.counted, c.cut.ensures.counts.taken); last = c.fill.ensures.asked; once = c.fill.ensures.once }))

pub returns-in-Past-clause-late : goal.returns-in-Past-clause-late
returns-in-Past-clause-late g c =
    let s = rest_scanned c.loop-line.line.items c.cut.new.line.items c.args.self.now c.loop-line.self c.cut.new.self (g.S.Source.left c.args.source.now) (g.S.Source.left c.loop-line.source) c.in_ok-cut.field-0
    c.loop-line.invariant.scanned c.cut.ensures.counts c.in_ok-cut.ensures.cut c.if-branch.false in
    inr (late_after g.S.Source.given g.S.Source.asked _ c.args.self.now c.loop-line.self c.cut.new.self c.args.source.now c.loop-line.source c.fill.new.source _ _ s c.loop-line.invariant.late
    (record { counted = omega (arith, c.loop-line.invariant.counted, c.cut.ensures.counts.taken); last = c.fill.ensures.asked; once = c.fill.ensures.once }))
