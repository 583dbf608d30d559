use Rattle.std.proofs.Common.{◌≡◌, ℕ, true, false, ap, sym, ◌∙◌, arith}
use Rattle.change_desc.specs.declared.section.Section.TheVariants.{Keep, Replace}
use Rattle.change_desc.specs.Filter.{is_inside}
use Rattle.change_set.specs.Protection.{takes}
use Rattle.change_set.proofs.FilterLens.{len_keep, len_insert, len_none, over}
use Rattle.change_set.proofs.filter_len.section_len.Goals as goal

pub returns-in-Keep-clause-sum : goal.returns-in-Keep-clause-sum
returns-in-Keep-clause-sum c =
    over c.args.by.half c.args.by.ranges.now c.args.by.len c.args.at c.args.section.now (Keep c.in-Keep.kept) c.from.result c.in-Keep.is
    (λ s. let e = len_keep c.args.by.half c.args.by.ranges.now c.args.by.len c.args.at c.in-Keep.kept s in omega (arith, e, c.from.ensures))

pub returns-then-takes-clause-sum : goal.returns-then-takes-clause-sum
returns-then-takes-clause-sum c =
    let half = c.args.by.half in
    let rs = c.args.by.ranges.now in
    let len = c.args.by.len in
    let at = c.args.at in
    let t = c.in-Replace.text in
    let k : c.in-Replace.gone ≡ 0 = omega (arith, c.if-gone-gt0.false) in
    let h : takes half (is_inside rs len at) ≡ true = sym (c.takes.ensures ∙ ap (takes half) c.is_inside.ensures) ∙ c.if-takes.true in
    over half rs len at c.args.section.now (Replace 0 t) c.from-then-takes.result (c.in-Replace.is ∙ ap (λ (n : ℕ). Replace n t) k)
    (λ s. let e = len_insert half rs len at t s h in omega (arith, e, c.from-then-takes.ensures, c.len.ensures))

pub returns-else-takes-clause-sum : goal.returns-else-takes-clause-sum
returns-else-takes-clause-sum c =
    let half = c.args.by.half in
    let rs = c.args.by.ranges.now in
    let len = c.args.by.len in
    let at = c.args.at in
    let t = c.in-Replace.text in
    let k : c.in-Replace.gone ≡ 0 = omega (arith, c.if-gone-gt0.false) in
    let h : takes half (is_inside rs len at) ≡ false = sym (c.takes.ensures ∙ ap (takes half) c.is_inside.ensures) ∙ c.if-takes.false in
    over half rs len at c.args.section.now (Replace 0 t) 0 (c.in-Replace.is ∙ ap (λ (n : ℕ). Replace n t) k) (λ s. len_none half rs len at t s h)
