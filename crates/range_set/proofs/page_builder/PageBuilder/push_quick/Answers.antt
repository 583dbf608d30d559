use Rattle.std.proofs.Common.{length, ap, sym, subst, ◌∙◌, arith}
use Rattle.std.proofs.lemmas.List.{length-append}
use Rattle.range_set.specs.PrivateChunks.{flat, spread}
use Rattle.range_set.specs.PrivatePages.{AreGrowing, laid}
use Rattle.range_set.proofs.Groups.{flat-spread_append}
use Rattle.range_set.proofs.WholePages.{grown_more}
use Rattle.range_set.proofs.page_builder.PageBuilder.push_quick.Goals as goal

pub invariant_of-self : goal.invariant_of-self
invariant_of-self g c =
    let at = c.self.inside in
    let whole = ap (λ gs. length (flat (spread gs))) c.self.view_is in
    let parts = ap length (flat-spread_append (laid at.done.items) at.growing.items) ∙ length-append (flat (spread (laid at.done.items))) (flat (spread at.growing.items)) in
    let room = c.requires.room in
    record {
      pages = c.self.invariant.pages;
      groups = subst (AreGrowing g.T.RangeValue.rules at.start) (sym c.push_reserved.ensures.items)
          (grown_more g.T.RangeValue.rules at.start at.growing.items c.args.placed c.self.invariant.groups c.requires.group c.requires.some (let l = c.if-placed-self.false in omega (arith, l))
          (λ e. let n = ap length e in let len = c.len-len.ensures in let k = at.growing.ok.0 in absurd (c.if-len-eq0.false (omega (arith, len, k, n)))) (omega (arith, whole, parts, room)));
    }
