use Rattle.std.proofs.Common.{◌≡◌, ◌+◌, arith, ap, refl}
use Rattle.change_desc.specs.Sections.{spelled, new_size}
use Rattle.change_desc.specs.Of.{span, then_also}
use Rattle.change_set.specs.Ascents.{total_of}
use Rattle.change_set.specs.declared.error.ChangesError.TheVariants.{TooLong}
use Rattle.change_set.proofs.Ascending.{Put, put, grows}
use Rattle.change_set.proofs.ascent.Ascent.put.Goals as goal

pub returns-then-len-from-clause-refused : goal.returns-then-len-from-clause-refused
returns-then-len-from-clause-refused c =
    let a = c.args.self.now in
    let p : Put a c.args.from c.args.to c.args.insert.now = put a c.args.from c.args.to c.args.insert.now c.requires.is_ascent c.requires.follows c.requires.order c.requires.within in
    let e : c.from.result + c.from-2.result ≡ new_size spelled (then_also spelled (total_of a) (span spelled a.len c.args.from c.args.to c.args.insert.now)) =
    omega (arith, p.size, c.from.ensures, c.from-2.ensures, c.len.ensures) in
    λ n. record { says = ap (λ k. TooLong k c.args.max) e; longer = omega (arith, e, c.if-len-from.true, c.from-3.ensures) }

pub returns-clause-grows : goal.returns-clause-grows
returns-clause-grows c =
    grows c.args.max c.args.from c.args.to c.args.insert.now c.args.self.now _ c.requires.is_ascent c.requires.follows c.requires.order c.requires.within c.in_ok-push_span.ensures refl refl
    (omega (arith, c.from.ensures, c.from-2.ensures, c.len.ensures)) (omega (arith, c.if-len-from.false, c.from-3.ensures)) c.ranges.max.fits
