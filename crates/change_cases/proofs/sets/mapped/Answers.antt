use Rattle.std.proofs.Common.{◌≡◌, ap, sym, ◌∙◌, arith}
use Rattle.change_desc.specs.Sections.{spelled, counted, lengths, new_size, old_size}
use Rattle.change_desc.specs.Map.{map_over}
use Rattle.change_desc.proofs.Lengths.{spelled_sizes, map_over-lengths}
use Rattle.change_desc.proofs.Merges.{old_size-lengths, new_size-lengths}
use Rattle.change_cases.proofs.sets.mapped.Goals as goal

pub map-requires-clause-meet : goal.map-requires-clause-meet
map-requires-clause-meet c =
    omega (arith, c.len.ensures, c.len-2.ensures, ap old_size c.in_ok-own.ensures, old_size-lengths spelled c.args.set.now, c.if-len.true)

pub map-requires-clause-fits : goal.map-requires-clause-fits
map-requires-clause-fits c =
    let s = c.args.set.now in
    let d = c.in_ok-over.over in
    let e : c.mapped_len.result ≡ new_size spelled (map_over spelled s d c.args.before) =
    c.mapped_len.ensures c.args.before ∙ (ap (λ r. new_size counted (map_over counted r d c.args.before)) c.in_ok-own.ensures ∙
    (ap (new_size counted) (sym (map_over-lengths spelled spelled_sizes s d c.args.before)) ∙ new_size-lengths spelled (map_over spelled s d c.args.before))) in
    omega (arith, e, c.if-mapped_len-lt100.true)
