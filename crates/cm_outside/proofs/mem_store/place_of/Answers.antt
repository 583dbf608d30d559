use Rattle.std.proofs.Common.{[], sym, arith, rules, length, ◌<◌, ◌≡◌, ap, ◌∙◌, subst}
use Rattle.std.proofs.lemmas.List.Sums.{position_or_len_is}
use Rattle.cm_outside.specs.MemFiles.{FileView, is_named}
use Rattle.cm_outside.proofs.MemFiles.{has_name}
use Rattle.cm_outside.proofs.mem_store.place_of.Goals as goal

pub returns-then-same : goal.returns-then-same
returns-then-same c =
    let d : FileView = c.index-files-place.result in
    let same : c.file.inside.name ≡ c.args.name.now = search rules in
    let name : d.name ≡ c.args.name.now = search (rules, same) in
    sym (position_or_len_is (is_named c.args.name.now) c.args.files.now c.loop-place.place d (search rules) (λ k lt. c.loop-place.invariant k d lt)
    (λ lt. ap (is_named c.args.name.now) (sym c.index-files-place.is) ∙ has_name d c.args.name.now name))

pub returns : goal.returns
returns c =
    let d : FileView = record { name = []; bytes = [] } in
    let all : c.loop-place.place ≡ length c.args.files.now = search rules in
    sym (position_or_len_is (is_named c.args.name.now) c.args.files.now (length c.args.files.now) d (search rules)
    (λ k lt. c.loop-place.invariant k d (subst (λ n. k < n) (sym all) lt)) (λ lt. absurd (omega (arith, lt))))
