use Rattle.std.proofs.Common.{◌≡◌, false, [], ◌∷◌, None, Some, sym, ap, subst, ◌∙◌}
use Rattle.change_desc.specs.Sections.{spelled, old_size, new_size}
use Rattle.change_desc.proofs.Merges.{old_size-lengths}
use Rattle.collab.specs.Lengths.{too_long}
use Rattle.collab.specs.Clients.{set_over}
use Rattle.collab.proofs.Crossings.{mapped-size}
use Rattle.collab.proofs.crossing.cross.Goals as goal

pub mapped_len-requires : goal.mapped_len-requires
mapped_len-requires c =
    ap old_size c.in_ok-others.ensures ∙
    (old_size-lengths spelled c.args.taken.now ∙ (sym c.requires ∙ (sym (old_size-lengths spelled c.args.update.now.changes) ∙ sym (ap old_size c.in_ok-own.ensures))))

pub returns-in-Some-clause-refused : goal.returns-in-Some-clause-refused
returns-in-Some-clause-refused c =
    let e : c.mapped_len.result ≡ new_size spelled (set_over c.args.taken.now c.args.update.now.changes) =
    c.mapped_len.ensures false ∙ mapped-size c.args.taken.now c.args.update.now.changes c.in_ok-own.own c.in_ok-others.others c.in_ok-own.ensures c.in_ok-others.ensures in
    λ n. subst (λ m. too_long (m ∷ []) ≡ Some c.in-Some.error) e (sym c.long.ensures ∙ c.in-Some.is)

pub returns-clause-short : goal.returns-clause-short
returns-clause-short c =
    let e : c.mapped_len.result ≡ new_size spelled (set_over c.args.taken.now c.args.update.now.changes) =
    c.mapped_len.ensures false ∙ mapped-size c.args.taken.now c.args.update.now.changes c.in_ok-own.own c.in_ok-others.others c.in_ok-own.ensures c.in_ok-others.ensures in
    subst (λ m. too_long (m ∷ []) ≡ None) e (sym c.long.ensures ∙ c.in-None.is)
