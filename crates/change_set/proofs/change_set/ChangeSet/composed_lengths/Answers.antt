use Rattle.std.proofs.Common.{◌≡◌, ℕ, List, IfOk, refl, ap, sym, subst, ◌∙◌}
use Rattle.change_desc.specs.declared.section.Section.{Section}
use Rattle.change_desc.specs.Sections.{spelled, counted, old_size, new_size}
use Rattle.change_desc.specs.Compose.{compose}
use Rattle.change_desc.proofs.Merges.{old_size-lengths, new_size-lengths}
use Rattle.change_set.proofs.Composed.{composed-lengths}
use Rattle.change_set.proofs.change_set.ChangeSet.composed_lengths.Goals as goal

pub compose-requires : goal.compose-requires
compose-requires c =
    ap (new_size counted) c.in_ok-first.ensures ∙ (new_size-lengths spelled c.args.self.now ∙ (c.requires ∙ (sym (old_size-lengths spelled c.args.next.now) ∙ ap old_size (sym c.in_ok-second.ensures))))

pub returns : goal.returns
returns c =
    subst (λ (d : List (Section ℕ)). IfOk c.compose.result (λ both. both ≡ d))
    (composed-lengths c.args.self.now c.args.next.now (compose counted c.in_ok-first.first c.in_ok-second.second) c.in_ok-first.first c.in_ok-second.second c.in_ok-first.ensures c.in_ok-second.ensures refl)
    c.compose.ensures
