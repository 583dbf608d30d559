use Rattle.std.proofs.Common.{◌<◌, ◌^◌, ℕ, ap, sym, subst, ◌∙◌}
use Rattle.change_desc.specs.Sections.{spelled, old_size}
use Rattle.change_desc.specs.Compose.{compose}
use Rattle.change_desc.proofs.Merges.{old_size-lengths}
use Rattle.change_set.proofs.RunningTotals.{also-moved, also-meets, also-is}
use Rattle.change_set.proofs.change_set.ChangeSet.and_also.Goals as goal

pub map-requires : goal.map-requires
map-requires c =
    let total = c.args.self.now in
    let set = c.args.set.now in
    record {
      meet = ap old_size c.in_ok-done.ensures ∙ (old_size-lengths spelled total ∙ sym c.requires.meet);
      fits = subst (λ (n : ℕ). n < 2 ^ 32) (sym (also-moved total set c.in_ok-done.done c.in_ok-done.ensures c.requires.meet)) c.requires.fits;
    }

pub compose-requires : goal.compose-requires
compose-requires c =
    also-meets c.args.self.now c.args.set.now c.in_ok-done.done c.in_ok-done.ensures c.requires.meet ∙ ap old_size (sym c.in_ok-moved.ensures.mapped)

pub returns : goal.returns
returns c =
    c.in_ok-total.ensures.both ∙ (ap (compose spelled c.args.self.now) c.in_ok-moved.ensures.mapped ∙ also-is c.args.self.now c.args.set.now c.in_ok-done.done c.in_ok-done.ensures)
