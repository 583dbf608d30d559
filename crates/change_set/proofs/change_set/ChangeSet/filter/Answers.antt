use Rattle.std.proofs.Common.{◌<◌, ◌^◌, sym, subst, ◌∙◌}
use Rattle.change_desc.specs.Sections.{Sections, spelled, old_size, new_size}
use Rattle.change_set.specs.declared.half.Half.TheVariants.{Kept, Dropped}
use Rattle.change_set.specs.Protected.{AreJoined}
use Rattle.change_set.proofs.FilterSizes.{half-same}
use Rattle.change_set.proofs.change_set.ChangeSet.filter.Goals as goal

pub half-requires : goal.half-requires
half-requires c =
    let given = c.args.protected.now in
    let j : AreJoined given c.as_slice.result.now = subst (AreJoined given) (sym c.as_slice.ensures.value) c.in_ok-ranges.ensures in
    record {
      apart = j.apart;
      fits = subst (λ (s : Sections). new_size spelled s < 2 ^ 32) (sym (half-same Kept given c.as_slice.result.now (old_size c.args.self.now) c.args.self.now j)) c.requires.kept_fits;
    }

pub half-requires-2 : goal.half-requires-2
half-requires-2 c =
    let given = c.args.protected.now in
    let j : AreJoined given c.as_slice-2.result.now = subst (AreJoined given) (sym c.as_slice-2.ensures.value) c.in_ok-ranges.ensures in
    record {
      apart = j.apart;
      fits = subst (λ (s : Sections). new_size spelled s < 2 ^ 32) (sym (half-same Dropped given c.as_slice-2.result.now (old_size c.args.self.now) c.args.self.now j)) c.requires.dropped_fits;
    }

pub returns : goal.returns
returns c =
    let given = c.args.protected.now in
    let j : AreJoined given c.as_slice.result.now = subst (AreJoined given) (sym c.as_slice.ensures.value) c.in_ok-ranges.ensures in
    let k : AreJoined given c.as_slice-2.result.now = subst (AreJoined given) (sym c.as_slice-2.ensures.value) c.in_ok-ranges.ensures in
    record {
      kept = c.in_ok-kept.ensures.value ∙ half-same Kept given c.as_slice.result.now (old_size c.args.self.now) c.args.self.now j;
      dropped = c.in_ok-dropped.ensures.value ∙ half-same Dropped given c.as_slice-2.result.now (old_size c.args.self.now) c.args.self.now k;
      kept_starts = c.in_ok-kept.ensures.starts;
      dropped_starts = c.in_ok-dropped.ensures.starts;
    }
