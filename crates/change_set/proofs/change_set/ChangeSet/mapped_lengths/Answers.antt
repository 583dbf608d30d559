use Rattle.std.proofs.Common.{◌≡◌, ◌<◌, ◌^◌, ℕ, List, IfOk, refl, ap, sym, subst, ◌∙◌}
use Rattle.change_desc.specs.declared.section.Section.{Section}
use Rattle.change_desc.specs.Sections.{spelled, counted, old_size, new_size}
use Rattle.change_desc.specs.Map.{map_over}
use Rattle.change_desc.proofs.Merges.{old_size-lengths, new_size-lengths}
use Rattle.change_set.proofs.Composed.{mapped-lengths}
use Rattle.change_set.proofs.change_set.ChangeSet.mapped_lengths.Goals as goal

pub map-requires : goal.map-requires
map-requires c =
    let b = c.args.self.now in
    let o = c.args.over.now in
    let m = mapped-lengths b o c.args.before (map_over counted c.in_ok-own.own o c.args.before) c.in_ok-own.own c.in_ok-own.ensures refl in
    record {
      meet = c.requires.meet ∙ (sym (old_size-lengths spelled b) ∙ ap old_size (sym c.in_ok-own.ensures));
      fits = subst (λ (n : ℕ). n < 2 ^ 32) (sym (ap (new_size counted) m ∙ new_size-lengths spelled (map_over spelled b o c.args.before))) c.requires.fits;
    }

pub returns : goal.returns
returns c =
    let o = c.args.over.now in
    subst (λ (d : List (Section ℕ)). IfOk c.map.result (λ mapped. mapped ≡ d))
    (mapped-lengths c.args.self.now o c.args.before (map_over counted c.in_ok-own.own o c.args.before) c.in_ok-own.own c.in_ok-own.ensures refl) c.map.ensures
