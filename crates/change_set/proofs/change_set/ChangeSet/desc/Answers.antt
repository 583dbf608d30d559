use Rattle.std.proofs.Common.{◌≡◌, ◌+◌, ◌∷◌, ◌++◌, drop, arith, ap, sym, ◌∙◌, refl, subst}
use Rattle.change_desc.specs.Sections.{spelled, counted, lengths, normal, old_of, new_of, old_size, new_size, IsSet}
use Rattle.change_set.proofs.Walks.{next_section, measure-step, measured-whole, is_set-lengths, pushed-old, pushed-new, pushed-normal, measured-old, measured-new}
use Rattle.change_set.proofs.change_set.ChangeSet.desc.Goals as goal

pub loop-section-init : goal.loop-section-init
loop-section-init c =
    let s = c.as_slice-section-items.result.now in
    let h : IsSet spelled s = subst (IsSet spelled) (sym c.as_slice-section-items.ensures) c.self.invariant in
    rw c.new-desc.ensures (record { gives = (is_set-lengths s h).is_normal; is_normal = refl; old = omega arith; new = omega arith })

pub loop-section-preserved : goal.loop-section-preserved
loop-section-preserved c =
    let s = c.as_slice-section-items.result.now in
    let i = c.loop-section.section-index in
    let x = c.section-item.result in
    let e : drop i s ≡ x ∷ drop (i + 1) s = next_section s i x (omega arith) c.section-item.is in
    let k = c.in_ok-push.ensures.ok in
    record {
      gives = measure-step c.loop-section.desc c.push.new.self c.measured.result (lengths spelled (drop (i + 1) s)) (lengths spelled s) k
          (rw c.measured.ensures (ap (λ r. normal counted (c.loop-section.desc ++ lengths spelled r)) (sym e) ∙ c.loop-section.invariant.gives));
      is_normal = pushed-normal c.loop-section.desc c.push.new.self c.measured.result k;
      old = omega (arith, pushed-old c.loop-section.desc c.push.new.self c.measured.result k, ap old_of c.measured.ensures, measured-old x, ap old_size e, c.loop-section.invariant.old);
      new = omega (arith, pushed-new c.loop-section.desc c.push.new.self c.measured.result k, ap (new_of counted) c.measured.ensures, measured-new x, ap (new_size spelled) e, c.loop-section.invariant.new);
    }

pub returns : goal.returns
returns c =
    measured-whole c.loop-section.desc c.as_slice-section-items.result.now c.loop-section.section-index (omega arith) c.loop-section.invariant.is_normal c.loop-section.invariant.gives ∙
    ap (lengths spelled) (c.as_slice-section-items.ensures ∙ c.self.view_is)
