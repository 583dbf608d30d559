use Rattle.std.proofs.Common.{◌-◌, ◌<◌, length, get_or, sym, ◌∙◌, arith}
use Rattle.change_desc.specs.Sections.{counted}
use Rattle.change_desc.specs.declared.section.Section.TheVariants.{Keep}
use Rattle.change_desc.proofs.Normal.{counted_laws, normal-blank}
use Rattle.change_desc.proofs.Pushes.{push_joined, push_apart, push_first, old_of-read, new_of-read, get_or-any, refill-set}
use Rattle.change_desc.proofs.sections.push_section.Goals as goal
use Rattle.change_desc.proofs.sections.push_section.Goals.{then-len-gt0+in_default, else-len-gt0}

pub returns-then-is_blank-clause-ok : goal.returns-then-is_blank-clause-ok
returns-then-is_blank-clause-ok c =
    sym (normal-blank counted counted_laws c.args.sections.now.items c.args.section (sym c.is_blank.ensures ∙ c.if-is_blank.true) ∙ c.requires.is_normal)

pub join-requires-clause-old_fits : goal.join-requires-clause-old_fits
join-requires-clause-old_fits c =
    rw c.deref.ensures
    (let at = c.len-last.result - 1 in
    let l : at < length c.args.sections.now.items = omega arith in
    omega (arith, old_of-read counted counted_laws c.args.sections.now.items at (get_or c.args.sections.now.items at (Keep 0)) l (get_or-any c.args.sections.now.items at _ _ l)))

pub join-requires-clause-new_fits : goal.join-requires-clause-new_fits
join-requires-clause-new_fits c =
    rw c.deref.ensures
    (let at = c.len-last.result - 1 in
    let l : at < length c.args.sections.now.items = omega arith in
    omega (arith, new_of-read counted counted_laws c.args.sections.now.items at (get_or c.args.sections.now.items at (Keep 0)) l (get_or-any c.args.sections.now.items at _ _ l)))

pub returns-in-Some-clause-ok : goal.returns-in-Some-clause-ok
returns-in-Some-clause-ok c =
    let at = c.len-last.result - 1 in
    let s = c.args.sections.now.items in
    let l : at < length s = omega arith in
    rw c.deref_mut.ensures.value
    (refill-set s at c.in-Some.both ∙
    (rw ((c.in-Some.ensures).1, c.deref.ensures)
    (push_joined counted counted_laws s at (get_or s at (Keep 0)) c.args.section (omega arith) (get_or-any s at _ _ l) c.requires.is_normal
    (sym c.is_blank.ensures ∙ c.if-is_blank.false) (rw c.deref.ensures at (c.in-Some.ensures).0))))

pub returns-clause-ok : goal.returns-clause-ok
returns-clause-ok c =
    let s = c.args.sections.now.items in
    elim c.if-len-gt0.branch [
      | then-len-gt0+in_default w ↦
          let at = w.len-last.result - 1 in
          let l : at < length s = omega arith in
          c.in_ok-push.ensures.ok ∙
          push_apart counted counted_laws s at (get_or s at (Keep 0)) c.args.section (omega arith) (get_or-any s at _ _ l) c.requires.is_normal
          (sym c.is_blank.ensures ∙ c.if-is_blank.false) (rw w.deref.ensures at w.in_default.ensures)
      | else-len-gt0 w ↦ c.in_ok-push.ensures.ok ∙ push_first counted counted_laws s c.args.section (omega arith) (sym c.is_blank.ensures ∙ c.if-is_blank.false)
    ]
