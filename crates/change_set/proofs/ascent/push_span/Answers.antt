use Rattle.std.proofs.Common.{◌≡◌, arith, ap, subst, ◌∷◌, [], ◌++◌, ◌∙◌, length, OnOk, List, ℕ}
use Rattle.change_desc.specs.declared.section.Section.{Section}
use Rattle.change_desc.specs.declared.section.Section.TheVariants.{Keep, Replace}
use Rattle.change_desc.specs.Sections.{Sections, spelled, normal}
use Rattle.change_set.proofs.Ascending.{push_twice, push-normal, push-old, push-new}
use Rattle.change_set.proofs.ascent.push_span.Goals as goal

pub push_section-requires-2-clause-is_normal : goal.push_section-requires-2-clause-is_normal
push_section-requires-2-clause-is_normal c = push-normal c.args.sections.now.items c.push_section.new.sections.items (Keep c.args.kept) c.in_ok-push_section.ensures

pub push_section-requires-2-clause-old_fits : goal.push_section-requires-2-clause-old_fits
push_section-requires-2-clause-old_fits c =
    omega (arith, push-old c.args.sections.now.items c.push_section.new.sections.items (Keep c.args.kept) c.in_ok-push_section.ensures, c.requires.old_fits)

pub push_section-requires-2-clause-new_fits : goal.push_section-requires-2-clause-new_fits
push_section-requires-2-clause-new_fits c =
    omega (arith, push-new c.args.sections.now.items c.push_section.new.sections.items (Keep c.args.kept) c.in_ok-push_section.ensures, ap length c.in_ok-text.ensures, c.requires.new_fits)

pub returns : goal.returns
returns c =
    let y : Section (List ℕ) = Replace c.args.count c.in_ok-text.text in
    let e : normal spelled (c.push_section.new.sections.items ++ y ∷ []) ≡ normal spelled (c.args.sections.now.items ++ Keep c.args.kept ∷ Replace c.args.count c.args.insert.now ∷ []) =
    push_twice c.args.sections.now.items c.push_section.new.sections.items (Keep c.args.kept) y c.in_ok-push_section.ensures
    ∙ ap (λ (t : List ℕ). normal spelled (c.args.sections.now.items ++ Keep c.args.kept ∷ Replace c.args.count t ∷ [])) c.in_ok-text.ensures in
    subst (λ (r : Sections). OnOk c.push_section-2.result (c.push_section-2.new.sections.items ≡ r)) e c.push_section-2.ensures
