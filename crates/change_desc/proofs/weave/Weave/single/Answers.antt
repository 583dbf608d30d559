use Rattle.std.proofs.Common.{◌++◌, ◌∷◌, [], arith, ◌∙◌, ap}
use Rattle.change_desc.specs.declared.section.Section.TheVariants.{Replace}
use Rattle.change_desc.specs.Sections.{counted, normal}
use Rattle.change_desc.proofs.Weaves.{takes_single, flushed-is_normal, flushed-old, flushed-new}
use Rattle.change_desc.proofs.weave.Weave.single.Goals as goal

pub push_section-requires-clause-is_normal : goal.push_section-requires-clause-is_normal
push_section-requires-clause-is_normal c =
    flushed-is_normal (c.args.self.now.sections.items ++ Replace c.args.self.now.count c.args.self.now.len ∷ []) c.flush.new.self.sections.items c.in_ok-flush.ensures.0

pub push_section-requires-clause-old_fits : goal.push_section-requires-clause-old_fits
push_section-requires-clause-old_fits c = omega (arith, flushed-old c.args.self.now.sections.items c.flush.new.self.sections.items c.args.self.now.count c.args.self.now.len c.in_ok-flush.ensures.0)

pub push_section-requires-clause-new_fits : goal.push_section-requires-clause-new_fits
push_section-requires-clause-new_fits c = omega (arith, flushed-new c.args.self.now.sections.items c.flush.new.self.sections.items c.args.self.now.count c.args.self.now.len c.in_ok-flush.ensures.0)

pub returns : goal.returns
returns c =
    takes_single c.args.self.now (record { sections = c.push_section.new.sections; count = c.flush.new.self.count; len = c.flush.new.self.len }) c.args.section c.requires.not_blank
    (c.in_ok-push_section.ensures.ok ∙ ap (λ s. normal counted (s ++ c.args.section ∷ [])) c.in_ok-flush.ensures.0) c.in_ok-flush.ensures.1 c.in_ok-flush.ensures.2
