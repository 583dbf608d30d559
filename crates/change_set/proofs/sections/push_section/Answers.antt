use Rattle.std.proofs.Common.{arith, sym, ◌∙◌}
use Rattle.change_desc.specs.Sections.{spelled}
use Rattle.change_desc.proofs.Normal.{spelled_laws, normal-blank}
use Rattle.change_set.proofs.Pushing.{pop_joined, pop_apart, old_of-popped, new_of-popped}
use Rattle.change_set.proofs.sections.push_section.Goals as goal

pub returns-then-does_nothing : goal.returns-then-does_nothing
returns-then-does_nothing c =
    sym (normal-blank spelled spelled_laws c.args.sections.now.items c.args.section (sym c.does_nothing.ensures ∙ c.if-does_nothing.true) ∙ c.requires.is_normal)

pub joined-requires : goal.joined-requires
joined-requires c =
    record {
      old_fits = omega (arith, old_of-popped spelled spelled_laws c.args.sections.now.items c.pop.new.self.items c.in-Some.last c.in-Some.ensures.items);
      new_fits = omega (arith, new_of-popped spelled spelled_laws c.args.sections.now.items c.pop.new.self.items c.in-Some.last c.in-Some.ensures.items);
    }

pub returns-in_ok-push-in-Some : goal.returns-in_ok-push-in-Some
returns-in_ok-push-in-Some c =
    c.in_ok-push-in-Some.ensures.ok ∙
    rw c.in_ok-both-in-Some.ensures
    (pop_joined spelled spelled_laws c.args.sections.now.items c.pop.new.self.items c.in-Some.last c.args.section c.in-Some.ensures.items c.requires.is_normal
    (sym c.does_nothing.ensures ∙ c.if-does_nothing.false) (cc))

pub returns-in_ok-push-in-Some-3 : goal.returns-in_ok-push-in-Some-3
returns-in_ok-push-in-Some-3 c =
    rw (c.in_ok-push-in-Some-3.ensures.ok, c.in_ok-push-in-Some-2.ensures.ok)
    (pop_apart spelled spelled_laws c.args.sections.now.items c.pop.new.self.items c.in-Some.last c.args.section c.in-Some.ensures.items c.requires.is_normal
    (sym c.does_nothing.ensures ∙ c.if-does_nothing.false) (cc))
