use Rattle.std.proofs.Common.{◌≡◌, ◌+◌, ◌∷◌, ℕ, true, refl, ap, sym, ◌∙◌, arith}
use Rattle.change_desc.specs.declared.section.Section.TheVariants.{Keep, Replace}
use Rattle.change_desc.specs.Sections.{spelled, old_of}
use Rattle.change_desc.specs.Columns.{along_old}
use Rattle.change_desc.specs.Filter.{is_inside}
use Rattle.change_set.specs.Protection.{takes, pieced, half_from, taking}
use Rattle.change_set.proofs.Filtering.{Fits, filter-push, filter-fits}
use Rattle.change_set.proofs.Runs.{ended-later}
use Rattle.change_set.proofs.FilterWalk.{keep_on, insert_on, filtered-normal}
use Rattle.change_set.proofs.filter.push_filtered.Goals as goal

pub push_section-requires : goal.push_section-requires
push_section-requires c =
    let half = c.args.by.half in
    let rs = c.args.by.ranges.now in
    let len = c.args.by.len in
    let at = c.args.at in
    let p = c.args.done.now.items in
    let s = c.requires.room.0 in
    let all = half_from (taking half rs len) p at (c.args.section.now ∷ s) in
    let f : Fits p (Keep c.in-Keep.kept) all =
    filter-fits p (pieced (taking half rs len) at (along_old spelled (Keep c.in-Keep.kept ∷ s))) (pieced (taking half rs len) (at + c.in-Keep.kept) (along_old spelled s)) all (Keep c.in-Keep.kept)
    (keep_on half rs len at c.in-Keep.kept s) (ap (λ x. half_from (taking half rs len) p at (x ∷ s)) (sym c.in-Keep.is)) in
    record { is_normal = c.requires.is_normal; old_fits = omega (arith, f.old_fits, c.requires.room.1.old_fits); new_fits = omega (arith, f.new_fits, c.requires.room.1.new_fits) }

pub push_section-requires-then-takes : goal.push_section-requires-then-takes
push_section-requires-then-takes c =
    let half = c.args.by.half in
    let rs = c.args.by.ranges.now in
    let len = c.args.by.len in
    let at = c.args.at in
    let p = c.args.done.now.items in
    let t = c.in-Replace.text in
    let u = c.in_ok-copy-in-Replace.copy in
    let k : c.in-Replace.gone ≡ 0 = omega (arith, c.if-gone-gt0.false) in
    let z : c.args.section.now ≡ Replace 0 t = c.in-Replace.is ∙ ap (λ (n : ℕ). Replace n t) k in
    let h : takes half (is_inside rs len at) ≡ true = sym (c.takes.ensures ∙ ap (takes half) c.is_inside.ensures) ∙ c.if-takes.true in
    let s = c.requires.room.0 in
    let all = half_from (taking half rs len) p at (c.args.section.now ∷ s) in
    let f : Fits p (Replace 0 u) all =
    filter-fits p (pieced (taking half rs len) at (along_old spelled (Replace 0 t ∷ s))) (pieced (taking half rs len) (at + 0) (along_old spelled s)) all (Replace 0 u)
    (insert_on half rs len at t u s h c.in_ok-copy-in-Replace.ensures) (ap (λ x. half_from (taking half rs len) p at (x ∷ s)) (sym z)) in
    record { is_normal = c.requires.is_normal; old_fits = omega (arith, f.old_fits, c.requires.room.1.old_fits); new_fits = omega (arith, f.new_fits, c.requires.room.1.new_fits) }

pub returns-in_ok-push_section-in-Keep : goal.returns-in_ok-push_section-in-Keep
returns-in_ok-push_section-in-Keep c =
    let half = c.args.by.half in
    let rs = c.args.by.ranges.now in
    let len = c.args.by.len in
    let at = c.args.at in
    let p = c.args.done.now.items in
    let n = c.in-Keep.kept in
    record {
      ended = ended-later rs c.ended-count.result at (at + old_of c.args.section.now) (omega arith) c.ended-count.ensures.ended;
      is_normal = filtered-normal p c.push_section.new.sections.items (Keep n) c.in_ok-push_section-in-Keep.ensures;
      rest = λ s.
          ap (λ x. half_from (taking half rs len) c.push_section.new.sections.items (at + old_of x) s) c.in-Keep.is ∙
          (filter-push p c.push_section.new.sections.items (pieced (taking half rs len) at (along_old spelled (Keep n ∷ s))) (pieced (taking half rs len) (at + n) (along_old spelled s))
          (half_from (taking half rs len) p at (Keep n ∷ s)) (Keep n) c.in_ok-push_section-in-Keep.ensures (keep_on half rs len at n s) refl ∙
          ap (λ x. half_from (taking half rs len) p at (x ∷ s)) (sym c.in-Keep.is));
    }

pub returns-in_ok-push_section-in-Replace : goal.returns-in_ok-push_section-in-Replace
returns-in_ok-push_section-in-Replace c =
    let half = c.args.by.half in
    let rs = c.args.by.ranges.now in
    let len = c.args.by.len in
    let at = c.args.at in
    let p = c.args.done.now.items in
    let t = c.in-Replace.text in
    let u = c.in_ok-copy-in-Replace.copy in
    let k : c.in-Replace.gone ≡ 0 = omega (arith, c.if-gone-gt0.false) in
    let z : c.args.section.now ≡ Replace 0 t = c.in-Replace.is ∙ ap (λ (n : ℕ). Replace n t) k in
    let h : takes half (is_inside rs len at) ≡ true = sym (c.takes.ensures ∙ ap (takes half) c.is_inside.ensures) ∙ c.if-takes.true in
    let new = c.push_section-then-takes.new.sections.items in
    record {
      ended = ended-later rs c.ended-count.result at (at + old_of c.args.section.now) (omega arith) c.ended-count.ensures.ended;
      is_normal = filtered-normal p new (Replace 0 u) c.in_ok-push_section-in-Replace.ensures;
      rest = λ s.
          ap (λ x. half_from (taking half rs len) new (at + old_of x) s) z ∙
          (filter-push p new (pieced (taking half rs len) at (along_old spelled (Replace 0 t ∷ s))) (pieced (taking half rs len) (at + 0) (along_old spelled s))
          (half_from (taking half rs len) p at (Replace 0 t ∷ s)) (Replace 0 u) c.in_ok-push_section-in-Replace.ensures (insert_on half rs len at t u s h c.in_ok-copy-in-Replace.ensures) refl ∙
          ap (λ x. half_from (taking half rs len) p at (x ∷ s)) (sym z));
    }
