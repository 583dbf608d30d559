use Rattle.std.proofs.Common.{◌≡◌, ◌+◌, ◌++◌, ◌∷◌, [], List, drop, sym, ap, subst, ◌∙◌, arith, append_assoc}
use Rattle.change_desc.specs.Sections.{spelled, new_size, old_size}
use Rattle.collab.specs.declared.update.Update.{Update}
use Rattle.collab.specs.Updates.{LeadOn}
use Rattle.collab.specs.Lengths.{too_long}
use Rattle.collab.specs.Clients.{crossed, set_before, update_over}
use Rattle.collab.proofs.Crossings.{going-old}
use Rattle.collab.proofs.Texts.{sizes, none-first}
use Rattle.collab.proofs.Items.{next-item}
use Rattle.collab.proofs.crossing.all_crossed.Goals as goal

pub loop-update-preserved : goal.loop-update-preserved
loop-update-preserved c =
    let rest : List Update = drop (c.loop-update.update-index + 1) c.args.updates.now in
    let u : Update = c.update-item.result in
    let d : drop c.loop-update.update-index c.args.updates.now ≡ u ∷ rest =
    next-item c.args.updates.now c.loop-update.update-index u (omega arith) c.update-item.is in
    let l : LeadOn (old_size c.loop-update.over) (u ∷ rest) = subst (LeadOn (old_size c.loop-update.over)) d c.loop-update.invariant.leads in
    let t : c.in_ok-both.both.taken ≡ set_before c.loop-update.over u.changes = c.in_ok-both.ensures.taken in
    let m : c.in_ok-both.both.update ≡ update_over c.loop-update.over u = c.in_ok-both.ensures.update in
    record {
      leads = subst (λ n. LeadOn n rest) (sym (ap old_size t ∙ going-old c.loop-update.over u l.0)) l.1;
      mapped =
          ap (λ us. us ++ (crossed c.in_ok-both.both.taken rest).updates) c.in_ok-push.ensures ∙
          (append_assoc c.loop-update.mapped.items (c.in_ok-both.both.update ∷ []) (crossed c.in_ok-both.both.taken rest).updates ∙
          (ap (λ x. c.loop-update.mapped.items ++ x ∷ (crossed c.in_ok-both.both.taken rest).updates) m ∙
          (ap (λ x. c.loop-update.mapped.items ++ update_over c.loop-update.over u ∷ (crossed x rest).updates) t ∙
          (sym (ap (λ us. c.loop-update.mapped.items ++ (crossed c.loop-update.over us).updates) d) ∙ c.loop-update.invariant.mapped))));
      goes = ap (λ x. (crossed x rest).taken) t ∙ (sym (ap (λ us. (crossed c.loop-update.over us).taken) d) ∙ c.loop-update.invariant.goes);
      long =
          ap (λ x. too_long (sizes (crossed x rest).updates)) t ∙
          (sym (none-first (new_size spelled (update_over c.loop-update.over u).changes) (sizes (crossed (set_before c.loop-update.over u.changes) rest).updates) c.in_ok-both.ensures.short) ∙
          (sym (ap (λ us. too_long (sizes (crossed c.loop-update.over us).updates)) d) ∙ c.loop-update.invariant.long));
    }
