use Rattle.std.proofs.Common.{◌≡◌, Some, cond, sym, ap, ◌∙◌}
use Rattle.std.proofs.lemmas.Bool.{eq-eqb}
use Rattle.collab.specs.declared.error.CollabError.TheVariants.{Stale}
use Rattle.collab.specs.Lengths.{lengths_after, too_long}
use Rattle.collab.specs.Authorities.{CanTake, latest, update_count}
use Rattle.collab.proofs.Texts.{lengths-sizes}
use Rattle.collab.proofs.authority.Authority.push.Goals as goal

pub returns-in-Some-clause-refused : goal.returns-in-Some-clause-refused
returns-in-Some-clause-refused c =
    let e : c.args.version ≡ update_count c.args.self.now = c.if-version-latest.false ∙ c.version-latest.ensures in
    let t : CanTake c.args.self.now c.args.name.now c.args.updates.now = c.requires.takes e in
    λ n. ap (λ b. cond b (too_long (lengths_after (latest c.args.self.now) c.args.updates.now)) (Some (Stale (update_count c.args.self.now)))) (eq-eqb c.args.version (update_count c.args.self.now) e) ∙
    (ap too_long (lengths-sizes c.args.updates.now (latest c.args.self.now) t.leads) ∙ (sym c.first_long.ensures ∙ c.in-Some.is))

pub take-requires-clause-short : goal.take-requires-clause-short
take-requires-clause-short c =
    let e : c.args.version ≡ update_count c.args.self.now = c.if-version-latest.false ∙ c.version-latest.ensures in
    ap too_long (lengths-sizes c.args.updates.now (latest c.args.self.now) (c.requires.takes e).leads) ∙ (sym c.first_long.ensures ∙ c.in_default.is)

pub returns-clause-accepted : goal.returns-clause-accepted
returns-clause-accepted c =
    let e : c.args.version ≡ update_count c.args.self.now = c.if-version-latest.false ∙ c.version-latest.ensures in
    ap (λ b. cond b (too_long (lengths_after (latest c.args.self.now) c.args.updates.now)) (Some (Stale (update_count c.args.self.now)))) (eq-eqb c.args.version (update_count c.args.self.now) e) ∙
    (ap too_long (lengths-sizes c.args.updates.now (latest c.args.self.now) (c.requires.takes e).leads) ∙ (sym c.first_long.ensures ∙ c.in_default.is))
