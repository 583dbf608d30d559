-- What change filters say together.
use Rattle.std.proofs.Common.{◌≡◌, ℕ, ◌+◌, ◌<◌, ◌≤◌, List, [], ◌∷◌, length, get_or, drop, refl, sym, ap, ◌∙◌, append_assoc}
use Rattle.std.proofs.lemmas.List.{at_drop_more, at_drop_all}
use Rattle.values.specs.declared.answers.Guarding.{Guarding}
use Rattle.values.specs.declared.answers.Guarding.TheVariants.{All, Nothing, Protected}
use Rattle.values.specs.declared.val.Val.{Val}
use Rattle.values.specs.Rules.{Rules}
use Rattle.values.specs.Views.{TransactionView}
use Rattle.filters.specs.Guards.{both, guarding}

both-assoc : (a b c : Guarding) → both (both a b) c ≡ both a (both b c)
both-assoc All b c = refl
both-assoc Nothing b c = refl
both-assoc (Protected rs) All c = refl
both-assoc (Protected rs) Nothing c = refl
both-assoc (Protected rs) (Protected qs) All = refl
both-assoc (Protected rs) (Protected qs) Nothing = refl
both-assoc (Protected rs) (Protected qs) (Protected ps) = ap Protected (append_assoc rs qs ps)

both-all : (a : Guarding) → both a All ≡ a
both-all All = refl
both-all Nothing = refl
both-all (Protected rs) = refl

module _ (rules : Rules) (filter_data : Val) (t : TransactionView) (ns : List ℕ) (i : ℕ) (said o : Guarding) (turn : both said (guarding rules filter_data t (drop i ns)) ≡ o) where
  -- one more is asked
  pub next-guard : (answer next : Guarding) → i < length ns → answer ≡ rules.guard (get_or ns i 0) t filter_data → next ≡ both said answer →
      both next (guarding rules filter_data t (drop (i + 1) ns)) ≡ o
  next-guard answer next lt a e =
      ap (λ g. both g (guarding rules filter_data t (drop (i + 1) ns))) (e ∙ ap (both said) a) ∙
      (both-assoc said (rules.guard (get_or ns i 0) t filter_data) (guarding rules filter_data t (drop (i + 1) ns)) ∙
      (sym (at_drop_more (λ ms. both said (guarding rules filter_data t ms)) ns i 0 lt) ∙ turn))

  -- none is left
  pub last-guard : length ns ≤ i → said ≡ o
  last-guard le = sym (both-all said) ∙ (sym (at_drop_all (λ ms. both said (guarding rules filter_data t ms)) ns i le) ∙ turn)

-- after one that lets nothing stay
pub nothing-left : (said rest o : Guarding) → said ≡ Nothing → both said rest ≡ o → said ≡ o
nothing-left said rest o e h = e ∙ (sym (ap (λ g. both g rest) e) ∙ h)
