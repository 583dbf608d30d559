use Rattle.std.proofs.Common.{◌≡◌, ◌<◌, ◌^◌, ℕ, List, IfOk, length, refl, ap, sym, subst, ◌∙◌}
use Rattle.change_desc.specs.Sections.{spelled, lengths, old_size, IsSet}
use Rattle.change_desc.specs.Compose.{compose}
use Rattle.change_set.specs.Texts.{written, texts_between, kept_marks}
use Rattle.change_set.proofs.Composed.{back-unmarked, back-old, back-texts}
use Rattle.change_set.proofs.Sizes.{composed-fits}
use Rattle.change_set.proofs.change_set.ChangeSet.composed_text.Goals as goal

pub texts_between-requires : goal.texts_between-requires
texts_between-requires c =
    let a = c.args.self.now in
    let b = c.args.next.now in
    let d = c.sections.result.now in
    let w = c.in_ok-own.own.characters in
    let e = c.sections.ensures ∙ c.in_ok-back.ensures in
    let n = c.as_slice.ensures ∙ c.next.view_is in
    let i : IsSet spelled a = subst (IsSet spelled) c.self.view_is c.self.invariant in
    let j : IsSet spelled b = subst (IsSet spelled) c.next.view_is c.next.invariant in
    let t : texts_between (kept_marks d) w c.as_slice.result.now ≡ written (compose spelled a b) =
    ap (texts_between (kept_marks d) w) n ∙ back-texts a b d (lengths spelled a) w refl e c.in_ok-own.ensures c.requires in
    record {
      meet = back-old a d (lengths spelled a) refl e ∙ (c.requires ∙ ap old_size (sym n));
      texts = back-unmarked a d (lengths spelled a) refl e ∙ ap length (sym c.in_ok-own.ensures);
      fits = subst (λ (r : List ℕ). length r < 2 ^ 32) (sym t) (composed-fits a b j c.requires);
    }

pub returns : goal.returns
returns c =
    let a = c.args.self.now in
    let b = c.args.next.now in
    let d = c.sections.result.now in
    let w = c.in_ok-own.own.characters in
    let t : texts_between (kept_marks d) w c.as_slice.result.now ≡ written (compose spelled a b) =
    ap (texts_between (kept_marks d) w) (c.as_slice.ensures ∙ c.next.view_is) ∙
    back-texts a b d (lengths spelled a) w refl (c.sections.ensures ∙ c.in_ok-back.ensures) c.in_ok-own.ensures c.requires in
    subst (λ (r : List ℕ). IfOk c.texts_between.result (λ text. text.characters ≡ r)) t c.texts_between.ensures
