use Rattle.std.proofs.Common.{◌≡◌, Bool, true, false, sym, ◌∙◌, rules, refl}
use Rattle.std.proofs.lemmas.Bool.{true≢false}
use Rattle.change_desc.proofs.MapArms.{characters_step}
use Rattle.change_desc.proofs.weave.Weave.characters.Goals as goal
use Rattle.change_desc.proofs.weave.Weave.characters.Goals.{then-not-is_opened+then-is_opened+in_ok-stretch, then-not-is_opened+else-is_opened+in_ok-single, else-not-is_opened}

-- a test is not both
clash : (b : Bool) → b ≡ true → b ≡ false → ⊥
clash b e f = true≢false (sym e ∙ f)

pub returns : goal.returns
returns c =
    elim c.if-not-is_opened.branch [
      | then-not-is_opened+then-is_opened+in_ok-stretch w ↦
          let first = sym c.is_opened.ensures ∙ w.if-not-is_opened.true in
          let second = sym w.is_opened-then-not-is_opened.ensures ∙ w.if-is_opened.true in
          rw (w.self-is, c.beyond.ensures, c.beyond-2.ensures)
          (characters_step c.args.before c.args.self.now w.stretch.new.self c.args.a c.args.b c.min-both.result c.requires.begun.0 c.requires.begun.1 c.requires.is_normal
          (search rules) (search rules) (search rules) (λ e. absurd (clash _ e first)) (λ e f. w.in_ok-stretch.ensures) (λ e f. absurd (clash _ second f)))
      | then-not-is_opened+else-is_opened+in_ok-single w ↦
          let first = sym c.is_opened.ensures ∙ w.if-not-is_opened.true in
          let second = sym w.is_opened-then-not-is_opened.ensures ∙ w.if-is_opened.false in
          rw (w.self-is, c.beyond.ensures, c.beyond-2.ensures)
          (characters_step c.args.before c.args.self.now w.single.new.self c.args.a c.args.b c.min-both.result c.requires.begun.0 c.requires.begun.1 c.requires.is_normal
          (search rules) (search rules) (search rules) (λ e. absurd (clash _ e first)) (λ e f. absurd (clash _ f second)) (λ e f. w.in_ok-single.ensures))
      | else-not-is_opened w ↦
          let first = sym c.is_opened.ensures ∙ w.if-not-is_opened.false in
          rw (w.self-is, c.beyond.ensures, c.beyond-2.ensures)
          (characters_step c.args.before c.args.self.now c.args.self.now c.args.a c.args.b c.min-both.result c.requires.begun.0 c.requires.begun.1 c.requires.is_normal
          (search rules) (search rules) (search rules) (λ e. refl) (λ e f. absurd (clash _ first e)) (λ e f. absurd (clash _ first e)))
    ]
