use Rattle.std.proofs.Common.{◌≡◌, Some, None, sym, ap, refl}
use Rattle.selection.specs.Selections.{first_outside, selection_refusal}
use Rattle.transaction.proofs.spec.SelectionSpec.made.Goals as goal

pub returns-in-None : goal.returns-in-None
returns-in-None c =
    let ranges = c.args.self.now.ranges in
    let shown = c.as_slice.ensures in
    let shown_again = c.as_slice-in-Ok.ensures in
    record {
      refusal =
          let a : selection_refusal ranges c.args.self.now.main ≡ None = rw (← shown) c.in-Ok.ensures.accepted in
          let o : first_outside c.args.len ranges ≡ None = rw (← shown_again) (sym c.in-None.ensures.outside) in
          rw (a, o) refl;
      value = λ h. rw (← shown) (ap (λ s. Some s) c.in-Ok.ensures.selection);
      inside = c.in-Ok.ensures.inside c.args.len (rw shown (rw (← shown_again) c.in-None.ensures.inside));
    }
