use Rattle.std.proofs.Common.{◌≡◌, ◌+◌, ◌-◌, ◌≤◌, ◌∷◌, drop, length, ap, sym, refl, ◌∙◌, arith, length-drop}
use Rattle.change_desc.specs.Sections.{old_of, old_size}
use Rattle.change_set.specs.Places.{marks_at}
use Rattle.change_set.specs.Texts.{texts_between, kept_marks, unmarked, text_of_section}
use Rattle.change_set.proofs.Walks.{next_section}
use Rattle.change_set.proofs.Written.{length-kept_marks}
use Rattle.change_set.proofs.Between.{Advance, advance, between-step, part-fits, section-within}
use Rattle.change_set.proofs.texts.texts_between.Goals as goal

pub loop-section-init : goal.loop-section-init
loop-section-init c = record {
  is_place = record { index = omega arith; offset = omega arith };
  level = length-kept_marks c.args.back.now ∙ c.requires.meet;
  within = rw c.new-cursor.ensures (c.requires.texts);
  gives = rw (c.new-builder.ensures, c.new-cursor.ensures) (refl);
}

pub put_between-requires : goal.put_between-requires
put_between-requires c =
    let m = marks_at c.args.back.now c.loop-section.place in
    let x = c.section-item.result in
    let s = c.args.second.now in
    let i = c.loop-section.section-index in
    let e : drop i s ≡ x ∷ drop (i + 1) s = next_section s i x c.loop-section-test.true c.section-item.is in
    let f = c.old_len-count.result - c.pass-kept.result.1 in
    let a : Advance m (old_of x) f (length c.loop-section.cursor) =
    advance m (old_of x) c.old_len-count.result c.pass-kept.result.1 (length c.loop-section.cursor) (section-within s (drop i s) (drop (i + 1) s) x m c.loop-section.invariant.level e)
    c.old_len-count.ensures c.pass-kept.ensures.kept c.loop-section.invariant.within in
    let all = texts_between (kept_marks c.args.back.now) c.args.first.now.characters s in
    let p : length c.loop-section.builder + length (text_of_section f c.loop-section.cursor x) ≤ length all =
    part-fits m f c.loop-section.builder c.loop-section.cursor all x (drop (i + 1) s) (drop i s) a.fresh e c.loop-section.invariant.gives in
    record { within = a.within; fits = omega (arith, p, c.requires.fits) }

pub loop-section-preserved : goal.loop-section-preserved
loop-section-preserved c =
    let m = marks_at c.args.back.now c.loop-section.place in
    let k = marks_at c.args.back.now c.pass-kept.result.0 in
    let x = c.section-item.result in
    let s = c.args.second.now in
    let i = c.loop-section.section-index in
    let e : drop i s ≡ x ∷ drop (i + 1) s = next_section s i x c.loop-section-test.true c.section-item.is in
    let f = c.old_len-count.result - c.pass-kept.result.1 in
    let a : Advance m (old_of x) f (length c.loop-section.cursor) =
    advance m (old_of x) c.old_len-count.result c.pass-kept.result.1 (length c.loop-section.cursor) (section-within s (drop i s) (drop (i + 1) s) x m c.loop-section.invariant.level e)
    c.old_len-count.ensures c.pass-kept.ensures.kept c.loop-section.invariant.within in
    let all = texts_between (kept_marks c.args.back.now) c.args.first.now.characters s in
    let d : k ≡ drop (old_of x) m = c.pass-kept.ensures.left ∙ ap (λ n. drop n m) c.old_len-count.ensures in
    record {
      is_place = c.pass-kept.ensures.is_place;
      level = omega (arith, ap length d, length-drop (old_of x) m, c.loop-section.invariant.level, ap old_size e);
      within = ap unmarked d ∙ (a.left ∙ sym (ap length c.in_ok-put_between.ensures.left ∙ length-drop f c.loop-section.cursor));
      gives = between-step m k f c.loop-section.builder c.put_between.new.builder c.loop-section.cursor c.put_between.new.cursor all x (drop (i + 1) s) (drop i s) d a.fresh e
          c.in_ok-put_between.ensures.put c.in_ok-put_between.ensures.left c.loop-section.invariant.gives;
    }
