-- One more section is passed in a walk.
use Rattle.std.proofs.Common.{◌≡◌, ℕ, ◌+◌, ◌-◌, ◌≤◌, ◌<◌, Bool, inl, List, ◌∷◌, length, drop, get_or, refl, ap, ◌∙◌, Some, None, Option, arith, add-one, drop-cons}
use Rattle.change_desc.specs.declared.section.Section.{Section}
use Rattle.change_desc.specs.declared.section.Section.TheVariants.{Keep, Replace}
use Rattle.change_desc.specs.declared.map_mode.MapMode.{MapMode}
use Rattle.change_desc.specs.declared.passed.Passed.{Passed}
use Rattle.change_desc.specs.Sections.{counted, old_of, new_of, old_size, new_size, IsSet}
use Rattle.change_desc.specs.Positions.{moved, cuts, is_lost}
use Rattle.change_desc.specs.Steps.{plus, GoesOn, LeavesLoss}
use Rattle.change_desc.specs.Walker.{IsPassed, IsWalk}
use Rattle.change_desc.proofs.Bounds.{place-within}
use Rattle.change_desc.proofs.Moves.{on_keep, on_replace, leaves_keep, leaves_replace}

-- a place past the end of a section goes on
goes_on : (x : Section ℕ) (p : ℕ) (negative : Bool) → old_of x < p → GoesOn x p negative
goes_on (Keep n) p negative l = on_keep (Keep n) n p negative refl (omega arith)
goes_on (Replace n t) p negative l = on_replace (Replace n t) n t p negative refl (omega arith) (λ e. omega arith)

leaves : (x : Section ℕ) (p : ℕ) (mode : MapMode) → old_of x < p → LeavesLoss x p mode
leaves (Keep n) p mode l = leaves_keep (Keep n) n p mode refl (omega arith)
leaves (Replace n t) p mode l = leaves_replace (Replace n t) n t p mode refl (omega arith) (λ e. inl l)

plus-plus : (a b : ℕ) (o : Option ℕ) → plus a (plus b o) ≡ plus (a + b) o
plus-plus a b (Some n) = ap Some (omega arith)
plus-plus a b None = refl

-- what is left begins with a section, and the rest
pub record Begins (s : List (Section ℕ)) (i : ℕ) (x : Section ℕ) : Type 0 where
  pub splits : drop i s ≡ x ∷ drop (i + 1) s

pub begins : (s : List (Section ℕ)) (i : ℕ) (d : Section ℕ) → i < length s → Begins s i (get_or s i d)
begins s i d l = record { splits = rw (add-one, drop-cons s i d) refl }

pub passed-more : (s : List (Section ℕ)) (w : Passed) (p : ℕ) (x : Section ℕ) → w.count < length s → Begins s w.count x → old_of x < p - w.old → IsPassed s w p →
    IsPassed s (record { count = w.count + 1; old = w.old + old_of x; new = w.new + new_of counted x }) p
passed-more s w p x i b l h =
    record {
      within = omega arith;
      old = omega (arith, h.old, ap old_size b.splits);
      new = omega (arith, h.new, ap (new_size counted) b.splits);
      before = omega arith;
      goes = λ negative q k.
          let on : GoesOn x (q - w.old) negative = goes_on x (q - w.old) negative (omega arith) in
          let less : q - w.old - old_of x ≡ q - (w.old + old_of x) = omega arith in
          h.goes negative q k ∙ ap (λ r. plus w.new (moved negative (q - w.old) (cuts counted r))) b.splits ∙
          ap (plus w.new) (on.goes (drop (w.count + 1) s)) ∙
          plus-plus w.new (new_of counted x) (moved negative (q - w.old - old_of x) (cuts counted (drop (w.count + 1) s))) ∙
          ap (λ r. plus (w.new + new_of counted x) (moved negative r (cuts counted (drop (w.count + 1) s)))) less;
      loses = λ mode q k.
          let on : LeavesLoss x (q - w.old) mode = leaves x (q - w.old) mode (omega arith) in
          let less : q - w.old - old_of x ≡ q - (w.old + old_of x) = omega arith in
          h.loses mode q k ∙ ap (λ r. is_lost counted mode (q - w.old) r) b.splits ∙ on.says (drop (w.count + 1) s) ∙
          ap (λ r. is_lost counted mode r (drop (w.count + 1) s)) less;
    }

-- from a later place on
pub passed-later : (s : List (Section ℕ)) (w : Passed) (p q : ℕ) → p ≤ q → IsPassed s w p → IsPassed s w q
passed-later s w p q l h =
    record {
      within = h.within;
      old = h.old;
      new = h.new;
      before = omega arith;
      goes = λ negative r k. h.goes negative r (omega arith);
      loses = λ mode r k. h.loses mode r (omega arith);
    }

plus-zero : (o : Option ℕ) → o ≡ plus 0 o
plus-zero (Some n) = ap Some (omega arith)
plus-zero None = refl

-- a walk begins with no section passed
pub walk-start : (s : List (Section ℕ)) → IsSet counted s → IsWalk s (record { count = 0; old = 0; new = 0 }) 0
walk-start s h =
    record {
      old_fits = h.old_fits;
      new_fits = h.new_fits;
      is_passed = record {
        within = omega arith;
        old = omega arith;
        new = omega arith;
        before = omega arith;
        goes = λ negative p k. let e : p ≡ p - 0 = omega arith in plus-zero (moved negative p (cuts counted s)) ∙ ap (λ r. plus 0 (moved negative r (cuts counted s))) e;
        loses = λ mode p k. let e : p ≡ p - 0 = omega arith in ap (λ r. is_lost counted mode r s) e;
      };
    }

-- a place of the sections that are left is one of the whole new text
pub record LandsAt (s : List (Section ℕ)) (w : Passed) (q : ℕ) : Type 0 where
  pub within : w.new + q ≤ new_size counted s

pub lands : (s : List (Section ℕ)) (w : Passed) (p : ℕ) (negative : Bool) (pos q : ℕ) → IsPassed s w p → moved negative pos (cuts counted (drop w.count s)) ≡ Some q → LandsAt s w q
lands s w p negative pos q h e = record { within = omega (arith, h.new, place-within (drop w.count s) pos negative q e) }
