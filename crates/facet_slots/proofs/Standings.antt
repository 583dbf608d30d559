-- Where the slots of facets are.
use Rattle.std.proofs.Common.{◌≡◌, ◌++◌, ◌<◌, ◌≤◌, ◌+◌, ◌∙◌, ◌⊎◌, ℕ, zero, suc, List, [], ◌∷◌, Bool, true, false, Option, Some, None, map, set, length, slice_get, IfSome, inl, inr, refl, sym, ap, subst, arith, ⊎_elim}
use Rattle.std.specs.Option.{option_flatten, option_map, unwrap_or}
use Rattle.std.proofs.lemmas.Option.{slice_get-map}
use Rattle.std.proofs.lemmas.List.{length-map}
use Rattle.values.specs.declared.val.Val.{Val}
use Rattle.values.specs.InRange.{AreInRange, IsInRange}
use Rattle.facet_slots.specs.declared.place.Place.{Place}
use Rattle.facet_slots.specs.declared.place.Place.TheVariants as place
use Rattle.facet_slots.specs.declared.slot.Slot.{Slot}
use Rattle.facet_slots.specs.Shelves.{lasts, place_flag, place_inputs, place_lasts, place_value, shelved, slot_flags, slot_inputs, slot_values, AreLasting, ArePlaced, IsLasting, IsStill, Shelved}
use Rattle.facet_slots.proofs.Ranged.{get-in-range}
use Rattle.facet_slots.proofs.Shelving.{flag_count, flag_set, inputs_count, inputs_set, value_count, value_set}

none-some : {X : Type 0} {x : X} → None ≡ Some x → ⊥
none-some e = cc

some-back : {X : Type 0} {x y : X} → Some x ≡ Some y → x ≡ y
some-back e = cc

false-true : false ≡ true → ⊥
false-true e = cc

lasting-slot : {v : Val} {k : ℕ} → place.Lasting v ≡ place.Slot k → ⊥
lasting-slot e = cc

slot-lasting : {v : Val} {k : ℕ} → place.Slot k ≡ place.Lasting v → ⊥
slot-lasting e = cc

abbrev number : Place → ℕ
number (place.Slot k) = k
number (place.Lasting v) = 0

slot-back : {j k : ℕ} → place.Slot j ≡ place.Slot k → j ≡ k
slot-back e = ap number e

pub lasting-back : {v w : Val} → place.Lasting v ≡ place.Lasting w → v ≡ w
lasting-back e = cc

-- a list that grew by one
pub pushed : {X : Type 0} (xs : List X) (x y : X) (f : ℕ) → slice_get (xs ++ x ∷ []) f ≡ Some y → (slice_get xs f ≡ Some y) ⊎ ((f ≡ length xs) × (x ≡ y))
pushed [] x y zero e = inr (refl, some-back e)
pushed [] x y (suc f) e = absurd (none-some e)
pushed (a ∷ xs) x y zero e = inl e
pushed (a ∷ xs) x y (suc f) e = ⊎_elim inl (λ p. inr (ap suc p.0, p.1)) (pushed xs x y f e)

pub length-pushed : {X : Type 0} (xs : List X) (x : X) → length (xs ++ x ∷ []) ≡ length xs + 1
length-pushed [] x = refl
length-pushed (a ∷ xs) x = let e = length-pushed xs x in omega (arith, e)

-- what is known of the facets that last is known of one more
pub lasting-pushed : (P : ℕ → Val → Type 0) (xs : List Place) (p : Place) → ((f : ℕ) (v : Val) → slice_get xs f ≡ Some (place.Lasting v) → P f v) → ((v : Val) → p ≡ place.Lasting v → P (length xs) v)
    → (f : ℕ) (v : Val) → slice_get (xs ++ p ∷ []) f ≡ Some (place.Lasting v) → P f v
lasting-pushed P xs p old new f v e = ⊎_elim (λ a. old f v a) (λ q. subst (λ (i : ℕ). P i v) (sym q.0) (new v q.1)) (pushed xs p (place.Lasting v) f e)

pub slot-not-lasting : (k : ℕ) (v : Val) → place.Slot k ≡ place.Lasting v → ⊥
slot-not-lasting k v e = slot-lasting e

pub none-placed : ArePlaced 0 []
none-placed = record { inside = λ f k e. absurd (none-some e); apart = λ f g k e d. absurd (none-some e); in_range = λ f v e. absurd (none-some e) }

pub lasting-placed : (n : ℕ) (places : List Place) (v : Val) → ArePlaced n places → IsInRange v → ArePlaced n (places ++ place.Lasting v ∷ [])
lasting-placed n places v h fine =
    record {
      inside = λ f k e. ⊎_elim (λ a. h.inside f k a) (λ p. absurd (lasting-slot p.1)) (pushed places (place.Lasting v) (place.Slot k) f e);
      apart = λ f g k e d.
          ⊎_elim
          (λ a. ⊎_elim (λ b. h.apart f g k a b) (λ p. absurd (lasting-slot p.1)) (pushed places (place.Lasting v) (place.Slot k) g d))
          (λ p. absurd (lasting-slot p.1)) (pushed places (place.Lasting v) (place.Slot k) f e);
      in_range = λ f w e. ⊎_elim (λ a. h.in_range f w a) (λ p. subst IsInRange (lasting-back p.1) fine) (pushed places (place.Lasting v) (place.Lasting w) f e);
    }

pub slot-placed : (n : ℕ) (places : List Place) → ArePlaced n places → ArePlaced (n + 1) (places ++ place.Slot n ∷ [])
slot-placed n places h =
    record {
      inside = λ f k e. ⊎_elim (λ a. let lt = h.inside f k a in omega (arith, lt)) (λ p. let same = slot-back p.1 in omega (arith, same)) (pushed places (place.Slot n) (place.Slot k) f e);
      apart = λ f g k e d.
          ⊎_elim
          (λ a. ⊎_elim (λ b. h.apart f g k a b) (λ p. let lt = h.inside f k a in let same = slot-back p.1 in absurd (omega (arith, lt, same))) (pushed places (place.Slot n) (place.Slot k) g d))
          (λ p. ⊎_elim (λ b. let lt = h.inside g k b in let same = slot-back p.1 in absurd (omega (arith, lt, same))) (λ q. p.0 ∙ sym q.0) (pushed places (place.Slot n) (place.Slot k) g d))
          (pushed places (place.Slot n) (place.Slot k) f e);
      in_range = λ f w e. ⊎_elim (λ a. h.in_range f w a) (λ p. absurd (slot-lasting p.1)) (pushed places (place.Slot n) (place.Lasting w) f e);
    }

pub place_value_at : (places : List Place) (slots : List Slot) (f : ℕ) → slice_get (map (place_value slots) places) f ≡ option_map (place_value slots) (slice_get places f)
place_value_at places slots f = slice_get-map (place_value slots) places f

pub place_inputs_at : (places : List Place) (slots : List Slot) (f : ℕ) → slice_get (map (place_inputs slots) places) f ≡ option_map (place_inputs slots) (slice_get places f)
place_inputs_at places slots f = slice_get-map (place_inputs slots) places f

pub place_flag_at : (places : List Place) (slots : List Slot) (f : ℕ) → slice_get (map (place_flag slots) places) f ≡ option_map (place_flag slots) (slice_get places f)
place_flag_at places slots f = slice_get-map (place_flag slots) places f

pub lasts_at : (places : List Place) (f : ℕ) → slice_get (map place_lasts places) f ≡ option_map place_lasts (slice_get places f)
lasts_at places f = slice_get-map place_lasts places f

pub place_value_count : (places : List Place) (slots : List Slot) → length (map (place_value slots) places) ≡ length places
place_value_count places slots = length-map places (place_value slots)

pub place_inputs_count : (places : List Place) (slots : List Slot) → length (map (place_inputs slots) places) ≡ length places
place_inputs_count places slots = length-map places (place_inputs slots)

pub place_flag_count : (places : List Place) (slots : List Slot) → length (map (place_flag slots) places) ≡ length places
place_flag_count places slots = length-map places (place_flag slots)

-- a facet that lasts
pub lasting_is : (P : ℕ → Val → Type 0) (places : List Place) (facets fields : List Slot) → ((f : ℕ) (v : Val) → slice_get places f ≡ Some (place.Lasting v) → P f v) → AreLasting P (shelved places facets fields)
lasting_is P [] facets fields h f e = absurd (false-true e)
lasting_is P (place.Lasting v ∷ places) facets fields h zero e = record { value = v; was = h zero v refl; value_is = refl; inputs_are = refl; flag_is = refl }
lasting_is P (place.Slot k ∷ places) facets fields h zero e = absurd (false-true e)
lasting_is P (p ∷ places) facets fields h (suc f) e =
    let rest = lasting_is (λ g v. P (suc g) v) places facets fields (λ g v at. h (suc g) v at) f e in
    record { value = rest.value; was = rest.was; value_is = rest.value_is; inputs_are = rest.inputs_are; flag_is = rest.flag_is }

-- where one element alone is found otherwise
map-one : {X Y : Type 0} (g h : X → Y) (xs : List X) (f : ℕ) (y : Y) → ((i : ℕ) (x : X) → slice_get xs i ≡ Some x → (i ≡ f) ⊎ (g x ≡ h x)) → ((x : X) → slice_get xs f ≡ Some x → g x ≡ y) → map g xs ≡ set (map h xs) f y
map-one g h [] f y others here = refl
map-one g h (x ∷ xs) zero y others here =
    let one = here x refl in let rest = map-others g h xs (λ i z at. ⊎_elim (λ e. absurd (suc-zero e)) (λ s. s) (others (suc i) z at)) in cc
  where
    suc-zero : {n : ℕ} → suc n ≡ zero → ⊥
    suc-zero e = omega (arith, e)

    map-others : {X Y : Type 0} (g h : X → Y) (xs : List X) → ((i : ℕ) (x : X) → slice_get xs i ≡ Some x → g x ≡ h x) → map g xs ≡ map h xs
    map-others g h [] k = refl
    map-others g h (x ∷ xs) k = let one = k zero x refl in let rest = map-others g h xs (λ i z at. k (suc i) z at) in cc
map-one g h (x ∷ xs) (suc f) y others here =
    let one = ⊎_elim (λ e. absurd (zero-suc e)) (λ s. s) (others zero x refl) in
    let rest = map-one g h xs f y (λ i z at. ⊎_elim (λ e. inl (suc-back e)) inr (others (suc i) z at)) (λ z at. here z at) in cc
  where
    zero-suc : {n : ℕ} → zero ≡ suc n → ⊥
    zero-suc e = omega (arith, e)

    suc-back : {m n : ℕ} → suc m ≡ suc n → m ≡ n
    suc-back e = omega (arith, e)

set-others : {X : Type 0} (xs : List X) (i j : ℕ) (x : X) → (j ≡ i) ⊎ (slice_get (set xs i x) j ≡ slice_get xs j)
set-others [] i j x = inr refl
set-others (a ∷ xs) zero zero x = inl refl
set-others (a ∷ xs) zero (suc j) x = inr refl
set-others (a ∷ xs) (suc i) zero x = inr refl
set-others (a ∷ xs) (suc i) (suc j) x = ⊎_elim (λ e. inl (ap suc e)) inr (set-others xs i j x)

set-here : {X : Type 0} (xs : List X) (i : ℕ) (x : X) → i < length xs → slice_get (set xs i x) i ≡ Some x
set-here [] i x lt = absurd (omega (arith, lt))
set-here (a ∷ xs) zero x lt = refl
set-here (a ∷ xs) (suc i) x lt = set-here xs i x (omega (arith, lt))

module _ (places : List Place) (n f k : ℕ) (placed : ArePlaced n places) (at : slice_get places f ≡ Some (place.Slot k)) where
  put-one : {Y : Type 0} (g h : Place → Y) (y : Y) → ((v : Val) → g (place.Lasting v) ≡ h (place.Lasting v)) → ((j : ℕ) → (j ≡ k) ⊎ (g (place.Slot j) ≡ h (place.Slot j))) → g (place.Slot k) ≡ y → map g places ≡ set (map h places) f y
  put-one g h y lasting slots here =
      map-one g h places f y (λ i p there. others i p there) (λ p there. ap g (some-back (sym there ∙ at)) ∙ here)
    where
      others : (i : ℕ) (p : Place) → slice_get places i ≡ Some p → (i ≡ f) ⊎ (g p ≡ h p)
      others i (place.Lasting v) there = inr (lasting v)
      others i (place.Slot j) there = ⊎_elim (λ e. inl (placed.apart i f k (there ∙ ap (λ m. Some (place.Slot m)) e) at)) inr (slots j)

  module _ (slots : List Slot) (s : Slot) (all : length slots ≡ n) where
    there-is : k < length slots
    there-is = let lt = placed.inside f k at in omega (arith, lt, all)

    -- the slot of a facet is put
    pub value-put : map (place_value (set slots k s)) places ≡ set (map (place_value slots) places) f s.value
    value-put =
        put-one (place_value (set slots k s)) (place_value slots) s.value (λ v. refl)
        (λ j. ⊎_elim inl (λ e. inr (ap option_flatten (ap (λ xs. slice_get xs j) (value_set slots k s) ∙ e))) (set-others (slot_values slots) k j s.value))
        (ap option_flatten (ap (λ xs. slice_get xs k) (value_set slots k s) ∙ set-here (slot_values slots) k s.value (let lt = there-is in let same = value_count slots in omega (arith, lt, same))))

    pub inputs-put : map (place_inputs (set slots k s)) places ≡ set (map (place_inputs slots) places) f s.inputs
    inputs-put =
        put-one (place_inputs (set slots k s)) (place_inputs slots) s.inputs (λ v. refl)
        (λ j. ⊎_elim inl (λ e. inr (ap (λ o. unwrap_or o []) (ap (λ xs. slice_get xs j) (inputs_set slots k s) ∙ e))) (set-others (slot_inputs slots) k j s.inputs))
        (ap (λ o. unwrap_or o []) (ap (λ xs. slice_get xs k) (inputs_set slots k s) ∙ set-here (slot_inputs slots) k s.inputs (let lt = there-is in let same = inputs_count slots in omega (arith, lt, same))))

    pub flag-put : map (place_flag (set slots k s)) places ≡ set (map (place_flag slots) places) f s.flag
    flag-put =
        put-one (place_flag (set slots k s)) (place_flag slots) s.flag (λ v. refl)
        (λ j. ⊎_elim inl (λ e. inr (ap (λ o. unwrap_or o false) (ap (λ xs. slice_get xs j) (flag_set slots k s) ∙ e))) (set-others (slot_flags slots) k j s.flag))
        (ap (λ o. unwrap_or o false) (ap (λ xs. slice_get xs k) (flag_set slots k s) ∙ set-here (slot_flags slots) k s.flag (let lt = there-is in let same = flag_count slots in omega (arith, lt, same))))

-- what is held of facets and fields is in range
pub facets-in-range : (places : List Place) (n : ℕ) (slots : List Slot) → ArePlaced n places → AreInRange (slot_values slots) → AreInRange (map (place_value slots) places)
facets-in-range places n slots placed fine = all-in-range places (λ f v at. placed.in_range f v at)
  where
    all-in-range : (ps : List Place) → ((f : ℕ) (v : Val) → slice_get ps f ≡ Some (place.Lasting v) → IsInRange v) → AreInRange (map (place_value slots) ps)
    all-in-range [] h = tt
    all-in-range (place.Lasting v ∷ ps) h = (h 0 v refl, all-in-range ps (λ f w at. h (suc f) w at))
    all-in-range (place.Slot k ∷ ps) h = (get-in-range (slot_values slots) fine k, all-in-range ps (λ f w at. h (suc f) w at))

pub still-is : (places : List Place) (facets fields : List Slot) (f : ℕ) (v : Val) → slice_get places f ≡ Some (place.Lasting v) → IsStill (shelved places facets fields) f v
still-is places facets fields f v at = (
  ap option_flatten (place_value_at places facets f ∙ ap (option_map (place_value facets)) at),
  ap (λ o. unwrap_or o []) (place_inputs_at places facets f ∙ ap (option_map (place_inputs facets)) at),
)

pub lasting-weaker : (P Q : ℕ → Val → Type 0) (s : Shelved) → ((f : ℕ) (v : Val) → P f v → Q f v) → AreLasting P s → AreLasting Q s
lasting-weaker P Q s h all f e =
    let one = all f e in record { value = one.value; was = h f one.value one.was; value_is = one.value_is; inputs_are = one.inputs_are; flag_is = one.flag_is }

-- a facet that doesn't last has a slot
pub no-lasting : (places : List Place) (f : ℕ) (v : Val) → slice_get places f ≡ Some (place.Lasting v) → unwrap_or (slice_get (map place_lasts places) f) false ≡ false → ⊥
no-lasting places f v at e = false-true (sym e ∙ ap (λ o. unwrap_or o false) (lasts_at places f ∙ ap (option_map place_lasts) at))
