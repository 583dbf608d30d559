use Rattle.std.proofs.Common.{◌≡◌, ◌+◌, ◌∙◌, ◌++◌, ◌∷◌, [], ℕ, List, Some, ap, arith, length, slice_get, subst, sym}
use Rattle.values.specs.declared.val.Val.{Val}
use Rattle.values.specs.InRange.{IsInRange}
use Rattle.facet_slots.specs.declared.place.Place.{Place}
use Rattle.facet_slots.specs.declared.place.Place.TheVariants as place
use Rattle.facet_slots.specs.Shelves.{ArePlaced, IsStillIn}
use Rattle.facet_slots.specs.Lent.{setup_of}
use Rattle.facet_slots.proofs.Standings.{lasting-back, lasting-placed, lasting-pushed, length-pushed, slot-not-lasting, slot-placed}
use Rattle.facet_slots.proofs.walk.places.Goals.{in-Some+in_ok-share-in-Some+in_ok-push-in-Some, in-None+in_ok-push-in-None+then-is_settled, in-None+in_ok-push-in-None+else-is_settled}
use Rattle.facet_slots.proofs.walk.places.Goals as goal

pub loop-facet-preserved : goal.loop-facet-preserved
loop-facet-preserved c =
    elim c.match-value_without_inputs.branch [
      | in-Some+in_ok-share-in-Some+in_ok-push-in-Some w ↦
          let x : Val = w.in_ok-share-in-Some.field-0 in
          let same : x ≡ w.in-Some.value.now = w.in_ok-share-in-Some.ensures in
          let items : w.push.new.self.items ≡ c.loop-facet.list.items ++ place.Lasting x ∷ [] = w.in_ok-push-in-Some.ensures.items in
          let more = ap (λ (ps : List Place). length ps) items in
          let one = length-pushed c.loop-facet.list.items (place.Lasting x) in
          let count = c.loop-facet.invariant.count in
          let few = c.loop-facet.invariant.few in
          rw (w.list-is, w.slot_count-is) (record {
            count = omega (arith, more, one, count);
            few = omega (arith, few);
            placed = subst (ArePlaced c.loop-facet.slot_count) (sym items) (lasting-placed c.loop-facet.slot_count c.loop-facet.list.items x c.loop-facet.invariant.placed (subst IsInRange (sym same) w.known.ensures));
            lasting = λ f v at. lasting-pushed (IsStillIn (setup_of c.args.setup.now) c.args.old.now.shelf) c.loop-facet.list.items (place.Lasting x) c.loop-facet.invariant.lasting
                (λ y e. subst (λ (i : ℕ). IsStillIn (setup_of c.args.setup.now) c.args.old.now.shelf i y) (sym count) (subst (λ (z : Val). IsStillIn (setup_of c.args.setup.now) c.args.old.now.shelf c.loop-facet.facet z) (sym same ∙ lasting-back e) ((w.in-Some.ensures.value, w.in-Some.ensures.before), w.in-Some.ensures.now)))
                f v (subst (λ (ps : List Place). slice_get ps f ≡ Some (place.Lasting v)) items at);
          })
      | in-None+in_ok-push-in-None+then-is_settled w ↦
          let items : w.push-in-None.new.self.items ≡ c.loop-facet.list.items ++ place.Slot c.loop-facet.slot_count ∷ [] = w.in_ok-push-in-None.ensures.items in
          let more = ap (λ (ps : List Place). length ps) items in
          let one = length-pushed c.loop-facet.list.items (place.Slot c.loop-facet.slot_count) in
          let count = c.loop-facet.invariant.count in
          let few = c.loop-facet.invariant.few in
          rw (w.list-is, w.slot_count-is) (record {
            count = omega (arith, more, one, count);
            few = omega (arith, few);
            placed = subst (ArePlaced (c.loop-facet.slot_count + 1)) (sym items) (slot-placed c.loop-facet.slot_count c.loop-facet.list.items c.loop-facet.invariant.placed);
            lasting = λ f v at. lasting-pushed (IsStillIn (setup_of c.args.setup.now) c.args.old.now.shelf) c.loop-facet.list.items (place.Slot c.loop-facet.slot_count) c.loop-facet.invariant.lasting
                (λ x e. absurd (slot-not-lasting c.loop-facet.slot_count x e)) f v (subst (λ (ps : List Place). slice_get ps f ≡ Some (place.Lasting v)) items at);
          })
      | in-None+in_ok-push-in-None+else-is_settled w ↦
          let items : w.push-in-None.new.self.items ≡ c.loop-facet.list.items ++ place.Slot c.loop-facet.slot_count ∷ [] = w.in_ok-push-in-None.ensures.items in
          let more = ap (λ (ps : List Place). length ps) items in
          let one = length-pushed c.loop-facet.list.items (place.Slot c.loop-facet.slot_count) in
          let count = c.loop-facet.invariant.count in
          let few = c.loop-facet.invariant.few in
          rw (w.list-is, w.slot_count-is) (record {
            count = omega (arith, more, one, count);
            few = omega (arith, few);
            placed = subst (ArePlaced (c.loop-facet.slot_count + 1)) (sym items) (slot-placed c.loop-facet.slot_count c.loop-facet.list.items c.loop-facet.invariant.placed);
            lasting = λ f v at. lasting-pushed (IsStillIn (setup_of c.args.setup.now) c.args.old.now.shelf) c.loop-facet.list.items (place.Slot c.loop-facet.slot_count) c.loop-facet.invariant.lasting
                (λ x e. absurd (slot-not-lasting c.loop-facet.slot_count x e)) f v (subst (λ (ps : List Place). slice_get ps f ≡ Some (place.Lasting v)) items at);
          })
    ]
