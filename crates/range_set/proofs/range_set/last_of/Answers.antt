use Rattle.std.proofs.Common.{◌≡◌, ◌-◌, ◌+◌, List, None, Some, length, map, ap, subst, sym, ◌∙◌, arith}
use Rattle.std.specs.Prelude.{slice_get}
use Rattle.range_set.specs.PrivateChunks.{AreChunks, flat, greatest_end, lengthen, shift}
use Rattle.range_set.specs.declared.chunk.Placed.{Placed}
use Rattle.range_set.specs.declared.group.Group.{Group}
use Rattle.range_set.specs.declared.group.PlacedGroup.{PlacedGroup}
use Rattle.range_set.specs.declared.page.Page.{Page}
use Rattle.range_set.proofs.Sets.{has_last_group, last_group, last_paged}
use Rattle.range_set.proofs.range_set.last_of.Goals as goal

pub returns-in_err-inner : goal.returns-in_err-inner
returns-in_err-inner g c =
    let p = c.in_ok-placed.placed.now in
    let same = c.deref-2.ensures.value ∙ ap (λ (x : Page g.row.T.Denot). x.groups.items) c.deref.ensures in
    absurd (has_last_group g.T.RangeValue.rules c.args.pages.now p c.requires (sym c.in_ok-placed.ensures.value)
    (subst (λ (xs : List (PlacedGroup g.row.T.Denot)). slice_get xs (length xs - 1) ≡ None) same (sym c.in_err-inner.ensures.value)))

pub overflow_add-placed : goal.overflow_add-placed
overflow_add-placed g c =
    let p = c.in_ok-placed.placed.now in
    let q = c.in_ok-inner.inner.now in
    let same = c.deref-2.ensures.value ∙ ap (λ (x : Page g.row.T.Denot). x.groups.items) c.deref.ensures in
    let at = subst (λ (xs : List (PlacedGroup g.row.T.Denot)). slice_get xs (length xs - 1) ≡ Some q) same (sym c.in_ok-inner.ensures.value) in
    let here = (last_group g.T.RangeValue.rules c.args.pages.now p q c.requires (sym c.in_ok-placed.ensures.value) at).1 in
    omega (arith, here)

pub last_in-requires : goal.last_in-requires
last_in-requires g c =
    let rules = g.T.RangeValue.rules in
    let p = c.in_ok-placed.placed.now in
    let q = c.in_ok-inner.inner.now in
    let same = c.deref-2.ensures.value ∙ ap (λ (x : Page g.row.T.Denot). x.groups.items) c.deref.ensures in
    let at = subst (λ (xs : List (PlacedGroup g.row.T.Denot)). slice_get xs (length xs - 1) ≡ Some q) same (sym c.in_ok-inner.ensures.value) in
    let here = last_group rules c.args.pages.now p q c.requires (sym c.in_ok-placed.ensures.value) at in
    let inner = c.as_slice.ensures.value ∙ ap (λ (x : Group g.row.T.Denot). x.chunks.items) c.deref-3.ensures in
    record {
      chunks = subst (λ (xs : List (Placed g.row.T.Denot)). AreChunks rules (map (lengthen q.grown) xs)) (sym inner) here.0;
      fits = let a = ap (λ (xs : List (Placed g.row.T.Denot)). greatest_end (flat (map (lengthen q.grown) xs))) inner in let b = here.1 in omega (arith, a, b);
    }

pub returns : goal.returns
returns g c =
    let p = c.in_ok-placed.placed.now in
    let q = c.in_ok-inner.inner.now in
    let same = c.deref-2.ensures.value ∙ ap (λ (x : Page g.row.T.Denot). x.groups.items) c.deref.ensures in
    let at = subst (λ (xs : List (PlacedGroup g.row.T.Denot)). slice_get xs (length xs - 1) ≡ Some q) same (sym c.in_ok-inner.ensures.value) in
    let inner = c.as_slice.ensures.value ∙ ap (λ (x : Group g.row.T.Denot). x.chunks.items) c.deref-3.ensures in
    last_paged g.T.RangeValue.rules c.args.pages.now p q _ c.requires (sym c.in_ok-placed.ensures.value) at
    (c.last_in.ensures ∙ ap (λ (xs : List (Placed g.row.T.Denot)). slice_get (map (shift (p.start + q.start)) (flat (map (lengthen q.grown) xs))) (length (flat (map (lengthen q.grown) xs)) - 1)) inner)
