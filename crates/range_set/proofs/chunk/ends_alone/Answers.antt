use Rattle.std.proofs.Common.{◌≡◌, ◌+◌, ◌^◌, true, false, ◌≤◌, ◌<◌, [], ◌∷◌, map, Some, ap, subst, sym, ◌∙◌, arith, SFits, w32}
use Rattle.std.proofs.lemmas.Int.{to_z-of_z}
use Rattle.std.specs.Prelude.{unwrap_or}
use Rattle.std.specs.List.{list_any}
use Rattle.change_desc.specs.Positions.{is_negative}
use Rattle.change_desc.specs.Ranges.{meets, replaced}
use Rattle.change_desc.specs.Sections.{counted, new_size, old_size}
use Rattle.change_desc.specs.Walker.{Walk}
use Rattle.change_desc.specs.declared.map_mode.MapMode.TheVariants.{Simple}
use Rattle.range_set.specs.Mapping.{place_of}
use Rattle.range_set.specs.PrivateChunks.{first_start, grow, shift}
use Rattle.range_set.proofs.Alone.{bare, goes_alone, is_bare, one_item}
use Rattle.range_set.proofs.Clear.{Sections, map_pos-clear}
use Rattle.range_set.proofs.Each.{Within, within}
use Rattle.range_set.proofs.chunk.ends_alone.Goals as goal

pub map_pos-requires-clause-inside : goal.map_pos-requires-clause-inside
map_pos-requires-clause-inside g c =
    let rules = g.T.RangeValue.rules in
    let d = c.args.walk.now.walker.desc in
    let start = c.args.start in
    let by = c.args.grown in
    let ch = c.args.chunk.now in
    let only = c.only-item.result in
    let raw = c.as_slice.ensures.value in
    let least = c.in-len1.len_at_least in
    let most = c.in-len1.len_below in
    let items : ch.ranges.items ≡ only ∷ [] = sym raw ∙ one_item c.as_slice.result.now only (omega (arith, least)) (omega (arith, most)) c.only-item.is in
    let from : only.from ≡ 0 = ap (λ rs. first_start (map (grow by) rs)) (sym items) ∙ c.requires.chunk.first in
    let to : only.to ≡ 0 = let k = c.if-only-ne0.false in omega (arith, k) in
    let is = items ∙ ap (λ r. r ∷ []) (is_bare rules only from to) in
    let w = subst (λ rs. Within (old_size d) (map (shift start) (map (grow by) rs))) is (within (old_size d) _ c.requires.inside) in
    let size = ap old_size (ap (λ (x : Walk). x.desc) c.walk_from.ensures ∙ c.requires.index) in
    let end = w.0.1 in
    omega (arith, size, end)

pub place_after-from-requires-clause-inside : goal.place_after-from-requires-clause-inside
place_after-from-requires-clause-inside g c =
    let rules = g.T.RangeValue.rules in
    let d = c.args.walk.now.walker.desc in
    let start = c.args.start in
    let by = c.args.grown in
    let ch = c.args.chunk.now in
    let only = c.only-item.result in
    let raw = c.as_slice.ensures.value in
    let least = c.in-len1.len_at_least in
    let most = c.in-len1.len_below in
    let items : ch.ranges.items ≡ only ∷ [] = sym raw ∙ one_item c.as_slice.result.now only (omega (arith, least)) (omega (arith, most)) c.only-item.is in
    let from : only.from ≡ 0 = ap (λ rs. first_start (map (grow by) rs)) (sym items) ∙ c.requires.chunk.first in
    let to : only.to ≡ 0 = let k = c.if-only-ne0.false in omega (arith, k) in
    let is = items ∙ ap (λ r. r ∷ []) (is_bare rules only from to) in
    let w = subst (λ rs. Within (old_size d) (map (shift start) (map (grow by) rs))) is (within (old_size d) _ c.requires.inside) in
    let inside = w.0.0 in
    omega (arith, inside)

pub returns-clause-moved : goal.returns-clause-moved
returns-clause-moved g c =
    let rules = g.T.RangeValue.rules in
    let d = c.args.walk.now.walker.desc in
    let start = c.args.start in
    let by = c.args.grown in
    let ch = c.args.chunk.now in
    let only = c.only-item.result in
    let raw = c.as_slice.ensures.value in
    let least = c.in-len1.len_at_least in
    let most = c.in-len1.len_below in
    let items : ch.ranges.items ≡ only ∷ [] = sym raw ∙ one_item c.as_slice.result.now only (omega (arith, least)) (omega (arith, most)) c.only-item.is in
    let from : only.from ≡ 0 = ap (λ rs. first_start (map (grow by) rs)) (sym items) ∙ c.requires.chunk.first in
    let to : only.to ≡ 0 = let k = c.if-only-ne0.false in omega (arith, k) in
    let is = items ∙ ap (λ r. r ∷ []) (is_bare rules only from to) in
    let w = subst (λ rs. Within (old_size d) (map (shift start) (map (grow by) rs))) is (within (old_size d) _ c.requires.inside) in
    let v = only.value in
    let f = c.place_after-from.result in
    let t = c.in-Some.to in
    let inside : start ≤ old_size d = let k = w.0.0 in omega (arith, k) in
    let clear = sym (c.requires.same start start (omega arith)) ∙ (sym c.first_meets.ensures ∙ c.if-first_meets.false) in
    let f_is = c.place_after-from.ensures.value ∙ ap (λ o. unwrap_or o 0) (map_pos-clear d start true Simple inside clear) in
    let desc = ap (λ (x : Walk). x.desc) c.walk_from.ensures ∙ c.requires.index in
    let begin : place_of d start (rules.start_side v) Simple ≡ Some f = map_pos-clear d start (is_negative (rules.start_side v)) Simple inside clear ∙ ap Some (sym f_is) in
    let side = c.end_side-side.result in
    let small : SFits w32 side = record { sfits = c.end_side-side.type_inv } in
    let told : c.map_pos.result ≡ place_of c.walk_from.result.desc (start + by) side Simple = rw (to_z-of_z w32 side small) at c.map_pos.ensures.value in
    let end : place_of d (start + by) (rules.end_side v) Simple ≡ Some t =
    ap (λ (s : Sections). place_of s (start + by) (rules.end_side v) Simple) (sym desc)
    ∙ (ap (λ e. place_of c.walk_from.result.desc (start + by) e Simple) (sym c.end_side-side.ensures) ∙ (sym told ∙ c.in-Some.is)) in
    let some : 0 < by = let k = c.if-grown-eq0.false in omega (arith, k) in
    let less : f < t = let k = c.if-saturating_sub-le-MAX_SHARED_LEN.false in let n = c.saturating_sub.ensures in omega (arith, k, n) in
    let fits : t < 2 ^ 32 = let k = c.in-Some.ensures.inside in let n = ap (new_size counted) desc in let m = c.requires.room in omega (arith, k, n, m) in
    let alone = goes_alone rules d start f t by ch v is c.requires.chunk some begin end less fits in
    record {
      range = grow by (bare rules v);
      one = alone.one;
      clear = subst (λ n. list_any (meets n n) (replaced d) ≡ false) (let e : start ≡ 0 + start = omega arith in e) clear;
      image = record { from = f; to = t; value = v };
      moves = alone.moves;
      images = alone.images;
      chunk = alone.chunk;
    }
