use Rattle.std.proofs.Common.{◌≡◌, ℕ, List, [], ap, sym, subst, ◌∙◌}
use Rattle.change_desc.specs.declared.section.Section.{Section}
use Rattle.change_desc.specs.Sections.{spelled, old_size, IsSet}
use Rattle.change_set.specs.Protection.{half_from, HasRoom, taking}
use Rattle.change_set.proofs.FilterSizes.{half-room, half-is_set, half-old}
use Rattle.change_set.proofs.change_set.ChangeSet.half.Goals as goal

pub filtered-requires : goal.filtered-requires
filtered-requires c =
    let half = c.args.half in
    let rs = c.args.ranges.now in
    let a : List (Section (List ℕ)) = c.args.self.now in
    let e : c.as_slice.result.now ≡ a = c.as_slice.ensures ∙ c.self.view_is in
    let w : half_from (taking half rs c.len.result) [] 0 c.as_slice.result.now ≡ half_from (taking half rs (old_size a)) [] 0 a =
    ap (λ (n : ℕ). half_from (taking half rs n) [] 0 c.as_slice.result.now) c.len.ensures ∙ ap (λ (s : List (Section (List ℕ))). half_from (taking half rs (old_size a)) [] 0 s) e in
    record {
      apart = c.requires.apart;
      len = ap old_size e ∙ sym c.len.ensures;
      room = subst HasRoom (sym w) (half-room half rs (old_size a) a (subst (IsSet spelled) c.self.view_is c.self.invariant) c.requires.fits);
    }

pub invariant_of-result : goal.invariant_of-result
invariant_of-result c =
    let half = c.args.half in
    let rs = c.args.ranges.now in
    let a : List (Section (List ℕ)) = c.args.self.now in
    let e : c.as_slice.result.now ≡ a = c.as_slice.ensures ∙ c.self.view_is in
    half-is_set half rs (old_size a) a c.in_ok-sections.sections.items (subst (IsSet spelled) c.self.view_is c.self.invariant) c.requires.fits
    (c.in_ok-sections.ensures ∙ (ap (λ (n : ℕ). half_from (taking half rs n) [] 0 c.as_slice.result.now) c.len.ensures ∙ ap (λ (s : List (Section (List ℕ))). half_from (taking half rs (old_size a)) [] 0 s) e))

pub returns : goal.returns
returns c =
    let half = c.args.half in
    let rs = c.args.ranges.now in
    let a : List (Section (List ℕ)) = c.args.self.now in
    let e : c.as_slice.result.now ≡ a = c.as_slice.ensures ∙ c.self.view_is in
    let w : c.in_ok-sections.sections.items ≡ half_from (taking half rs (old_size a)) [] 0 a =
    c.in_ok-sections.ensures ∙ (ap (λ (n : ℕ). half_from (taking half rs n) [] 0 c.as_slice.result.now) c.len.ensures ∙ ap (λ (s : List (Section (List ℕ))). half_from (taking half rs (old_size a)) [] 0 s) e) in
    record { value = w; starts = ap old_size w ∙ half-old half rs (old_size a) a }
