use Rattle.std.proofs.Common.{◌≡◌, ◌<◌, ◌+◌, ◌-◌, ◌++◌, ◌∙◌, ℕ, List, [], take, drop, length, get_or, sym, drop-cons, add-one, length-drop}
use Rattle.std.proofs.lemmas.List.{take-append-drop}
use Rattle.std.proofs.Math.Seq.{take-length}
use Rattle.dep_graph.specs.Visiting.{IsPartFrom}
use Rattle.dep_graph.proofs.circle.part_from.Goals as goal

part : (path new members : List ℕ) (i v : ℕ) → i < length path → get_or path i 0 ≡ v → new ≡ [] → members ≡ new ++ take (length path - i) (drop i path) → IsPartFrom path v members
part path new members i v lt at none is =
    let all : members ≡ drop i path = rw (is, none, sym (length-drop i path)) (take-length (drop i path)) in
    record {
      before = take i path;
      after = drop (i + 1) path;
      part_is = all ∙ rw (sym at, add-one) (drop-cons path i 0 lt);
      path_is = rw all (sym (take-append-drop i path));
    }

pub returns-then-other-vertex : goal.returns-then-other-vertex
returns-then-other-vertex c = part c.args.path.now c.new-members.result.items c.extend_from_slice.new.self.items c.loop-place.place c.args.vertex c.loop-place-test.true c.if-other-vertex.true c.new-members.ensures.items c.in_ok-extend_from_slice.ensures.items
