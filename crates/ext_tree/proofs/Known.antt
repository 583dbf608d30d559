use Rattle.std.proofs.Common.{◌≡◌, ◌<◌, ℕ, List, [], ◌∷◌, Bool, true, false, not, cond, fold, min, Option, None, Some, nat_lt, length, ◌++◌, sym, ap, subst, ⊎_elim}
use Rattle.std.proofs.lemmas.Bool.{cases_Bool, ltb-true}
use Rattle.std.specs.List.{AllByRecursion}
use Rattle.std.specs.Map.{lookup}
use Rattle.std.specs.Option.{option_or, option_map}
use Rattle.id_lists.specs.Least.{lesser}
use Rattle.ext_tree.specs.Unknown.{unknown_ids, least_unknown}
use Rattle.compartments.specs.Contents.{content_nodes}
use Rattle.ext_tree.specs.declared.node.Node.{Node}
use Rattle.ext_tree.specs.Links.{LinkLists}
use Rattle.ext_tree.specs.Tree.{Tree, IsOlder, IsArena, AreLinksOlder, IsTree, tree_of}
use Rattle.ext_tree.specs.Unfolding.{unfolding_of}
use Rattle.ext_tree.specs.Refusal.{Unknown, refusal, first_refusal}

none≢some : {X : Type 0} (x : X) → Some x ≡ None → ⊥
none≢some x e = cc

-- once an id is unknown, one is
some-stays : (m : ℕ) (ns : List ℕ) → fold lesser (Some m) ns ≡ None → ⊥
some-stays m [] e = none≢some m e
some-stays m (n ∷ ns) e = some-stays (min m n) ns e

-- where none is unknown, all are nodes of the arena
pub all-known : (count : ℕ) (ns : List ℕ) → least_unknown count ns ≡ None → AllByRecursion (IsOlder count) ns
all-known count [] e = tt
all-known count (n ∷ ns) e =
    ⊎_elim
    (λ (q : nat_lt n count ≡ true). let rest : least_unknown count ns ≡ None = subst (λ (b : Bool). fold lesser None (cond (not b) (n ∷ unknown_ids count ns) (unknown_ids count ns)) ≡ None) q e in (ltb-true n count q, all-known count ns rest))
    (λ (q : nat_lt n count ≡ false). let rest : fold lesser (Some n) (unknown_ids count ns) ≡ None = subst (λ (b : Bool). fold lesser None (cond (not b) (n ∷ unknown_ids count ns) (unknown_ids count ns)) ≡ None) q e in absurd (some-stays n (unknown_ids count ns) rest))
    (cases_Bool (nat_lt n count))

content-in : (P : ℕ → Type 0) (test : ℕ → Bool) (entries : List (ℕ × ℕ)) (n : ℕ) → AllByRecursion P (content_nodes entries) → lookup test entries ≡ Some n → P n
content-in P test [] n h e = absurd (none≢some n (sym e))
content-in P test (x ∷ entries) n h e =
    ⊎_elim
    (λ (q : test x.0 ≡ true). subst P (some_injective (subst (λ (b : Bool). cond b (Some x.1) (lookup test entries) ≡ Some n) q e)) h.0)
    (λ (q : test x.0 ≡ false). content-in P test entries n h.1 (subst (λ (b : Bool). cond b (Some x.1) (lookup test entries) ≡ Some n) q e))
    (cases_Bool (test x.0))
  where
    some_injective : {x y : ℕ} → Some x ≡ Some y → x ≡ y
    some_injective e = cc

-- no id of a call is unknown
pub record IsKnownCall (t : Tree) (roots : List ℕ) : Type 0 where
  pub tree : IsTree t
  pub roots_known : AllByRecursion (IsOlder (length t.nodes)) roots
  pub passes : first_refusal t roots ≡ refusal t (unfolding_of t roots)

known-first : (P : ℕ → Type 0) (xs ys : List ℕ) → AllByRecursion P (xs ++ ys) → AllByRecursion P xs × AllByRecursion P ys
known-first P [] ys h = (tt, h)
known-first P (x ∷ xs) ys h = let r = known-first P xs ys h.1 in ((h.0, r.0), r.1)

pub known-call : (nodes : List Node) (contents : List (ℕ × ℕ)) (links : LinkLists) (roots : List ℕ) → IsArena nodes → AreLinksOlder nodes links
    → least_unknown (length nodes) (roots ++ content_nodes contents) ≡ None → IsKnownCall (tree_of nodes contents links) roots
known-call nodes contents links roots arena older none =
    let all = known-first (IsOlder (length nodes)) roots (content_nodes contents) (all-known (length nodes) (roots ++ content_nodes contents) none) in
    record {
      tree = record {
        nodes = arena;
        links = older;
        contents = λ c n e. content-in (λ m. m < length nodes) _ contents n all.1 e;
      };
      roots_known = all.0;
      passes = ap (λ (o : Option ℕ). option_or (option_map Unknown o) (refusal (tree_of nodes contents links) (unfolding_of (tree_of nodes contents links) roots))) none;
    }
