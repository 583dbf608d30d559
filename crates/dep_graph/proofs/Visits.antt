use Rattle.std.proofs.Common.{◌≡◌, ◌<◌, ◌++◌, ◌∙◌, ℕ, List, [], ◌∷◌, Bool, true, false, ◌||◌, eqb, length, set, get_or, sum_by, refl, sym, subst, ⊎_elim, inr, arith, length-set, get_or-set_other, get_or-set_same}
use Rattle.std.proofs.lemmas.Bool.{cases_eq, ne_eqb, eq-eqb, true≢false}
use Rattle.std.proofs.lemmas.List.Sums.{sum_by-set}
use Rattle.dep_graph.specs.declared.edge.Edge.{Edge}
use Rattle.id_lists.specs.Members.{In}
use Rattle.dep_graph.specs.Order.{IsChain, AreDistinct, IsFirstStuck, IsCircle}
use Rattle.dep_graph.specs.Counting.{has}
use Rattle.dep_graph.specs.Visiting.{IsVisiting, IsPartFrom, unmarked}
use Rattle.dep_graph.proofs.Told.{has-in, in-has, has-more}
use Rattle.dep_graph.proofs.Stuck.{chain-more, distinct-more}
use Rattle.dep_graph.proofs.Next.{Found}

or-false : (b : Bool) → (b || false) ≡ b
or-false true = refl
or-false false = refl

or-true : (b : Bool) → (b || true) ≡ true
or-true true = refl
or-true false = refl

module _ (count : ℕ) (es : List Edge) (counts : List ℕ) (first : ℕ) (marks : List Bool) (path : List ℕ) (v : ℕ) (i : IsVisiting count es counts first marks path v) where
  module _ (w : ℕ) (new : get_or marks v false ≡ false) (f : Found count es counts v w) where
    inside : v < length marks
    inside = omega (arith, i.within, i.as_many)

    out : In v path → ⊥
    out j = true≢false (sym (has-in path v j) ∙ sym (i.marked v i.within) ∙ new)

    marked : (u : ℕ) → u < count → get_or (set marks v true) u false ≡ has (path ++ v ∷ []) u
    marked u lt =
        ⊎_elim
        (λ e. let one : eqb v v ≡ true = eq-eqb v v refl in rw e (get_or-set_same marks v true false inside ∙ sym (has-more path v v ∙ rw one (or-true (has path v)))))
        (λ ne. let none : eqb u v ≡ false = ne_eqb u v ne in get_or-set_other marks v u true false ne ∙ i.marked u lt ∙ sym (has-more path v u ∙ rw none (or-false (has path u))))
        (cases_eq u v)

    -- the walk goes on to the next
    pub visits : IsVisiting count es counts first (set marks v true) (path ++ v ∷ []) w
    visits = record {
      as_many = rw length-set i.as_many;
      within = f.within;
      waits = f.waits;
      marked = marked;
      chain = chain-more es path v w i.chain f.next;
      distinct = distinct-more path v i.distinct out;
      start = inr (⊎_elim (λ s. ([], rw (s.0, s.1) refl)) (λ s. (s.0 ++ v ∷ [], rw s.1 refl)) i.start);
    }

    pub less : sum_by unmarked (set marks v true) < sum_by unmarked marks
    less = let s = sum_by-set unmarked marks v true false inside in let u : unmarked (get_or marks v false) ≡ 1 = rw new refl in omega (arith, s, u)

  -- at a vertex that was visited the circle is closed
  pub there : get_or marks v false ≡ true → In v path
  there m = in-has path v (sym (i.marked v i.within) ∙ m)

  pub closes : (members : List ℕ) → IsFirstStuck count es first → IsPartFrom path v members → In v path → IsCircle count es members
  closes members stuck part j =
      let s : (others : List ℕ) × (path ≡ first ∷ others) = ⊎_elim (λ n. absurd (subst (λ (vs : List ℕ). In v vs) n.0 j)) (λ s. s) i.start in
      record {
        before = part.before;
        first = first;
        others = s.0;
        first_member = v;
        other_members = part.after;
        members_are = part.part_is;
        walk_is = sym part.path_is ∙ s.1;
        starts = stuck;
        chain = subst (λ (vs : List ℕ). IsChain es vs v) part.path_is i.chain;
        distinct = subst AreDistinct part.path_is i.distinct;
      }
