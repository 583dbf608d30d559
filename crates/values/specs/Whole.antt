-- When rules are whole: each number of each sort has one, and each answers its number's meaning.
use Rattle.std.specs.Prelude.{◌≡◌, ℕ, ◌<◌, Bool, List, All, Option, Result}
use Rattle.std.specs.Fn.{Mut}
use Rattle.std.specs.Borrow.{Bor}
use Rattle.std.specs.declared.alloc.AllocError.{AllocError}
use Rattle.change_desc.specs.declared.section.Section.{Section}
use Rattle.values.specs.declared.val.Val.{Val}
use Rattle.values.specs.declared.update_view.UpdateView.{UpdateView}
use Rattle.values.specs.declared.answers.Guarding.{Guarding}
use Rattle.values.specs.declared.answers.Filtering.{Filtering}
use Rattle.values.specs.declared.answers.Extension.{Extension}
use Rattle.values.specs.declared.rule_lists.RuleLists.{RuleLists}
use Rattle.values.specs.declared.kit.Kit.{Kit}
use Rattle.values.specs.declared.sort.Sort.{Sort}
use Rattle.values.specs.declared.sort.Sort.TheVariants.{Combine, Compare, Compute, ComputeN, Create, Update, EffectMap, ChangeGuard, TrFilter, Extender}
use Rattle.values.specs.declared.sort.Gap.{Gap}
use Rattle.values.specs.Views.{DepsView, TransactionView}
use Rattle.values.specs.Rules.{Rules}
use Rattle.values.specs.Stored.{Combines, Compares, Computes, ComputesLists, Creates, Updates, MapsEffects, Guards, Filters, Extends}
use Rattle.values.specs.Numbered.{HasNumbers, IsGap}

-- the places of the sorts in their order
abbrev pub place_of : Sort → ℕ
place_of Combine = 0
place_of Compare = 1
place_of Compute = 2
place_of ComputeN = 3
place_of Create = 4
place_of Update = 5
place_of EffectMap = 6
place_of ChangeGuard = 7
place_of TrFilter = 8
place_of Extender = 9

module _ {M X Y Z V W U S R Q : Type 0}
    {F : X → Type 0}
    {G : Y → Type 0}
    {H : Z → Type 0}
    {I : V → Type 0}
    {J : W → Type 0}
    {K : U → Type 0}
    {L : S → Type 0}
    {N : R → Type 0}
    {O : Q → Type 0}
    {f : Mut ((xx : X) × F xx) (Bor (List Val) × Unit {0}) (Result Val AllocError)}
    {g : Mut ((yy : Y) × G yy) (Bor Val × (Bor Val × Unit {0})) Bool}
    {h : Mut ((zz : Z) × H zz) (Bor DepsView × Unit {0}) (Result Val AllocError)}
    {i : Mut ((vv : V) × I vv) (Bor DepsView × Unit {0}) (Result (List Val) AllocError)}
    {j : Mut ((ww : W) × J ww) (Bor Val × (Bor UpdateView × Unit {0})) (Result (Option Val) AllocError)}
    {k : Mut ((uu : U) × K uu) (Val × (Bor (List (Section ℕ)) × Unit {0})) (Result (Option Val) AllocError)}
    {l : Mut ((ss : S) × L ss) (Bor TransactionView × (Bor Val × Unit {0})) (Result Guarding AllocError)}
    {m : Mut ((rr : R) × N rr) (Bor TransactionView × (Bor Val × Unit {0})) (Result Filtering AllocError)}
    {o : Mut ((qq : Q) × O qq) (Bor TransactionView × (Bor Val × Unit {0})) (Result Extension AllocError)} where
  -- each number of a sort has a rule
  abbrev pub HasSort : Rules → RuleLists M X Y Z V W U S R Q F G H I J K L N O f g h i j k l m o → Sort → Type 0
  HasSort rules lists Combine = HasNumbers (λ c. c.number) rules.combiners lists.combiners.items
  HasSort rules lists Compare = HasNumbers (λ c. c.number) rules.comparers lists.comparers.items
  HasSort rules lists Compute = HasNumbers (λ c. c.number) rules.computers lists.computers.items
  HasSort rules lists ComputeN = HasNumbers (λ c. c.number) rules.list_computers lists.list_computers.items
  HasSort rules lists Create = HasNumbers (λ c. c.number) rules.creators lists.creators.items
  HasSort rules lists Update = HasNumbers (λ c. c.number) rules.updaters lists.updaters.items
  HasSort rules lists EffectMap = HasNumbers (λ c. c.number) rules.effect_maps lists.effect_maps.items
  HasSort rules lists ChangeGuard = HasNumbers (λ c. c.number) rules.change_guards lists.change_guards.items
  HasSort rules lists TrFilter = HasNumbers (λ c. c.number) rules.transaction_filters lists.filters.items
  HasSort rules lists Extender = HasNumbers (λ c. c.number) rules.extenders lists.extenders.items

  -- the least number of a sort without a rule
  abbrev pub IsSortGap : Rules → RuleLists M X Y Z V W U S R Q F G H I J K L N O f g h i j k l m o → Sort → ℕ → Type 0
  IsSortGap rules lists Combine n = IsGap (λ c. c.number) rules.combiners lists.combiners.items n
  IsSortGap rules lists Compare n = IsGap (λ c. c.number) rules.comparers lists.comparers.items n
  IsSortGap rules lists Compute n = IsGap (λ c. c.number) rules.computers lists.computers.items n
  IsSortGap rules lists ComputeN n = IsGap (λ c. c.number) rules.list_computers lists.list_computers.items n
  IsSortGap rules lists Create n = IsGap (λ c. c.number) rules.creators lists.creators.items n
  IsSortGap rules lists Update n = IsGap (λ c. c.number) rules.updaters lists.updaters.items n
  IsSortGap rules lists EffectMap n = IsGap (λ c. c.number) rules.effect_maps lists.effect_maps.items n
  IsSortGap rules lists ChangeGuard n = IsGap (λ c. c.number) rules.change_guards lists.change_guards.items n
  IsSortGap rules lists TrFilter n = IsGap (λ c. c.number) rules.transaction_filters lists.filters.items n
  IsSortGap rules lists Extender n = IsGap (λ c. c.number) rules.extenders lists.extenders.items n

  -- First gap: the first sort of which a number has no rule, and the least such number.
  pub record IsFirstGap (rules : Rules) (lists : RuleLists M X Y Z V W U S R Q F G H I J K L N O f g h i j k l m o) (gap : Gap) : Type 0 where
    pub missing : IsSortGap rules lists gap.sort gap.number
    pub first : (sort : Sort) → place_of sort < place_of gap.sort → HasSort rules lists sort

  -- each number of each sort has a rule
  pub record HasAll (rules : Rules) (lists : RuleLists M X Y Z V W U S R Q F G H I J K L N O f g h i j k l m o) : Type 0 where
    pub combiners : HasNumbers (λ c. c.number) rules.combiners lists.combiners.items
    pub comparers : HasNumbers (λ c. c.number) rules.comparers lists.comparers.items
    pub computers : HasNumbers (λ c. c.number) rules.computers lists.computers.items
    pub list_computers : HasNumbers (λ c. c.number) rules.list_computers lists.list_computers.items
    pub creators : HasNumbers (λ c. c.number) rules.creators lists.creators.items
    pub updaters : HasNumbers (λ c. c.number) rules.updaters lists.updaters.items
    pub effect_maps : HasNumbers (λ c. c.number) rules.effect_maps lists.effect_maps.items
    pub change_guards : HasNumbers (λ c. c.number) rules.change_guards lists.change_guards.items
    pub filters : HasNumbers (λ c. c.number) rules.transaction_filters lists.filters.items
    pub extenders : HasNumbers (λ c. c.number) rules.extenders lists.extenders.items

  -- each rule answers its number's meaning
  pub record AllAnswer (rules : Rules) (lists : RuleLists M X Y Z V W U S R Q F G H I J K L N O f g h i j k l m o) : Type 0 where
    pub combiners : All (Combines rules) lists.combiners.items
    pub comparers : All (Compares rules) lists.comparers.items
    pub computers : All (Computes rules) lists.computers.items
    pub list_computers : All (ComputesLists rules) lists.list_computers.items
    pub creators : All (Creates rules) lists.creators.items
    pub updaters : All (Updates rules) lists.updaters.items
    pub effect_maps : All (MapsEffects rules) lists.effect_maps.items
    pub change_guards : All (Guards rules) lists.change_guards.items
    pub filters : All (Filters rules) lists.filters.items
    pub extenders : All (Extends rules) lists.extenders.items

  -- Whole: a kit of rules of which none is missing, each of which answers its number's meaning.
  pub record IsWhole (rules : Rules) (kit : Kit M X Y Z V W U S R Q F G H I J K L N O f g h i j k l m o) : Type 0 where
    pub all : HasAll rules kit.lists
    pub answers : AllAnswer rules kit.lists
