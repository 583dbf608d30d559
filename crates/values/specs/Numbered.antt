-- A list of rules, by their numbers.
use Rattle.std.specs.Prelude.{◌≡◌, ◌<◌, ℕ, List, length, slice_index_or}
use Rattle.transaction.specs.Numbers.{IsNumber}

module _ {X : Type 0} (number_of : X → ℕ) where
  -- the element at a place of the list has the number
  pub record HasNumberAt (list : List X) (n place : ℕ) : Type 0 where
    pub inside : place < length list
    pub found : X
    pub at_place : slice_index_or list place found ≡ found
    pub number : number_of found ≡ n

  -- an element of the list has the number
  abbrev pub HasNumber : List X → ℕ → Type 0
  HasNumber list n = (place : ℕ) × HasNumberAt list n place

  -- elements of the list have the numbers of a sort that has so many
  pub record HasNumbers (count : ℕ) (list : List X) : Type 0 where
    pub each : (n : ℕ) → IsNumber count n → HasNumber list n

  -- the least number of the sort that no element of the list has
  pub record IsGap (count : ℕ) (list : List X) (n : ℕ) : Type 0 where
    pub number : IsNumber count n
    pub missing : ¬ HasNumber list n
    pub least : (m : ℕ) → IsNumber count m → m < n → HasNumber list m
