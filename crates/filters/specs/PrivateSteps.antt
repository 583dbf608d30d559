-- One more spec after changes, and several, for private clauses.
use Rattle.std.specs.Prelude.{◌≡◌, ℕ, ◌≤◌, List, length, Option, Some, None}
use Rattle.std.specs.Option.{option_or}
use Rattle.change_desc.specs.Sections.{spelled, new_size, old_size}
use Rattle.transaction.specs.declared.draft.Draft.{Draft}
use Rattle.transaction.specs.declared.error.TransactionError.{TransactionError}
use Rattle.transaction.specs.declared.spec.Spec.{Spec}
use Rattle.transaction.specs.Merging.{Changes, next_total, own_changes}
use Rattle.transaction.specs.Refusals.{changes_refusal, given_refusal, selections_refusal, spec_changes_refusal, specs_refusal}
use Rattle.values.specs.declared.val.Val.{Val}
use Rattle.values.specs.Rules.{Rules}
use Rattle.filters.specs.declared.check.Checked.{Checked}
use Rattle.filters.specs.Starts.{StartView, StartsIn}
use Rattle.filters.specs.Filtered.{followed_by}

-- changes over a document of this length that don't lead to one that is too long
pub record AreShort (len max : ℕ) (total : Changes) : Type 0 where
  pub starts : old_size total ≡ len
  pub short : new_size spelled total ≤ max

-- the changes so far and then those of one more spec, whose selection may be refused
pub record IsChecked (len max : ℕ) (before : Changes) (s : Spec Val) (c : Checked) : Type 0 where
  pub accepted : spec_changes_refusal len max (Some before) s ≡ None
  pub total : c.total ≡ next_total (Some before) s.sequential (own_changes len (Some before) s)
  pub refusal : c.refusal ≡ given_refusal (new_size spelled (own_changes len (Some before) s)) s.selection
  pub are_short : AreShort len max c.total

-- several specs, of which some are left: what was found and what is left come to the whole
pub record Checks (len max : ℕ) (first : Changes) (all : List (Spec Val)) (total : Changes) (refusal : Option TransactionError) (rest : List (Spec Val)) : Type 0 where
  pub are_short : AreShort len max total
  pub changes : changes_refusal len max (Some total) rest ≡ changes_refusal len max (Some first) all
  pub selections : option_or refusal (selections_refusal len (Some total) rest) ≡ selections_refusal len (Some first) all

-- specs that follow a draft, of which some are left
pub record Follow (rules : Rules) (start : StartView) (first : Draft Val) (all : List (Spec Val)) (d : Draft Val) (rest : List (Spec Val)) : Type 0 where
  pub starts : StartsIn start d
  pub accepted : specs_refusal (length start.document) start.max start.kinds (Some d.changes) rest ≡ None
  pub value : followed_by rules start d rest ≡ followed_by rules start first all
