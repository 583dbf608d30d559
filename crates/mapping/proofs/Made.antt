-- A list of changes makes a set, or is refused, as the set of changes is.
use Rattle.std.proofs.Common.{◌≡◌, ◌≢◌, ℕ, List, Some, None, Ok, sym, ap, ◌∙◌}
use Rattle.std.specs.Prelude.{option_and_then}
use Rattle.change_desc.specs.declared.section.Section.{Section}
use Rattle.change_desc.specs.Sections.{spelled}
use Rattle.change_desc.specs.Of.{of}
use Rattle.line_tree.specs.Text.{max_len}
use Rattle.change_set.specs.declared.change.Change.{Change}
use Rattle.change_set.specs.declared.error.ChangesError.{ChangesError}
use Rattle.change_set.specs.declared.error.ChangesError.TheVariants.{BadRange, LengthMismatch, TooLong, NoMemory}
use Rattle.change_set.specs.Changes.{as_sets}
use Rattle.change_set.specs.Refusals.{refusal}
use Rattle.script.specs.Reading.{Fails}
use Rattle.script.specs.Refused.{changes_refusal, line_error, unless}
use Rattle.mapping.specs.Changes.{set_of}

pub set_fails : (len : ℕ) (changes : List Change) (error : ChangesError) → (error ≢ NoMemory → refusal len max_len changes ≡ Some error) → Fails (line_error (changes_refusal error)) (set_of changes len)
unfolding set_of
set_fails len changes (BadRange index from to n) refused = ap (λ r. unless (option_and_then changes_refusal r) (of spelled len (as_sets len changes))) (refused (λ e. absurd (let f : ⊥ = cc e in f)))
set_fails len changes (LengthMismatch want have) refused = ap (λ r. unless (option_and_then changes_refusal r) (of spelled len (as_sets len changes))) (refused (λ e. absurd (let f : ⊥ = cc e in f)))
set_fails len changes (TooLong n most) refused = ap (λ r. unless (option_and_then changes_refusal r) (of spelled len (as_sets len changes))) (refused (λ e. absurd (let f : ⊥ = cc e in f)))
set_fails len changes NoMemory refused = tt

pub set_made : (len : ℕ) (changes : List Change) (set : List (Section (List ℕ))) → set ≡ of spelled len (as_sets len changes) → refusal len max_len changes ≡ None → set_of changes len ≡ Ok set
unfolding set_of
set_made len changes set made none = ap (λ r. unless (option_and_then changes_refusal r) (of spelled len (as_sets len changes))) none ∙ ap Ok (sym made)
