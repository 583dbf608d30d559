use Rattle.std.proofs.Common.{◌≡◌, ℕ, Vec, Global, string_bytes, subst, ◌∙◌, ap}
use Rattle.std.specs.Str.{IsUtf8}
use Rattle.std.proofs.lemmas.Str.{IsUtf8-string_bytes}
use Rattle.file_text.specs.Files.{saved_bytes, read_chars}
use Rattle.file_text.proofs.RoundTrip.{saved_reads_back}
use Rattle.file_text.proofs.saving.saved_bytes.Goals as goal

pub returns-clause-reads_back : goal.returns-clause-reads_back
returns-clause-reads_back c =
    let separator = c.args.separator.now in
    let text = c.args.text.now.characters in
    let saved : string_bytes c.in_ok-saved.saved ≡ saved_bytes separator text = c.in_ok-saved.ensures in
    λ line_end none. ap read_chars (ap (λ (v : Vec ℕ Global). v.items) c.into_bytes.ensures.value ∙ saved)
    ∙ saved_reads_back separator text (subst IsUtf8 saved (IsUtf8-string_bytes c.in_ok-saved.saved)) line_end none
