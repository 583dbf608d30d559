use Rattle.std.proofs.Common.{◌∙◌, arith}
use Rattle.words.proofs.Read.{first_byte}
use Rattle.words.proofs.words.is_option.Goals as goal

pub returns : goal.returns
returns c = c.starts_with.ensures.byte (omega arith) (omega arith) (λ w o h. h) ∙ first_byte 45 c.args.word.now (omega arith)
