use Rattle.std.proofs.lemmas.Result.{err_from_is_err_and}
use Rattle.std.specs.Prelude.{length}
use Rattle.replies.specs.Replies.{reply_text}
use Rattle.replies.specs.declared.answer.Answer.TheVariants.{Bytes}
use Rattle.replies.specs.declared.answer.Reply.TheVariants as replies
use Rattle.session.proofs.Carrying.{failed_told, told_reply, written_told}
use Rattle.session.proofs.session.save_bytes.Goals as goal

pub returns-in_err-save-clause-saves : goal.returns-in_err-save-clause-saves
returns-in_err-save-clause-saves g c =
    let p = err_from_is_err_and c.from_residual-in_err-save.result c.from_residual-in_err-save.ensures.1 in
    rw (p.1, p.2) (failed_told c.args.name.now c.args.bytes.now (reply_text (replies.Ok (Bytes (length c.args.bytes.now)))) (g.D.Store.files c.args.store.now) (g.D.Store.files c.save.new.self)
    c.in_err-save.field-0.0 c.in_err-save.ensures.files)

pub returns-clause-saves : goal.returns-clause-saves
returns-clause-saves g c =
    written_told c.args.name.now c.args.bytes.now (reply_text (replies.Ok (Bytes (length c.args.bytes.now)))) (g.D.Store.files c.args.store.now) (g.D.Store.files c.save.new.self)
    c.in_ok-reply.reply c.in_ok-save.ensures.files
    (told_reply (reply_text (replies.Ok (Bytes (length c.args.bytes.now)))) c.answer_text.result c.told.result c.in_ok-reply.reply c.answer_text.ensures c.told.ensures c.in_ok-reply.was)
