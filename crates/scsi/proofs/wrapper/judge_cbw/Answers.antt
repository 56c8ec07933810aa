use Rattle.std.proofs.Common.{rules}
use Rattle.std.proofs.lemmas.Result.{err_from_is_err_and}
use Rattle.scsi.proofs.Judged.{judged_unread, judged_read}
use Rattle.scsi.proofs.wrapper.judge_cbw.Goals as goal

pub returns-in_err-read : goal.returns-in_err-read
returns-in_err-read c = let p = err_from_is_err_and c.from_residual.result c.from_residual.ensures.1 in rw (p.1, p.2) (judged_unread _ _ _ c.in_err-read.ensures)

pub returns-then-read-highest : goal.returns-then-read-highest
returns-then-read-highest c = let e = judged_read _ c.args.highest c.in_ok-read.read c.in_ok-read.ensures in search rules

pub returns : goal.returns
returns c = let e = judged_read _ c.args.highest c.in_ok-read.read c.in_ok-read.ensures in search rules
