use Rattle.proxy_session.proofs.Calling.{reports_it, saw_unanswered}
use Rattle.proxy_session.proofs.reporting.report.Goals as goal

pub returns-in-Ok-clause-ok : goal.returns-in-Ok-clause-ok
returns-in-Ok-clause-ok g c = (
  c.now-moment.result,
  c.now-moment.ensures.tells,
  reports_it c.args.pass.now c.change.new.pass c.in-Ok.ensures.number c.args.addr c.args.good
      c.now-moment.result c.in-Ok.reply c.in-Ok.ensures.changed,
)

pub returns-in-Err-clause-err : goal.returns-in-Err-clause-err
returns-in-Err-clause-err g c = (
  c.now-moment.result,
  c.now-moment.ensures.tells,
  saw_unanswered c.args.pass.now
      c.change.new.pass c.in-Err.ensures.number c.in-Err.ensures.want,
)
