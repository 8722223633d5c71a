use Rattle.std.proofs.Common.{◌<◌, arith, sym, ◌∙◌}
use Rattle.http_wire.proofs.Replying.{code_more, code_other}
use Rattle.http_wire.proofs.reply_watch.code.Goals as goal

pub returns-then-fits : goal.returns-then-fits
returns-then-fits c =
    let few : c.args.count < 12 = omega arith in
    code_more c.args.count c.args.byte few (sym c.fits.ensures ∙ c.if-fits.true)

pub returns-else-fits : goal.returns-else-fits
returns-else-fits c =
    let few : c.args.count < 12 = omega arith in
    code_other c.args.count c.args.byte few (sym c.fits.ensures ∙ c.if-fits.false)
