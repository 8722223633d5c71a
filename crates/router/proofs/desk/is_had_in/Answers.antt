use Rattle.std.proofs.Common.{rules, Bor}
use Rattle.bind_cache.specs.Stored.{kept_of}
use Rattle.bind_core.specs.declared.outcome.Outcome.{Outcome}
use Rattle.bind_core.specs.Outcome.{ending_of}
use Rattle.snap_cell.specs.Guards.{whole_value}
use Rattle.snap_cell.specs.Writers.{published_by, opening_written}
use Rattle.router.proofs.Entering.{whole_is, whole_fits, entered_value, had_is}
use Rattle.router.proofs.desk.is_had_in.Goals as goal

pub returns-clause-whole : goal.returns-clause-whole
returns-clause-whole g c = whole_is (opening_written c.args.writer.now)
    (published_by c.args.writer.now) c.requires.empty c.value-whole.ensures.legal.fit

pub returns-clause-fit : goal.returns-clause-fit
returns-clause-fit g c = whole_fits (opening_written c.args.writer.now)
    (published_by c.args.writer.now) c.requires.empty c.value-whole.ensures.legal.fit

pub returns-clause-had : goal.returns-clause-had
returns-clause-had g c =
    let v = whole_value c.value-whole.result in
    let is = entered_value v (opening_written c.args.writer.now)
    (published_by c.args.writer.now) c.requires.empty c.value-whole.ensures.value
    c.value-whole.ensures.legal.fit in
    let h = had_is (λ (outcome : Bor Outcome). ending_of outcome.now) c.find.result
    c.get.result.now v _ c.path.result.now (kept_of c.args.binding.now).path _
    (kept_of c.args.binding.now).local c.find.ensures c.get.ensures is c.path.ensures
    c.local.ensures in
    search (rules, h)
