use Rattle.std.proofs.Common.{rules}
use Rattle.snap_cell.specs.Views.{opening_of, seen_of}
use Rattle.snap_cell.specs.Guards as guards
use Rattle.router.proofs.Entering.{told_place, told_kept, told_out}
use Rattle.router.proofs.Calling.{entered_is}
use Rattle.router.proofs.asking.detach_through.Goals as goal

pub returns-clause-place : goal.returns-clause-place
returns-clause-place c =
    let e = c.in_ok-entered.ensures in
    let h = told_place (guards.entered_value c.in_ok-entered.entered)
    (opening_of c.args.reader.now) (seen_of c.take.new.self) c.requires.empty e.value e.legal.fit
    c.get-current.result.now c.get-current.ensures (seen_of c.put_back.new.self)
    c.put_back.ensures.seen c.place.result c.place.ensures in
    search (rules, h)

pub returns-clause-kept : goal.returns-clause-kept
returns-clause-kept c =
    let e = c.in_ok-entered.ensures in
    let h = told_kept (guards.entered_value c.in_ok-entered.entered) (opening_of c.args.reader.now)
    (seen_of c.take.new.self) c.requires.empty e.value e.legal.fit
    c.get-current.result.now c.get-current.ensures (seen_of c.put_back.new.self)
    c.put_back.ensures.seen c.kept.result c.kept.ensures in
    search (rules, h)

pub returns-clause-detached : goal.returns-clause-detached
returns-clause-detached c =
    let e = c.in_ok-entered.ensures in
    let h = told_out (guards.entered_value c.in_ok-entered.entered) (opening_of c.args.reader.now)
    (seen_of c.take.new.self) c.requires.empty e.value e.legal.fit
    c.get-current.result.now c.get-current.ensures (seen_of c.put_back.new.self)
    c.put_back.ensures.seen c.detach-detached.result c.detach-detached.ensures in
    search (rules, h)

pub returns-clause-entered : goal.returns-clause-entered
returns-clause-entered c =
    let e = c.in_ok-entered.ensures in
    let h = entered_is _ _ _ c.of-2.result _ c.of-2.ensures e.same.0 e.same.1 e.before e.item
    c.put_back.ensures in
    search (rules, h)
