use Rattle.std.proofs.Common.{rules, refl}
use Rattle.machine.specs.Code.{ask_of}
use Rattle.snap_cell.specs.Views.{opening_of, seen_of}
use Rattle.snap_cell.specs.Guards as guards
use Rattle.router.proofs.Entering.{told_place, told_right, told_found, told_read}
use Rattle.router.proofs.Calling.{entered_is}
use Rattle.router.proofs.asking.find_through.Goals as goal

pub pick-found-requires-clause-right : goal.pick-found-requires-clause-right
pick-found-requires-clause-right c =
    let e = c.in_ok-entered.ensures in
    told_right (guards.entered_value c.in_ok-entered.entered) (opening_of c.args.reader.now)
    (seen_of c.take.new.self) c.requires.empty e.value e.legal.fit c.get-current.result.now
    c.get-current.ensures (seen_of c.take.new.self) refl

pub returns-clause-place : goal.returns-clause-place
returns-clause-place c =
    let e = c.in_ok-entered.ensures in
    let h = told_place (guards.entered_value c.in_ok-entered.entered)
    (opening_of c.args.reader.now) (seen_of c.take.new.self) c.requires.empty e.value e.legal.fit
    c.get-current.result.now c.get-current.ensures (seen_of c.put_back.new.self)
    c.put_back.ensures.seen c.place-place.result c.place-place.ensures in
    search (rules, h)

pub returns-clause-found : goal.returns-clause-found
returns-clause-found c =
    let e = c.in_ok-entered.ensures in
    let h = told_found (guards.entered_value c.in_ok-entered.entered)
    (opening_of c.args.reader.now) (seen_of c.take.new.self) c.requires.empty e.value e.legal.fit
    c.get-current.result.now c.get-current.ensures (seen_of c.put_back.new.self)
    c.put_back.ensures.seen c.pick-found.result c.place-place.result
    (ask_of c.args.ask.now) _ _ c.place-place.ensures c.pick-found.ensures.found in
    search (rules, h)

pub returns-clause-entered : goal.returns-clause-entered
returns-clause-entered c =
    let e = c.in_ok-entered.ensures in
    let h = entered_is _ _ _ c.of-2.result _ c.of-2.ensures e.same.0 e.same.1 e.before e.item
    c.put_back.ensures in
    search (rules, h)

pub returns-clause-err : goal.returns-clause-err
returns-clause-err c =
    let e = c.in_ok-entered.ensures in
    let h = told_read (guards.entered_value c.in_ok-entered.entered) (opening_of c.args.reader.now)
    (seen_of c.take.new.self) c.requires.empty e.value e.legal.fit
    c.get-current.result.now c.get-current.ensures (seen_of c.put_back.new.self)
    c.put_back.ensures.seen c.pick-found.result (ask_of c.args.ask.now) _ _
    c.pick-found.ensures.err in
    search (rules, h)
