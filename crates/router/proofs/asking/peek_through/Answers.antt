use Rattle.std.proofs.Common.{rules, refl}
use Rattle.machine.specs.Code.{ask_of}
use Rattle.snap_cell.specs.Views.{opening_of, seen_of}
use Rattle.snap_cell.specs.Guards as guards
use Rattle.router.proofs.Entering.{told_place, told_right, told_peek}
use Rattle.router.proofs.Calling.{entered_is}
use Rattle.router.proofs.asking.peek_through.Goals as goal

pub peek-peeked-requires-clause-right : goal.peek-peeked-requires-clause-right
peek-peeked-requires-clause-right c =
    let e = c.in_ok-entered.ensures in
    told_right (guards.entered_value c.in_ok-entered.entered) (opening_of c.args.reader.now)
    (seen_of c.take.new.self) c.requires.empty e.value e.legal.fit c.get.result.now c.get.ensures
    (seen_of c.take.new.self) refl

pub returns-clause-place : goal.returns-clause-place
returns-clause-place c =
    let e = c.in_ok-entered.ensures in
    let h = told_place (guards.entered_value c.in_ok-entered.entered)
    (opening_of c.args.reader.now) (seen_of c.take.new.self) c.requires.empty e.value e.legal.fit
    c.get.result.now c.get.ensures (seen_of c.put_back.new.self) c.put_back.ensures.seen
    c.peek-peeked.result.0 c.peek-peeked.ensures.place in
    search (rules, h)

pub returns-clause-answer : goal.returns-clause-answer
returns-clause-answer c =
    let e = c.in_ok-entered.ensures in
    let h = told_peek (guards.entered_value c.in_ok-entered.entered) (opening_of c.args.reader.now)
    (seen_of c.take.new.self) c.requires.empty e.value e.legal.fit
    c.get.result.now c.get.ensures (seen_of c.put_back.new.self) c.put_back.ensures.seen
    c.peek-peeked.result.1 c.peek-peeked.result.0 (ask_of c.args.ask.now) _ _ _
    c.peek-peeked.ensures.place c.peek-peeked.ensures.answer in
    search (rules, h)

pub returns-clause-entered : goal.returns-clause-entered
returns-clause-entered c =
    let e = c.in_ok-entered.ensures in
    let h = entered_is _ _ _ c.of-2.result _ c.of-2.ensures e.same.0 e.same.1 e.before e.item
    c.put_back.ensures in
    search (rules, h)
