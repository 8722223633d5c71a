use Rattle.std.proofs.Common.{rules}
use Rattle.snap_cell.specs.Views.{opening_of, seen_of}
use Rattle.snap_cell.specs.Guards as guards
use Rattle.router.proofs.Entering.{told_place, told_success}
use Rattle.router.proofs.Calling.{saw_is}
use Rattle.router.proofs.reporting.success_through.Goals as goal

pub returns-clause-place : goal.returns-clause-place
returns-clause-place c =
    let e = c.in_ok-entered.ensures in
    let h = told_place (guards.entered_value c.in_ok-entered.entered)
    (opening_of c.args.reader.now) (seen_of c.take.new.self) c.requires.empty e.value e.legal.fit
    c.get.result.now c.get.ensures (seen_of c.put_back.new.self) c.put_back.ensures.seen
    c.idle_reply-reply.result.0 c.idle_reply-reply.ensures.place in
    search (rules, h)

pub returns-clause-reply : goal.returns-clause-reply
returns-clause-reply c =
    let e = c.in_ok-entered.ensures in
    let h = told_success (guards.entered_value c.in_ok-entered.entered)
    (opening_of c.args.reader.now) (seen_of c.take.new.self) c.requires.empty e.value e.legal.fit
    c.get.result.now c.get.ensures (seen_of c.put_back.new.self) c.put_back.ensures.seen
    c.idle_reply-reply.result.1 c.args.addr c.idle_reply-reply.ensures.reply in
    search (rules, h)

pub returns-clause-saw : goal.returns-clause-saw
returns-clause-saw c =
    let e = c.in_ok-entered.ensures in
    let h = saw_is _ _ _ e.same.0 e.same.1 e.before e.item c.put_back.ensures in
    search (rules, h)
