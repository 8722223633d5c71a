use Rattle.std.proofs.Common.{◌≡◌, true, sym, subst}
use Rattle.addr_book.specs.Book.{is_used}
use Rattle.choose_core.specs.Marks.{MarkMap}
use Rattle.machine.proofs.Known.{AreKnown, known_marked, room_for}
use Rattle.machine.proofs.state.State.put_report.Goals as goal

pub report-mark-requires-clause-room : goal.report-mark-requires-clause-room
report-mark-requires-clause-room c =
    let used : is_used c.args.self.now.book.services c.args.report.addr ≡ true = cc in
    room_for c.args.self.now.book c.args.self.now.marks c.args.report.addr
    c.addresses_are_seated.ensures c.args.self.now.known used

pub invariant_of-self-clause-sound : goal.invariant_of-self-clause-sound
invariant_of-self-clause-sound c = c.args.self.now.sound

pub invariant_of-self-clause-known : goal.invariant_of-self-clause-known
invariant_of-self-clause-known c =
    let used : is_used c.args.self.now.book.services c.args.report.addr ≡ true = cc in
    subst (λ (m : MarkMap). AreKnown m c.args.self.now.book.services)
    (sym c.report-mark.ensures.marks)
    (known_marked c.args.self.now.marks c.args.self.now.book.services c.args.report.addr _
    c.args.self.now.known used)
