use Rattle.std.proofs.Common.{◌≡◌, length, ap, sym, subst, arith, ◌∙◌}
use Rattle.std.proofs.lemmas.Bool.Decides.{nat_tests}
use Rattle.http_wire.specs.declared.next.Awaited.{Awaited}
use Rattle.http_wire.specs.Next.{Awaits}
use Rattle.http_wire.proofs.Coming.{begins, nothing_of}
use Rattle.http_wire.proofs.next.await_begin.Goals as goal

pub returns : goal.returns
returns g c =
    let none : length c.kept.result.now ≡ 0 = grind (arith, nat_tests, c.is_empty.ensures) in
    let old = g.P.Peer.line c.args.peer.now in
    let new = g.P.Peer.line c.fill_next.new.peer in
    subst (λ (a : Awaited). Awaits old new c.args.rest.now c.fill_next.new.self a)
    (sym c.begin_by.ensures)
    (begins old new c.args.rest.now c.fill_next.new.self c.fill_next.result
    (nothing_of c.args.rest.now (sym (ap length c.kept.ensures) ∙ none)) c.fill_next.ensures)
