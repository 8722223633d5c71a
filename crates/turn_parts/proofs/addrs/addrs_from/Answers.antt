use Rattle.std.proofs.Common.{◌∷◌, [], ◌++◌, length, sym, ap, subst, ◌∙◌, arith}
use Rattle.addr_book.specs.declared.addr.Addr.{Addr}
use Rattle.addr_book.specs.AddrList.{AreDistinct, HaveWeights}
use Rattle.turn_parts.proofs.Counting.{length-addrs_from, AreDistinct-addrs_from}
use Rattle.turn_parts.proofs.Counting.{HaveWeights-addrs_from, one_put, all_put}
use Rattle.turn_parts.proofs.addrs.addrs_from.Goals as goal

pub loop-next-preserved : goal.loop-next-preserved
loop-next-preserved c =
    one_put c.loop-next.items.items c.push.new.self.items c.args.count c.loop-next.next c.args.port
    c.loop-next-test.true
    (c.in_ok-push.ensures.items
    ∙ ap (λ (a : Addr). c.loop-next.items.items ++ record { addr = a; weight = 1000000 } ∷ [])
    c.local_addr.ensures)
    c.loop-next.invariant

pub of-requires-clause-few : goal.of-requires-clause-few
of-requires-clause-few c =
    let all = all_put c.loop-next.items.items c.args.count c.loop-next.next c.args.port
    (omega arith) c.loop-next.invariant in
    omega (arith, ap length all, length-addrs_from c.args.count c.args.port)

pub of-requires-clause-distinct : goal.of-requires-clause-distinct
of-requires-clause-distinct c =
    subst AreDistinct (sym
    (all_put c.loop-next.items.items c.args.count c.loop-next.next c.args.port
    (omega arith) c.loop-next.invariant))
    (AreDistinct-addrs_from c.args.count c.args.port)

pub of-requires-clause-weights : goal.of-requires-clause-weights
of-requires-clause-weights c =
    subst HaveWeights (sym
    (all_put c.loop-next.items.items c.args.count c.loop-next.next c.args.port
    (omega arith) c.loop-next.invariant))
    (HaveWeights-addrs_from c.args.count c.args.port)
