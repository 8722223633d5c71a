use Rattle.std.proofs.Common.{◌≡◌, ap, ◌∙◌, sym, cond}
use Rattle.std.specs.FinMap.{insert, remove}
use Rattle.addr_book.specs.declared.addr.Addr.{Addr}
use Rattle.addr_book.specs.AddrList.{same_addr}
use Rattle.addr_book.specs.Uses.{count_at}
use Rattle.addr_book.proofs.Results.{ok_with}
use Rattle.addr_book.proofs.SlotSteps.{count-insert, count-remove}
use Rattle.addr_book.proofs.slots.with_count.Goals as goal

pub returns-then-count-eq0 : goal.returns-then-count-eq0
returns-then-count-eq0 c =
    let counts = c.args.counts in
    let addr = c.args.addr in
    ok_with (λ new. new ≡ remove counts addr)
    (λ new. (other : Addr) → count_at new other
    ≡ cond (same_addr other addr) c.args.count (count_at counts other)) c.without.result
    c.without.ensures
    (λ new is other. ap (λ m. count_at m other) is
    ∙ (count-remove counts addr other ∙ ap
    (λ n. cond (same_addr other addr) n (count_at counts other)) (sym c.if-count-eq0.true)))

pub returns : goal.returns
returns c =
    let counts = c.args.counts in
    let addr = c.args.addr in
    ok_with (λ new. new ≡ insert counts addr c.args.count)
    (λ new. (other : Addr) → count_at new other
    ≡ cond (same_addr other addr) c.args.count (count_at counts other)) c.with.result
    c.with.ensures (λ new is other. ap (λ m. count_at m other) is
    ∙ count-insert counts addr c.args.count other)
