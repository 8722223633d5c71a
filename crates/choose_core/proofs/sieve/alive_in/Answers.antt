use Rattle.std.proofs.Common.{◌≡◌, true, false, length, get_or, ap, ◌∙◌, arith, not}
use Rattle.addr_book.specs.declared.addr.Weighted.{Weighted}
use Rattle.choose_core.specs.Live.{is_alive}
use Rattle.choose_core.proofs.Passing.{read_passes, read_stays}
use Rattle.choose_core.proofs.Telling.{alive_at, far_none, far_put, far_leave}
use Rattle.choose_core.proofs.sieve.alive_in.Goals as goal
use Rattle.choose_core.proofs.sieve.alive_in.Goals.{then-not-is_dead+then-at-lt-MOST_ADDRS}
use Rattle.choose_core.proofs.sieve.alive_in.Goals.{then-not-is_dead+else-at-lt-MOST_ADDRS}
use Rattle.choose_core.proofs.sieve.alive_in.Goals.{else-not-is_dead}

pub loop-at-init : goal.loop-at-init
loop-at-init c = record {
  told = far_none c.args.marks.now c.args.moment c.args.limits c.args.list.now c.none-alive.result
      c.none-alive.ensures;
  fits = omega arith;
  count = omega arith;
}

pub loop-at-preserved : goal.loop-at-preserved
loop-at-preserved c =
    let list = c.args.list.now in
    let at = c.loop-at.at in
    let p = is_alive c.args.marks.now c.args.moment c.args.limits in
    let d : Weighted = record { addr = record { ip = 0; port = 0 }; weight = 0 } in
    let count = c.loop-at.invariant.count in
    let fits = c.loop-at.invariant.fits in
    elim c.if-not-is_dead.branch [
      | then-not-is_dead+then-at-lt-MOST_ADDRS w ↦
          let lives : p (get_or list at d) ≡ true =
          alive_at c.args.marks.now c.args.moment c.args.limits list at d _ c.loop-at-test.true
          c.is_dead_near-is_dead.result.0 c.is_dead_near-is_dead.ensures
          ∙ ap not w.if-not-is_dead.true in
          let next = ap length (read_passes p list at d c.loop-at-test.true lives) in
          rw (w.alive-is, w.count-is) (record {
            told = far_put c.args.marks.now c.args.moment c.args.limits list at d c.loop-at.alive
                w.put.new.self lives c.loop-at.invariant.told w.put.ensures;
            fits = omega (arith, fits);
            count = omega (arith, count, next);
          })
      | then-not-is_dead+else-at-lt-MOST_ADDRS w ↦
          let lives : p (get_or list at d) ≡ true =
          alive_at c.args.marks.now c.args.moment c.args.limits list at d _ c.loop-at-test.true
          c.is_dead_near-is_dead.result.0 c.is_dead_near-is_dead.ensures
          ∙ ap not w.if-not-is_dead.true in
          let next = ap length (read_passes p list at d c.loop-at-test.true lives) in
          let far = w.if-at-lt-MOST_ADDRS.false in
          rw (w.alive-is, w.count-is) (record {
            told = far_leave c.args.marks.now c.args.moment c.args.limits list at d c.loop-at.alive
                (λ few. absurd (omega (arith, far))) c.loop-at.invariant.told;
            fits = omega (arith, fits);
            count = omega (arith, count, next);
          })
      | else-not-is_dead w ↦
          let dead : p (get_or list at d) ≡ false =
          alive_at c.args.marks.now c.args.moment c.args.limits list at d _ c.loop-at-test.true
          c.is_dead_near-is_dead.result.0 c.is_dead_near-is_dead.ensures
          ∙ ap not w.if-not-is_dead.false in
          let next = ap length (read_stays p list at d c.loop-at-test.true dead) in
          rw (w.alive-is, w.count-is) (record {
            told = far_leave c.args.marks.now c.args.moment c.args.limits list at d c.loop-at.alive
                (λ _. dead) c.loop-at.invariant.told;
            fits = omega (arith, fits);
            count = omega (arith, count, next);
          })
    ]

pub returns-clause-places : goal.returns-clause-places
returns-clause-places c = λ at d within few.
    let end = c.loop-at-test.false in
    c.loop-at.invariant.told.told at d (omega (arith, end, within)) within few
