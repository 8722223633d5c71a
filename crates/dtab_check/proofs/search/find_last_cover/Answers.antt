use Rattle.std.proofs.Common.{◌≡◌, ◌+◌, ◌-◌, ◌<◌, length, sym, ◌∙◌, arith}
use Rattle.dtab_check.proofs.Searching.{cover_found, no_cover_here, not_sure_here}
use Rattle.dtab_check.proofs.search.find_last_cover.Goals as goal
use Rattle.dtab_check.proofs.search.find_last_cover.Goals.{else-sure-at-via-then-sure-at+else-is_cover}
use Rattle.dtab_check.proofs.search.find_last_cover.Goals.{else-sure-at-via-else-sure-at}

pub returns-then-is_cover-clause-cover : goal.returns-then-is_cover-clause-cover
returns-then-is_cover-clause-cover c = λ is_sure are.
    let place = c.loop-at.at - 1 in
    cover_found is_sure c.args.prefix.now c.args.entries.now c.args.sure.now place c.loop-at.at
    c.index-entries-at.result (omega (arith, c.loop-at-test.true))
    (omega (arith, c.loop-at-test.true, c.loop-at.invariant.within)) c.index-entries-at.is are
    (c.loop-at.invariant.none is_sure are) c.args.from
    (omega (arith, c.loop-at-test.true)) c.if-sure-at.true
    (sym c.is_cover.ensures ∙ c.if-is_cover.true)

pub loop-at-preserved : goal.loop-at-preserved
loop-at-preserved c =
    let place = c.loop-at.at - 1 in
    record {
      none = λ is_sure are.
          let next : place + 1 ≡ c.loop-at.at = omega (arith, c.loop-at-test.true) in
          let within : place < length c.args.entries.now =
          omega (arith, c.loop-at-test.true, c.loop-at.invariant.within) in
          elim c.else-sure-at.branch [
            | else-sure-at-via-then-sure-at+else-is_cover w ↦
                no_cover_here is_sure c.args.prefix.now c.args.entries.now c.args.sure.now place
                c.loop-at.at c.index-entries-at.result next within c.index-entries-at.is are
                (c.loop-at.invariant.none is_sure are)
                (sym w.is_cover.ensures ∙ w.if-is_cover.false)
            | else-sure-at-via-else-sure-at w ↦
                not_sure_here is_sure c.args.prefix.now c.args.entries.now c.args.sure.now place
                c.loop-at.at c.index-entries-at.result next within c.index-entries-at.is are
                (c.loop-at.invariant.none is_sure are)
                w.if-sure-at.false
          ];
      above = omega (arith, c.loop-at-test.true);
      within = omega (arith, c.loop-at.invariant.within);
    }
