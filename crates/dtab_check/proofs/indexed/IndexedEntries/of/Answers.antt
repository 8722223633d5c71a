use Rattle.std.proofs.Common.{ap, sym, length, arith}
use Rattle.std.proofs.lemmas.List.{length_push}
use Rattle.dtab_check.proofs.Indexing.{noted-more}
use Rattle.dtab_check.proofs.indexed.IndexedEntries.of.Goals as goal

pub loop-at-preserved : goal.loop-at-preserved
loop-at-preserved c =
    let was = c.loop-at.invariant in
    let first = c.loop-at.first.items in
    let place = c.in_ok-place_of.field-0 in
    record {
      entries = c.in_ok-place_of.ensures.entries;
      noted = noted-more c.args.entries.now c.loop-at.index c.place_of.new.index first
          c.push.new.self.items c.loop-at.at place was.noted (sym was.size)
          c.in_ok-place_of.ensures.kept c.in_ok-place_of.ensures.noted c.in_ok-push.ensures.items;
      below = c.in_ok-place_of.ensures.below;
      size =
          let long = ap length c.in_ok-push.ensures.items in
          omega (arith, long, length_push first place, was.size);
    }
