use Rattle.std.proofs.Common.{◌<◌, ◌∙◌, ap, arith, List, Bool, ℕ, length, get_or}
use Rattle.dtab_check.specs.Live.{paths_of}
use Rattle.dtab_check.specs.Rounds.{holds}
use Rattle.dtab_check.proofs.Indexing.{row-more}
use Rattle.dtab_check.proofs.indexed.IndexedEntries.reached_by.Goals as goal

pub loop-place-preserved : goal.loop-place-preserved
loop-place-preserved c =
    let places = c.deref-place-items.result.now in
    let first = c.args.self.now.first.items in
    let value = c.deref-place-items.ensures.value in
    let place = get_or places c.loop-place.place-index 0 in
    let within : c.loop-place.place-index < length first =
    omega (arith, c.loop-place-test.true, ap length value) in
    row-more c.args.self.now.entries.now c.args.self.now.index first (paths_of c.args.leaves.now)
    c.in_ok-met.met.items c.loop-place.row.items c.push.new.self.items c.loop-place.place-index
    place
    c.is_set.result c.requires.entries c.requires.noted c.requires.whole c.in_ok-met.ensures within
    (ap (λ (xs : List ℕ). get_or xs c.loop-place.place-index 0) value)
    (c.is_set.ensures ∙ ap (λ (bs : List Bool). holds bs place) c.as_slice.ensures.value)
    c.loop-place.invariant c.in_ok-push.ensures.items
