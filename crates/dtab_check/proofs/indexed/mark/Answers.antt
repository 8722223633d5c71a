use Rattle.std.proofs.Common.{◌<◌, ◌∙◌, List, [], ℕ, true, get_or, length, length-set, refl, set}
use Rattle.std.proofs.Common.{subst, arith}
use Rattle.std.proofs.lemmas.List.{get_or_default, take_all}
use Rattle.std.proofs.lemmas.List.Elements.{All-get_or}
use Rattle.dtab_check.specs.Indexed.{Marks}
use Rattle.dtab_check.proofs.Indexing.{marks-more, marks-none}
use Rattle.dtab_check.proofs.indexed.mark.Goals as goal

pub loop-place-init : goal.loop-place-init
loop-place-init c = record { marks = marks-none c.args.met.now.items [] refl; size = refl }

pub loop-place-preserved : goal.loop-place-preserved
loop-place-preserved c =
    let met = c.loop-place.met.items in
    let places = c.args.places.now in
    let at = c.loop-place.place-index in
    let place = get_or places at 0 in
    let own = c.loop-place.invariant in
    let inside : place < length met = omega (
      arith,
      All-get_or (λ (n : ℕ). n < length c.args.met.now.items) places at 0 c.loop-place-test.true
          c.requires,
      own.size,
    ) in
    record {
      marks = marks-more c.args.met.now.items met (set met place true) places at place own.marks
          c.loop-place-test.true (get_or_default places at 0 place c.loop-place-test.true) inside
          refl;
      size = length-set met place true ∙ own.size;
    }

pub returns-clause-marks : goal.returns-clause-marks
returns-clause-marks c =
    subst (λ (places : List ℕ). Marks c.args.met.now.items c.loop-place.met.items places)
    (take_all c.loop-place.place-index c.args.places.now c.loop-place-test.false)
    c.loop-place.invariant.marks
