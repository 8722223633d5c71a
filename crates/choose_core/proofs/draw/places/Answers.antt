use Rattle.std.proofs.Common.{◌≡◌, ◌-◌, ◌<◌, get_or, sym, ap, ◌∙◌, arith}
use Rattle.std.specs.Prelude.{sum, remove}
use Rattle.choose_core.specs.Pair.{weights_of, place_over, place_in_whole, scaled, first_place}
use Rattle.choose_core.specs.Pair.{second_place}
use Rattle.choose_core.specs.Sieve.{passes, passing}
use Rattle.choose_core.proofs.Drawing.{at_within, paired_alone, paired_several, passing_weights}
use Rattle.choose_core.proofs.draw.places.Goals as goal

pub returns-then-rest-eq0 : goal.returns-then-rest-eq0
returns-then-rest-eq0 c =
    let live = passing c.args.sieve.now c.args.list.now in
    let ws = weights_of live in
    let have = passing_weights (passes c.args.sieve.now) c.args.list.now c.requires.weights in
    let more = c.requires.some in
    let at_is : c.draw-first.result.at ≡ first_place ws c.args.w1 =
    c.draw-first.ensures.at ∙ ap (place_over ws)
    (c.scaled.ensures ∙ ap (scaled c.args.w1) c.total_weight-total.ensures) in
    let weight_is : c.draw-first.result.weight ≡ get_or ws (first_place ws c.args.w1) 0 =
    c.draw-first.ensures.weight ∙ ap (λ i. get_or ws i 0) at_is in
    let none : sum ws - get_or ws (first_place ws c.args.w1) 0 ≡ 0 =
    (λ i. sym c.total_weight-total.ensures i - sym weight_is i) ∙ c.if-rest-eq0.true in
    paired_alone live c.args.w1 c.args.w2 c.draw-first.result.at c.ranges.w1.fits c.ranges.w2.fits
    have more at_is none

pub draw_other-requires-clause-out : goal.draw_other-requires-clause-out
draw_other-requires-clause-out c =
    let live = passing c.args.sieve.now c.args.list.now in
    let ws = weights_of live in
    let have = passing_weights (passes c.args.sieve.now) c.args.list.now c.requires.weights in
    let more = c.requires.some in
    let at_is : c.draw-first.result.at ≡ first_place ws c.args.w1 =
    c.draw-first.ensures.at ∙ ap (place_over ws)
    (c.scaled.ensures ∙ ap (scaled c.args.w1) c.total_weight-total.ensures) in
    at_within live c.args.w1 c.args.w2 c.draw-first.result.at c.ranges.w1.fits c.ranges.w2.fits
    have more at_is

pub returns : goal.returns
returns c =
    let live = passing c.args.sieve.now c.args.list.now in
    let ws = weights_of live in
    let have = passing_weights (passes c.args.sieve.now) c.args.list.now c.requires.weights in
    let more = c.requires.some in
    let at_is : c.draw-first.result.at ≡ first_place ws c.args.w1 =
    c.draw-first.ensures.at ∙ ap (place_over ws)
    (c.scaled.ensures ∙ ap (scaled c.args.w1) c.total_weight-total.ensures) in
    let weight_is : c.draw-first.result.weight ≡ get_or ws (first_place ws c.args.w1) 0 =
    c.draw-first.ensures.weight ∙ ap (λ i. get_or ws i 0) at_is in
    let rest_is : c.total_weight-total.result - c.draw-first.result.weight
    ≡ sum ws - get_or ws (first_place ws c.args.w1) 0 =
    λ i. c.total_weight-total.ensures i - weight_is i in
    let some_left = c.if-rest-eq0.false in
    let some : 0 < sum ws - get_or ws (first_place ws c.args.w1) 0 =
    grind (arith, rest_is, some_left) in
    let drawn_is : c.scaled-2.result ≡ scaled c.args.w2
    (sum ws - get_or ws (first_place ws c.args.w1) 0) =
    c.scaled-2.ensures ∙ ap (scaled c.args.w2) rest_is in
    let other_is : c.draw_other.result ≡ second_place ws (first_place ws c.args.w1) c.args.w2 =
    c.draw_other.ensures ∙ (λ i. place_in_whole (at_is i)
    (place_over (remove ws (at_is i)) (drawn_is i))) in
    paired_several live c.args.w1 c.args.w2 c.draw-first.result.at c.ranges.w1.fits
    c.ranges.w2.fits have more at_is c.draw_other.result other_is some
