use Rattle.std.proofs.Common.{◌≡◌, ◌<◌, ℕ, length, length-set, arith, sym, ap, ◌∙◌}
use Rattle.access_log.specs.Ending.{status_in}
use Rattle.metrics_text.specs.declared.class.Class.{Class}
use Rattle.metrics_text.specs.Classes.{bucket_of, class_of}
use Rattle.exchange_tally.specs.Figures.{class_place}
use Rattle.exchange_tally.specs.Tallies.{grown, with_one}
use Rattle.exchange_tally.specs.Worth.{lasted}
use Rattle.exchange_tally.proofs.Adding.{as_many, counted}
use Rattle.exchange_tally.proofs.tally.Tally.add.Goals as goal

pub returns : goal.returns
returns c =
    let old = c.args.self.now in
    let timed = c.args.timed.now in
    let answer = timed.done.answer in
    let class : c.class_place.result ≡ class_place (class_of (status_in answer)) =
    c.class_place.ensures.place
    ∙ ap (λ (x : Class). class_place x) (c.of.ensures ∙ ap class_of c.status.ensures) in
    let requests = c.raise.ensures ∙ ap (λ (n : ℕ). with_one n old.requests) class in
    let place : c.bucket_of.result ≡ bucket_of (lasted timed) =
    c.bucket_of.ensures.place ∙ ap bucket_of c.lasted.ensures in
    let buckets = c.raise-2.ensures ∙ ap (λ (n : ℕ). with_one n old.buckets) place in
    let six : length old.requests ≡ 6 =
    sym (ap length c.raise.ensures ∙ length-set old.requests c.class_place.result _)
    ∙ c.raise_own.array_long.0 in
    let nineteen : length old.own_replies ≡ 19 =
    sym (ap length c.raise_own.ensures ∙ as_many answer old.own_replies)
    ∙ c.raise_own.array_long.1 in
    counted old _ timed requests c.raise_own.ensures buckets
    c.grown-self.ensures c.grown-self-2.ensures c.grown-self-3.ensures c.grown-self-4.ensures
    (c.grown-self-5.ensures ∙ ap (grown old.milliseconds) c.lasted-2.ensures)
    c.grown-self-6.ensures c.grown-self-7.ensures
    (omega (arith, six, class, c.class_place.ensures.within))
    nineteen
    (omega (arith, c.raise_own.array_long.2, place, c.bucket_of.ensures.within))
