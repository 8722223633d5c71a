use Rattle.std.proofs.Common.{rules, arith, sym, ◌∙◌, inl, inr, ◌<◌, length}
use Rattle.script.proofs.Walking.{walks_start, walks_on, walks_full, walks_bad, walks_next}
use Rattle.script.proofs.addrs.read_items.Goals as goal

pub loop-rest-init : goal.loop-rest-init
loop-rest-init c = walks_start c.args.text.now c.without_gap-rest.result.now
    c.new-items.result.items c.without_gap-rest.ensures c.new-items.ensures.items

pub returns-then-len-eq-MOST_ADDRS-clause-bad : goal.returns-then-len-eq-MOST_ADDRS-clause-bad
returns-then-len-eq-MOST_ADDRS-clause-bad c =
    let some : 0 < length c.loop-rest.rest.now = search rules in
    λ _. inl (walks_full c.args.text.now c.loop-rest.rest.now c.loop-rest.items.items
    c.loop-rest.invariant some (omega arith))

pub returns-in_default-clause-bad : goal.returns-in_default-clause-bad
returns-in_default-clause-bad c =
    let some : 0 < length c.loop-rest.rest.now = search rules in
    λ _. inr (walks_bad c.args.text.now c.loop-rest.rest.now c.loop-rest.items.items
    c.loop-rest.invariant some c.cut_word.result.0.now c.cut_word.ensures.word
    (sym c.read_weighted.ensures.value ∙ c.in_default.is))

pub loop-rest-smaller : goal.loop-rest-smaller
loop-rest-smaller c =
    let some : 0 < length c.loop-rest.rest.now = search rules in
    walks_on c.args.text.now c.loop-rest.rest.now c.loop-rest.items.items c.loop-rest.invariant
    some c.cut_word.result.1.now c.cut_word.ensures.behind

pub loop-rest-preserved : goal.loop-rest-preserved
loop-rest-preserved c =
    let some : 0 < length c.loop-rest.rest.now = search rules in
    walks_next c.args.text.now c.loop-rest.rest.now c.loop-rest.items.items c.loop-rest.invariant
    some c.cut_word.result.0.now c.cut_word.result.1.now c.in-Some.item
    c.push.new.self.items c.cut_word.ensures.word c.cut_word.ensures.behind
    (sym c.read_weighted.ensures.value ∙ c.in-Some.is) c.in-Some.ensures.weight
    (λ full. omega arith) c.in-Ok.ensures.items
