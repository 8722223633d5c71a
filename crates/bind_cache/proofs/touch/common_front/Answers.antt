use Rattle.std.proofs.Common.{◌≡◌, map, false, arith}
use Rattle.std.specs.Prelude.{IsTrue}
use Rattle.std.proofs.lemmas.List.{length-map}
use Rattle.dtab_table.specs.Rules.{rule_of}
use Rattle.bind_cache.proofs.Fronts.{one_more, other, ended, entry_in}
use Rattle.bind_cache.proofs.touch.common_front.Goals as goal

pub returns-then-not-same-clause-common : goal.returns-then-not-same-clause-common
returns-then-not-same-clause-common c =
    let old = c.args.old.now in
    let new = c.args.new.now in
    let size = length-map old rule_of in
    let other_size = length-map new rule_of in
    other (map rule_of old) (map rule_of new) c.loop-count.count (rule_of c.index-old-count.result)
    (rule_of c.index-new-count.result) (omega (arith, size)) (omega (arith, other_size))
    (entry_in old c.loop-count.count c.index-old-count.result (omega arith) c.index-old-count.is)
    (entry_in new c.loop-count.count c.index-new-count.result (omega arith) c.index-new-count.is)
    c.loop-count.invariant (λ same. let has : IsTrue c.same.result = c.same.ensures.1 same in
    let no : c.same.result ≡ false = c.if-not-same.true in cc)

pub loop-count-preserved : goal.loop-count-preserved
loop-count-preserved c =
    let old = c.args.old.now in
    let new = c.args.new.now in
    let size = length-map old rule_of in
    let other_size = length-map new rule_of in
    one_more (map rule_of old) (map rule_of new) c.loop-count.count
    (rule_of c.index-old-count.result) (rule_of c.index-new-count.result) (omega (arith, size))
    (omega (arith, other_size))
    (entry_in old c.loop-count.count c.index-old-count.result (omega arith) c.index-old-count.is)
    (entry_in new c.loop-count.count c.index-new-count.result (omega arith) c.index-new-count.is)
    c.loop-count.invariant (c.same.ensures.0 c.if-not-same.false)

pub returns-clause-common : goal.returns-clause-common
returns-clause-common c =
    let all = ended (map rule_of c.args.old.now) (map rule_of c.args.new.now) c.loop-count.count
    (omega (arith, length-map c.args.old.now rule_of, length-map c.args.new.now rule_of))
    c.loop-count.invariant in
    omega (arith, all)
