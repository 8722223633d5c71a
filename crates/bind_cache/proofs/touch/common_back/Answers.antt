use Rattle.std.proofs.Common.{◌≡◌, ◌-◌, length, map, reverse, false, arith}
use Rattle.std.specs.Prelude.{IsTrue}
use Rattle.std.proofs.lemmas.List.{length-map, length-reverse}
use Rattle.dtab_table.specs.Rules.{rule_of}
use Rattle.bind_cache.proofs.Fronts.{one_more, other, ended, entry_back}
use Rattle.bind_cache.proofs.touch.common_back.Goals as goal

pub returns-then-not-same-clause-common : goal.returns-then-not-same-clause-common
returns-then-not-same-clause-common c =
    let old = c.args.old.now in
    let new = c.args.new.now in
    let size = length-map old rule_of in
    let other_size = length-map new rule_of in
    other (reverse (map rule_of old)) (reverse (map rule_of new)) c.loop-count.count
    (rule_of c.index-old-old_at.result) (rule_of c.index-new-new_at.result)
    (omega (arith, size, length-reverse (map rule_of old)))
    (omega (arith, other_size, length-reverse (map rule_of new)))
    (entry_back old (length old - 1 - c.loop-count.count) c.loop-count.count
    c.index-old-old_at.result (omega arith) (omega arith) c.index-old-old_at.is)
    (entry_back new (length new - 1 - c.loop-count.count) c.loop-count.count
    c.index-new-new_at.result (omega arith) (omega arith) c.index-new-new_at.is)
    c.loop-count.invariant (λ same. let has : IsTrue c.same.result = c.same.ensures.1 same in
    let no : c.same.result ≡ false = c.if-not-same.true in cc)

pub loop-count-preserved : goal.loop-count-preserved
loop-count-preserved c =
    let old = c.args.old.now in
    let new = c.args.new.now in
    let size = length-map old rule_of in
    let other_size = length-map new rule_of in
    one_more (reverse (map rule_of old)) (reverse (map rule_of new)) c.loop-count.count
    (rule_of c.index-old-old_at.result) (rule_of c.index-new-new_at.result)
    (omega (arith, size, length-reverse (map rule_of old)))
    (omega (arith, other_size, length-reverse (map rule_of new)))
    (entry_back old (length old - 1 - c.loop-count.count) c.loop-count.count
    c.index-old-old_at.result (omega arith) (omega arith) c.index-old-old_at.is)
    (entry_back new (length new - 1 - c.loop-count.count) c.loop-count.count
    c.index-new-new_at.result (omega arith) (omega arith) c.index-new-new_at.is)
    c.loop-count.invariant (c.same.ensures.0 c.if-not-same.false)

pub returns-clause-common : goal.returns-clause-common
returns-clause-common c =
    let old = map rule_of c.args.old.now in
    let new = map rule_of c.args.new.now in
    let all = ended (reverse old) (reverse new) c.loop-count.count
    (omega (
      arith,
      length-map c.args.old.now rule_of,
      length-map c.args.new.now rule_of,
      length-reverse old,
      length-reverse new,
    )) c.loop-count.invariant in
    omega (arith, all)
