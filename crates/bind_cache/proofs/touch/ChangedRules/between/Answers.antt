use Rattle.dtab_table.specs.Dtab.{rules_of}
use Rattle.bind_cache.proofs.Fronts.{gone_is, added_is}
use Rattle.bind_cache.proofs.touch.ChangedRules.between.Goals as goal

pub returns-clause-old : goal.returns-clause-old
returns-clause-old c =
    gone_is c.entries-old_entries.result.now c.entries-new_entries.result.now
    (rules_of c.args.old.now) (rules_of c.args.new.now) c.common_front-front.result
    c.common_back-back.result
    c.entries-old_entries.ensures c.entries-new_entries.ensures c.common_front-front.ensures.common
    c.common_back-back.ensures.common c.len.result c.len.ensures

pub returns-clause-new : goal.returns-clause-new
returns-clause-new c =
    added_is c.entries-old_entries.result.now c.entries-new_entries.result.now
    (rules_of c.args.old.now) (rules_of c.args.new.now) c.common_front-front.result
    c.common_back-back.result
    c.entries-old_entries.ensures c.entries-new_entries.ensures c.common_front-front.ensures.common
    c.common_back-back.ensures.common c.len-2.result c.len-2.ensures
