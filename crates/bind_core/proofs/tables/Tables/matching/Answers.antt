use Rattle.dtab_table.specs.Dtab.{rules_of}
use Rattle.bind_core.proofs.Joined.{chained}
use Rattle.bind_core.proofs.tables.Tables.matching.Goals as goal

pub returns-clause-trees : goal.returns-clause-trees
returns-clause-trees g c =
    chained (rules_of c.args.self.now.space.now) (rules_of c.args.self.now.base.now)
    (rules_of c.args.self.now.local.now) c.args.path.now _ _ _ _ c.new-found.ensures.items
    c.in_ok-append_matching.ensures.trees c.in_ok-append_matching-2.ensures.trees
    c.in_ok-append_matching-3.ensures.trees
