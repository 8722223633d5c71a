use Rattle.dtab_table.specs.Dtab.{rules_of}
use Rattle.bind_cache.specs.Stored.{kept_of}
use Rattle.bind_cache.proofs.Same.{path_differs, path_same}
use Rattle.bind_cache.proofs.binding.Binding.is_for.Goals as goal

pub returns-then-not-same : goal.returns-then-not-same
returns-then-not-same c = path_differs c.args.path.now (rules_of c.args.local.now)
    (kept_of c.args.self.now) c.same.result c.same.ensures c.if-not-same.true

pub returns : goal.returns
returns c = path_same c.args.path.now (rules_of c.args.local.now)
    (kept_of c.args.self.now) c.same.result _ c.same.ensures c.if-not-same.false
    (rw (← c.entries.ensures, ← c.entries-2.ensures) c.same_entries.ensures)
