use Rattle.std.proofs.Common.{ℕ, Option, sym, subst}
use Rattle.dtab_table.specs.Dtab.{rules_of}
use Rattle.bind_core.specs.Outcome.{ending_of}
use Rattle.bind_cache.specs.Bindings.{bindings_of}
use Rattle.bind_cache.proofs.Finding.{Stands, begun_at, older_at, nowhere, found_at}
use Rattle.bind_cache.proofs.cache.Cache.find.Goals as goal

pub loop-next-init : goal.loop-next-init
loop-next-init c =
    begun_at c.args.path.now (rules_of c.args.local.now) c.args.self.now.bindings.items
    c.args.self.now.chains.hashes c.key_hash-hash.result c.newest-next.result
    c.args.self.now.linked c.key_hash-hash.ensures c.newest-next.ensures

pub returns-in-Some-outcome_at : goal.returns-in-Some-outcome_at
returns-in-Some-outcome_at c =
    sym (found_at c.args.path.now (rules_of c.args.local.now)
    (bindings_of c.args.self.now) c.in-Some.at (ending_of c.in-Some-outcome_at.outcome.now)
    c.args.self.now.cache.apart (sym c.in-Some-outcome_at.ensures))

pub loop-next-preserved : goal.loop-next-preserved
loop-next-preserved c =
    older_at c.args.path.now (rules_of c.args.local.now) c.args.self.now.bindings.items
    c.args.self.now.chains.hashes c.key_hash-hash.result c.in-Some.at c.older-next.result
    c.args.self.now.linked c.key_hash-hash.ensures
    (subst (λ (next : Option ℕ). Stands c.args.path.now
    (rules_of c.args.local.now) c.args.self.now.bindings.items next) c.in-Some.is
    c.loop-next.invariant)
    (sym c.in_default-outcome_at.ensures) c.older-next.ensures

pub returns : goal.returns
returns c =
    sym (nowhere c.args.path.now (rules_of c.args.local.now) c.args.self.now.bindings.items
    (subst (λ (next : Option ℕ). Stands c.args.path.now
    (rules_of c.args.local.now) c.args.self.now.bindings.items next) c.in_default.is
    c.loop-next.invariant))
