use Rattle.std.proofs.Common.{Some, ap, sym, ◌∙◌}
use Rattle.dtab_table.specs.Dtab.{rules_of}
use Rattle.bind_cache.specs.declared.binding.Binding.{Binding}
use Rattle.bind_cache.specs.Kept.{is_key}
use Rattle.bind_cache.specs.Stored.{kept_of}
use Rattle.bind_cache.proofs.Finding.{other_key, other_hash, same_key}
use Rattle.bind_cache.proofs.cache.Cache.outcome_at.Goals as goal

pub returns-then-hash : goal.returns-then-hash
returns-then-hash c =
    other_hash c.args.path.now (rules_of c.args.local.now) c.args.self.now.bindings.items c.args.at
    c.in-Some.binding.now c.args.hash (sym c.in-Some.ensures) c.requires
    (λ same. c.if-hash.true (c.hash.ensures.hash
    ∙ (ap (λ (b : Binding). b.hash) c.deref.ensures ∙ same)))

pub returns-then-not-is_for : goal.returns-then-not-is_for
returns-then-not-is_for c =
    other_key c.args.path.now (rules_of c.args.local.now) c.args.self.now.bindings.items c.args.at
    c.in-Some.binding.now (sym c.in-Some.ensures)
    (ap (λ (b : Binding). is_key c.args.path.now (rules_of c.args.local.now) (kept_of b))
    (sym c.deref-2.ensures) ∙ (sym c.is_for.ensures ∙ c.if-not-is_for.true))

pub returns : goal.returns
returns c =
    ap Some (c.outcome.ensures ∙ ap (λ (b : Binding). (kept_of b).ending) c.deref-3.ensures)
    ∙ same_key c.args.path.now (rules_of c.args.local.now) c.args.self.now.bindings.items c.args.at
    c.in-Some.binding.now (sym c.in-Some.ensures)
    (ap (λ (b : Binding). is_key c.args.path.now (rules_of c.args.local.now) (kept_of b))
    (sym c.deref-2.ensures) ∙ (sym c.is_for.ensures ∙ c.if-not-is_for.false))
