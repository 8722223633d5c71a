use Rattle.std.proofs.Common.{ap, ◌∙◌, subst, sym, ℕ, ◌≤◌}
use Rattle.std.specs.Arc.{arc_value}
use Rattle.std.specs.FinMap.{len, remove}
use Rattle.ns_store.specs.Spaces.{spaces_of}
use Rattle.ns_store.proofs.Lengths.{len_removed}
use Rattle.ns_store.proofs.store.Store.prepare_delete.Goals as goal

pub invariant_of-result : goal.invariant_of-result
invariant_of-result c =
    record {
      few = rw (
        c.in_ok-new.ensures.ok,
        c.remove.ensures,
        c.in_ok-spaces.ensures,
        c.deref.ensures,
      ) (len_removed _ _ c.args.self.now.few);
    }
