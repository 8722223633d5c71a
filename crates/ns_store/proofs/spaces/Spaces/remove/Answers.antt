use Rattle.std.proofs.Common.{subst, sym, ap, ◌∙◌, map, List}
use Rattle.std.specs.Prelude.{IsTrue}
use Rattle.std.specs.Ordering.{nat_cmp}
use Rattle.std.specs.Cmp.Lexicographic.{slice_cmp}
use Rattle.std.specs.FinMap.{is_sorted, from_sorted}
use Rattle.ns_store.specs.declared.namespace.Namespace.{Namespace}
use Rattle.ns_store.specs.Namespace.{entry_of}
use Rattle.ns_store.proofs.Finding.{sorted_gone, map_gone, absent}
use Rattle.ns_store.proofs.spaces.Spaces.remove.Goals as goal

pub invariant_of-self : goal.invariant_of-self
invariant_of-self c =
    record {
      sorted = rw c.remove.ensures.items
          (sorted_gone c.args.self.now c.args.name.now c.in-Ok.at c.in-Ok.ensures.found
          c.remove.result);
    }

pub returns-in-Ok : goal.returns-in-Ok
returns-in-Ok c =
    ap (λ (items : List Namespace). from_sorted {R = slice_cmp nat_cmp} (map entry_of items))
    c.remove.ensures.items
    ∙ map_gone c.args.self.now c.args.name.now c.in-Ok.at c.in-Ok.ensures.found c.remove.result

pub returns-in_default : goal.returns-in_default
returns-in_default c = absent c.args.self.now c.args.name.now c.search.result c.in_default.not-Ok
    c.search.ensures.absent
