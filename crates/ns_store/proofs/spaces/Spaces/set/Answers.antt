use Rattle.std.proofs.Common.{ap, ◌∙◌, map, List, refl}
use Rattle.std.specs.Ordering.{nat_cmp}
use Rattle.std.specs.Cmp.Lexicographic.{slice_cmp}
use Rattle.std.specs.FinMap.{from_sorted}
use Rattle.std.specs.FinMap as fin
use Rattle.ns_store.specs.declared.namespace.Namespace.{Namespace}
use Rattle.ns_store.specs.Namespace.{entry_of, space_of}
use Rattle.ns_store.specs.Spaces.{spaces_of}
use Rattle.ns_store.proofs.Finding.{sorted_place, map_place, sorted_either, map_gap}
use Rattle.ns_store.proofs.spaces.Spaces.set.Goals as goal

pub invariant_of-self : goal.invariant_of-self
invariant_of-self c =
    record {
      sorted = sorted_place c.args.self.now c.in_ok-name.name c.in-Ok.at
          c.in-Ok.ensures.found _ refl;
    }

pub invariant_of-self-in-Err : goal.invariant_of-self-in-Err
invariant_of-self-in-Err c =
    record {
      sorted = sorted_either c.args.self.now c.in_ok-name.name c.in-Err.at
          c.in-Err.ensures.absent _ c.insert.new.self.items _ refl c.insert.ensures.items;
    }

pub returns-in-Ok-clause-ok : goal.returns-in-Ok-clause-ok
returns-in-Ok-clause-ok c =
    map_place c.args.self.now c.in_ok-name.name c.in-Ok.at c.in-Ok.ensures.found
    (record { name = c.in_ok-name.name; version = c.args.version; dtab = c.args.dtab }) refl
    ∙ ap (λ n. fin.insert (spaces_of c.args.self.now) n
    (space_of (record { name = c.in_ok-name.name; version = c.args.version; dtab = c.args.dtab })))
    c.in_ok-name.ensures.cases

pub returns-in_ok-insert-in-Err-clause-ok : goal.returns-in_ok-insert-in-Err-clause-ok
returns-in_ok-insert-in-Err-clause-ok c =
    ap (λ (items : List Namespace). from_sorted {R = slice_cmp nat_cmp} (map entry_of items))
    c.in_ok-insert-in-Err.ensures.items
    ∙ (map_gap c.args.self.now c.in_ok-name.name c.in-Err.at c.in-Err.ensures.absent
    (record { name = c.in_ok-name.name; version = c.args.version; dtab = c.args.dtab }) refl
    ∙ ap (λ n. fin.insert (spaces_of c.args.self.now) n
    (space_of (record { name = c.in_ok-name.name; version = c.args.version; dtab = c.args.dtab })))
    c.in_ok-name.ensures.cases)
