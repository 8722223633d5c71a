use Rattle.std.proofs.Common.{rules}
use Rattle.std.specs.Ordering.{nat_cmp}
use Rattle.std.specs.Cmp.Lexicographic.{slice_cmp}
use Rattle.std.proofs.lemmas.Fn.{always_returns_same}
use Rattle.ns_store.proofs.Finding.{searched}
use Rattle.ns_store.proofs.spaces.Spaces.search.Goals as goal

pub returns : goal.returns
returns c =
    let facts = c.binary_search_by.ensures in
    let by_name = facts.position (λ s. slice_cmp nat_cmp s.name c.args.name.now)
    (always_returns_same _ _ _ (λ a r g called. (search rules, search rules))) in
    let found = searched c.args.self.now c.args.name.now c.binary_search_by.result
    (rw (← c.deref.ensures.value) facts.bound) (rw (← c.deref.ensures.value) by_name) in
    record { found = found.0; absent = found.1 }
