use Rattle.std.proofs.lemmas.List.Sorted.{IsPermutation-sym}
use Rattle.line_doubles.proofs.Listed.{are_names}
use Rattle.line_doubles.proofs.folder.sorted_names.Goals as goal

pub returns : goal.returns
returns c = rw c.of.ensures
    (are_names c.args.files.now c.args.folder.now c.in_ok-names.names.items c.sort.new.self.items
    c.dedup.new.self.items
    c.in_ok-names.ensures c.in_ok-sort.ensures.permutation
    (IsPermutation-sym _ _ c.in_ok-sort.ensures.permutation) c.in_ok-sort.ensures.sorted
    c.dedup.ensures.filtered)
