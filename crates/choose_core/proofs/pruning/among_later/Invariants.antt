use Rattle.std.proofs.Common.{◌≡◌, ◌+◌, ℕ, drop}
use Rattle.choose_core.specs.Branch.{total_weight, branch_over}
use Rattle.choose_core.proofs.Branches.{left_of}
use Rattle.choose_core.proofs.pruning.among_later.Given as goal

abbrev pub invariant-loop-item : goal.invariant-loop-item
invariant-loop-item l = record {
  chooses : (word : ℕ) → branch_over (left_of l.book.services l.item-items) l.among.over word
      ≡ branch_over (left_of l.book.services (drop l.item-index l.item-items)) l.left word;
  weight : total_weight (left_of l.book.services l.item-items) + l.left
      ≡ l.among.over + total_weight (left_of l.book.services (drop l.item-index l.item-items));
}
