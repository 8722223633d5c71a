use Rattle.std.proofs.Common.{◌≡◌, is_some, IfSome}
use Rattle.std.specs.Option.{option_and_then}
use Rattle.addr_book.specs.Bound.{found_of}
use Rattle.choose_core.specs.Branch.{pruned, chosen}
use Rattle.choose_core.specs.Way.{leaf_in, choice_left, IsGoodChoice}
use Rattle.choose_core.proofs.pruning.branch.Given as goal

abbrev pub invariant-loop-choice : goal.invariant-loop-choice
invariant-loop-choice l = record {
  good : IfSome l.choice (IsGoodChoice l.book.services);
  leaf : option_and_then (leaf_in l.book.services) l.choice
      ≡ chosen l.fn.book.services (found_of l.fn.bound) l.fn.word;
  left : is_some l.choice ≡ is_some (pruned l.fn.book.services (found_of l.fn.bound));
}

abbrev pub decreases-loop-choice : goal.decreases-loop-choice
decreases-loop-choice l = choice_left l.choice
