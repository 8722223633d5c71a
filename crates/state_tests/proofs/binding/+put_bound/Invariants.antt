use Rattle.addr_book.specs.Bound.{found_of}
use Rattle.addr_book.proofs.Bounds.{found_size}
use Rattle.state_tests.proofs.binding.+put_bound.Given as goal

abbrev pub decreases-put_bound : goal.decreases-put_bound
decreases-put_bound l = found_size (found_of l.bound.now)
