-- Bounds among which a leaf may be chosen.
use Rattle.addr_book.specs.declared.bound.Bound.{Bound}
use Rattle.addr_book.specs.Bound.{found_of}
use Rattle.addr_book.specs.Found.{IsFilled, IsBounded}

-- each union has 1 to 65,536 branches, with weights of 1 to 999,999,999,999
pub record IsGood (bound : Bound) : Type 0 where
  pub filled : IsFilled (found_of bound)
  pub bounded : IsBounded (found_of bound)
