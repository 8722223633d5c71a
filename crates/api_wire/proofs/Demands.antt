-- Demands that say the same.
use Rattle.std.proofs.Common.{◌≡◌, Result, subst}
use Rattle.std.specs.Prelude.{IfOk}
use Rattle.std.specs.declared.alloc.AllocError.{AllocError}
use Rattle.api_wire.specs.declared.demand.Demand.{Demand}
use Rattle.api_wire.specs.Demand.{DemandValue, demand_value}

-- a demand of the code that says the same
pub asks_same : (a b : DemandValue) (result : Result Demand AllocError) → a ≡ b
    → IfOk result (λ demand. demand_value demand ≡ a)
    → IfOk result (λ demand. demand_value demand ≡ b)
asks_same a b result same h =
    let P : DemandValue → Type 0 = λ d. IfOk result (λ demand. demand_value demand ≡ d) in
    subst P same h
