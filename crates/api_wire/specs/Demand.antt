-- What a request asks for: a response that stands at once, a change, or a look.
use Rattle.machine.specs.Code.{change_of, look_value}
use Rattle.machine.specs.State.{IsSoundChange}
use Rattle.machine.specs.Values.{ChangeValue, LookValue}
use Rattle.api_wire.specs.declared.demand.Demand.{Demand}
use Rattle.api_wire.specs.declared.demand.Demand.TheVariants as demand
use Rattle.api_wire.specs.Response.{ResponseValue, response_value}

pub data DemandValue : Type 0 where
  -- this response, whatever the state is
  answer : ResponseValue → DemandValue
  -- this response, and then the program is to stop
  stop : ResponseValue → DemandValue
  -- a change of the state
  alter : ChangeValue → DemandValue
  -- a question that alters nothing
  ask : LookValue → DemandValue

-- what the code's demands say
abbrev pub demand_value : Demand → DemandValue
demand_value (demand.Answer response) = answer (response_value response)
demand_value (demand.Stop response) = stop (response_value response)
demand_value (demand.Change change) = alter (change_of change)
demand_value (demand.Look look) = ask (look_value look)

-- the tables that it brings in are sound
abbrev pub IsSoundDemand : DemandValue → Type 0
IsSoundDemand (alter change) = IsSoundChange change
IsSoundDemand _ = Unit {0}
