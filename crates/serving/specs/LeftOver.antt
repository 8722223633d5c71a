-- The connections that waited still when all workers had ended, and were ended then.
use Rattle.std.specs.Prelude.{◌≡◌, List, ◌++◌, Option}
use Rattle.std.specs.List.{AllByRecursion}
use Rattle.identifier.specs.declared.rule.Rule.{Rule}
use Rattle.machine.specs.Values.{SettingsValue}
use Rattle.retry_budget.specs.declared.tries.Tries.{Tries}
use Rattle.router.specs.declared.naming.Naming.{Ghosts}
use Rattle.line_base.specs.Lines.{Line}
use Rattle.api_sessions.specs.Stays.{CameTo as CallerCameTo, Idle as Caller}
use Rattle.client_stays.specs.Chains.{CameTo, Idle}

module _ {P : Type 0} (line_of : P → Line) where
  -- a client: some stays led to its connection, and it tells what it told while it waited
  abbrev pub WasClient : SettingsValue → Rule → Option Tries → P → Type 0
  WasClient settings rule tries peer =
      (idle : Idle) × CameTo settings rule tries idle × (line_of peer ≡ idle.line)

  -- a caller of an interface, in the same way
  abbrev pub WasCaller : {J : Type 0} → Ghosts J → P → Type 0
  WasCaller g peer = (caller : Caller) × CallerCameTo g caller × (line_of peer ≡ caller.line)

  -- these were left over: clients, and behind them callers
  pub record LeftOver {J : Type 0} (g : Ghosts J) (rule : Rule) (tries : Option Tries)
      (peers : List P) : Type 0 where
    pub clients : List P
    pub callers : List P
    pub are : peers ≡ clients ++ callers
    pub were_clients : AllByRecursion (WasClient g.settings rule tries) clients
    pub were_callers : AllByRecursion (WasCaller g) callers
