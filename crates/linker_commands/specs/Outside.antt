-- What a run does to its outside, by what each of its parts tells of itself.
use Rattle.std.specs.Prelude.{ℕ, List, Option}
use Rattle.line_base.specs.Files.{File, Filed}
use Rattle.line_base.specs.Lines.{Line}
use Rattle.line_base.specs.Nets.{Networking}
use Rattle.line_base.specs.Streams.{Input, Output}
use Rattle.line_base.specs.declared.socket_address.SocketAddress.{SocketAddress}
use Rattle.line_log.specs.Logged.{Logged}
use Rattle.linker_config.specs.declared.config.Config.{Config}
use Rattle.linker_commands.specs.declared.outside.Outside.{Outside}
use Rattle.linker_commands.specs.Linked.{Linked, linked}
use Rattle.linker_commands.specs.Run.{Course, EndsCourse, EndsServing, Ran, Serves}

-- what the net and the journals of an outside tell
abbrev pub linked_in : {P F N C S K O : Type 0} → (N → Networking P) → (N → ℕ)
    → (O → Option (List Logged)) → Outside F N C S K O → Linked P
linked_in state faults closed outside =
    linked (state outside.net) (faults outside.net) (closed outside.journals)

-- an outside whose folder, net, clock, input, output and journals tell this of themselves, and the
-- peers of its net this
module _ {P F N C S K O : Type 0} (filed : F → Filed) (state : N → Networking P) (faults : N → ℕ)
    (line_of : P → Line) (address_of : P → Option SocketAddress)
    (of_fork : C → Option (List ℕ)) (input : S → Input) (output : K → Output)
    (closed : O → Option (List Logged)) where
  -- the whole of a run over it
  abbrev pub RanOver : List (List ℕ) → Outside F N C S K O → Outside F N C S K O → ℕ → Type 0
  RanOver words old new status =
      Ran line_of address_of (of_fork old.clock) words (input old.input) (input new.input)
      (filed old.folder) (filed new.folder) (linked_in state faults closed old)
      (linked_in state faults closed new) (output old.out) (output new.out) status

  -- a run of it that was to serve by the configuration at a path
  abbrev pub ServesOver : List ℕ → Outside F N C S K O → Outside F N C S K O → ℕ → Type 0
  ServesOver path old new status =
      (course : Course)
      × Serves line_of address_of (of_fork old.clock) path (filed old.folder) (filed new.folder)
      (linked_in state faults closed old) (linked_in state faults closed new) course
      × EndsCourse course (output old.out) (output new.out) status

  -- a run of it whose router was opened by a configuration
  abbrev pub EndsOver : Type 0 → Option (List File) → Config → Outside F N C S K O
      → Outside F N C S K O → ℕ → Type 0
  EndsOver J files config old new status =
      EndsServing J line_of address_of (of_fork old.clock) files config
      (linked_in state faults closed old) (linked_in state faults closed new) (output old.out)
      (output new.out) status
