-- What is decided of a change, the length of the history apart.
use Rattle.std.specs.Prelude.{◌≡◌, Some, None}
use Rattle.machine.specs.declared.reply.Reply.{Reply}
use Rattle.machine.specs.declared.part.Part.{Part}
use Rattle.machine.specs.declared.decided.Decided.{Decided}
use Rattle.machine.specs.declared.decided.Decided.TheVariants.{Refused, Accepted}
use Rattle.machine.specs.Values.{SettingsValue, StateValue, ChangeValue}
use Rattle.machine.specs.Code.{reply_value}
use Rattle.machine.specs.State.{refusal, acceptance}
use Rattle.machine.specs.Ready.{part_of}
use Rattle.machine.specs.Part.{part_value, IsSoundPart}

-- the change is not refused, and these are its answer and what is prepared of it
pub record IsTaken (settings : SettingsValue) (state : StateValue) (change : ChangeValue)
    (said : Reply) (ready : Part) : Type 0 where
  pub taken : refusal state change ≡ None
  pub reply : reply_value said ≡ acceptance settings state change
  pub part : part_value ready ≡ part_of settings state change
  pub sound : IsSoundPart (part_value ready)

abbrev pub IsDecided : SettingsValue → StateValue → ChangeValue → Decided → Type 0
IsDecided settings state change (Refused reply) = refusal state change ≡ Some (reply_value reply)
IsDecided settings state change (Accepted reply part) = IsTaken settings state change reply part

-- whatever the router is set up with
abbrev pub IsDecidedAnyhow : StateValue → ChangeValue → Decided → Type 0
IsDecidedAnyhow state change decided =
    (settings : SettingsValue) → IsDecided settings state change decided
