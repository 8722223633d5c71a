-- What the lines of a script do to a state, and what they are answered.
use Rattle.std.specs.Prelude.{ℕ, if◌then◌else◌, List, [], codes, Option, Some, None, is_some}
use Rattle.std.specs.FinMap.{get}
use Rattle.dtab_table.specs.Rules.{Rule}
use Rattle.choose_core.specs.declared.mark.Limits.{Limits}
use Rattle.machine.specs.Values.{SettingsValue, StateValue, ChangeValue, create, put, ReplyValue}
use Rattle.machine.specs.Values.{version}
use Rattle.machine.specs.State.{reply_of, after}
use Rattle.machine.specs.Looking.{look_of}
use Rattle.machine.specs.Choosing.{pick_of, chosen_of}
use Rattle.script.specs.Line.{LineValue, blank, table, change, look, ask, bad}
use Rattle.script.specs.Reply.{SaidValue, done, replied, chosen}

-- the namespace of scripts
abbrev pub default_name : List ℕ
default_name = codes "default"

-- what the router of scripts is set up with: the namespace `default`, no configured table, and
-- replicas that are left out for 5,000 after five failures
abbrev pub script_settings : SettingsValue
script_settings =
    record { space = default_name; base = []; limits = record { failures = 5; backoff = 5000 } }

-- the change that a `dtab` line makes: another table for `default` whatever its version, or the
-- namespace where it is not there
abbrev pub table_change : StateValue → List Rule → ChangeValue
table_change state rules =
    if is_some (get state.store.spaces default_name) then put default_name None rules
    else create default_name rules

-- a `dtab` line is answered `ok`, or how it is refused
abbrev pub table_said : ReplyValue → SaidValue
table_said (version n) = done
table_said reply = replied reply

-- what a line is answered, if it is: a line of blanks is not, and neither is one outside the
-- grammar
abbrev pub line_answer : SettingsValue → StateValue → LineValue → Option SaidValue
line_answer settings state blank = None
line_answer settings state (table rules) =
    Some (table_said (reply_of settings state (table_change state rules)))
line_answer settings state (change c) = Some (replied (reply_of settings state c))
line_answer settings state (look l) = Some (replied (look_of settings state l))
line_answer settings state (ask a) = Some (chosen (chosen_of (pick_of settings state a 0 0)))
line_answer settings state bad = None

-- what a line leaves
abbrev pub line_after : SettingsValue → StateValue → LineValue → StateValue
line_after settings state (table rules) = after settings state (table_change state rules)
line_after settings state (change c) = after settings state c
line_after settings state _ = state
