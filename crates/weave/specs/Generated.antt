-- Generated schedules: the steps that the words of a seed give, and the line that sums up what they
-- leave.
use Rattle.std.specs.Prelude.{ℕ, zero, suc, ◌+◌, ◌/◌, ◌%◌, ◌==◌, nat_lt, if◌then◌else◌, List, []}
use Rattle.std.specs.Prelude.{◌∷◌, ◌++◌, codes}
use Rattle.std.specs.Fmt.{decimal}
use Rattle.rand_core.specs.Pcg32Seed.{pcg32_seed}
use Rattle.rand_pcg.specs.Lcg.{Lcg}
use Rattle.rand_pcg.specs.Pcg.{pcg64, pcg64_of_seed}
use Rattle.machine.specs.Values.{SettingsValue, AskValue}
use Rattle.router_log.specs.Operation.{place_of, kept_count}
use Rattle.turn_parts.specs.Parts.{addrs_change, drawn_ask, first_change, table_change}
use Rattle.weave.specs.World.{pick, StepValue, publish, enter, answer, remember, meet, ToldValue}
use Rattle.weave.specs.World.{nothing, opening_world, run_from}

-- the step in which a pass asks for a pick
abbrev pub asking : ℕ → AskValue × Lcg → StepValue × Lcg
asking pass ask = (enter pass (pick ask.0), ask.1)

-- the step of a turn, by its kind, its pass, a service and a number, and the generator after it
abbrev pub turn_step : ℕ → ℕ → ℕ → ℕ → Lcg → StepValue × Lcg
turn_step kind pass s q words =
    if kind == 0 then (publish pass (addrs_change s q), words) else
    if kind == 1 then (publish pass (table_change s), words) else
    if kind == 2 then (meet pass ((pass + 1) % 4), words) else
    if kind == 3 then (remember pass, words) else
    if nat_lt kind 6 then asking pass (drawn_ask s 0 words) else (answer pass, words)

-- the step of a turn by the generator: its word's lowest two bits are its pass, the next three its
-- kind, the next four a service, the next twelve a number
unfoldable pub turn_by : Lcg → StepValue × Lcg
turn_by words =
    let drawn = pcg64 words in
    turn_step (drawn.0 / 4 % 8) (drawn.0 % 4) (drawn.0 / 32 % 16) (drawn.0 / 512 % 4096) drawn.1

-- so many turns
abbrev pub turns_by : ℕ → Lcg → List StepValue
turns_by zero words = []
turns_by (suc n) words = let turn = turn_by words in turn.0 ∷ turns_by n turn.1

-- all steps: pass 0 makes the first change, then come the turns
abbrev pub steps_of_seed : ℕ → ℕ → List StepValue
steps_of_seed turns seed =
    publish 0 first_change ∷ turns_by turns (pcg64_of_seed (pcg32_seed 32 seed))

-- how many answers a step gives: one, or none where nothing was in flight
abbrev pub given_by : StepValue → ToldValue → ℕ
given_by (answer pass) nothing = 0
given_by (answer pass) told = 1
given_by step told = 0

-- how many answers were given
abbrev pub answers_given : List StepValue → List ToldValue → ℕ
answers_given (s ∷ ss) (t ∷ ts) = given_by s t + answers_given ss ts
answers_given ss ts = 0

-- the line that sums up a run: how many changes there are, how many answers were given, and how
-- many delegations were ever kept
abbrev pub weave_line : ℕ → ℕ → ℕ → List ℕ
weave_line changes answers kept =
    codes "history " ++ decimal changes ++ codes " looks " ++ decimal answers
    ++ codes " kept " ++ decimal kept

abbrev pub weave_of : SettingsValue → ℕ → ℕ → List ℕ
weave_of settings turns seed =
    let steps = steps_of_seed turns seed in
    let ran = run_from settings (opening_world 4) steps in
    weave_line (place_of ran.0.ops) (answers_given steps ran.1) (kept_count ran.0.ops)
