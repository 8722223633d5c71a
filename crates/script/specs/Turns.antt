-- The turns of generated runs: changes and picks, made of a generator's words.
use Rattle.std.specs.Prelude.{ℕ, zero, suc, ◌+◌, ◌/◌, ◌%◌, ◌==◌, nat_lt, false, if◌then◌else◌, List}
use Rattle.std.specs.Prelude.{[], ◌∷◌}
use Rattle.rand_core.specs.Pcg32Seed.{pcg32_seed}
use Rattle.rand_pcg.specs.Lcg.{Lcg}
use Rattle.rand_pcg.specs.Pcg.{pcg64, pcg64_of_seed}
use Rattle.machine.specs.Values.{ChangeValue, drop_service, report, AskValue}
use Rattle.turn_parts.specs.Parts.{addrs_change, drawn_ask, local_addr, service_name, table_change}

-- what a turn asks of a state
pub data TurnValue : Type 0 where
  changing : ChangeValue → TurnValue
  picking : AskValue → TurnValue

-- the generator of a number: its words are the 64-bit outputs of PCG
abbrev pub words_of_seed : ℕ → Lcg
words_of_seed seed = pcg64_of_seed (pcg32_seed 32 seed)

-- the change of a kind, for a service and a number: up to four addresses, no such service any more,
-- another table, or a failure
abbrev pub change_by : ℕ → ℕ → ℕ → ℕ → ChangeValue
change_by kind s q turn =
    if kind == 0 then addrs_change s q else
    if kind == 1 then drop_service (service_name s) else
    if kind == 2 then table_change s else report (local_addr (1024 + q)) false turn

-- the pick of a service at the moment of its turn, by the next three words
abbrev pub pick_by : ℕ → ℕ → Lcg → TurnValue × Lcg
pick_by s turn words =
    let drawn = drawn_ask s turn words in
    (picking drawn.0, drawn.1)

-- the turn of a word, and the words behind it. The word's lowest three bits are the kind, of which
-- 4 to 7 are picks, the next four bits a service, and the next twelve a number
abbrev pub turn_by : ℕ → ℕ → Lcg → TurnValue × Lcg
turn_by turn word words =
    if nat_lt (word % 8) 4 then
    (changing (change_by (word % 8) (word / 8 % 16) (word / 128 % 4096) turn), words)
    else pick_by (word / 8 % 16) turn words

-- the turn with this number, and the words behind it
unfoldable pub next_turn : ℕ → Lcg → TurnValue × Lcg
next_turn turn words =
    let drawn = pcg64 words in
    turn_by turn drawn.0 drawn.1

-- so many turns, of which the first has this number
abbrev pub turns_from : ℕ → ℕ → Lcg → List TurnValue
turns_from zero turn words = []
turns_from (suc n) turn words =
    let next = next_turn turn words in
    next.0 ∷ turns_from n (turn + 1) next.1
