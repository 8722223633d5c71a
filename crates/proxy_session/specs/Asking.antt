-- How an exchange asks for a replica.
use Rattle.std.specs.Prelude.{ℕ, ◌⊎◌, Bool, true, false, List}
use Rattle.rand_pcg.specs.Lcg.{Lcg}
use Rattle.rand_pcg.specs.Pcg.{pcg64}
use Rattle.name_tree.specs.Path.{Labels}
use Rattle.dtab_table.specs.Rules.{Rule}
use Rattle.machine.specs.Choosing.{offer_of}
use Rattle.machine.specs.Values.{SettingsValue, AskValue, PickValue}
use Rattle.router.specs.Loads.{MayHaveRead}
use Rattle.router_log.specs.Value.{value_of}
use Rattle.proxy_session.specs.Callers.{Caller, Asks, Misses, Finds, Remembers, SeesMore}

-- the ask for a path, with a request's own rules, at a moment, by the generator's next three words
abbrev pub drawn : Labels → List Rule → ℕ → Lcg → AskValue
drawn path own moment words =
    let branch = pcg64 words in
    let first = pcg64 branch.1 in
    let second = pcg64 first.1 in
    record {
      path = path;
      own = own;
      moment = moment;
      branch_word = branch.0;
      first_draw = first.0;
      second_draw = second.0;
    }

-- the generator behind these three
abbrev pub behind_draw : Lcg → Lcg
behind_draw words = (pcg64 (pcg64 (pcg64 words).1).1).1

-- A second ask, where nothing was kept for the first one's. What was worked out is given back
-- exactly where nothing is kept at its point either
abbrev pub FindingAnew : SettingsValue → Caller → Caller → AskValue → PickValue → Type 0
FindingAnew settings old new ask said =
    Finds settings old new ask true said
    ⊎ ((late : Caller) × Finds settings old late ask false said
    × Remembers settings (value_of settings late.seen).state late new ask)

-- It is asked once, and a second time exactly where nothing was kept for the ask at the first one's
-- point. The answer is that of the last ask
abbrev pub Finding : SettingsValue → Caller → Caller → AskValue → PickValue → Type 0
Finding settings old new ask said =
    Finds settings old new ask true said
    ⊎ ((mid : Caller) × Misses settings old mid ask × FindingAnew settings mid new ask said)

-- memory was wanting for the second ask, or for what follows it. What was done is a front of what
-- would have been
abbrev pub StopsAnew : SettingsValue → Caller → Caller → AskValue → Type 0
StopsAnew settings old new ask =
    (Asks settings old new ask
    × MayHaveRead (offer_of settings (value_of settings new.seen).state ask) old.reads new.reads)
    ⊎ ((late : Caller) × (kept : Bool) × (said : PickValue) × Finds settings old late ask kept said
    × SeesMore late new)

abbrev pub StopsAsking : SettingsValue → Caller → Caller → AskValue → Type 0
StopsAsking settings old new ask =
    (mid : Caller) × Misses settings old mid ask × StopsAnew settings mid new ask
