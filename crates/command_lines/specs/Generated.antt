-- What generated runs write.
use Rattle.std.specs.Prelude.{ℕ, List, [], ◌∷◌, ◌++◌}
use Rattle.script.specs.Storm.{storm_of}
use Rattle.script.specs.Carried.{script_settings}
use Rattle.weave.specs.Generated.{weave_of}

-- the line of a storm: so many turns by the words of a seed, on one state of the router of scripts
abbrev pub storm_line : ℕ → ℕ → List ℕ
storm_line turns seed = storm_of script_settings turns seed ++ 10 ∷ []

-- the line of a weave: so many turns of four passes by the words of a seed, over the router of
-- scripts
abbrev pub weave_line : ℕ → ℕ → List ℕ
weave_line turns seed = weave_of script_settings turns seed ++ 10 ∷ []
