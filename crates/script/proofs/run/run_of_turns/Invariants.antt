use Rattle.std.proofs.Common.{◌≡◌}
use Rattle.machine.specs.Code.{settings_of}
use Rattle.script.specs.Turns.{turns_from, words_of_seed}
use Rattle.script.specs.Storm.{first_run, after_turns}
use Rattle.script.specs.Ran.{run_of, IsWithin}
use Rattle.script.proofs.Turning.{to_come}
use Rattle.script.proofs.run.run_of_turns.Given as goal

abbrev pub invariant-loop-number : goal.invariant-loop-number
invariant-loop-number g l =
    let settings = settings_of l.settings in
    record {
      same : to_come settings l.turns l.number (run_of l.run) l.words
          ≡ after_turns settings (first_run settings) (turns_from l.turns 0 (words_of_seed l.seed));
      within : IsWithin l.number (run_of l.run);
    }
