use Rattle.std.proofs.Common.{◌≡◌, ◌+◌, sym, subst, arith}
use Rattle.machine.specs.Code.{settings_of}
use Rattle.script.specs.Turns.{next_turn, turns_from, words_of_seed}
use Rattle.script.specs.Storm.{first_run, after_turn, after_turns}
use Rattle.script.specs.Ran.{run_of, IsWithin}
use Rattle.script.proofs.Turning.{none_taken, one_taken, all_taken}
use Rattle.script.proofs.run.run_of_turns.Goals as goal

pub loop-number-init : goal.loop-number-init
loop-number-init g c =
    let settings = settings_of c.args.settings.now in
    record {
      same = none_taken settings c.args.turns (run_of c.in_ok-run.run')
          (first_run settings) c.seed_from_u64-words.result
          (words_of_seed c.args.seed) c.in_ok-run.ensures c.seed_from_u64-words.ensures;
      within = subst (IsWithin 0) (sym c.in_ok-run.ensures)
          (record {
            refused = omega arith;
            picked = omega arith;
            lacking = omega arith;
            ports =
                omega arith;
          });
    }

pub take-requires-clause-within : goal.take-requires-clause-within
take-requires-clause-within g c = subst (λ n. IsWithin n (run_of c.loop-number.run))
    (sym c.from.ensures) c.loop-number.invariant.within

pub loop-number-preserved : goal.loop-number-preserved
loop-number-preserved g c =
    let settings = settings_of c.args.settings.now in
    record {
      same =
          one_taken settings c.args.turns c.loop-number.number (run_of c.loop-number.run)
          (run_of c.take.new.self)
          (after_turns settings (first_run settings)
          (turns_from c.args.turns 0 (words_of_seed c.args.seed)))
          c.loop-number.words c.take.new.words c.loop-number-test.true
          (subst (λ n. run_of c.take.new.self
          ≡ after_turn settings (run_of c.loop-number.run) (next_turn n c.loop-number.words).0)
          c.from.ensures c.in-Ok.ensures.run)
          (subst (λ n. c.take.new.words ≡ (next_turn n c.loop-number.words).1) c.from.ensures
          c.in-Ok.ensures.words) c.loop-number.invariant.same;
      within = subst (λ n. IsWithin (n + 1) (run_of c.take.new.self)) c.from.ensures
          c.in-Ok.ensures.within;
    }

pub returns : goal.returns
returns g c =
    let settings = settings_of c.args.settings.now in
    all_taken settings c.args.turns c.loop-number.number (run_of c.loop-number.run)
    (after_turns settings (first_run settings)
    (turns_from c.args.turns 0 (words_of_seed c.args.seed))) c.loop-number.words
    (omega arith) c.loop-number.invariant.same
