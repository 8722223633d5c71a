-- What one turn comes to.
use Rattle.std.proofs.Common.{◌≡◌, ℕ, List, [], ◌++◌, length, refl, sym, ap, ◌∙◌, subst}
use Rattle.std.proofs.Common.{append_assoc, append-nil, Result, Ok, Err}
use Rattle.std.specs.declared.alloc.AllocError.{AllocError}
use Rattle.line_base.specs.declared.outside.Failed.{Failed}
use Rattle.body_wire.specs.declared.decoder.Decoder.{Decoder}
use Rattle.body_wire.specs.declared.decoder.StopCause.{StopCause}
use Rattle.body_wire.specs.declared.turn.TurnFault.{TurnFault}
use Rattle.body_wire.specs.Passing.{IsFrontOf}
use Rattle.body_wire.specs.Stands.{GoesOn, Stops}
use Rattle.body_wire.specs.Turns.{Taken, TakesAll, SendsAll, RunTaken, RunGoes, TakenGoes}
use Rattle.body_wire.specs.Turns.{TurnSends, Turns}
use Rattle.body_wire.proofs.Going.{stays, then}

-- no content alone
pub no_run : (d : Decoder) (kept waiting : List ℕ) → RunGoes d d kept kept waiting [] (Ok tt)
no_run d kept waiting = record {
  run = [];
  taken = record { kept = refl; goes = stays d; alone = sym (append-nil waiting) };
  sends = refl;
}

-- all that was kept
pub whole_run : (old new : Decoder) (kept rest waiting sent : List ℕ) (run : ℕ)
    (result : Result (Unit {0}) Failed)
    → ((bytes : List ℕ) → length bytes ≡ run → GoesOn old new bytes bytes) → run ≡ length kept
    → rest ≡ [] → waiting ≡ []
    → SendsAll kept sent result → RunGoes old new kept rest waiting sent result
whole_run old new kept rest waiting sent run result goes all none alone sends = record {
  run = kept;
  taken = record {
    kept = sym (ap (λ xs. kept ++ xs) none ∙ append-nil kept);
    goes = goes kept (sym all);
    alone = ap (λ xs. kept ++ xs) alone ∙ append-nil kept ∙ sym (ap (λ xs. xs ++ kept) alone);
  };
  sends = sends;
}

-- the run, and what was taken behind it
module _ (d0 d1 d2 : Decoder) (k0 k1 k2 waiting out sent1 sent2 : List ℕ)
    (run : RunTaken d0 d1 k0 k1 waiting sent1) (taken : Taken d1 d2 k1 k2 waiting out) where
  shuffled : sent1 ++ out ≡ waiting ++ (sent1 ++ taken.put)
  shuffled =
      ap (λ xs. sent1 ++ xs) taken.out ∙ sym (append_assoc sent1 waiting taken.put)
      ∙ ap (λ xs. xs ++ taken.put) run.alone ∙ append_assoc waiting sent1 taken.put

  turned_as : (result : Result StopCause TurnFault)
      → TurnSends (waiting ++ (sent1 ++ taken.put)) (sent1 ++ sent2) d2 k2 result
      → Turns d0 d2 k0 k2 waiting (sent1 ++ sent2) result
  turned_as result sends = record {
    took = sent1 ++ taken.took;
    put = sent1 ++ taken.put;
    kept = run.kept ∙ ap (λ xs. sent1 ++ xs) taken.kept ∙ sym (append_assoc sent1 taken.took k2);
    goes = then d0 d1 d2 sent1 sent1 taken.took taken.put run.goes taken.goes;
    sends = sends;
  }

  front_of_all : IsFrontOf out sent2 → IsFrontOf (waiting ++ (sent1 ++ taken.put)) (sent1 ++ sent2)
  front_of_all front =
      (front.0, append_assoc sent1 sent2 front.0 ∙ ap (λ xs. sent1 ++ xs) front.1 ∙ shuffled)

pub turned : (d0 d1 d2 : Decoder) (k0 k1 k2 waiting out sent1 sent2 run : List ℕ)
    (all : Result StopCause AllocError) (result : Result StopCause TurnFault)
    → RunTaken d0 d1 k0 k1 waiting run → sent1 ≡ run → TakesAll d1 d2 k1 k2 waiting out all
    → TakenGoes all out sent2 result
    → Turns d0 d2 k0 k2 waiting (sent1 ++ sent2) result
turned d0 d1 d2 k0 k1 k2 waiting out sent1 sent2 run (Ok stop) (Ok other) taken same takes goes =
    let taken' = subst (λ (xs : List ℕ). RunTaken d0 d1 k0 k1 waiting xs) (sym same) taken in
    turned_as d0 d1 d2 k0 k1 k2 waiting out sent1 sent2 taken' takes.0 (Ok other) (
      ap (λ xs. sent1 ++ xs) goes.1
          ∙ shuffled d0 d1 d2 k0 k1 k2 waiting out sent1 sent2 taken' takes.0,
      subst (λ (s : StopCause). Stops d2 k2 s) (sym goes.0) takes.1,
    )
turned d0 d1 d2 k0 k1 k2 waiting out sent1 sent2 run (Ok stop) (Err fault) taken same takes goes =
    let taken' = subst (λ (xs : List ℕ). RunTaken d0 d1 k0 k1 waiting xs) (sym same) taken in
    turned_as d0 d1 d2 k0 k1 k2 waiting out sent1 sent2 taken' takes.0 (Err fault)
    (front_of_all d0 d1 d2 k0 k1 k2 waiting out sent1 sent2 taken' takes.0 goes)
turned d0 d1 d2 k0 k1 k2 waiting out sent1 sent2 run (Err e) (Ok other) taken same takes goes =
    absurd goes
turned d0 d1 d2 k0 k1 k2 waiting out sent1 sent2 run (Err e) (Err fault) taken same takes goes =
    let taken' = subst (λ (xs : List ℕ). RunTaken d0 d1 k0 k1 waiting xs) (sym same) taken in
    turned_as d0 d1 d2 k0 k1 k2 waiting out sent1 sent2 taken' takes (Err fault)
    (front_of_all d0 d1 d2 k0 k1 k2 waiting out sent1 sent2 taken' takes goes)

-- the run alone, where sending it failed
pub run_failed : (d0 d1 : Decoder) (k0 k1 waiting sent : List ℕ) (fault : TurnFault) (e : Failed)
    → RunGoes d0 d1 k0 k1 waiting sent (Err e)
    → Turns d0 d1 k0 k1 waiting sent (Err fault)
run_failed d0 d1 k0 k1 waiting sent fault e goes =
    let front = goes.sends in record {
      took = goes.run;
      put = goes.run;
      kept = goes.taken.kept;
      goes = goes.taken.goes;
      sends = (
        front.0 ++ waiting,
        sym (append_assoc sent front.0 waiting)
            ∙ ap (λ xs. xs ++ waiting) front.1 ∙ goes.taken.alone,
      );
    }
