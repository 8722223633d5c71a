-- What became of a connection is published.
use Rattle.std.proofs.Common.{◌≡◌, ◌≢◌, ℕ, ◌<◌, ◌≤◌, List, length, ◌∙◌, arith, lit<, refl, sym}
use Rattle.std.proofs.Common.{ap, subst}
use Rattle.std.proofs.Common.{slice_index_or, slice_set, get_or-set_same, get_or-set_other}
use Rattle.exchange_record.specs.declared.recorder.ConnectionStep.{ConnectionStep}
use Rattle.exchange_record.specs.declared.recorder.ConnectionStep.TheVariants.{Came, Left, Taken}
use Rattle.exchange_record.specs.declared.recorder.ConnectionStep.TheVariants.{Finished}
use Rattle.exchange_tally.specs.declared.tally.Tally.{Tally}
use Rattle.exchange_tally.specs.Figures.{place_of}
use Rattle.exchange_tally.specs.Tallies.{grown}
use Rattle.line_log.specs.declared.journal.LineCounts.{LineCounts}
use Rattle.worker_record.specs.declared.connections.ConnectionCounts.{ConnectionCounts}
use Rattle.worker_record.specs.Connections.{AreSteps, after_step, count_of, step_place}
use Rattle.worker_record.specs.Publishing.{AreLines, ArePublished}
use Rattle.worker_record.proofs.Lines.{place_within, step_past}

-- nothing was counted, and nothing published
pub none_published : (c : ConnectionCounts) (counts : List ℕ)
    → ((place : ℕ) → slice_index_or counts place 0 ≡ 0)
    → ((step : ConnectionStep) → count_of step c ≡ 0) → AreSteps c counts
none_published c counts none zero step = none (step_place step) ∙ sym (zero step)

pub none_came : (step : ConnectionStep)
    → count_of step (record { came = 0; finished = 0; left = 0; taken = 0 }) ≡ 0
none_came Came = refl
none_came Left = refl
none_came Taken = refl
none_came Finished = refl

module _ (c : ConnectionCounts) (counts : List ℕ) (are : AreSteps c counts) where
  pub step_grows : (step : ConnectionStep)
      → slice_index_or counts (step_place step) 0 ≤ count_of step (after_step step c)
  step_grows Came = omega (arith, are Came)
  step_grows Left = omega (arith, are Left)
  step_grows Taken = omega (arith, are Taken)
  step_grows Finished = omega (arith, are Finished)

  here : (place value : ℕ) → place < length counts
      → slice_index_or (slice_set counts place value) place 0 ≡ value
  here place value within = get_or-set_same counts place value 0 within

  there : (place value other count : ℕ) → other ≢ place → slice_index_or counts other 0 ≡ count
      → slice_index_or (slice_set counts place value) other 0 ≡ count
  there place value other count apart is = get_or-set_other counts place other value 0 apart ∙ is

  -- its own count is the new one, and each other is as it was
  pub step_stored : 51 < length counts → (step : ConnectionStep)
      → AreSteps (after_step step c)
      (slice_set counts (step_place step) (count_of step (after_step step c)))
  step_stored long Came Came = here 48 (grown c.came 1) (omega (arith, long))
  step_stored long Came Finished =
      there 48 (grown c.came 1) 49 c.finished (λ (e : 49 ≡ 48). omega (arith, e)) (are Finished)
  step_stored long Came Left =
      there 48 (grown c.came 1) 50 c.left (λ (e : 50 ≡ 48). omega (arith, e)) (are Left)
  step_stored long Came Taken =
      there 48 (grown c.came 1) 51 c.taken (λ (e : 51 ≡ 48). omega (arith, e)) (are Taken)
  step_stored long Finished Came =
      there 49 (grown c.finished 1) 48 c.came (λ (e : 48 ≡ 49). omega (arith, e)) (are Came)
  step_stored long Finished Finished = here 49 (grown c.finished 1) (omega (arith, long))
  step_stored long Finished Left =
      there 49 (grown c.finished 1) 50 c.left (λ (e : 50 ≡ 49). omega (arith, e)) (are Left)
  step_stored long Finished Taken =
      there 49 (grown c.finished 1) 51 c.taken (λ (e : 51 ≡ 49). omega (arith, e)) (are Taken)
  step_stored long Left Came =
      there 50 (grown c.left 1) 48 c.came (λ (e : 48 ≡ 50). omega (arith, e)) (are Came)
  step_stored long Left Finished =
      there 50 (grown c.left 1) 49 c.finished (λ (e : 49 ≡ 50). omega (arith, e)) (are Finished)
  step_stored long Left Left = here 50 (grown c.left 1) (omega (arith, long))
  step_stored long Left Taken =
      there 50 (grown c.left 1) 51 c.taken (λ (e : 51 ≡ 50). omega (arith, e)) (are Taken)
  step_stored long Taken Came =
      there 51 (grown c.taken 1) 48 c.came (λ (e : 48 ≡ 51). omega (arith, e)) (are Came)
  step_stored long Taken Finished =
      there 51 (grown c.taken 1) 49 c.finished (λ (e : 49 ≡ 51). omega (arith, e)) (are Finished)
  step_stored long Taken Left =
      there 51 (grown c.taken 1) 50 c.left (λ (e : 50 ≡ 51). omega (arith, e)) (are Left)
  step_stored long Taken Taken = here 51 (grown c.taken 1) long

pub steps_after : (c now : ConnectionCounts) (counts : List ℕ) (step : ConnectionStep) (value : ℕ)
    → AreSteps c counts → 51 < length counts → now ≡ after_step step c → value ≡ count_of step now
    → AreSteps now (slice_set counts (step_place step) value)
steps_after c now counts step value are long is_now is_value =
    subst (λ (m : ConnectionCounts). AreSteps m (slice_set counts (step_place step) value))
    (sym is_now)
    (subst (λ (v : ℕ). AreSteps (after_step step c) (slice_set counts (step_place step) v))
    (sym (is_value ∙ ap (count_of step) is_now)) (step_stored c counts are long step))

-- the counts before those of connections stay
module _ (counts : List ℕ) (step : ConnectionStep) (value : ℕ) where
  before : (place : ℕ) → place < 48
      → slice_index_or (slice_set counts (step_place step) value) place 0
      ≡ slice_index_or counts place 0
  before place few =
      let past : 48 ≤ step_place step = step_past step in
      get_or-set_other counts (step_place step) place value 0
      (λ (e : place ≡ step_place step). omega (arith, e, few, past))

  pub figures_before : (t : Tally) → ArePublished t counts
      → ArePublished t (slice_set counts (step_place step) value)
  figures_before t are f =
      let few : place_of f < 46 = place_within f in
      before (place_of f) (omega (arith, few)) ∙ are f

  pub lines_before : (lines : LineCounts) → AreLines lines counts
      → AreLines lines (slice_set counts (step_place step) value)
  lines_before lines are = (before 46 (lit< tt) ∙ are.0, before 47 (lit< tt) ∙ are.1)
