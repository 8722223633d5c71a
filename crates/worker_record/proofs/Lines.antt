-- The counts of an access log's lines, behind those of the figures.
use Rattle.std.proofs.Common.{◌≡◌, ℕ, ◌<◌, ◌≤◌, List, length, length-set, ◌∙◌}
use Rattle.std.proofs.Common.{arith}
use Rattle.std.proofs.Common.{inl, inr, lit<, lit≤, slice_index_or, slice_set, get_or-set_same}
use Rattle.std.proofs.Common.{get_or-set_other}
use Rattle.exchange_tally.specs.declared.figure.Figure.{Figure}
use Rattle.exchange_tally.specs.declared.figure.Figure.TheVariants as figure
use Rattle.exchange_tally.specs.declared.tally.Tally.{Tally}
use Rattle.exchange_tally.specs.Figures.{class_place, place_of}
use Rattle.exchange_tally.proofs.Adding.{own_within}
use Rattle.exchange_record.specs.declared.recorder.ConnectionStep.{ConnectionStep}
use Rattle.exchange_record.specs.declared.recorder.ConnectionStep.TheVariants.{Came, Left, Taken}
use Rattle.exchange_record.specs.declared.recorder.ConnectionStep.TheVariants.{Finished}
use Rattle.line_log.specs.declared.journal.LineCounts.{LineCounts}
use Rattle.line_log.specs.Logged.{IsAppended, Logged}
use Rattle.metrics_text.specs.declared.class.Class.{Class}
use Rattle.metrics_text.specs.declared.class.Class.TheVariants.{Success, Redirection, ClientError}
use Rattle.metrics_text.specs.declared.class.Class.TheVariants.{ServerError, Other, NoReply}
use Rattle.worker_record.specs.declared.connections.ConnectionCounts.{ConnectionCounts}
use Rattle.worker_record.specs.Connections.{AreSteps, step_place}
use Rattle.worker_record.specs.Publishing.{AreLines, ArePublished, KeepsOthers}

class_within : (class : Class) → class_place class < 46
class_within Success = lit< tt
class_within Redirection = lit< tt
class_within ClientError = lit< tt
class_within ServerError = lit< tt
class_within Other = lit< tt
class_within NoReply = lit< tt

-- the figures stand below them
pub place_within : (f : Figure) → place_of f < 46
place_within (figure.Requests class) = class_within class
place_within (figure.OwnReplies word) = omega (arith, own_within word)
place_within (figure.Bucket place) = omega arith
place_within figure.Tries = lit< tt
place_within figure.Failures = lit< tt
place_within figure.RequestBytes = lit< tt
place_within figure.ReplyBytes = lit< tt
place_within figure.Milliseconds = lit< tt
place_within figure.Hits = lit< tt
place_within figure.Misses = lit< tt

-- and those of connections behind them
pub step_past : (step : ConnectionStep) → 48 ≤ step_place step
step_past Came = lit≤ tt
step_past Left = lit≤ tt
step_past Taken = lit≤ tt
step_past Finished = lit≤ tt

module _ (counts : List ℕ) (written lost : ℕ) where
  abbrev first : List ℕ
  first = slice_set counts 46 written

  abbrev both : List ℕ
  both = slice_set first 47 lost

  figure_stays : (place : ℕ) → place < 46
      → slice_index_or both place 0 ≡ slice_index_or counts place 0
  figure_stays place few =
      get_or-set_other first 47 place lost 0 (λ (e : place ≡ 47). omega (arith, e, few))
      ∙ get_or-set_other counts 46 place written 0 (λ (e : place ≡ 46). omega (arith, e, few))

  pub written_stands : 47 < length counts → slice_index_or both 46 0 ≡ written
  written_stands long =
      get_or-set_other first 47 46 lost 0 (λ (e : 46 ≡ 47). omega (arith, e))
      ∙ get_or-set_same counts 46 written 0 (omega (arith, long))

  pub lost_stands : 47 < length counts → slice_index_or both 47 0 ≡ lost
  lost_stands long =
      get_or-set_same first 47 lost 0 (omega (arith, long, length-set counts 46 written))

  -- those of connections stand behind both
  pub steps_stay : (c : ConnectionCounts) → AreSteps c counts → AreSteps c both
  steps_stay c are step =
      let past : 48 ≤ step_place step = step_past step in
      get_or-set_other first 47 (step_place step) lost 0
      (λ (e : step_place step ≡ 47). omega (arith, e, past))
      ∙ (get_or-set_other counts 46 (step_place step) written 0
      (λ (e : step_place step ≡ 46). omega (arith, e, past))
      ∙ are step)

  -- before the second is stored
  pub lost_before : slice_index_or first 47 0 ≡ slice_index_or counts 47 0
  lost_before = get_or-set_other counts 46 47 written 0 (λ (e : 47 ≡ 46). omega (arith, e))

  pub lines_stored : 47 < length counts
      → AreLines (record { written = written; lost = lost }) both
  lines_stored long = (written_stands long, lost_stands long)

pub figures_stay : (t : Tally) (counts : List ℕ) (written lost : ℕ) → ArePublished t counts
    → ArePublished t (slice_set (slice_set counts 46 written) 47 lost)
figures_stay t counts written lost published f =
    figure_stays counts written lost (place_of f) (place_within f) ∙ published f

-- where the counts behind the figures stay, so do those of the lines, and of connections
pub lines_kept : (lines : LineCounts) (old new : List ℕ) → KeepsOthers old new → AreLines lines old
    → AreLines lines new
lines_kept lines old new keeps are = (
  keeps 46 (lit≤ tt) ∙ are.0,
  keeps 47 (lit≤ tt) ∙ are.1,
)

pub steps_kept : (c : ConnectionCounts) (old new : List ℕ) → KeepsOthers old new → AreSteps c old
    → AreSteps c new
steps_kept c old new keeps are step =
    let past : 48 ≤ step_place step = step_past step in
    keeps (step_place step) (omega (arith, past)) ∙ are step

-- a line that was appended raises one of the two, and lowers none
pub written_grows : (old : Logged) (line : List ℕ) (new : Logged) → IsAppended old line new
    → old.written ≤ new.written
written_grows old line new (inl x) = omega (arith, x.written)
written_grows old line new (inr x) = omega (arith, x.written)

pub lost_grows : (old : Logged) (line : List ℕ) (new : Logged) → IsAppended old line new
    → old.lost ≤ new.lost
lost_grows old line new (inl x) = omega (arith, x.lost)
lost_grows old line new (inr x) = omega (arith, x.lost)
