-- The text of all metrics, by what the router's state told and by what the workers count.
use Rattle.std.specs.Prelude.{◌≡◌, ℕ, List, [], length, map, None, slice_index_or}
use Rattle.machine.specs.declared.reply.ServiceState.{ServiceState}
use Rattle.machine.specs.Values.{ReplyValue, services}
use Rattle.metrics_text.specs.declared.counts.Counts.{Counts}
use Rattle.metrics_text.specs.declared.service.ServiceCounts.{ServiceCounts}
use Rattle.metrics_text.specs.Metrics.{metrics_text}
use Rattle.api_wire.specs.declared.response.Media.TheVariants as media
use Rattle.api_wire.specs.Response.{ResponseValue, filled}
use Rattle.scrape.specs.Counts.{counts_by}
use Rattle.scrape.specs.declared.counts.State.{State}
use Rattle.scrape.specs.declared.sums.Sums.{Sums}

-- a service's name and its numbers, as the state told them, and as the metrics show them
abbrev pub told_as : ServiceState → List ℕ × (ℕ × ℕ)
told_as s = (s.name, (s.addresses, s.alive))

abbrev pub shown_as : ServiceCounts → List ℕ × (ℕ × ℕ)
shown_as s = (s.name.now, (s.addresses, s.alive))

-- the text of these numbers and of these services, in their order
pub record IsTextOf (counts : Counts) (list : List ServiceState) (text : List ℕ) : Type 0 where
  pub shown : List ServiceCounts
  pub same : map shown_as shown ≡ map told_as list
  pub is : text ≡ metrics_text counts shown

-- the sum at a place
abbrev pub sum_at : Sums → ℕ → ℕ
sum_at sums place = slice_index_or sums.counts place 0

-- the numbers of the state
abbrev pub state_of : ℕ → ℕ → ℕ → ℕ → ℕ → ℕ → State
state_of changes marks spaces written served kept = record {
  changes = changes;
  tables_written = written;
  marks = marks;
  namespaces = spaces;
  services = served;
  kept = kept;
}

-- the text by a look at the services, which is replied by the first of these alone, by how many
-- delegations were kept then, and by sums
abbrev pub IsMetricsBody : ReplyValue → ℕ → Sums → List ℕ → Type 0
IsMetricsBody (services changes marks spaces written list) kept sums text =
    IsTextOf (counts_by (sum_at sums) (state_of changes marks spaces written (length list) kept))
    list text
IsMetricsBody _ kept sums text = text ≡ []

abbrev pub metrics_response : List ℕ → ResponseValue
metrics_response text = filled 200 None media.Metrics text

-- the response with that text
pub record TellsMetrics (said : ReplyValue) (kept : ℕ) (sums : Sums) (response : ResponseValue)
    : Type 0 where
  pub text : List ℕ
  pub body : IsMetricsBody said kept sums text
  pub is : response ≡ metrics_response text
