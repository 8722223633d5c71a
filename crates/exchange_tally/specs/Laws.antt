-- The counts of many exchanges.
use Rattle.std.specs.Prelude.{◌≡◌, ◌+◌, List, sum_by}
use Rattle.metrics_text.specs.declared.class.Class.TheVariants.{Success, Redirection, ClientError}
use Rattle.metrics_text.specs.declared.class.Class.TheVariants.{ServerError, Other, NoReply}
use Rattle.exchange_tally.specs.declared.done.Timed.{Timed}
use Rattle.exchange_tally.specs.declared.figure.Figure.{Figure}
use Rattle.exchange_tally.specs.declared.figure.Figure.TheVariants.{Requests}
use Rattle.exchange_tally.specs.declared.tally.Tally.{Tally}
use Rattle.exchange_tally.specs.Figures.{place_of}
use Rattle.exchange_tally.specs.Tallies.{AddsAll, count_in, grown}
use Rattle.exchange_tally.specs.Worth.{worth}

-- a count is what it began with and the sum of what each exchange is worth
abbrev pub TalliesAddUp : Type 0
TalliesAddUp =
    (old : Tally) (exchanges : List Timed) (new : Tally) → AddsAll old exchanges new → (f : Figure)
    → count_in new f ≡ grown (count_in old f) (sum_by (worth f) exchanges)

-- each exchange counts to one class
abbrev pub ClassesAddUp : Type 0
ClassesAddUp =
    (timed : Timed) → worth (Requests Success) timed + worth (Requests Redirection) timed
    + worth (Requests ClientError) timed + worth (Requests ServerError) timed
    + worth (Requests Other) timed + worth (Requests NoReply) timed ≡ 1

-- two figures that have one place are counted together
abbrev pub PlacesTellFigures : Type 0
PlacesTellFigures =
    (f g : Figure) → place_of f ≡ place_of g → (t : Tally) → count_in t f ≡ count_in t g
