-- What the candidates of the code say.
use Rattle.std.specs.Prelude.{◌≡◌, ℕ, ◌<◌, Bool, true, false, List}
use Rattle.addr_book.specs.declared.leaf.Cluster.{Cluster}
use Rattle.addr_book.specs.declared.leaf.Cluster.TheVariants.{Inet, Fs}
use Rattle.machine.specs.declared.candidates.Candidates.{Candidates}
use Rattle.addr_book.specs.declared.addr.Weighted.{Weighted}
use Rattle.addr_book.specs.Book.{is_used}
use Rattle.choose_core.specs.declared.mark.Limits.{Limits}
use Rattle.choose_core.specs.Pair.{pair_of}
use Rattle.machine.specs.Values.{StateValue, AskValue}
use Rattle.machine.specs.Choosing.{Between, item_at, live_in}

abbrev pub pair_value : Candidates → Between
pair_value c = record { leaf = c.leaf.now; first = c.first; second = c.second; slots = c.slots }

-- whether a cluster is a service
abbrev pub is_service : Cluster → Bool
is_service (Inet addr) = false
is_service (Fs service) = true

-- both slots are below the number of slots
abbrev pub AreBelow : ℕ × ℕ → Type 0
AreBelow slots = (slots.0 < 8192) × (slots.1 < 8192)

-- the words of an ask draw these two addresses of a service, both of which some service has
pub record IsDrawn (state : StateValue) (limits : Limits) (ask : AskValue) (service : List ℕ)
    (first second : Weighted) : Type 0 where
  pub first_is : item_at (live_in state limits ask.moment (Fs service))
      (pair_of (live_in state limits ask.moment (Fs service)) ask.first_draw ask.second_draw).0
      ≡ first
  pub second_is : item_at (live_in state limits ask.moment (Fs service))
      (pair_of (live_in state limits ask.moment (Fs service)) ask.first_draw ask.second_draw).1
      ≡ second
  pub first_used : is_used state.book.services first.addr ≡ true
  pub second_used : is_used state.book.services second.addr ≡ true
