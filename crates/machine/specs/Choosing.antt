-- How a replica is chosen for a path.
use Rattle.std.specs.Prelude.{◌≡◌, ℕ, ◌*◌, nat_le, Bool, true, false, List, [], ◌∷◌, slice_index_or}
use Rattle.std.specs.Prelude.{Option, Some, None, option_map}
use Rattle.std.specs.FinMap.{get}
use Rattle.addr_book.specs.declared.addr.Addr.{Addr}
use Rattle.addr_book.specs.declared.addr.Weighted.{Weighted}
use Rattle.addr_book.specs.declared.leaf.Leaf.{Leaf}
use Rattle.addr_book.specs.declared.leaf.Cluster.{Cluster}
use Rattle.addr_book.specs.declared.leaf.Cluster.TheVariants.{Inet, Fs}
use Rattle.addr_book.specs.Book.{Slots}
use Rattle.addr_book.specs.Found.{Found}
use Rattle.addr_book.specs.Namer.{named_in}
use Rattle.addr_book.specs.Uses.{list_of}
use Rattle.choose_core.specs.declared.mark.Limits.{Limits}
use Rattle.choose_core.specs.Branch.{chosen}
use Rattle.choose_core.specs.Live.{live_of}
use Rattle.choose_core.specs.Pair.{pair_of}
use Rattle.bind_core.specs.Delegation.{Ending, negative, failing, no_replica, too_deep, too_wide}
use Rattle.bind_core.specs.Delegation.{bound, outcome_of}
use Rattle.machine.specs.declared.chosen.Why.{Why}
use Rattle.machine.specs.declared.chosen.Why.TheVariants.{Neg, Fail, Empty, TooDeep, TooWide}
use Rattle.machine.specs.Values.{SettingsValue, StateValue, AskValue, Replica, PickValue, replica}
use Rattle.machine.specs.Values.{none, ChosenValue, picked, not_picked}
use Rattle.machine.specs.Looking.{effective}

-- the two replicas of a leaf of which the less loaded one is taken, each with its weight, and their
-- slots where they are of a service
pub record Between : Type 0 where
  pub leaf : Leaf
  pub first : Weighted
  pub second : Weighted
  pub slots : Option (ℕ × ℕ)

-- what a pick comes to before any load is read
pub data Offer : Type 0 where
  either : Between → Offer
  neither : Why → Offer

-- the addresses of a leaf that may be chosen at a moment. An address by itself has the weight 1, in
-- millionths
abbrev pub live_in : StateValue → Limits → ℕ → Cluster → List Weighted
live_in state limits moment (Inet addr) = record { addr = addr; weight = 1000000 } ∷ []
live_in state limits moment (Fs service) =
    live_of state.marks moment limits (list_of (get state.book.services service))

abbrev pub both : Option ℕ → Option ℕ → Option (ℕ × ℕ)
both (Some one) (Some other) = Some (one, other)
both _ _ = None

-- the slots of two addresses of a leaf. An address by itself has none
abbrev pub slots_for : Slots → Cluster → Addr → Addr → Option (ℕ × ℕ)
slots_for slots (Inet addr) one other = None
slots_for slots (Fs service) one other = both (get slots one) (get slots other)

-- an address of a list, which has one at each place that is drawn
abbrev pub item_at : List Weighted → ℕ → Weighted
item_at list at = slice_index_or list at (record { addr = record { ip = 0; port = 0 }; weight = 0 })

-- the replicas at two places of a leaf's addresses
abbrev pub between_at : Slots → Leaf → List Weighted → ℕ × ℕ → Between
between_at slots leaf list places =
    let first = item_at list places.0 in
    let second = item_at list places.1 in
    record {
      leaf = leaf;
      first = first;
      second = second;
      slots = slots_for slots leaf.cluster first.addr second.addr;
    }

-- the two replicas of a leaf that an ask's second and third word draw at its moment
abbrev pub between_of : StateValue → Limits → AskValue → Leaf → Between
between_of state limits ask leaf =
    let list = live_in state limits ask.moment leaf.cluster in
    between_at state.book.slots leaf list (pair_of list ask.first_draw ask.second_draw)

-- those of the leaf that the ask's first word chooses in what pruning leaves, if it leaves
-- something
abbrev pub candidates_in : StateValue → Limits → AskValue → Found → Option Between
candidates_in state limits ask found =
    option_map (between_of state limits ask) (chosen state.book.services found ask.branch_word)

-- where pruning leaves nothing, it is empty
abbrev pub some_offer : Option Between → Offer
some_offer None = neither Empty
some_offer (Some pair) = either pair

abbrev pub offer_at : StateValue → Limits → AskValue → Ending → Offer
offer_at state limits ask negative = neither Neg
offer_at state limits ask failing = neither Fail
offer_at state limits ask no_replica = neither Empty
offer_at state limits ask too_deep = neither TooDeep
offer_at state limits ask too_wide = neither TooWide
offer_at state limits ask (bound found) = some_offer (candidates_in state limits ask found)

-- what the path of an ask comes to in a state, in the namespace's table, the configured one and its
-- own
abbrev pub ending_in : SettingsValue → StateValue → AskValue → Ending
ending_in settings state ask =
    outcome_of (effective settings state ask.own) (named_in state.book) ask.path

-- what a pick comes to before any load is read
abbrev pub offer_of : SettingsValue → StateValue → AskValue → Offer
offer_of settings state ask = offer_at state settings.limits ask (ending_in settings state ask)

-- whether the first of two replicas is taken, which have these loads: its load, as against its
-- weight, is not the greater
abbrev pub is_first_taken : ℕ → ℕ → Between → Bool
is_first_taken first second pair = nat_le (first * pair.second.weight) (second * pair.first.weight)

-- the replica that is taken
abbrev pub taken_of : Between → Bool → Replica
taken_of pair true =
    record {
      addr = pair.first.addr;
      slot = option_map (λ slots. slots.0) pair.slots;
      client = pair.leaf.client;
      residual = pair.leaf.residual;
    }
taken_of pair false =
    record {
      addr = pair.second.addr;
      slot = option_map (λ slots. slots.1) pair.slots;
      client = pair.leaf.client;
      residual = pair.leaf.residual;
    }

abbrev pub pick_at : ℕ → ℕ → Offer → PickValue
pick_at first second (either pair) = replica (taken_of pair (is_first_taken first second pair))
pick_at first second (neither why) = none why

-- the answer to an ask, where the two replicas have these loads
abbrev pub pick_of : SettingsValue → StateValue → AskValue → ℕ → ℕ → PickValue
pick_of settings state ask first second = pick_at first second (offer_of settings state ask)

-- this answer is permitted, and no other
abbrev pub Permits : SettingsValue → StateValue → AskValue → ℕ → ℕ → PickValue → Type 0
Permits settings state ask first second said = said ≡ pick_of settings state ask first second

-- an answer without the slot
abbrev pub chosen_of : PickValue → ChosenValue
chosen_of (replica r) = picked r.addr r.client r.residual
chosen_of (none why) = not_picked why
