-- The turns of connections with a server, one after another.
use Rattle.std.specs.Prelude.{◌≡◌, ℕ, zero, suc, ◌+◌, ◌-◌, List, [], ◌∷◌, ◌++◌, length, take}
use Rattle.std.specs.Prelude.{option_map}
use Rattle.line_base.specs.Accepts.{Listening, Visits}
use Rattle.line_base.specs.Counts.{raised}
use Rattle.waiting.specs.declared.hand.Hand.{Hand}
use Rattle.waiting.specs.Hands.{left_by, taken_by}
use Rattle.workers.specs.declared.serving.Turned.{Turned}
use Rattle.workers.specs.declared.serving.Turned.TheVariants as turned

-- how a turn begins: with a new peer, or with a connection that waited
pub data Begin (P S : Type 0) : Type 0 where
  from_peer : P → Begin P S
  from_stay : S → Begin P S

-- how it ends: the connection is left to wait, or its peer is given back
pub data End (P S : Type 0) : Type 0 where
  left : S → End P S
  given_back : P → End P S

pub record Turn (P S : Type 0) : Type 0 where
  pub begin : Begin P S
  pub end : End P S

module _ {P S : Type 0} where
  abbrev pub turn : Begin P S → End P S → Turn P S
  turn begin end = record { begin = begin; end = end }

  abbrev pub end_of : Turned S P → End P S
  end_of (turned.Waits stay) = left stay
  end_of (turned.Ends peer) = given_back peer

  -- the new peers, and those that were given back
  abbrev pub peers_of_begin : Begin P S → List P
  peers_of_begin (from_peer peer) = peer ∷ []
  peers_of_begin (from_stay stay) = []

  abbrev pub peers_of_end : End P S → List P
  peers_of_end (left stay) = []
  peers_of_end (given_back peer) = peer ∷ []

  abbrev pub admitted : List (Turn P S) → List P
  admitted [] = []
  admitted (t ∷ ts) = peers_of_begin t.begin ++ admitted ts

  abbrev pub returned : List (Turn P S) → List P
  returned [] = []
  returned (t ∷ ts) = peers_of_end t.end ++ returned ts

  -- how many turns began with a connection that waited, and how many left one to wait
  abbrev pub taken_in_begin : Begin P S → ℕ
  taken_in_begin (from_peer peer) = 0
  taken_in_begin (from_stay stay) = 1

  abbrev pub left_in_end : End P S → ℕ
  left_in_end (left stay) = 1
  left_in_end (given_back peer) = 0

  abbrev pub taken_in : List (Turn P S) → ℕ
  taken_in [] = 0
  taken_in (t ∷ ts) = taken_in_begin t.begin + taken_in ts

  abbrev pub left_in : List (Turn P S) → ℕ
  left_in [] = 0
  left_in (t ∷ ts) = left_in_end t.end + left_in ts

-- each turn has one connection: it came or had waited, and it is given back or waits
abbrev pub EachHasOne : (P S : Type 0) → Type 0
EachHasOne P S =
    (ts : List (Turn P S)) → length (admitted ts) + taken_in ts ≡ length (returned ts) + left_in ts

-- a server had these turns, one after another
abbrev pub ServesTurns : {W P S : Type 0} → (W → Turn P S → W → Type 0) → W → List (Turn P S) → W
    → Type 0
ServesTurns serves old [] new = new ≡ old
ServesTurns {W} serves old (t ∷ ts) new =
    (between : W) × serves old t between × ServesTurns serves between ts new

-- a number that was raised so many times
abbrev pub raised_by : ℕ → ℕ → ℕ
raised_by zero count = count
raised_by (suc n) count = raised (raised_by n count)

-- the visits behind these turns: of those that were given back as many are told as have room
abbrev pub with_turns : {P : Type 0} → List P → List P → Visits P → Visits P
with_turns handed back v = record {
  handed = v.handed ++ handed;
  returned = v.returned ++ take v.room back;
  room = v.room - length back;
}

-- a listener handed out these peers, and took these back
pub record Lends {P : Type 0} (handed back : List P) (old new : Listening P) : Type 0 where
  pub endpoint : new.endpoint ≡ old.endpoint
  pub visits : new.visits ≡ option_map (with_turns handed back) old.visits
  pub accepted : new.accepted ≡ raised_by (length handed) old.accepted
  pub finished : new.finished ≡ raised_by (length back) old.finished

-- a hand left and took so many, but for those that could not wait: each of them was left by one
-- turn and taken by the next, and not by the hand
pub record Handles {A B : Type 0} (left taken : ℕ) (old new : Hand A B) : Type 0 where
  pub back : ℕ
  pub left_is : left_by new + back ≡ left_by old + left
  pub taken_is : taken_by new + back ≡ taken_by old + taken

-- A worker had these turns: with its server, with the peers of its listener, and with its hand
pub record Works
    {W P S A B : Type 0} (serves : W → Turn P S → W → Type 0) (ts : List (Turn P S))
    (server server_after : W) (listener listener_after : Listening P) (hand hand_after : Hand A B)
    : Type 0 where
  pub turns : ServesTurns serves server ts server_after
  pub lends : Lends (admitted ts) (returned ts) listener listener_after
  pub hands : Handles (left_in ts) (taken_in ts) hand hand_after

-- the listener answers as open as before, and as well
pub record IsAsOpen {P : Type 0} (old new : Listening P) : Type 0 where
  pub closes : new.closes ≡ old.closes
  pub run : new.run ≡ old.run

-- A turn of which this is the end was settled: its connection waits or its peer was taken back.
-- What was ended in its place, or since it could not wait, are turns more
pub record Settles
    {W P S A B : Type 0} (serves : W → Turn P S → W → Type 0) (end : End P S) (ts : List (Turn P S))
    (server server_after : W) (listener listener_after : Listening P) (hand hand_after : Hand A B)
    : Type 0 where
  pub turns : ServesTurns serves server ts server_after
  pub none_new : admitted ts ≡ []
  pub lends : Lends [] (peers_of_end end ++ returned ts) listener listener_after
  pub hands : Handles (left_in_end end + left_in ts) (taken_in ts) hand hand_after
  pub as_open : IsAsOpen listener listener_after
