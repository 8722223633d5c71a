-- What the turns of workers add up to.
use Rattle.std.proofs.Common.{◌≡◌, ℕ, zero, suc, ◌+◌, ◌-◌, ◌^◌, ◌≤◌, List, [], ◌∷◌, length, arith}
use Rattle.std.proofs.Common.{length-append, min}
use Rattle.line_base.specs.Accepts.{Listening}
use Rattle.waiting.specs.declared.hand.Hand.{Hand}
use Rattle.waiting.specs.Hands.{left_by, taken_by}
use Rattle.workers.specs.Turns.{Begin, End, Turn, from_peer, from_stay, left, given_back, admitted}
use Rattle.workers.specs.Turns.{returned, peers_of_begin, peers_of_end, taken_in_begin, left_in_end}
use Rattle.workers.specs.Turns.{taken_in, left_in, raised_by, Works}

module _ {P S : Type 0} where
  one_begins : (b : Begin P S) → length (peers_of_begin b) + taken_in_begin b ≡ 1
  one_begins (from_peer peer) = omega arith
  one_begins (from_stay stay) = omega arith

  one_ends : (e : End P S) → length (peers_of_end e) + left_in_end e ≡ 1
  one_ends (left stay) = omega arith
  one_ends (given_back peer) = omega arith

  -- each turn begins with one connection, a new one or one that waited, and ends with one, which
  -- waits or is given back
  pub turns_add_up : (ts : List (Turn P S))
      → length (admitted ts) + taken_in ts ≡ length (returned ts) + left_in ts
  turns_add_up [] = omega arith
  turns_add_up (t ∷ ts) = omega (
    arith,
    turns_add_up ts,
    one_begins t.begin,
    one_ends t.end,
    length-append (peers_of_begin t.begin) (admitted ts),
    length-append (peers_of_end t.end) (returned ts),
  )

-- the same of a worker, by what its hand counted: the peers that came to it and the connections
-- that it took are as many as those that it gave back and left
pub worker_adds_up : {W P S A B : Type 0} (serves : W → Turn P S → W → Type 0)
    (ts : List (Turn P S))
    (w v : W) (l m : Listening P) (h g : Hand A B) → Works serves ts w v l m h g
    → length (admitted ts) + (taken_by g + left_by h)
    ≡ length (returned ts) + (left_by g + taken_by h)
worker_adds_up serves ts w v l m h g works =
    omega (arith, turns_add_up ts, works.hands.left_is, works.hands.taken_is)

-- a count that was raised so many times is the sum, up to the last value of a `u64`
pub raised_by_is : (n count : ℕ) → count ≤ 2 ^ 64 - 1
    → raised_by n count ≡ min (count + n) (2 ^ 64 - 1)
raised_by_is zero count fits = omega (arith, fits)
raised_by_is (suc n) count fits = omega (arith, raised_by_is n count fits)
