-- What the readings of some bytes are to one another.
use Rattle.std.specs.Prelude.{◌≡◌, ℕ, List}
use Rattle.http_wire.specs.declared.head.Head.{Head}
use Rattle.http_wire.specs.declared.head.ReplyHead.{ReplyHead}
use Rattle.http_wire.specs.Heads.{BeginsWith, IsBad, IsTooLarge, IsUnfinished, NamesOtherVersion}
use Rattle.http_wire.specs.Replies.{BeginsWithReply, IsBadReply, IsTooLargeReply, IsUnfinishedReply}

-- some bytes begin with at most one head, of one length
abbrev pub HeadsAreUnique : Type 0
HeadsAreUnique =
    (bytes : List ℕ) (one other : Head) (n m : ℕ) → BeginsWith bytes one n
    → BeginsWith bytes other m → (one ≡ other) × (n ≡ m)

-- the other readings of some bytes that begin with a head
abbrev pub NoOtherThanHead : List ℕ → Type 0
NoOtherThanHead bytes =
    (IsBad bytes → ⊥) × (NamesOtherVersion bytes → ⊥) × (IsTooLarge bytes → ⊥)
    × (IsUnfinished bytes → ⊥)

-- the five readings of some bytes: a head, bad, another version, too large, unfinished. No two hold
-- at once
pub record ReadingsExclude (bytes : List ℕ) : Type 0 where
  pub head : (head : Head) (n : ℕ) → BeginsWith bytes head n → NoOtherThanHead bytes
  pub bad : IsBad bytes → (NamesOtherVersion bytes → ⊥) × (IsTooLarge bytes → ⊥)
      × (IsUnfinished bytes → ⊥)
  pub version : NamesOtherVersion bytes → (IsTooLarge bytes → ⊥) × (IsUnfinished bytes → ⊥)
  pub large : IsTooLarge bytes → IsUnfinished bytes → ⊥

-- the same of the heads of replies
abbrev pub ReplyHeadsAreUnique : Type 0
ReplyHeadsAreUnique =
    (bytes : List ℕ) (one other : ReplyHead) (n m : ℕ) → BeginsWithReply bytes one n
    → BeginsWithReply bytes other m → (one ≡ other) × (n ≡ m)

abbrev pub NoOtherThanReply : List ℕ → Type 0
NoOtherThanReply bytes =
    (IsBadReply bytes → ⊥) × (IsTooLargeReply bytes → ⊥) × (IsUnfinishedReply bytes → ⊥)

-- the four readings of some bytes as the head of a reply
pub record ReplyReadingsExclude (bytes : List ℕ) : Type 0 where
  pub head : (head : ReplyHead) (n : ℕ) → BeginsWithReply bytes head n → NoOtherThanReply bytes
  pub bad : IsBadReply bytes → (IsTooLargeReply bytes → ⊥) × (IsUnfinishedReply bytes → ⊥)
  pub large : IsTooLargeReply bytes → IsUnfinishedReply bytes → ⊥
