-- What holds of all caches.
use Rattle.std.specs.Prelude.{◌≡◌, ◌≢◌, ◌≤◌, ℕ, true, List, [], ◌++◌, None}
use Rattle.std.specs.FinMap.{contains_key}
use Rattle.dtab_table.specs.Rules.{Rule}
use Rattle.addr_book.specs.declared.addr.Weighted.{Weighted}
use Rattle.addr_book.specs.Book.{Contents, Services, after_set, after_drop}
use Rattle.addr_book.specs.Namer.{named_in}
use Rattle.bind_core.specs.Delegation.{Names}
use Rattle.bind_cache.specs.Kept.{Kept, IsRight}
use Rattle.bind_cache.specs.Cache.{AreRight, found_in, kept_in, most_cost, after_table}
use Rattle.bind_cache.specs.Cache.{after_service}

-- a cache with nothing in it is right
abbrev pub NothingIsRight : Type 0
NothingIsRight = (rules : List Rule) (names : Names) → AreRight rules names []

-- one more that is right, is cheap and has a key of its own leaves the cache right
abbrev pub KeepsRight : Type 0
KeepsRight =
    (rules : List Rule) (names : Names) (ks : List Kept) (k : Kept) → AreRight rules names ks
    → IsRight rules names k → k.cost ≤ most_cost → found_in ks k.path k.local ≡ None
    → AreRight rules names (kept_in ks k)

-- after a change of the first table, what stays is right for the new one, whatever rules stand
-- behind
abbrev pub TableStaysRight : Type 0
TableStaysRight =
    (old new behind : List Rule) (names : Names) (ks : List Kept)
    → AreRight (old ++ behind) names ks → AreRight (new ++ behind) names (after_table old new ks)

-- two books have the same services but for one, which one of them may have and the other not
abbrev pub DifferIn : List ℕ → Services → Services → Type 0
DifferIn service old new =
    (name : List ℕ) → name ≢ service → contains_key old name ≡ contains_key new name

-- after a service was added to the book, or removed, what stays is right with the new book
abbrev pub ServiceStaysRight : Type 0
ServiceStaysRight =
    (rules : List Rule) (service : List ℕ) (book next : Contents) (ks : List Kept)
    → DifferIn service book.services next.services → AreRight rules (named_in book) ks
    → AreRight rules (named_in next) (after_service service ks)

-- setting a service and dropping it differ from the book in that service alone
abbrev pub ChangesOneService : Type 0
ChangesOneService =
    (book : Contents) (service : List ℕ)
    → ((list : List Weighted)
    → DifferIn service book.services (after_set book service list).services)
    × DifferIn service book.services (after_drop book service).services

-- addresses of a service that is there change nothing that a path names
abbrev pub AddressesNameNothing : Type 0
AddressesNameNothing =
    (rules : List Rule) (book : Contents) (service : List ℕ) (list : List Weighted) (ks : List Kept)
    → contains_key book.services service ≡ true → AreRight rules (named_in book) ks
    → AreRight rules (named_in (after_set book service list)) ks
