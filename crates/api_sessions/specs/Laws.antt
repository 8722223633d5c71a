-- What holds of a caller's connection over all its stays. The last one may end the connection;
-- behind each other one it waits.
use Rattle.std.specs.Prelude.{◌<◌, List, ◌∷◌, ◌++◌}
use mathlib.Core.List.{IsPrefix}
use Rattle.http_wire.specs.declared.paused.Paused.{Paused}
use Rattle.router.specs.declared.naming.Naming.{Ghosts}
use Rattle.router.specs.Passes.{seen_in}
use Rattle.own_reply.specs.Closing.{most_requests}
use Rattle.api_sessions.specs.Stays.{GoesOn, HasStays, Idle, StaysTo, Visit}

-- whenever a connection is taken up, its worker has seen all that had been seen for it in each of
-- its earlier stays: so a request that follows a change on its connection is answered from a state
-- with that change, whichever workers serve it
abbrev pub NothingIsForgotten : {J : Type 0} → Ghosts J → Type 0
NothingIsForgotten {J} g =
    (us vs : List (Visit J g)) (u v : Visit J g) (first mid : Idle)
    → HasStays (us ++ u ∷ vs) first mid → GoesOn mid v
    → IsPrefix (seen_in u.new.pass) (seen_in v.old.pass)

-- A connection that waits has had fewer requests than it may have, over all its stays. Behind one
-- more, however that comes out, it has still had fewer, but for a request that ended it
abbrev pub FewRequests : {J : Type 0} → Ghosts J → Type 0
FewRequests {J} g =
    (vs : List (Visit J g)) (first mid : Idle) → HasStays vs first mid
    → first.served < most_requests
    → (mid.served < most_requests)
    × ((v : Visit J g) (result : Paused) → GoesOn mid v
    → StaysTo mid.which v.from v.upto v.old v.new result → v.upto < most_requests)
