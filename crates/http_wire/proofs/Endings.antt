-- How a connection ends behind its last request, and when it goes on.
use Rattle.std.proofs.Common.{◌≡◌, Bool, true, false, refl, sym, Option, Some, None}
use Rattle.http_wire.specs.declared.ended.Ended.{Ended}
use Rattle.http_wire.specs.declared.ended.Ended.TheVariants as ended
use Rattle.http_wire.specs.Ended.{drained}

some_is : (a b : Ended) → Some a ≡ Some b → a ≡ b
some_is a b is = cc

-- a request behind which the connection goes on
pub goes_on : (closing : Bool) (end : Option Ended) → None ≡ drained closing end → end ≡ None
goes_on false end is = sym is
goes_on true None is = refl
goes_on true (Some ended.PeerEnded) is = absurd (cc)
goes_on true (Some ended.Cut) is = absurd (cc)
goes_on true (Some ended.Closed) is = absurd (cc)
goes_on true (Some ended.Spent) is = absurd (cc)
goes_on true (Some ended.Drained) is = absurd (cc)
goes_on true (Some ended.ReadFault) is = absurd (cc)
goes_on true (Some ended.WriteFault) is = absurd (cc)
goes_on true (Some ended.UpstreamCut) is = absurd (cc)
goes_on true (Some ended.OutOfMemory) is = absurd (cc)

-- one that spends its connection
pub spends : (closing : Bool) (end : Option Ended) → Some ended.Spent ≡ drained closing end
    → (closing ≡ false) × (end ≡ Some ended.Spent)
spends false end is = (refl, sym is)
spends true None is = absurd (cc)
spends true (Some ended.PeerEnded) is = absurd (cc)
spends true (Some ended.Cut) is = absurd (cc)
spends true (Some ended.Closed) is = absurd (cc)
spends true (Some ended.Spent) is = absurd (cc)
spends true (Some ended.Drained) is = absurd (cc)
spends true (Some ended.ReadFault) is = absurd (cc)
spends true (Some ended.WriteFault) is = absurd (cc)
spends true (Some ended.UpstreamCut) is = absurd (cc)
spends true (Some ended.OutOfMemory) is = absurd (cc)

-- any other end is the request's own
pub same_end : (closing : Bool) (end : Option Ended) (e : Ended) → (ended.Drained ≡ e → ⊥)
    → drained closing end ≡ Some e → end ≡ Some e
same_end false end e other is = is
same_end true None e other is = is
same_end true (Some ended.PeerEnded) e other is = is
same_end true (Some ended.Cut) e other is = is
same_end true (Some ended.Closed) e other is = is
same_end true (Some ended.Spent) e other is = absurd (other (some_is ended.Drained e is))
same_end true (Some ended.Drained) e other is = is
same_end true (Some ended.ReadFault) e other is = is
same_end true (Some ended.WriteFault) e other is = is
same_end true (Some ended.UpstreamCut) e other is = is
same_end true (Some ended.OutOfMemory) e other is = is
