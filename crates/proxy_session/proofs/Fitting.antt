-- How an exchange on a connection's last request ends, and how on another.
use Rattle.std.proofs.Common.{◌≡◌, ℕ, Bool, true, false, List, refl, sym, subst, inl, inr, Option}
use Rattle.std.proofs.Common.{Some, Result, Ok, Err}
use Rattle.addr_book.specs.declared.addr.Addr.{Addr}
use Rattle.http_wire.specs.declared.ended.Ended.{Ended}
use Rattle.http_wire.specs.declared.ended.Ended.TheVariants as ended
use Rattle.http_wire.specs.declared.head.Head.{Head}
use Rattle.identifier.specs.declared.rule.Rule.{Rule}
use Rattle.machine.specs.Values.{SettingsValue}
use Rattle.own_reply.specs.declared.error.OwnError.{OwnError}
use Rattle.replica_try.specs.declared.tried.Tried.{Tried}
use Rattle.replica_try.specs.declared.tried.Tried.TheVariants as tried
use Rattle.own_reply.specs.Closing.{end_of}
use Rattle.proxy_session.specs.Answering.{Ends, Refuses, Writes, end_behind}
use Rattle.proxy_session.specs.Callers.{Caller}
use Rattle.proxy_session.specs.Causes.{FitsLast}
use Rattle.proxy_session.specs.Exchange.{Exchanges, Settles, Standing}
use Rattle.line_base.specs.Lines.{Line}

end_fits : (closes last : Bool) → FitsLast last (end_of closes last)
end_fits true last = tt
end_fits false true = refl
end_fits false false = refl

told_fits : (old new : Line) (reply : List ℕ) (closes last : Bool) (told : Result (Unit {0}) Ended)
    → Writes old new reply told → FitsLast last (end_behind (end_of closes last) told)
told_fits old new reply closes last (Ok x) w = end_fits closes last
told_fits old new reply closes last (Err ended.WriteFault) w = tt
told_fits old new reply closes last (Err ended.OutOfMemory) w = tt
told_fits old new reply closes last (Err ended.PeerEnded) w = absurd w
told_fits old new reply closes last (Err ended.Cut) w = absurd w
told_fits old new reply closes last (Err ended.Closed) w = absurd w
told_fits old new reply closes last (Err ended.Spent) w = absurd w
told_fits old new reply closes last (Err ended.Drained) w = absurd w
told_fits old new reply closes last (Err ended.ReadFault) w = absurd w
told_fits old new reply closes last (Err ended.UpstreamCut) w = absurd w

refuses_fits : (err : OwnError) (head : Head) (last : Bool) (old new : Line) (r : Option Ended)
    → Refuses err head last old new r → FitsLast last r
refuses_fits err head last old new r x =
    subst (FitsLast last) (sym x.2) (told_fits old new _ _ last x.0 x.1)

fits_as : (last : Bool) (e r : Option Ended) → r ≡ e → FitsLast last e → FitsLast last r
fits_as last e r is fits = subst (FitsLast last) (sym is) fits

ends_fits : (how : Tried) (head : Head) (last : Bool) (old new : Line) (r : Option Ended)
    → Ends how head last old new r → FitsLast last r
ends_fits tried.NotDialed head last old new r ends = refuses_fits _ head last old new r ends
ends_fits (tried.NotSent moved) head last old new r ends = refuses_fits _ head last old new r ends
ends_fits (tried.Silent moved) head last old new r ends = refuses_fits _ head last old new r ends
ends_fits (tried.NoReply moved) head last old new r ends = refuses_fits _ head last old new r ends
ends_fits (tried.BadBody moved) head last old new r ends = refuses_fits _ head last old new r ends
ends_fits (tried.LongBody moved) head last old new r ends = refuses_fits _ head last old new r ends
ends_fits (tried.BodyCut moved) head last old new r ends = fits_as last (Some ended.Cut) r ends.1 tt
ends_fits (tried.BodyFault moved) head last old new r ends =
    fits_as last (Some ended.ReadFault) r ends.1 tt
ends_fits (tried.ReplyCut moved status) head last old new r ends =
    fits_as last (Some ended.UpstreamCut) r ends.1 tt
ends_fits (tried.WrittenShort moved status) head last old new r ends =
    fits_as last (Some ended.WriteFault) r ends.1 tt
ends_fits (tried.OutOfMemory moved status) head last old new r ends =
    fits_as last (Some ended.OutOfMemory) r ends.1 tt
ends_fits (tried.Whole moved status closes reusable) head last old new r ends =
    fits_as last (end_of closes last) r ends.1 (end_fits closes last)

settles_fits : (settings : SettingsValue) (head : Head) (last : Bool) (addr : Addr) (how : Tried)
    (old new : Caller) (m n : Option (List ℕ)) (a b : Line) (r : Option Ended)
    → Settles settings head last addr how old new m n a b r → FitsLast last r
settles_fits settings head last addr how old new m n a b r (inl done) =
    ends_fits how head last a b r done.1
settles_fits settings head last addr how old new m n a b r (inr fails) =
    fits_as last (Some ended.OutOfMemory) r fails.2 tt

-- the connection goes on only behind a request that is not its last, and is spent only by the last
pub exchange_fits : (settings : SettingsValue) (rule : Rule) (head : Head) (last : Bool)
    (old new : Standing) (r : Option Ended) → Exchanges settings rule head last old new r
    → FitsLast last r
exchange_fits settings rule head last old new r (inl x) =
    refuses_fits x.err head last old.line new.line r x.refuses
exchange_fits settings rule head last old new r (inr (inl x)) =
    fits_as last (Some ended.OutOfMemory) r x.ends tt
exchange_fits settings rule head last old new r
    (inr (inr (sought, seeks, (moment, moments, draws, inl x)))) =
    fits_as last (Some ended.OutOfMemory) r x.ends tt
exchange_fits settings rule head last old new r
    (inr (inr (sought, seeks, (moment, moments, draws, inr (inl x))))) =
    refuses_fits _ head last old.line new.line r x.refuses
exchange_fits settings rule head last old new r (inr (inr
    (sought, seeks, (moment, moments, draws, inr (inr x))))) =
    settles_fits settings head last x.to.addr x.sent.how x.sent.held new.caller moments new.moments
    x.sent.between new.line r x.sent.settles
