-- How the router's own replies are written.
use Rattle.std.proofs.Common.{◌≡◌, ℕ, ◌||◌, Bool, List, subst, ap, ◌∙◌, Option, Result, Ok, Err}
use Rattle.std.specs.Io.KnownBytes.{Appends, Keeps}
use Rattle.line_base.specs.Counts.{raised}
use Rattle.body_wire.specs.Passing.{IsFrontOf}
use Rattle.http_wire.specs.declared.ended.Ended.{Ended}
use Rattle.http_wire.specs.declared.ended.Ended.TheVariants as ended
use Rattle.http_wire.specs.declared.head.Head.{Head}
use Rattle.own_reply.specs.declared.error.OwnError.{OwnError}
use Rattle.own_reply.specs.Reply.{reply_of}
use Rattle.own_reply.specs.Closing.{end_of}
use Rattle.proxy_session.specs.Answering.{Refuses, Writes, end_behind, has_reply_body}
use Rattle.proxy_session.specs.Answering.{own_closes}
use Rattle.line_base.specs.Lines.{Gives, Line}

module _ (old new : Line) (bytes reply : List ℕ) (same : bytes
    ≡ reply) (left : Keeps old.left new.left) (reads : new.read_faults
    ≡ old.read_faults) (ends : new.ends ≡ old.ends) (closings : new.closings ≡ old.closings)
    (quiets : new.quiets ≡ old.quiets) where
  gives : (sent : List ℕ) → Appends old.given new.given sent → Gives old new sent
  gives sent given = record {
    left = left;
    given = given;
    read_faults = reads;
    ends = ends;
    closings = closings;
    quiets = quiets;
  }

  -- the whole reply was written
  pub wrote_all : (sent : List ℕ) → Appends old.given new.given sent → sent ≡ bytes
      → new.write_faults ≡ old.write_faults → Writes old new reply (Ok tt)
  wrote_all sent given all still = (subst (Gives old new) (all ∙ same) (gives sent given), still)

  -- a front of it was
  pub wrote_short : (sent : List ℕ) → Appends old.given new.given sent → IsFrontOf bytes sent
      → new.write_faults ≡ raised old.write_faults
      → Writes old new reply (Err ended.WriteFault)
  wrote_short sent given front fault =
      (sent, gives sent given, subst (λ (b : List ℕ). IsFrontOf b sent) same front, fault)

-- a refusal that was written, or was not
pub refused_by : (err : OwnError) (head : Head) (last : Bool) (old new : Line)
    (closes closing with_body : Bool) → closes ≡ own_closes err head → closing ≡ (closes || last)
    → with_body ≡ has_reply_body head → (told : Result (Unit {0}) Ended)
    → Writes old new (reply_of err closing with_body) told → (result : Option Ended)
    → result ≡ end_behind (end_of closes last) told → Refuses err head last old new result
refused_by err head last old new closes closing with_body c k b told writes result is = (
  told,
  subst (λ (w : Bool). Writes old new (reply_of err (own_closes err head || last) w) told) b
      (subst (λ (x : Bool). Writes old new (reply_of err x with_body) told)
      (k ∙ ap (λ (y : Bool). y || last) c) writes),
  is ∙ ap (λ (y : Bool). end_behind (end_of y last) told) c,
)
