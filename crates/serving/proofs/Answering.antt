-- A turn of an interface's connection is a stay with its worker.
use Rattle.std.proofs.Common.{◌≡◌, Bool, refl, subst, inl}
use Rattle.http_wire.specs.declared.ended.Ended.{Ended}
use Rattle.http_wire.specs.declared.paused.Paused.TheVariants as paused
use Rattle.line_base.specs.Lines.{Line}
use Rattle.router.specs.declared.naming.Naming.{Ghosts}
use Rattle.router.specs.Passes.{seen_in}
use Rattle.api_sessions.specs.declared.which.Which.{Which}
use Rattle.api_sessions.specs.declared.stayed.Stayed.{Stayed}
use Rattle.api_sessions.specs.declared.stayed.Stayed.TheVariants as stayed
use Rattle.api_sessions.specs.Stays.{Idle as Caller, came}
use Rattle.api_sessions.specs.Workers.{HasStayed, WorkerValue}
use Rattle.workers.specs.Turns.{End, from_peer, given_back, left, turn}
use Rattle.serving.specs.Interfaces.{AnswersTurn, Desk, IsAnswered}
use Rattle.serving.specs.Sessions.{lacked_behind}

module _ {J P : Type 0} {g : Ghosts J} (line_of : P → Line) (caller : Caller) where
  pub waits_answered : (old new : WorkerValue J g) (lacked : Bool) (behind : Caller)
      (result : Stayed Caller P) → HasStayed line_of caller old new result
      → result ≡ stayed.Waits behind
      → IsAnswered line_of caller (record { worker = old; lacked_memory = lacked }) (left behind)
      (record { worker = new; lacked_memory = lacked })
  waits_answered old new lacked behind result stays is =
      let mine = subst (λ (r : Stayed Caller P). HasStayed line_of caller old new r) is stays in
      record {
        behind = behind;
        paused = paused.Quiet;
        stay = mine;
        ends = refl;
        lacked = refl;
      }

  pub ended_answered : (old new : WorkerValue J g) (lacked after_all : Bool) (peer : P)
      (end : Ended) (result : Stayed Caller P) → HasStayed line_of caller old new result
      → result ≡ stayed.Ends peer end → after_all ≡ lacked_behind lacked end
      → IsAnswered line_of caller (record { worker = old; lacked_memory = lacked })
      (given_back peer) (record { worker = new; lacked_memory = after_all })
  ended_answered old new lacked after_all peer end result stays is all =
      let mine = subst (λ (r : Stayed Caller P). HasStayed line_of caller old new r) is stays in
      record {
        behind = mine.0;
        paused = paused.Ended end;
        stay = mine.1;
        ends = mine.2;
        lacked = all;
      }

module _ {J P : Type 0} {g : Ghosts J} (line_of : P → Line) where
  -- a turn of a caller that came
  pub begins_answers : (which : Which) (old new : Desk J g) (peer : P) (end : End P Caller)
      (caller : Caller) → caller ≡ came which (line_of peer) (seen_in old.worker.pass)
      → IsAnswered line_of caller old end new
      → AnswersTurn line_of which old (turn (from_peer peer) end) new
  begins_answers which old new peer end caller is answered = (
    tt,
    inl (subst (λ (c : Caller). IsAnswered line_of c old end new) is answered),
  )
