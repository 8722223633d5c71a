use Rattle.std.proofs.Common.{◌≡◌, [], ℕ, List, refl, sym, subst, ◌∙◌}
use Rattle.body_wire.specs.declared.end.BodyEnd.{BodyEnd}
use Rattle.body_wire.specs.Passing.{IsFrontOf}
use Rattle.follow_feed.proofs.Bodies.{cut_request_by, sent_whole, whole_request_by}
use Rattle.follow_feed.proofs.Growing.{grows_by_sends, grows_nothing, grows_on}
use Rattle.follow_feed.proofs.Replying.{nothing_got}
use Rattle.follow_feed.proofs.polling.converse.Goals as goal

pub returns-in_default-clause-speaks : goal.returns-in_default-clause-speaks
returns-in_default-clause-speaks g c = (
  [],
  [],
  grows_nothing (g.D.Dialer.upstream c.args.dialer.now).log,
  record { asked = (c.args.request.now.items, refl); heard = tt },
)

pub returns-in-Ok-end-clause-speaks : goal.returns-in-Ok-end-clause-speaks
returns-in-Ok-end-clause-speaks g c =
    let b = c.pass_body.ensures.body in
    let s = grows_by_sends _ _ b.1 b.3 in
    let says = c.receive.ensures.says in (
      s.0,
      says.0,
      grows_on _ _ _ _ _ s.1 says.1,
      record {
        asked = sent_whole _ _ _
            (s.2 ∙ whole_request_by c.args.request.now.items _ _ b.1 b.0 _ c.in-Ok-end.field-0
            _ c.in-Ok-end.is b.4);
        heard = says.2;
      },
    )

pub returns-in-Err-SendFault-clause-speaks : goal.returns-in-Err-SendFault-clause-speaks
returns-in-Err-SendFault-clause-speaks g c =
    let b = c.pass_body.ensures.body in
    let s = grows_by_sends _ _ b.1 b.3 in
    let failed : c.in-Err-SendFault.field-0 ≡ BodyEnd.SendFault =
    rw c.in-Err-SendFault.is at c.in-Err-SendFault.field-0-is in
    let front = cut_request_by c.args.request.now.items _ _ b.1 b.0 _ _ c.in-Err-SendFault.field-0
    c.in-Err-SendFault.is failed b.4 in (
      s.0,
      [],
      grows_on _ _ _ _ _ s.1 (grows_nothing _),
      record {
        asked =
            subst (λ (sent : List ℕ). IsFrontOf c.args.request.now.items sent) (sym s.2) front;
        heard = nothing_got;
      },
    )
