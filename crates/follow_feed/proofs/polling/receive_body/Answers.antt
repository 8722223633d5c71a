use Rattle.std.proofs.Common.{Err, sym, subst, ◌∙◌}
use Rattle.follow_feed.specs.Polling.{SaysBehind}
use Rattle.follow_feed.specs.declared.polling.PollEnd.{PollEnd}
use Rattle.follow_feed.proofs.Bodies.{cut_body_by, whole_body_by}
use Rattle.follow_feed.proofs.Growing.{grows_by_pieces}
use Rattle.follow_feed.proofs.polling.receive_body.Goals as goal

pub returns-in-Ok-clause-says : goal.returns-in-Ok-clause-says
returns-in-Ok-clause-says g c =
    let b = c.pass_back.ensures.body in (
      b.0,
      grows_by_pieces _ _ b.0 b.3,
      whole_body_by c.args.head.now c.in-Some.length c.in-Ok.field-0 c.new-before.result.items
          c.args.rest.now _ b.1
          c.new-body.result.bytes.items c.as_slice.result.now b.0 c.read_feed.result
          c.in-Some.ensures.some
          c.new-before.ensures.items _ _ c.in-Ok.is b.6 c.new-body.ensures
          (c.as_slice.ensures.value ∙ b.4)
          c.read_feed.ensures,
    )

pub returns-clause-says : goal.returns-clause-says
returns-clause-says g c =
    let b = c.pass_back.ensures.body in (
      b.0,
      grows_by_pieces _ _ b.0 b.3,
      subst (λ (e : PollEnd). SaysBehind c.args.head.now c.args.rest.now b.0 (Err e))
          (sym c.of_body.ensures)
          (cut_body_by c.args.head.now c.in-Some.length c.new-before.result.items c.args.rest.now _
          b.1
          b.0 c.in-Err.end c.in-Some.ensures.some _ _ c.in-Err.is b.6 b.5),
    )
