use Rattle.std.proofs.Common.{◌++◌, Err, sym, subst}
use Rattle.follow_feed.specs.Polling.{Says}
use Rattle.follow_feed.specs.declared.polling.PollEnd.{PollEnd}
use Rattle.follow_feed.proofs.Growing.{grows_by_heads, grows_by_more}
use Rattle.follow_feed.proofs.Replying.{says_behind, says_end}
use Rattle.follow_feed.proofs.polling.receive.Goals as goal

pub returns-in-Ok-clause-says : goal.returns-in-Ok-clause-says
returns-in-Ok-clause-says g c =
    let read = c.in-Ok.ensures.head in
    let body = c.receive_body.ensures.says in (
      read.pieces ++ body.0,
      grows_by_more _ _ _ read.pieces body.0 (grows_by_heads _ _ read.pieces read.logged) body.1,
      says_behind read.pieces body.0 _ _ c.in-Ok.head _ c.clear.ensures read.answers body.2,
    )

pub returns-in-Err-clause-says : goal.returns-in-Err-clause-says
returns-in-Err-clause-says g c =
    let read = c.in-Err.ensures.head in (
      read.pieces,
      grows_by_heads _ _ read.pieces read.logged,
      subst (λ (e : PollEnd). Says read.pieces (Err e)) (sym c.of_head.ensures)
          (says_end _ read.pieces _ _ c.in-Err.end c.clear.ensures read.answers read.end),
    )
