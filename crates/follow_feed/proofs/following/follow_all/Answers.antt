use Rattle.std.proofs.Common.{◌≡◌, ◌++◌, ◌∷◌, [], length, refl, ap, ◌∙◌, arith}
use Rattle.std.proofs.KnownBytes.{Appends-nil, Appends-trans}
use Rattle.std.proofs.lemmas.List.Elements.{All-nil}
use Rattle.follow_feed.specs.Following.{held_in}
use Rattle.follow_feed.specs.Lines.{total_line}
use Rattle.follow_feed.specs.Progress.{IsMade, Progress, none_yet, progress_in}
use Rattle.follow_feed.proofs.Progressing.{ended, told_all, told_front, turned}
use Rattle.follow_feed.proofs.following.follow_all.Goals as goal

pub polls-init : goal.polls-init
polls-init g c =
    let newer : c.start-following.result.newer ≡ 0 =
    ap (λ (p : Progress). p.newer) c.start-following.ensures in
    let lost : c.start-following.result.lost ≡ 0 =
    ap (λ (p : Progress). p.lost) c.start-following.ensures in
    record {
      polled = [];
      wrote = [];
      chain = none_yet;
      given = Appends-nil (g.K.Sink.output c.args.out.now).held;
      count = refl;
      made = All-nil IsMade;
      stands = c.start-following.ensures;
      few_newer = omega (arith, newer);
      few_lost = omega (arith, lost);
      faults = refl;
    }

pub polls-preserved : goal.polls-preserved
polls-preserved g c =
    let i = c.polls.invariant in
    let t = c.in-Ok.ensures.turn in
    let m = turned c.args.leader c.args.space.now _ _ _ _ _ _ i.polled i.wrote
    (progress_in c.polls.following) (progress_in c.follow_once.new.following) i.chain i.given
    i.made i.stands (ap (λ (p : Progress). p.text) i.stands) t in
    let count = i.count in
    let more_newer = c.in-Ok.ensures.newer in
    let few_newer = i.few_newer in
    let more_lost = c.in-Ok.ensures.lost in
    let few_lost = i.few_lost in
    record {
      polled = i.polled ++ t.gave ∷ [];
      wrote = i.wrote ++ t.wrote;
      chain = m.0;
      given = m.1;
      count = omega (arith, m.2, count);
      made = m.3;
      stands = m.4;
      few_newer = omega (arith, more_newer, few_newer);
      few_lost = omega (arith, more_lost, few_lost);
      faults = c.in-Ok.ensures.faults ∙ i.faults;
    }

pub returns-in-Err-clause-follows : goal.returns-in-Err-clause-follows
returns-in-Err-clause-follows g c =
    let i = c.polls.invariant in
    let count = i.count in
    let more = c.polls-test.true in
    ended c.args.leader c.args.space.now _ _ _ _ _ _ i.polled i.wrote
    (progress_in c.polls.following) (progress_in c.follow_once.new.following) i.chain i.given
    i.made i.stands (ap (λ (p : Progress). p.text) i.stands)
    c.args.polls c.in-Err.end (omega (arith, count, more)) c.in-Err.ensures.turn

pub returns-in-Ok-write_line-clause-follows : goal.returns-in-Ok-write_line-clause-follows
returns-in-Ok-write_line-clause-follows g c =
    let i = c.polls.invariant in
    let w = c.in-Ok-write_line.ensures.written
    (total_line c.args.polls c.polls.following.newer c.polls.following.lost)
    c.total_line-line.ensures in
    let all : length i.polled ≡ c.args.polls =
    let count = i.count in let done = c.polls-test.false in let end =
    c.polls.auto._turn-end in omega (arith, count, done, end) in (
      i.polled,
      i.wrote ++ w.0,
      i.chain,
      Appends-trans _ _ _ i.wrote w.0 i.given w.1,
      told_all c.args.polls c.polls.following.newer c.polls.following.lost
          (held_in c.polls.following.follower) i.polled i.wrote w.0 all i.made i.stands w.2,
    )

pub returns-clause-follows : goal.returns-clause-follows
returns-clause-follows g c =
    let i = c.polls.invariant in
    let w = c.in-Err-write_line.ensures.written
    (total_line c.args.polls c.polls.following.newer c.polls.following.lost)
    c.total_line-line.ensures in
    let all : length i.polled ≡ c.args.polls =
    let count = i.count in let done = c.polls-test.false in let end =
    c.polls.auto._turn-end in omega (arith, count, done, end) in (
      i.polled,
      i.wrote ++ w.0,
      i.chain,
      Appends-trans _ _ _ i.wrote w.0 i.given w.1,
      told_front c.args.polls c.polls.following.newer c.polls.following.lost
          (held_in c.polls.following.follower) i.polled i.wrote w.0 all i.made i.stands
          c.in-Err-write_line.end w.2,
    )
