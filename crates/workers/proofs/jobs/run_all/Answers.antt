use Rattle.std.proofs.Common.{[], ◌∷◌, length, ap, arith, length-append}
use Rattle.std.specs.Vec.Iter.{into_iter_items}
use Rattle.workers.specs.Runs.{ComesBack}
use Rattle.workers.proofs.Beginning.{none_begun, begun_more, all_begun, none_back, back_more}
use Rattle.workers.proofs.Beginning.{all_back}
use Rattle.workers.proofs.jobs.run_all.Goals as goal

pub loop-job-init : goal.loop-job-init
loop-job-init g c =
    let given = c.into_iter-job-iterator.ensures.into_iter_gives.0 in
    record {
      begun = none_begun _ (ComesBack g.J.Job.runs) c.args.jobs.items c.args.begun.items
          (into_iter_items c.into_iter-job-iterator.result) c.requires.empty.0 given;
      room = omega (arith, ap length c.requires.empty.0, ap length given, c.requires.room.0);
      all = omega (arith, ap length c.requires.empty.0, ap length given);
    }

pub loop-job-preserved : goal.loop-job-preserved
loop-job-preserved g c = record {
  begun = begun_more _ (ComesBack g.J.Job.runs) c.args.jobs.items c.loop-job.begun.items
      c.push_reserved.new.self.items c.begin.result c.in-Some.job
      (into_iter_items c.loop-job.job-iterator)
      (into_iter_items c.next.new.self) c.loop-job.invariant.begun c.in-Some.ensures.steps.0
      c.begin.ensures c.push_reserved.ensures.items;
  room = omega (
    arith,
    c.loop-job.invariant.room,
    ap length c.in-Some.ensures.steps.0,
    ap length c.push_reserved.ensures.items,
    length-append c.loop-job.begun.items (c.begin.result ∷ []),
    c.push_reserved.ensures.capacity,
  );
  all = omega (
    arith,
    c.loop-job.invariant.all,
    ap length c.in-Some.ensures.steps.0,
    ap length c.push_reserved.ensures.items,
    length-append c.loop-job.begun.items (c.begin.result ∷ []),
  );
}

pub loop-one-init : goal.loop-one-init
loop-one-init g c = record {
  back = none_back _ (ComesBack g.J.Job.runs) c.args.jobs.items c.loop-job.begun.items
      (into_iter_items c.into_iter-one-iterator.result) c.args.back.items
      (all_begun _ (ComesBack g.J.Job.runs) c.args.jobs.items c.loop-job.begun.items
      (into_iter_items c.loop-job.job-iterator) c.loop-job.invariant.begun
      (omega (arith, c.in-None.ensures.steps.0, c.loop-job.job-iterator.rest.ok.0)))
      c.into_iter-one-iterator.ensures.into_iter_gives.0 c.requires.empty.1;
  room = omega (
    arith,
    c.loop-job.invariant.all,
    c.in-None.ensures.steps.0,
    c.loop-job.job-iterator.rest.ok.0,
    ap length c.into_iter-one-iterator.ensures.into_iter_gives.0,
    ap length c.requires.empty.1,
    c.requires.room.1,
  );
}

pub loop-one-preserved : goal.loop-one-preserved
loop-one-preserved g c = record {
  back = back_more _ (ComesBack g.J.Job.runs) c.args.jobs.items c.in-Some-one.one
      (into_iter_items c.loop-one.one-iterator) (into_iter_items c.next-in-loop-one.new.self)
      c.loop-one.back.items
      c.push_reserved-in-loop-one.new.self.items c.finish.result c.loop-one.invariant.back
      c.in-Some-one.ensures.steps.0 c.finish.ensures c.push_reserved-in-loop-one.ensures.items;
  room = omega (
    arith,
    c.loop-one.invariant.room,
    ap length c.in-Some-one.ensures.steps.0,
    ap length c.push_reserved-in-loop-one.ensures.items,
    length-append c.loop-one.back.items (c.finish.result ∷ []),
    c.push_reserved-in-loop-one.ensures.capacity,
  );
}

pub returns : goal.returns
returns g c =
    all_back _ (ComesBack g.J.Job.runs) c.args.jobs.items
    (into_iter_items c.loop-one.one-iterator) c.loop-one.back.items c.loop-one.invariant.back
    (omega (arith, c.in-None-one.ensures.steps.0, c.loop-one.one-iterator.rest.ok.0))
