use Rattle.worker_record.proofs.published.publish_own.Goals as goal

pub returns-in-Own-clause-others : goal.returns-in-Own-clause-others
returns-in-Own-clause-others c pending but =
    c.publish.ensures.others pending (rw c.in-Own.is at but)
