use Rattle.std.proofs.Common.{◌∙◌, ap}
use Rattle.count_words.specs.Seats.{counts_of}
use Rattle.metrics_text.specs.Classes.{bucket_of, class_of}
use Rattle.worker_record.proofs.Chain.{all_moved}
use Rattle.worker_record.proofs.Storing.{keeps_others}
use Rattle.worker_record.proofs.published.publish_moved.Goals as goal

pub returns-clause-published : goal.returns-clause-published
returns-clause-published c =
    all_moved c.args.tally.now c.args.timed.now c.of-class.result c.bucket_of-bucket.result
    c.lasted-2.result (counts_of c.args.writer.now) (counts_of c.publish_own.new.writer)
    (counts_of c.publish.new.writer) (counts_of c.publish-2.new.writer)
    (counts_of c.publish_some.new.writer) (counts_of c.publish_some-2.new.writer)
    (counts_of c.publish_some-3.new.writer) (counts_of c.publish_some-4.new.writer)
    (counts_of c.publish_some-5.new.writer) (counts_of c.publish_some-6.new.writer)
    (counts_of c.publish_some-7.new.writer) (c.of-class.ensures ∙ ap class_of c.status.ensures)
    (c.bucket_of-bucket.ensures.place ∙ ap bucket_of c.lasted.ensures) c.lasted-2.ensures
    c.requires.moved c.publish_own.ensures.others c.publish.ensures.others
    c.publish-2.ensures.others c.publish_some.ensures.others c.publish_some-2.ensures.others
    c.publish_some-3.ensures.others c.publish_some-4.ensures.others
    c.publish_some-5.ensures.others c.publish_some-6.ensures.others
    c.publish_some-7.ensures.others

pub returns-clause-behind : goal.returns-clause-behind
returns-clause-behind c =
    let at = counts_of c.args.writer.now in
    let l1 = keeps_others at (counts_of c.publish_own.new.writer) (counts_of c.publish.new.writer)
    c.publish_own.ensures.behind c.publish.ensures.behind in
    let l2 = keeps_others at (counts_of c.publish.new.writer) (counts_of c.publish-2.new.writer)
    l1 c.publish-2.ensures.behind in
    let l3 = keeps_others at (counts_of c.publish-2.new.writer)
    (counts_of c.publish_some.new.writer) l2 c.publish_some.ensures.behind in
    let l4 = keeps_others at (counts_of c.publish_some.new.writer)
    (counts_of c.publish_some-2.new.writer) l3 c.publish_some-2.ensures.behind in
    let l5 = keeps_others at (counts_of c.publish_some-2.new.writer)
    (counts_of c.publish_some-3.new.writer) l4 c.publish_some-3.ensures.behind in
    let l6 = keeps_others at (counts_of c.publish_some-3.new.writer)
    (counts_of c.publish_some-4.new.writer) l5 c.publish_some-4.ensures.behind in
    let l7 = keeps_others at (counts_of c.publish_some-4.new.writer)
    (counts_of c.publish_some-5.new.writer) l6 c.publish_some-5.ensures.behind in
    let l8 = keeps_others at (counts_of c.publish_some-5.new.writer)
    (counts_of c.publish_some-6.new.writer) l7 c.publish_some-6.ensures.behind in
    keeps_others at (counts_of c.publish_some-6.new.writer)
    (counts_of c.publish_some-7.new.writer) l8 c.publish_some-7.ensures.behind
