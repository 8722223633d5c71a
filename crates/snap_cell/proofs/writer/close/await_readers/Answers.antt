use Rattle.std.proofs.Common.{ap, arith, length, refl, sym, ◌∙◌}
use Rattle.std.proofs.lemmas.Option.{slice_get_read, slice_get_within}
use Rattle.snap_cell.proofs.Readers.{seen_more}
use Rattle.snap_cell.proofs.writer.close.await_readers.Goals as goal

pub await_part-requires : goal.await_part-requires
await_part-requires g c =
    let reader = c.reader-item.result in
    let own = c.requires.own c.loop-reader.reader-index reader
    (slice_get_read c.args.readers.now (length c.args.readers.now) c.loop-reader.reader-index
    reader refl c.loop-reader-test.true c.reader-item.is) in
    c.requires.list ∙ (ap (λ o. o.empty.book) (sym own) ∙ sym reader.one_list)

pub loop-reader-init : goal.loop-reader-init
loop-reader-init g c = λ i r less found. absurd (omega (arith, less))

pub loop-reader-preserved : goal.loop-reader-preserved
loop-reader-preserved g c =
    seen_more c.args.known.now.seen.log c.args.readers.now c.loop-reader.reader-index
    c.reader-item.result c.loop-reader-test.true c.reader-item.is
    (c.await_part.ensures.part, c.reader-item.result.in_order) c.loop-reader.invariant

pub returns : goal.returns
returns g c = λ i r found. c.loop-reader.invariant i r
    (omega (arith, slice_get_within c.args.readers.now i r found, c.loop-reader-test.false)) found
