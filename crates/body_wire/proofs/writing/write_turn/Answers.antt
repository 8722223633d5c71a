use Rattle.std.proofs.Common.{◌++◌, refl, ap, ◌∙◌}
use Rattle.std.proofs.KnownBytes.{Appends-trans, Keeps-trans}
use Rattle.line_base.specs.Counts.{raised}
use Rattle.body_wire.specs.declared.turn.TurnFault.{TurnFault}
use Rattle.body_wire.proofs.Turning.{run_failed, turned}
use Rattle.body_wire.proofs.writing.write_turn.Goals as goal

pub returns-in-Err-clause-bytes : goal.returns-in-Err-clause-bytes
returns-in-Err-clause-bytes g c =
    let run = c.in-Err.ensures.bytes in (
      run.0,
      run.1,
      run_failed c.args.decoder.now c.write_run.new.decoder c.args.rest.now c.write_run.new.rest
          c.args.out.now.items run.0 TurnFault.Failed c.in-Err.field-0 run.2,
    )

pub returns-in-Err-clause-cause : goal.returns-in-Err-clause-cause
returns-in-Err-clause-cause g c = record {
  failed = λ is. c.in-Err.ensures.cause.by_one;
  others = λ other. absurd (other refl);
}

pub returns-clause-bytes : goal.returns-clause-bytes
returns-clause-bytes g c =
    let run = c.in-Ok.ensures.bytes in
    let taken = c.write_taken-sent.ensures.bytes in (
      run.0 ++ taken.0,
      Appends-trans (g.P.Peer.line c.args.peer.now).given (g.P.Peer.line c.write_run.new.peer).given
          (g.P.Peer.line c.write_taken-sent.new.peer).given run.0 taken.0 run.1 taken.1,
      turned c.args.decoder.now c.write_run.new.decoder c.take_all-taken.new.decoder c.args.rest.now
          c.write_run.new.rest c.take_all-taken.new.rest c.args.out.now.items
          c.take_all-taken.new.out.items run.0 taken.0 run.2.run c.take_all-taken.result
          c.write_taken-sent.result run.2.taken run.2.sends c.take_all-taken.ensures taken.2,
    )

pub returns-clause-others : goal.returns-clause-others
returns-clause-others g c =
    let run = c.in-Ok.ensures.others in
    let taken = c.write_taken-sent.ensures.others in record {
      left = Keeps-trans _ _ _ run.left taken.left;
      read_faults = taken.read_faults ∙ run.read_faults;
      ends = taken.ends ∙ run.ends;
      closings = taken.closings ∙ run.closings;
      quiets = taken.quiets ∙ run.quiets;
    }

pub returns-clause-cause : goal.returns-clause-cause
returns-clause-cause g c =
    let kept = c.in-Ok.ensures.cause.kept in
    let taken = c.write_taken-sent.ensures.cause in record {
      failed = λ is. taken.failed is ∙ ap raised kept;
      others = λ other. taken.others other ∙ kept;
    }
