use Rattle.std.proofs.Common.{◌∙◌}
use Rattle.std.proofs.KnownBytes.{Keeps-trans}
use Rattle.http_wire.proofs.Sound.{sound_answer}
use Rattle.http_wire.proofs.Turning.{causes_after, reads_after, reads_on, trusts_first}
use Rattle.http_wire.proofs.reading.read_request_head.Goals as goal

pub returns-in-Answered-clause-head : goal.returns-in-Answered-clause-head
returns-in-Answered-clause-head g c = c.in-Answered.ensures.bytes.0

pub returns-in-Answered-clause-causes : goal.returns-in-Answered-clause-causes
returns-in-Answered-clause-causes g c = c.in-Answered.ensures.bytes.1

pub returns-in-Answered-clause-sound : goal.returns-in-Answered-clause-sound
returns-in-Answered-clause-sound g c =
    sound_answer _ c.first_look.new.rest c.in-Answered.answer c.in-Answered.ensures.bytes.0.answers

pub loop-answer-init : goal.loop-answer-init
loop-answer-init g c = record {
  read = c.in-More.ensures.bytes.0;
  trusts = trusts_first c.first_look.new.rest c.kept.result.now c.new-watch.result
      c.follow.new.self c.kept.ensures c.new-watch.ensures.0 c.follow.ensures;
  ends = c.in-More.ensures.bytes.1;
  faults = c.in-More.ensures.bytes.2;
  given = c.in-More.ensures.others.given;
  write_faults = c.in-More.ensures.others.write_faults;
  closings = c.in-More.ensures.others.closings;
  quiets = c.in-More.ensures.others.quiets;
}

pub loop-answer-preserved : goal.loop-answer-preserved
loop-answer-preserved g c =
    let before = c.loop-answer.invariant in
    let turn = c.take_turn.ensures in
    let more = c.in-More-take_turn.ensures.bytes in
    record {
      read = reads_on _ _ _ c.args.rest.now c.loop-answer.rest c.take_turn.new.rest before.read.0
          before.read.1 before.read.3 more.0;
      trusts = turn.trusts c.in-More-take_turn.is;
      ends = more.1 ∙ before.ends;
      faults = more.2 ∙ before.faults;
      given = Keeps-trans _ _ _ before.given turn.others.given;
      write_faults = turn.others.write_faults ∙ before.write_faults;
      closings = turn.others.closings ∙ before.closings;
      quiets = turn.others.quiets ∙ before.quiets;
    }

pub returns-in-Answered-take_turn-clause-head : goal.returns-in-Answered-take_turn-clause-head
returns-in-Answered-take_turn-clause-head g c =
    let read = c.loop-answer.invariant.read in
    reads_after _ _ _ c.args.rest.now c.loop-answer.rest c.take_turn.new.rest read.0 _ _ _ _
    c.in-Answered-take_turn.answer read.1 read.2 read.3
    c.in-Answered-take_turn.ensures.bytes

pub returns-in-Answered-take_turn-clause-sound : goal.returns-in-Answered-take_turn-clause-sound
returns-in-Answered-take_turn-clause-sound g c =
    sound_answer c.loop-answer.rest c.take_turn.new.rest c.in-Answered-take_turn.answer
    c.in-Answered-take_turn.ensures.bytes.answers

pub returns-in-Answered-take_turn-clause-causes : goal.returns-in-Answered-take_turn-clause-causes
returns-in-Answered-take_turn-clause-causes g c =
    causes_after _ _ _ _ _ _ c.in-Answered-take_turn.answer c.loop-answer.invariant.ends
    c.loop-answer.invariant.faults
    c.in-Answered-take_turn.ensures.bytes.causes

pub returns-in-Answered-take_turn-clause-others : goal.returns-in-Answered-take_turn-clause-others
returns-in-Answered-take_turn-clause-others g c =
    let before = c.loop-answer.invariant in
    let turn = c.in-Answered-take_turn.ensures.others in
    record {
      given = Keeps-trans _ _ _ before.given turn.given;
      write_faults = turn.write_faults ∙ before.write_faults;
      closings = turn.closings ∙ before.closings;
      quiets = turn.quiets ∙ before.quiets;
    }
