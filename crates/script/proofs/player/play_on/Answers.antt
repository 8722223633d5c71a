use Rattle.std.proofs.Common.{◌≡◌, arith, ◌∙◌, ◌++◌, [], ◌∷◌, drop, refl}
use Rattle.std.specs.Prelude.{slice_range}
use Rattle.std.proofs.lemmas.List.{drop_all}
use Rattle.std.proofs.KnownBytes.{Appends-trans}
use Rattle.text_parts.specs.Lines.{lines_of}
use Rattle.machine.specs.Code.{state_of}
use Rattle.script.specs.Replay.{replay_of}
use Rattle.script.specs.declared.player.PlayEnd.TheVariants.{Done}
use Rattle.script.proofs.Plays.{goes_on, stops, plays_stop, plays_short, plays_fault}
use Rattle.script.proofs.Plays.{plays_done, at_end, whole_script, begins_so, split_on}
use Rattle.script.proofs.Plays.{plays_on}
use Rattle.script.proofs.player.play_on.Goals as goal

pub loop-at-preserved : goal.loop-at-preserved
loop-at-preserved g c =
    let i = c.loop-at.invariant in
    let ok = c.in-Ok-Next.ensures.ok in
    let out = c.in-Ok.ensures.ok in
    let line = slice_range c.args.script.now c.loop-at.at c.cut_line-cut.result.stop in
    record {
      within = c.cut_line-cut.ensures.next.1;
      few = omega arith;
      written = i.written ++ out.0;
      given = Appends-trans _ _ _ i.written out.0 i.given out.2;
      front = i.front ++ line ∷ [];
      split = split_on _ i.front _ line _ i.split c.cut_line-cut.ensures.line;
      so =
          plays_on i.front line i.written c.loop-at.replies.items ok.0 c.answer.new.replies.items
          out.0 c.flush.new.replies.items (state_of c.loop-at.state) (state_of c.answer.new.state)
          c.loop-at.number
          _ i.so ok.1 out.1 c.in-Ok-Next.field-0-is ok.2;
      kept = c.in-Ok.ensures.kept ∙ i.kept;
    }

pub returns-in-Ok-Stop-clause-played : goal.returns-in-Ok-Stop-clause-played
returns-in-Ok-Stop-clause-played g c =
    let i = c.loop-at.invariant in
    let ok = c.in-Ok-Stop.ensures.ok in
    let line = slice_range c.args.script.now c.loop-at.at c.cut_line-cut.result.stop in
    let lines = lines_of (drop c.cut_line-cut.result.next c.args.script.now) in
    let same = whole_script c.args.script.now i.front (line ∷ lines)
    (i.written ++ c.loop-at.replies.items) (state_of c.loop-at.state) c.loop-at.number
    (rw c.cut_line-cut.ensures.line at i.split) i.so in
    let last = stops (replay_of c.args.script.now) i.written c.loop-at.replies.items ok.0
    c.answer.new.replies.items (state_of c.loop-at.state) c.loop-at.number line lines
    same ok.1 (state_of c.answer.new.state) _ c.in-Ok-Stop.field-0-is ok.2 in
    plays_stop c.args.script.now _ _ _ _ _ i.written c.answer.new.replies.items _ _ i.given
    c.as_slice.ensures.value last c.finish.ensures.finishes

pub returns-in-Err-clause-played : goal.returns-in-Err-clause-played
returns-in-Err-clause-played g c =
    let i = c.loop-at.invariant in
    let bytes = i.written ++ c.loop-at.replies.items in
    plays_short c.args.script.now _ _ _ _ _ i.written c.loop-at.replies.items _ _ i.given
    (c.as_slice-in-Err.ensures.value ∙ c.in-Err.ensures.err) _
    (whole_script c.args.script.now i.front _ bytes (state_of c.loop-at.state) c.loop-at.number
    i.split i.so)
    (begins_so c.args.script.now i.front _ bytes (state_of c.loop-at.state) c.loop-at.number i.split
    i.so) c.finish-in-Err.ensures.finishes

pub returns-in_default-clause-played : goal.returns-in_default-clause-played
returns-in_default-clause-played g c =
    let i = c.loop-at.invariant in
    let ok = c.in-Ok-Next.ensures.ok in
    let line = slice_range c.args.script.now c.loop-at.at c.cut_line-cut.result.stop in
    let lines = lines_of (drop c.cut_line-cut.result.next c.args.script.now) in
    let same = whole_script c.args.script.now i.front (line ∷ lines)
    (i.written ++ c.loop-at.replies.items) (state_of c.loop-at.state) c.loop-at.number
    (rw c.cut_line-cut.ensures.line at i.split) i.so in
    let next = goes_on (replay_of c.args.script.now) i.written c.loop-at.replies.items ok.0
    c.answer.new.replies.items (state_of c.loop-at.state) c.loop-at.number line lines
    same ok.1 (state_of c.answer.new.state) _ c.in-Ok-Next.field-0-is ok.2 in
    plays_fault c.args.script.now _ _ _ 0 0 i.written c.answer.new.replies.items
    c.answer.new.replies.items Done i.given refl _ next c.in_default.ensures.err

pub returns-clause-played : goal.returns-clause-played
returns-clause-played g c =
    let i = c.loop-at.invariant in
    let past : drop c.loop-at.at c.args.script.now ≡ [] =
    drop_all c.loop-at.at c.args.script.now (omega arith) in
    let bytes = i.written ++ c.loop-at.replies.items in
    let last = at_end (replay_of c.args.script.now) bytes
    (whole_script c.args.script.now i.front [] bytes (state_of c.loop-at.state) c.loop-at.number
    (rw past at i.split) i.so) in
    plays_done c.args.script.now _ _ _ _ _ i.written c.loop-at.replies.items _ _ i.given
    c.as_slice-2.ensures.value last c.finish-2.ensures.finishes
