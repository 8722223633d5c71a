use Rattle.std.specs.Prelude.{option_map}
use Rattle.line_log.specs.Logged.{Logged}
use Rattle.linker_commands.proofs.recording.make_record.Goals as goal

pub returns-clause-new : goal.returns-clause-new
returns-clause-new g c =
    let log_of = λ (j : g.row.O-J.Denot). let l : Logged = g.O.J.Journal.log j in l in
    record {
      clock = g.C.Clock.to_come c.fork-clock.result;
      forked = c.fork-clock.ensures.0;
      log = option_map log_of c.in-Ok.journal;
      log_is = c.in-Ok.ensures.new;
      fresh = c.new.ensures.fresh;
      words_are = c.new.ensures.seat.words;
    }
