use Rattle.std.proofs.Common.{◌≡◌, ap, refl}
use Rattle.command_lines.specs.Generated.{storm_line, weave_line}
use Rattle.line_base.specs.Files.{Filed}
use Rattle.line_base.specs.Streams.{Input}
use Rattle.linker_commands.specs.Linked.{Linked, linked}
use Rattle.linker_commands.proofs.Serving.{linked_same}
use Rattle.linker_commands.proofs.run.run.Goals as goal

pub returns-in-Ok-Serve : goal.returns-in-Ok-Serve
returns-in-Ok-Serve g c =
    let input_of = λ (s : g.row.S.Denot). let input : Input = g.S.Source.input s in input in
    let made = c.serve.ensures.served in
    let input = ap input_of c.serve.ensures.input in (
      made.0,
      (rw c.in-Ok-Serve.ensures
          (rw c.in-Ok-Serve.field-0-is (made.1, input, c.serve.ensures.files))),
      made.2,
    )

pub returns-in-Ok-Storm : goal.returns-in-Ok-Storm
returns-in-Ok-Storm g c =
    let input : Input = g.S.Source.input c.args.outside.now.input in
    let files : Filed = g.F.Folder.filed c.args.outside.now.folder in
    let run = c.in-Ok-Storm.run' in
    let made = c.tell_made.ensures (storm_line run.turns run.seed) c.storm_line.ensures in (
      made.0,
      (rw c.in-Ok-Storm.ensures (rw c.in-Ok-Storm.field-0-is (made.1, refl, refl, refl))),
      made.2,
    )

pub returns-in-Ok-Weave : goal.returns-in-Ok-Weave
returns-in-Ok-Weave g c =
    let input : Input = g.S.Source.input c.args.outside.now.input in
    let files : Filed = g.F.Folder.filed c.args.outside.now.folder in
    let run = c.in-Ok-Weave.run' in
    let made =
    c.tell_made-in-Ok-Weave.ensures (weave_line run.turns run.seed) c.weave_line.ensures in (
      made.0,
      (rw c.in-Ok-Weave.ensures (rw c.in-Ok-Weave.field-0-is (made.1, refl, refl, refl))),
      made.2,
    )

pub returns-in-Ok-Follow : goal.returns-in-Ok-Follow
returns-in-Ok-Follow g c =
    let input : Input = g.S.Source.input c.args.outside.now.input in
    let files : Filed = g.F.Folder.filed c.args.outside.now.folder in
    let made = c.follow.ensures.followed in
    let old_net : Linked g.row.N-L-P.Denot =
    linked (g.N.Net.state c.args.outside.now.net) (g.N.Net.faults c.args.outside.now.net)
    (g.O.Journals.closed c.args.outside.now.journals) in
    let new_net : Linked g.row.N-L-P.Denot =
    linked (g.N.Net.state c.follow.new.net) (g.N.Net.faults c.follow.new.net)
    (g.O.Journals.closed c.args.outside.now.journals) in
    let same : new_net ≡ old_net =
    linked_same old_net new_net c.follow.ensures.net.0 c.follow.ensures.net.1 refl in (
      made.0,
      (rw c.in-Ok-Follow.ensures (rw c.in-Ok-Follow.field-0-is (made.1, refl, refl, same))),
      made.2,
    )
