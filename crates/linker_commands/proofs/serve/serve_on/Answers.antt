use Rattle.std.proofs.Common.{refl, ap, inl, subst, Err}
use Rattle.std.specs.Prelude.{codes}
use Rattle.std.specs.Prelude.{Option}
use Rattle.line_base.specs.Lines.{Line}
use Rattle.line_base.specs.declared.socket_address.SocketAddress.{SocketAddress}
use Rattle.serving.specs.Running.{passes_of}
use Rattle.linker_commands.specs.Linked.{Linked, linked}
use Rattle.linker_commands.specs.Served.{Finish, TellsEnd, broken, short, memory_line}
use Rattle.linker_commands.specs.declared.run.ExitStatus.TheVariants as status
use Rattle.linker_commands.proofs.Serving.{served_by, told_end}
use Rattle.linker_commands.proofs.serve.serve_on.Goals as goal

pub returns-in-Ok-clause-served : goal.returns-in-Ok-clause-served
returns-in-Ok-clause-served g c = λ files config before loaded made seen listening logs.
    let line_of = λ (p : g.row.N-L-P.Denot). let l : Line = g.N.L.P.Peer.line p in l in
    let address_of =
    λ (p : g.row.N-L-P.Denot). let a : Option SocketAddress = g.N.L.P.Peer.address p in a in
    let moments = g.C.Clock.of_fork c.args.outside.now.clock in
    let after : Linked g.row.N-L-P.Denot =
    linked (g.N.Net.state c.run_recorded.new.net) (g.N.Net.faults c.run_recorded.new.net)
    (g.O.Journals.closed c.run_recorded.new.journals) in
    let end = c.in-Ok.served in
    let e = c.in-Ok.ensures in
    let t = c.tell_served.ensures in
    let by = served_by line_of address_of moments files config c.args.logged.now.site loaded
    c.args.logged.now.log
    (passes_of c.args.serving) before (g.N.Net.state c.args.outside.now.net)
    (g.O.Journals.closed c.args.outside.now.journals) after end made listening logs
    (e.served loaded seen)
    in (
      t.0,
      t.1,
      t.2,
      told_end line_of address_of moments files config before after end t.0 t.1 by t.3,
      record {
        rose = λ is. absurd (subst (λ (f : Finish). TellsEnd end t.0 f) is t.3);
        kept = λ _.
            e.kept (λ is. cc is);
      },
      t.4,
      t.5,
    )

pub returns-in-Err-Net-clause-served : goal.returns-in-Err-Net-clause-served
returns-in-Err-Net-clause-served g c = λ files config before loaded made seen listening logs.
    let e = c.in-Err-Net.ensures in (
      codes "error net\n",
      broken,
      status.Net,
      (refl, (loaded, made.loads)),
      record {
        rose = λ _. e.broken (ap Err c.in-Err-Net.field-0-is);
        kept = λ other. absurd (other refl);
      },
      refl,
      c.tell.ensures,
    )

pub returns-in-Err-OutOfMemory-clause-served : goal.returns-in-Err-OutOfMemory-clause-served
returns-in-Err-OutOfMemory-clause-served g c =
    λ files config before loaded made seen listening logs.
    let e = c.in-Err-OutOfMemory.ensures in (
      memory_line,
      short,
      status.Memory,
      inl refl,
      record {
        rose = λ is. cc is;
        kept = λ _. e.kept
            (λ is. cc (is, c.in-Err-OutOfMemory.field-0-is));
      },
      refl,
      c.tell-in-Err-OutOfMemory.ensures,
    )
