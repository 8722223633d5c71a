use denote.Exit.{no}
use denote.Param.{param}
use denote.Param.Send.{arg_send, param_send}
use Rattle.std.proofs.Common.{◌≡◌, List, Vec, Global, arith, ap, length, map, ◌∙◌, sym}
use Rattle.router.specs.Closing.{numbers_of}
use Rattle.router.proofs.Closing.{map_length}
use Rattle.std.specs.Prelude.{Option}
use Rattle.line_base.specs.declared.socket_address.SocketAddress.{SocketAddress}
use Rattle.line_base.specs.Dials.{Upstream}
use Rattle.line_base.specs.Lines.{Line}
use Rattle.scrape.specs.Scrapes.{Scraping}
use Rattle.serving.specs.Jobs.{RouterJob, caller_hands, client_hands, passes_of_jobs}
use Rattle.workers.specs.declared.accepting.Accepting.{Accepting}
use Rattle.serving.proofs.Chains.{numbers_back, zip_length}
use Rattle.serving.proofs.Parting.{counts_parts, same_room}
use Rattle.serving.proofs.Sending.{job_send}
use Rattle.serving.proofs.Shifts.{hands_back, same_numbers}
use Rattle.serving.proofs.running.run_apart.Goals as goal

pub run_workers-requires-send-J : goal.run_workers-requires-send-J
run_workers-requires-send-J g c κs within =
    let bounds = c.type_bounds in
    param_send 1 _ (arg_send _ no _
    (job_send _ _ _ _ _ _ _ _ _ _ (param 6 g.row.A) (param 7 g.row.B) (param 8 g.row.E)
    (param 9 g.row.F) g.N.L.P.Peer g.J.Handling g.J.Naming g.J.Ledger g.A.Ledger g.B.Ledger
    g.E.Ledger g.F.Ledger
    bounds.send-N-L-P bounds.send-J bounds.send-N-L bounds.send-N-D bounds.send-C bounds.send-K
    bounds.send-N-S bounds.send-X))

pub take_all_apart-requires-clause-room : goal.take_all_apart-requires-clause-room
take_all_apart-requires-clause-room g c κs within =
    let same = zip_length _ c.args.jobs.items c.in-Ok.back.items c.in-Ok.ensures in
    same_room c.args.apart.now _ _ (sym same) c.requires.room

pub returns-in-Ok : goal.returns-in-Ok
returns-in-Ok g c =
    let line_of = λ (p : g.row.N-L-P.Denot). let l : Line = g.N.L.P.Peer.line p in l in
    let address_of = λ (p : g.row.N-L-P.Denot). let a : Option SocketAddress =
    g.N.L.P.Peer.address p in a in
    let told_of = λ (x : g.row.X.Denot). let s : Scraping = g.X.Scrape.told x in s in
    let upstream = λ (d : g.row.N-D.Denot). let u : Upstream = g.N.D.Dialer.upstream d in u in
    let same = zip_length _ c.args.jobs.items c.in-Ok.back.items c.in-Ok.ensures in
    let numbers = same_numbers line_of address_of g.K.Recorder g.N.L.Listener.state upstream
    g.C.Clock.to_come g.N.S.Stop.calls told_of c.args.jobs.items c.in-Ok.back.items
    c.in-Ok.ensures in
    let hands = hands_back line_of address_of g.K.Recorder g.N.L.Listener.state upstream
    g.C.Clock.to_come g.N.S.Stop.calls told_of c.args.jobs.items c.in-Ok.back.items
    c.in-Ok.ensures in
    let took = c.take_all_apart.ensures in
    let jobs_in =
    map
    (λ (b : (RouterJob g.row.N-L-P.Denot g.row.J.Denot g.row.N-L.Denot g.row.N-D.Denot
    g.row.C.Denot g.row.K.Denot g.row.N-S.Denot g.row.X.Denot g.row.A.Denot g.row.B.Denot
    g.row.E.Denot g.row.F.Denot g.J.Handling g.J.Naming) × Accepting). b.0) c.in-Ok.back.items in
    record {
      room = λ n room. took.room n (same_room c.args.apart.now _ _ (omega (arith, same)) room);
      numbers = numbers_back _ c.args.apart.now.passes.items _ _ took.apart.passes numbers;
      counts = counts_parts g.N.L.Listener.state upstream g.N.S.Stop.calls c.args.jobs.items
          jobs_in c.args.apart.now _ took.apart
          (map_length
          (λ (b : (RouterJob g.row.N-L-P.Denot g.row.J.Denot g.row.N-L.Denot g.row.N-D.Denot
          g.row.C.Denot g.row.K.Denot g.row.N-S.Denot g.row.X.Denot g.row.A.Denot g.row.B.Denot
          g.row.E.Denot g.row.F.Denot g.J.Handling g.J.Naming) × Accepting). b.0)
          c.in-Ok.back.items ∙ same)
          hands.0 hands.1;
      came = λ ran. record { back = c.in-Ok.back.items; ran = c.in-Ok.ensures; apart = took.apart };
    }

pub take_unrun_apart-requires-clause-room : goal.take_unrun_apart-requires-clause-room
take_unrun_apart-requires-clause-room g c κs within =
    let same =
    ap
    (λ (js : Vec (RouterJob g.row.N-L-P.Denot g.row.J.Denot g.row.N-L.Denot g.row.N-D.Denot
    g.row.C.Denot g.row.K.Denot g.row.N-S.Denot g.row.X.Denot g.row.A.Denot g.row.B.Denot
    g.row.E.Denot g.row.F.Denot g.J.Handling g.J.Naming) Global). length js.items)
    c.in-Err.ensures in
    same_room c.args.apart.now _ _ (sym same) c.requires.room

pub returns-in-Err : goal.returns-in-Err
returns-in-Err g c =
    let upstream = λ (d : g.row.N-D.Denot). let u : Upstream = g.N.D.Dialer.upstream d in u in
    let took = c.take_unrun_apart.ensures in
    let back = c.in-Err.field-0.jobs.items in
    let same : back ≡ c.args.jobs.items =
    ap
    (λ (js : Vec (RouterJob g.row.N-L-P.Denot g.row.J.Denot g.row.N-L.Denot g.row.N-D.Denot
    g.row.C.Denot g.row.K.Denot g.row.N-S.Denot g.row.X.Denot g.row.A.Denot g.row.B.Denot
    g.row.E.Denot g.row.F.Denot g.J.Handling g.J.Naming) Global). js.items) c.in-Err.ensures in
    let count = ap length same in
    record {
      room = λ n room. took.room n (same_room c.args.apart.now _ _ (omega (arith, count)) room);
      numbers = numbers_back _ c.args.apart.now.passes.items (passes_of_jobs back)
          (passes_of_jobs c.args.jobs.items) took.apart.passes
          (ap
          (λ (js : List (RouterJob g.row.N-L-P.Denot g.row.J.Denot g.row.N-L.Denot g.row.N-D.Denot
          g.row.C.Denot g.row.K.Denot g.row.N-S.Denot g.row.X.Denot g.row.A.Denot g.row.B.Denot
          g.row.E.Denot g.row.F.Denot g.J.Handling g.J.Naming)). numbers_of (passes_of_jobs js))
          same);
      counts = counts_parts g.N.L.Listener.state upstream g.N.S.Stop.calls c.args.jobs.items back
          c.args.apart.now _ took.apart count
          (ap
          (λ (js : List (RouterJob g.row.N-L-P.Denot g.row.J.Denot g.row.N-L.Denot g.row.N-D.Denot
          g.row.C.Denot g.row.K.Denot g.row.N-S.Denot g.row.X.Denot g.row.A.Denot g.row.B.Denot
          g.row.E.Denot g.row.F.Denot g.J.Handling g.J.Naming)). length (client_hands js)) same)
          (ap
          (λ (js : List (RouterJob g.row.N-L-P.Denot g.row.J.Denot g.row.N-L.Denot g.row.N-D.Denot
          g.row.C.Denot g.row.K.Denot g.row.N-S.Denot g.row.X.Denot g.row.A.Denot g.row.B.Denot
          g.row.E.Denot g.row.F.Denot g.J.Handling g.J.Naming)). length (caller_hands js)) same);
      came = λ ran. cc ran;
    }
