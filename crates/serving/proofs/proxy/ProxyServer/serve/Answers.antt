use Rattle.std.proofs.Common.{ℕ, List, refl, ◌∙◌, ap}
use Rattle.std.specs.Prelude.{Option}
use Rattle.line_base.specs.Dials.{Upstream}
use Rattle.line_base.specs.Lines.{Line}
use Rattle.router.specs.Passes.{number_in}
use Rattle.router.specs.declared.pass.Pass.{Pass}
use Rattle.serving.proofs.Attending.{chain_by, ended_served, waits_served}
use Rattle.serving.proofs.proxy.ProxyServer.serve.Goals as goal

pub serve-stayed-requires : goal.serve-stayed-requires
serve-stayed-requires g c =
    record { free = c.args.self.now.free; rule = c.args.self.now.rule }

pub returns-in-Waits : goal.returns-in-Waits
returns-in-Waits g c =
    let line_of = λ (p : g.row.P.Denot). let l : Line = g.P.Peer.line p in l in
    let upstream = λ (d : g.row.D.Denot). let u : Upstream = g.D.Dialer.upstream d in u in
    let moments = λ (k : g.row.C.Denot). let m : Option (List ℕ) = g.C.Clock.to_come k in m in
    let old = c.args.self.now in
    let stayed = c.serve-stayed.ensures in
    let idle = c.end_idle.ensures in
    record {
      chain = chain_by g.J.Naming.settings old.policy.now g.J.Handling.rule g.J.Handling.tries
          c.args.client old.rule old.tries stayed.chain;
      served = waits_served upstream moments line_of g.K.Recorder g.J.Naming.settings old.policy.now
          g.J.Handling.rule c.args.client old.server c.serve-stayed.new.server
          c.end_idle.new.self old.recorder c.serve-stayed.new.recorder c.step.new.self
          stayed.told.0 c.in-Waits.client c.serve-stayed.result old.lacked_memory old.rule
          idle.pass idle.clock idle.words idle.ends stayed.told.1 c.in-Waits.is stayed.told.2
          c.step.ensures;
      policy = refl;
      number = ap (λ (p : Pass g.row.J.Denot g.J.Naming). number_in p) idle.pass ∙ stayed.number;
    }

pub returns-in-Ends : goal.returns-in-Ends
returns-in-Ends g c =
    let line_of = λ (p : g.row.P.Denot). let l : Line = g.P.Peer.line p in l in
    let upstream = λ (d : g.row.D.Denot). let u : Upstream = g.D.Dialer.upstream d in u in
    let moments = λ (k : g.row.C.Denot). let m : Option (List ℕ) = g.C.Clock.to_come k in m in
    let old = c.args.self.now in
    let stayed = c.serve-stayed.ensures in
    let idle = c.end_idle.ensures in
    record {
      chain = chain_by g.J.Naming.settings old.policy.now g.J.Handling.rule g.J.Handling.tries
          c.args.client old.rule old.tries stayed.chain;
      served = ended_served upstream moments line_of g.K.Recorder g.J.Naming.settings old.policy.now
          g.J.Handling.rule c.args.client old.server c.serve-stayed.new.server
          c.end_idle.new.self old.recorder c.serve-stayed.new.recorder c.step-in-Ends.new.self
          stayed.told.0 c.in-Ends.peer c.in-Ends.ended c.serve-stayed.result
          old.lacked_memory c.lacked_behind-self.result old.rule idle.pass idle.clock idle.words
          idle.ends stayed.told.1 c.in-Ends.is c.lacked_behind-self.ensures stayed.told.2
          c.step-in-Ends.ensures;
      policy = refl;
      number = ap (λ (p : Pass g.row.J.Denot g.J.Naming). number_in p) idle.pass ∙ stayed.number;
    }
