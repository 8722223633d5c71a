use Rattle.std.proofs.Common.{◌≡◌, ◌||◌, Bool, List, ap, length, map, arith, rules, sym, ◌∙◌}
use Rattle.std.proofs.lemmas.Grind.{common_steps}
use Rattle.std.specs.Vec.Iter.{into_iter_items}
use Rattle.line_base.specs.Dials.{Upstream}
use Rattle.serving.specs.declared.parts.Part.{Part}
use Rattle.serving.specs.Parts.{ended_by}
use Rattle.serving.specs.Returning.{all_ended, is_broken}
use Rattle.serving.proofs.Chains.{more_faults}
use Rattle.serving.proofs.Finishing.{or_first, or_second}
use Rattle.serving.proofs.Handing.{none_here}
use Rattle.serving.proofs.Returning.{ended_moved}
use Rattle.serving.proofs.Zipping.{any_moved, none_left}
use Rattle.serving.proofs.ending.end_rest.Goals as goal

pub loop-part-preserved : goal.loop-part-preserved
loop-part-preserved g c =
    let upstream = λ (d : g.row.N-D.Denot). let u : Upstream = g.N.D.Dialer.upstream d in u in
    let ended = λ (p : Part g.row.N-L.Denot g.row.N-D.Denot g.row.N-S.Denot).
    ended_by g.N.L.Listener.state upstream g.N.S.Stop.calls p in
    let inv = c.loop-part.invariant in
    let step = c.in-Some.ensures.steps.0 in
    let did = c.end-now.ensures in
    record {
      state = ended_moved ended (g.N.Net.state c.loop-part.net)
          (g.N.Net.state c.end-now.new.net) _ c.in-Some.part _ _ did.state step inv.state;
      broken = any_moved (λ p. is_broken (ended p)) _ c.loop-part.any _ c.in-Some.part _ _
          (or_second _ _ c.if-any.false ∙ ap (λ (b : Bool). c.loop-part.any || b) did.broken) step
          inv.broken;
      faults = λ start first. more_faults start _ _ c.loop-part.any c.end-now.result _
          (or_second _ _ c.if-any.false) (inv.faults start first) did.faults;
    }

pub loop-part-preserved-then-any : goal.loop-part-preserved-then-any
loop-part-preserved-then-any g c =
    let upstream = λ (d : g.row.N-D.Denot). let u : Upstream = g.N.D.Dialer.upstream d in u in
    let ended = λ (p : Part g.row.N-L.Denot g.row.N-D.Denot g.row.N-S.Denot).
    ended_by g.N.L.Listener.state upstream g.N.S.Stop.calls p in
    let inv = c.loop-part.invariant in
    let step = c.in-Some.ensures.steps.0 in
    let did = c.end-now.ensures in
    record {
      state = ended_moved ended (g.N.Net.state c.loop-part.net)
          (g.N.Net.state c.end-now.new.net) _ c.in-Some.part _ _ did.state step inv.state;
      broken = any_moved (λ p. is_broken (ended p)) _ c.loop-part.any _ c.in-Some.part _ _
          (or_first _ c.end-now.result c.if-any.true
          ∙ ap (λ (b : Bool). c.loop-part.any || b) did.broken) step inv.broken;
      faults = λ start first. more_faults start _ _ c.loop-part.any c.end-now.result _
          (or_first _ c.end-now.result c.if-any.true) (inv.faults start first) did.faults;
    }

pub returns : goal.returns
returns g c =
    let left = into_iter_items c.loop-part.part-iterator in
    let none : length left ≡ 0 = first_of (search rules, grind (arith, common_steps)) in
    let inv = c.loop-part.invariant in
    let upstream = λ (d : g.row.N-D.Denot). let u : Upstream = g.N.D.Dialer.upstream d in u in
    let ended = λ (p : Part g.row.N-L.Denot g.row.N-D.Denot g.row.N-S.Denot).
    ended_by g.N.L.Listener.state upstream g.N.S.Stop.calls p in
    record {
      state = ap (λ (ps : List (Part g.row.N-L.Denot g.row.N-D.Denot g.row.N-S.Denot)).
          all_ended (map ended ps) (g.N.Net.state c.loop-part.net)) (sym (none_here left none))
          ∙ inv.state;
      broken = none_left (λ p. is_broken (ended p)) c.loop-part.any _ left none inv.broken;
      faults = inv.faults;
    }
