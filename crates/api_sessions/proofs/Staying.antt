-- Stays one after another.
use Rattle.std.proofs.Common.{◌≡◌, ◌<◌, ℕ, List, [], ◌∷◌, ◌++◌, refl, sym, ap, arith, subst}
use mathlib.Core.List.{IsPrefix}
use Rattle.http_wire.specs.declared.paused.Paused.{Paused}
use Rattle.http_wire.specs.declared.paused.Paused.TheVariants as paused
use Rattle.line_base.specs.Lines.{Line}
use Rattle.router_log.specs.Operation.{Operation}
use Rattle.router.specs.declared.naming.Naming.{Ghosts}
use Rattle.router.specs.Passes.{seen_in}
use Rattle.api_sessions.specs.declared.which.Which.{Which}
use Rattle.api_sessions.specs.Laws.{FewRequests, NothingIsForgotten}
use Rattle.api_sessions.specs.Stays.{GoesOn, HasStays, Idle, IsWaiting, StaysTo}
use Rattle.api_sessions.specs.Stays.{Visit, came, idle_behind, idle_by}
use Rattle.api_sessions.specs.Workers.{Learns, StaysWith, WorkerValue, worker_in}
use Rattle.api_sessions.proofs.Seeing.{prefix_on, prefix_same, stay_few, stay_saw}

module _ {J : Type 0} {g : Ghosts J} where
  -- a stay more
  stays_more : (vs : List (Visit J g)) (first last : Idle) (v : Visit J g)
      → HasStays vs first last → GoesOn last v
      → StaysTo last.which v.from v.upto v.old v.new paused.Quiet
      → HasStays (vs ++ v ∷ []) first (idle_behind last v)
  stays_more [] first last v same goes stay =
      subst (λ (i : Idle). HasStays (v ∷ []) i (idle_behind last v)) same (goes, stay, refl)
  stays_more (w ∷ ws) first last v chain goes stay =
      (chain.0, chain.1, stays_more ws (idle_behind first w) last v chain.2 goes stay)

  -- a stay of a connection with fewer requests than it may have leaves it with fewer
  visit_few : (idle : Idle) (v : Visit J g) (result : Paused) → GoesOn idle v
      → StaysTo idle.which v.from v.upto v.old v.new result → idle.served < 10000
      → v.upto < 10000
  visit_few idle v result goes stay few =
      stay_few idle.which v.from v.upto v.old v.new result stay
      (subst (λ (n : ℕ). n < 10000) (sym goes.served) few)

  -- a caller that just came
  pub waits_first : {P : Type 0} (line_of : P → Line) (first peer : P) (which : Which)
      (seen : List Operation) → first ≡ peer
      → IsWaiting g (idle_by (line_of first) (line_of peer) which 0 seen)
  waits_first line_of first peer which seen same = record {
    few = omega arith;
    chain = (
      seen,
      [],
      ap (λ p. idle_by (line_of first) (line_of p) which 0 seen) (sym same),
    );
  }

  -- a connection that has come to here has come to what is behind a further stay
  pub waits_more : (idle : Idle) (v : Visit J g) → IsWaiting g idle → GoesOn idle v
      → StaysTo idle.which v.from v.upto v.old v.new paused.Quiet
      → IsWaiting g (idle_behind idle v)
  waits_more idle v waits goes stay = record {
    few = visit_few idle v paused.Quiet goes stay waits.few;
    chain = (
      waits.chain.0,
      waits.chain.1 ++ v ∷ [],
      stays_more waits.chain.1 (came idle.which idle.first waits.chain.0) idle v waits.chain.2 goes
          stay,
    );
  }

  -- and so it has where it waits with a ticket of what the worker has seen
  pub waits_on : (idle : Idle) (v : Visit J g) (result : Paused) (upto : ℕ) (told : List Operation)
      → IsWaiting g idle → GoesOn idle v
      → StaysTo idle.which v.from v.upto v.old v.new result → result ≡ paused.Quiet
      → v.upto ≡ upto → told ≡ seen_in v.new.pass
      → IsWaiting g (idle_by idle.first v.new.line idle.which upto told)
  waits_on idle v result upto told waits goes stay quiet count seen =
      subst
      (λ (n : ℕ). IsWaiting g (idle_by idle.first v.new.line idle.which n told)) count
      (subst
      (λ (ops : List Operation). IsWaiting g (idle_by idle.first v.new.line idle.which v.upto ops))
      (sym seen)
      (waits_more idle v waits goes
      (subst (λ (p : Paused). StaysTo idle.which v.from v.upto v.old v.new p) quiet stay)))

  -- what a worker did in a stay of it
  pub stayed_with : (idle self : Idle) (old new : WorkerValue J g) (behind : Idle) (v : Visit J g)
      (result r : Paused) → idle ≡ self → Learns idle.seen old.pass v.old.pass
      → v.old.stops ≡ old.stops → v.old.told ≡ old.told → GoesOn idle v
      → StaysTo idle.which v.from v.upto v.old v.new result → result ≡ r
      → new ≡ worker_in v.new → behind ≡ idle_behind idle v → StaysWith self old new behind r
  stayed_with idle self old new behind v result r is learns stops told goes stay came leaves
      behind_is =
      subst (λ (i : Idle). StaysWith i old new behind r) is (record {
        visit = v;
        learns = learns;
        stops = stops;
        told = told;
        goes_on = goes;
        stay = subst (λ (p : Paused). StaysTo idle.which v.from v.upto v.old v.new p) came stay;
        leaves = leaves;
        behind_is = behind_is;
      })

  -- the first of them, and those behind them
  stays_split : (us vs : List (Visit J g)) (first last : Idle) → HasStays (us ++ vs) first last
      → (mid : Idle) × HasStays us first mid × HasStays vs mid last
  stays_split [] vs first last chain = (first, refl, chain)
  stays_split (u ∷ us) vs first last chain =
      let rest = stays_split us vs (idle_behind first u) last chain.2 in
      (rest.0, (chain.0, chain.1, rest.1), rest.2)

  -- stays one after another leave it with fewer requests than it may have
  stays_few : (vs : List (Visit J g)) (first last : Idle) → HasStays vs first last
      → first.served < 10000 → last.served < 10000
  stays_few [] first last same few =
      subst (λ (i : Idle). i.served < 10000) (sym same) few
  stays_few (v ∷ vs) first last chain few =
      stays_few vs (idle_behind first v) last chain.2
      (visit_few first v paused.Quiet chain.0 chain.1 few)

  -- nothing that was seen is forgotten
  stays_saw : (vs : List (Visit J g)) (first last : Idle) → HasStays vs first last
      → IsPrefix first.seen last.seen
  stays_saw [] first last same =
      prefix_same first.seen last.seen (ap (λ (i : Idle). i.seen) same)
  stays_saw (v ∷ vs) first last chain =
      prefix_on first.seen (seen_in v.old.pass) last.seen chain.0.seen
      (prefix_on (seen_in v.old.pass) (seen_in v.new.pass) last.seen
      (stay_saw first.which v.from v.upto v.old v.new paused.Quiet chain.1)
      (stays_saw vs (idle_behind first v) last chain.2))

pub nothing_is_forgotten : {J : Type 0} (g : Ghosts J) → NothingIsForgotten g
nothing_is_forgotten g us vs u v first mid chain goes =
    let at_u = stays_split us (u ∷ vs) first mid chain in
    prefix_on (seen_in u.new.pass) mid.seen (seen_in v.old.pass)
    (stays_saw vs (idle_behind at_u.0 u) mid at_u.2.2) goes.seen

pub few_requests : {J : Type 0} (g : Ghosts J) → FewRequests g
few_requests g vs first mid chain few =
    let waiting = stays_few vs first mid chain few in
    (waiting, λ v result goes stay. visit_few mid v result goes stay waiting)
