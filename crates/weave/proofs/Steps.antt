-- The steps of the code's world, and runs of them.
use Rattle.std.proofs.Common.{◌≡◌, get_or, ℕ, zero, suc, ◌+◌, ◌<◌, ◌≤◌, drop, List, [], ◌∷◌, ◌++◌}
use Rattle.std.proofs.Common.{length, map, Bool, true, false, Some, None, Option, refl, arith, ap}
use Rattle.std.proofs.Common.{sym, ◌∙◌, subst, append_assoc}
use Rattle.std.specs.Prelude.{All, slice_get, option_map, if◌then◌else◌}
use Rattle.std.proofs.lemmas.List.{length-map, map-append, append-nil, drop_all}
use Rattle.std.proofs.lemmas.List.Elements.{All-head, All-tail}
use Rattle.machine.specs.Values.{SettingsValue, ChangeValue}
use Rattle.machine.specs.State.{is_accepted}
use Rattle.machine.specs.Code.{settings_of, state_of}
use Rattle.bind_cache.specs.Kept.{Kept}
use Rattle.one_history.specs.Entries.{changes_made}
use Rattle.router_log.specs.Operation.{changed, is_change}
use Rattle.router_log.specs.Value.{Value, value_of}
use Rattle.router_log.specs.Call.{Call, changing, publishes, is_kept}
use Rattle.weave.specs.declared.pass.Pass.{Pass}
use Rattle.weave.specs.declared.step.Step.{Step}
use Rattle.weave.specs.declared.step.Told.{Told}
use Rattle.weave.specs.declared.step.Told.TheVariants as told
use Rattle.weave.specs.declared.world.World.{World}
use Rattle.weave.specs.Code.{pass_of, step_of, told_value, kept_in_arc}
use Rattle.weave.specs.World.{PassValue, WorldValue, Question, StepValue, publish, enter, answer}
use Rattle.weave.specs.World.{remember, meet, ToldValue, nothing, answer_of, in_flight, published}
use Rattle.weave.specs.World.{entered, entering, answered, answering, stepped, opening_world}
use Rattle.weave.specs.World.{run_from, publishes_now, called, seeing, remembered, remembering}
use Rattle.weave.specs.World.{seen_by, meeting}
use Rattle.weave.specs.Held.{ops_of, world_of, value_in, Holds, Becomes, IsMade, IsSoundStep}
use Rattle.weave.specs.Held.{IsStep}
use Rattle.weave.specs.Laws.{IsOneHistory}
use Rattle.weave.proofs.Schedules.{every_schedule_is_one_history}
use Rattle.weave.proofs.Moving.{get-map, map_get, missing, present, stays, onward}

-- what a pass is in what the world says
pub there : (w : World) (number : ℕ) (p : Pass) → slice_get w.passes.items number ≡ Some p
    → slice_get (world_of w).passes number ≡ Some (pass_of p)
there w number p here = get-map pass_of w.passes.items number p here

pub nowhere : (w : World) (number : ℕ) → length w.passes.items ≤ number
    → slice_get (world_of w).passes number ≡ None
nowhere w number out = let same = length-map w.passes.items pass_of in
    missing (map pass_of w.passes.items) number (omega (arith, out, same))

-- a step is what its kind makes of the pass that it names
pub step_made : (old new : World) (step : StepValue) (told : Told) (number : ℕ)
    (o : Option PassValue) (f : Option PassValue → WorldValue × ToldValue)
    → slice_get (world_of old).passes number ≡ o
    → stepped (settings_of old.settings) (world_of old) step
    ≡ f (slice_get (world_of old).passes number) → IsMade old new (f o) (told_value told)
    → IsStep old new step told
step_made old new step told number o f e is made =
    let m = subst (λ (r : WorldValue × ToldValue). IsMade old new r (told_value told))
    (ap f (sym e) ∙ sym is) made in
    record { becomes = m.0; told_is = m.1 }

-- a pass that is not there changes nothing
pub lacking : (old : World) (step : StepValue) (number : ℕ)
    (f : Option PassValue → WorldValue × ToldValue) → Holds old → length old.passes.items ≤ number
    → stepped (settings_of old.settings) (world_of old) step
    ≡ f (slice_get (world_of old).passes number) → f None ≡ (world_of old, nothing)
    → IsStep old old step told.Nothing
lacking old step number f holds out is none =
    step_made old old step told.Nothing number None f (nowhere old number out) is
    (subst (λ (r : WorldValue × ToldValue). IsMade old old r nothing) (sym none)
    (stays old holds, refl))

-- where a world first becomes one that says the same, what a pass worked out last is what it did at
-- first
pub fresh_onward : (old mid : World) (number : ℕ) (k : Kept) → Becomes old mid (world_of old)
    → ((p : Pass) → slice_get old.passes.items number ≡ Some p
    → Some k ≡ option_map kept_in_arc p.fresh)
    → (q : Pass) → slice_get mid.passes.items number ≡ Some q
    → Some k ≡ option_map kept_in_arc q.fresh
fresh_onward old mid number k first fresh q here =
    let passes : map pass_of mid.passes.items ≡ map pass_of old.passes.items =
    ap (λ (w : WorldValue). w.passes) first.world in
    let found = map_get pass_of old.passes.items number (pass_of q)
    (ap (λ (ps : List PassValue). slice_get ps number) (sym passes) ∙ there mid number q here) in
    fresh found.at found.here ∙ ap (λ (v : PassValue). v.fresh) found.same

pub kept_onward : (old mid : World) (k : Kept) → Becomes old mid (world_of old)
    → is_kept (settings_of old.settings) (ops_of old) k ≡ true
    → is_kept (settings_of mid.settings) (ops_of mid) k ≡ true
kept_onward old mid k first has =
    ap (λ (s : SettingsValue). is_kept s (ops_of mid) k) first.settings
    ∙ (ap (λ (w : WorldValue). is_kept (settings_of old.settings) w.ops k) first.world ∙ has)

-- a change that is asked for, a question that is asked, and an answer
pub publishes_it : (old new : World) (number : ℕ) (p : Pass) (change : ChangeValue) (said : Told)
    → slice_get old.passes.items number ≡ Some p
    → Becomes old new (called (settings_of old.settings) (world_of old) number (pass_of p)
    (changing change)) → told_value said
    ≡ answer_of (settings_of old.settings) (ops_of old) (changing change)
    → IsStep old new (publish number change) said
publishes_it old new number p change said here becomes tells =
    step_made old new (publish number change) said number (Some (pass_of p))
    (λ (r : Option PassValue). published (settings_of old.settings) (world_of old) number r change)
    (there old number p here) refl (becomes, tells)

pub enters_it : (old new : World) (number : ℕ) (p : Pass) (question : Question)
    → slice_get old.passes.items number ≡ Some p
    → Becomes old new (entered (settings_of old.settings) (world_of old) number
    (pass_of p) question) → IsStep old new (enter number question) told.Nothing
enters_it old new number p question here becomes =
    step_made old new (enter number question) told.Nothing number (Some (pass_of p))
    (λ (r : Option PassValue). entering (settings_of old.settings)
    (world_of old) number r question) (there old number p here) refl (becomes, refl)

pub answers_it : (old new : World) (number : ℕ) (p : Pass) (said : Told)
    → slice_get old.passes.items number ≡ Some p
    → IsMade old new (answered (settings_of old.settings) (world_of old) number (pass_of p)
    (in_flight (pass_of p))) (told_value said) → IsStep old new (answer number) said
answers_it old new number p said here made =
    step_made old new (answer number) said number (Some (pass_of p))
    (λ (r : Option PassValue). answering (settings_of old.settings) (world_of old) number r)
    (there old number p here) refl made

-- what a pass remembers, from what it worked out last
pub remembers : (old new : World) (number : ℕ) (p : Pass) (o : Option Kept) (said : Told)
    → slice_get old.passes.items number ≡ Some p → (pass_of p).fresh ≡ o
    → IsMade old new (remembered (settings_of old.settings) (world_of old) number (pass_of p) o)
    (told_value said) → IsStep old new (remember number) said
remembers old new number p o said here fresh made =
    let S = settings_of old.settings in
    let w = world_of old in
    step_made old new (remember number) said number (Some (pass_of p))
    (λ (r : Option PassValue). remembering S w number r) (there old number p here) refl
    (subst (λ (f : Option Kept). IsMade old new (remembered S w number (pass_of p) f)
    (told_value said)) (sym fresh) made)

-- a refused change publishes nothing
pub refused_none : (w : World) (number : ℕ) (p : Pass) (change : ChangeValue) → Holds w
    → is_accepted (state_of w.state) change ≡ false
    → publishes_now (settings_of w.settings) number (ops_of w) (pass_of p) (changing change) ≡ None
refused_none w number p change holds lacks =
    let S = settings_of w.settings in
    let op = changed number
    (changes_made is_change (publishes S) number (ops_of w) (pass_of p).items) change in
    let same : is_accepted (value_of S (ops_of w)).state change ≡ false =
    ap (λ (v : Value). is_accepted v.state change) (sym holds.value) ∙ lacks in
    ap (λ (b : Bool). if b then Some op else None) same

-- where a world first becomes one that says the same, a call of a pass is one of the first
pub call_onward : (old mid new : World) (number : ℕ) (p : Pass) (call : Call)
    → Becomes old mid (world_of old) → slice_get old.passes.items number ≡ Some p
    → ((q : Pass) → slice_get mid.passes.items number ≡ Some q
    → Becomes mid new (called (settings_of mid.settings) (world_of mid) number (pass_of q) call))
    → Becomes old new (called (settings_of old.settings) (world_of old) number (pass_of p) call)
call_onward old mid new number p call first here onwards =
    let passes : map pass_of mid.passes.items ≡ map pass_of old.passes.items =
    ap (λ (w : WorldValue). w.passes) first.world in
    let found = map_get pass_of mid.passes.items number (pass_of p)
    (ap (λ (ps : List PassValue). slice_get ps number) passes ∙ there old number p here) in
    let made = onwards found.at found.here in
    let same : called (settings_of mid.settings) (world_of mid) number (pass_of found.at) call
    ≡ called (settings_of old.settings) (world_of old) number (pass_of p) call =
    ap (λ (s : SettingsValue). called s (world_of mid) number (pass_of found.at) call)
    first.settings
    ∙ (ap (λ (w : WorldValue). called (settings_of old.settings) w number (pass_of found.at) call)
    first.world ∙ ap (λ (v : PassValue). called (settings_of old.settings)
    (world_of old) number v call) found.same) in
    onward old mid new (called (settings_of old.settings) (world_of old) number (pass_of p) call)
    first (subst (λ (w : WorldValue). Becomes mid new w) same made)

-- two passes see all, one after the other
pub sees_both : (old mid new : World) (one other : ℕ) (p : Pass) → Holds old
    → slice_get old.passes.items one ≡ Some p → other < length old.passes.items
    → length mid.passes.items ≡ length old.passes.items
    → Becomes old mid (seeing (settings_of old.settings) (world_of old) one (pass_of p))
    → ((q : Pass) → slice_get mid.passes.items other ≡ Some q
    → Becomes mid new (seeing (settings_of mid.settings) (world_of mid) other (pass_of q)))
    → IsStep old new (meet one other) told.Nothing
sees_both old mid new one other p holds here within long first onwards =
    let S = settings_of old.settings in
    let w = world_of old in
    let b = present old.passes.items other within in
    let q = present mid.passes.items other (omega (arith, within, long)) in
    let made = onwards q.0 q.1 in
    let first_world = seeing S w one (pass_of p) in
    let stands : slice_get first_world.passes other ≡ Some (pass_of q.0) =
    ap (λ (v : WorldValue). slice_get v.passes other) (sym first.world) ∙ there mid other q.0 q.1 in
    let same : seeing (settings_of mid.settings) (world_of mid) other (pass_of q.0)
    ≡ seen_by S first_world other (slice_get first_world.passes other) =
    ap (λ (s : SettingsValue). seeing s (world_of mid) other (pass_of q.0)) first.settings
    ∙ (ap (λ (v : WorldValue). seeing S v other (pass_of q.0)) first.world
    ∙ ap (seen_by S first_world other) (sym stands)) in
    let whole : Becomes old new (seen_by S first_world other (slice_get first_world.passes other)) =
    let after = subst (λ (v : WorldValue). Becomes mid new v) same made in
    record {
      settings = after.settings ∙ first.settings;
      world = after.world;
      holds =
          after.holds;
    } in
    let both : meeting S w one other (slice_get w.passes one) (slice_get w.passes other)
    ≡ (seen_by S first_world other (slice_get first_world.passes other), nothing) =
    ap (λ (o : Option PassValue). meeting S w one other o (slice_get w.passes other))
    (there old one p here)
    ∙ ap (λ (o : Option PassValue). meeting S w one other (Some (pass_of p)) o)
    (there old other b.0 b.1) in
    let m = subst (λ (r : WorldValue × ToldValue). IsMade old new r nothing) (sym both)
    (whole, refl) in
    record { becomes = m.0; told_is = m.1 }

-- a pass is not there, so nobody meets
pub first_lacks : (old : World) (one other : ℕ) → Holds old → length old.passes.items ≤ one
    → IsStep old old (meet one other) told.Nothing
first_lacks old one other holds out =
    let S = settings_of old.settings in
    let w = world_of old in
    let both : meeting S w one other (slice_get w.passes one) (slice_get w.passes other)
    ≡ (w, nothing) = ap (λ (o : Option PassValue). meeting S w one other o
    (slice_get w.passes other)) (nowhere old one out) in
    let m = subst (λ (r : WorldValue × ToldValue). IsMade old old r nothing) (sym both)
    (stays old holds, refl) in
    record { becomes = m.0; told_is = m.1 }

second_none : (settings : SettingsValue) (w : WorldValue) (one other : ℕ) (o : Option PassValue)
    → meeting settings w one other o None ≡ (w, nothing)
second_none settings w one other None = refl
second_none settings w one other (Some p) = refl

pub second_lacks : (old : World) (one other : ℕ) → Holds old → length old.passes.items ≤ other
    → IsStep old old (meet one other) told.Nothing
second_lacks old one other holds out =
    let S = settings_of old.settings in
    let w = world_of old in
    let both : meeting S w one other (slice_get w.passes one) (slice_get w.passes other)
    ≡ (w, nothing) =
    ap (λ (o : Option PassValue). meeting S w one other (slice_get w.passes one) o)
    (nowhere old other out) ∙ second_none S w one other (slice_get w.passes one) in
    let m = subst (λ (r : WorldValue × ToldValue). IsMade old old r nothing) (sym both)
    (stays old holds, refl) in
    record { becomes = m.0; told_is = m.1 }

-- a run up to some step, and what is left of it
pub record IsRunning (settings : SettingsValue) (steps : List StepValue) (w : World)
    (said : List ToldValue) (ahead : List StepValue) (first : WorldValue) : Type 0 where
  pub same : settings_of w.settings ≡ settings
  pub holds : Holds w
  pub world : (run_from settings first steps).0 ≡ (run_from settings (world_of w) ahead).0
  pub told : (run_from settings first steps).1 ≡ said ++ (run_from settings (world_of w) ahead).1

pub runs_on : (settings : SettingsValue) (steps : List StepValue) (first : WorldValue)
    (w next : World) (s : StepValue) (ss : List StepValue) (said : List ToldValue) (said_now : Told)
    → IsRunning settings steps w said (s ∷ ss) first → IsStep w next s said_now
    → IsRunning settings steps next (said ++ told_value said_now ∷ []) ss first
runs_on settings steps first w next s ss said said_now r step =
    let world : world_of next ≡ (stepped settings (world_of w) s).0 =
    step.becomes.world ∙ ap (λ (x : SettingsValue). (stepped x (world_of w) s).0) r.same in
    let tells : told_value said_now ≡ (stepped settings (world_of w) s).1 =
    step.told_is ∙ ap (λ (x : SettingsValue). (stepped x (world_of w) s).1) r.same in
    record {
      same = step.becomes.settings ∙ r.same;
      holds = step.becomes.holds;
      world = r.world ∙ ap (λ (v : WorldValue). (run_from settings v ss).0) (sym world);
      told = r.told
          ∙ (ap (λ (t : ToldValue). said ++ t
          ∷ (run_from settings (stepped settings (world_of w) s).0 ss).1) (sym tells)
          ∙ (ap (λ (v : WorldValue). said ++ told_value said_now ∷ (run_from settings v ss).1)
          (sym world)
          ∙ sym (append_assoc said (told_value said_now ∷ [])
          (run_from settings (world_of next) ss).1)));
    }

pub ran_all : (settings : SettingsValue) (steps : List StepValue) (first : WorldValue) (w : World)
    (said : List ToldValue) → IsRunning settings steps w said [] first
    → (world_of w ≡ (run_from settings first steps).0) × (said ≡ (run_from settings first steps).1)
ran_all settings steps first w said r = (sym r.world, sym (r.told ∙ append-nil said))

pub starts_run : (settings : SettingsValue) (n : ℕ) (steps : List Step) (w : World)
    (so_far : List Told) → Holds w → settings_of w.settings ≡ settings
    → world_of w ≡ opening_world n → so_far ≡ []
    → IsRunning settings (map step_of steps) w (map told_value so_far) (map step_of (drop 0 steps))
    (opening_world n)
starts_run settings n steps w so_far holds same is none =
    record {
      same = same;
      holds = holds;
      world = ap (λ (v : WorldValue). (run_from settings v (map step_of steps)).0) (sym is);
      told = ap (λ (v : WorldValue). (run_from settings v (map step_of steps)).1) (sym is)
          ∙ ap (λ (xs : List Told). map told_value xs
          ++ (run_from settings (world_of w) (map step_of steps)).1) (sym none);
    }

from_place : {X : Type 0} (xs : List X) (i : ℕ) (x : X) → i < length xs → x ≡ get_or xs i x
    → drop i xs ≡ x ∷ drop (i + 1) xs
from_place [] i x within is = absurd (omega arith)
from_place (y ∷ ys) zero x within is = ap (λ z. z ∷ ys) (sym is)
from_place (y ∷ ys) (suc i) x within is =
    let e : suc i + 1 ≡ suc (i + 1) = omega arith in
    from_place ys i x (omega arith) is ∙ ap (λ m. x ∷ drop m (y ∷ ys)) (sym e)

-- one step more of those that are given
pub run_step : (settings : SettingsValue) (steps : List Step) (first : WorldValue) (w next : World)
    (i : ℕ) (s : Step) (said : Told) (so_far now : List Told) → i < length steps
    → s ≡ get_or steps i s
    → IsRunning settings (map step_of steps) w (map told_value so_far)
    (map step_of (drop i steps)) first → IsStep w next (step_of s) said → now ≡ so_far ++ said ∷ []
    → IsRunning settings (map step_of steps) next (map told_value now)
    (map step_of (drop (i + 1) steps)) first
run_step settings steps first w next i s said so_far now within is r step pushed =
    let ahead : map step_of (drop i steps) ≡ step_of s ∷ map step_of (drop (i + 1) steps) =
    ap (map step_of) (from_place steps i s within is) in
    let before = subst (λ (ss : List StepValue). IsRunning settings (map step_of steps) w
    (map told_value so_far) ss first) ahead r in
    let more : map told_value now ≡ map told_value so_far ++ told_value said ∷ [] =
    ap (map told_value) pushed ∙ map-append told_value so_far (said ∷ []) in
    subst (λ (ts : List ToldValue). IsRunning settings (map step_of steps) next ts
    (map step_of (drop (i + 1) steps)) first) (sym more)
    (runs_on settings (map step_of steps) first w next (step_of s)
    (map step_of (drop (i + 1) steps)) (map told_value so_far) said before step)

pub run_end : (settings : SettingsValue) (steps : List Step) (first : WorldValue) (w : World)
    (i : ℕ) (so_far : List Told) → length steps ≤ i
    → IsRunning settings (map step_of steps) w (map told_value so_far)
    (map step_of (drop i steps)) first
    → (world_of w ≡ (run_from settings first (map step_of steps)).0)
    × (map told_value so_far ≡ (run_from settings first (map step_of steps)).1)
run_end settings steps first w i so_far out r =
    ran_all settings (map step_of steps) first w (map told_value so_far)
    (subst (λ (ss : List Step). IsRunning settings (map step_of steps) w (map told_value so_far)
    (map step_of ss) first) (drop_all i steps out) r)

pub sound_at : (steps : List Step) (i : ℕ) (s : Step) → i < length steps → s ≡ get_or steps i s
    → All IsSoundStep (map step_of steps) → IsSoundStep (step_of s)
sound_at [] i s within is all = absurd (omega arith)
sound_at (y ∷ ys) zero s within is all =
    subst (λ (x : Step). IsSoundStep (step_of x)) (sym is)
    (All-head IsSoundStep (step_of y) (map step_of ys) all)
sound_at (y ∷ ys) (suc i) s within is all =
    sound_at ys i s (omega arith) is (All-tail IsSoundStep (step_of y) (map step_of ys) all)

-- whatever ran, it is one history, and what it comes to is what the world has
pub one_history : (settings : SettingsValue) (n : ℕ) (steps : List StepValue) (w : World)
    → world_of w ≡ (run_from settings (opening_world n) steps).0
    → IsOneHistory settings (world_of w)
one_history settings n steps w is =
    subst (λ (v : WorldValue). IsOneHistory settings v) (sym is)
    (every_schedule_is_one_history settings n steps)

pub comes_to : (settings : SettingsValue) (w : World) → Holds w → settings_of w.settings ≡ settings
    → value_in w ≡ value_of settings (ops_of w)
comes_to settings w holds same = holds.value
    ∙ ap (λ (s : SettingsValue). value_of s (ops_of w)) same
