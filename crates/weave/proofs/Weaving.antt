-- Generated schedules as they run.
use Rattle.std.proofs.Common.{◌≡◌, ◌≢◌, ◌==◌, Bool, true, false, lt-ltb, nat_lt, ℕ, suc, ◌+◌, ◌-◌}
use Rattle.std.proofs.Common.{◌/◌, ◌%◌, ◌<◌, ◌≤◌, List, [], ◌∷◌, refl, arith, ap, sym, ◌∙◌, subst}
use Rattle.std.proofs.lemmas.Bool.Decides.{Decides-eqb, nat_tests}
use Rattle.rand_core.specs.Pcg32Seed.{pcg32_seed}
use Rattle.rand_pcg.specs.Lcg.{Lcg}
use Rattle.rand_pcg.specs.Pcg.{pcg64, pcg64_of_seed}
use Rattle.machine.specs.Values.{SettingsValue, ChangeValue, AskValue}
use Rattle.machine.specs.Code.{settings_of}
use Rattle.router_log.specs.Operation.{place_of, kept_count}
use Rattle.weave.specs.declared.step.Told.{Told}
use Rattle.weave.specs.declared.world.World.{World}
use Rattle.weave.specs.Code.{told_value}
use Rattle.weave.specs.World.{WorldValue, StepValue, pick, publish, enter, answer, ToldValue}
use Rattle.weave.specs.World.{stepped, opening_world, run_from}
use Rattle.weave.specs.Held.{world_of, ops_of, Holds, IsStep}
use Rattle.turn_parts.specs.Parts.{drawn_ask, first_change}
use Rattle.weave.specs.Generated.{asking, turn_step, turn_by, turns_by, steps_of_seed, given_by}
use Rattle.weave.specs.Generated.{answers_given, weave_line, weave_of}

-- a generated run up to some step, and what is left of it
pub record IsWeaving (settings : SettingsValue) (steps : List StepValue) (first : WorldValue)
    (w : World) (looks : ℕ) (ahead : List StepValue) : Type 0 where
  pub same : settings_of w.settings ≡ settings
  pub holds : Holds w
  pub world : (run_from settings first steps).0 ≡ (run_from settings (world_of w) ahead).0
  pub looks_are : answers_given steps (run_from settings first steps).1
      ≡ looks + answers_given ahead (run_from settings (world_of w) ahead).1

pub weaves_on : (settings : SettingsValue) (steps : List StepValue) (first : WorldValue)
    (w next : World) (looks more : ℕ) (s : StepValue) (ss : List StepValue) (said : Told)
    → IsWeaving settings steps first w looks (s ∷ ss) → IsStep w next s said
    → more ≡ looks + given_by s (told_value said) → IsWeaving settings steps first next more ss
weaves_on settings steps first w next looks more s ss said r step counted =
    let world : world_of next ≡ (stepped settings (world_of w) s).0 =
    step.becomes.world ∙ ap (λ (x : SettingsValue). (stepped x (world_of w) s).0) r.same in
    let tells : told_value said ≡ (stepped settings (world_of w) s).1 =
    step.told_is ∙ ap (λ (x : SettingsValue). (stepped x (world_of w) s).1) r.same in
    let rest = answers_given ss (run_from settings (world_of next) ss).1 in
    let given : answers_given (s ∷ ss) (run_from settings (world_of w) (s ∷ ss)).1
    ≡ given_by s (told_value said) + rest =
    ap (λ (t : ToldValue). given_by s t + answers_given ss
    (run_from settings (stepped settings (world_of w) s).0 ss).1) (sym tells)
    ∙ ap (λ (v : WorldValue). given_by s (told_value said)
    + answers_given ss (run_from settings v ss).1) (sym world) in
    let looks_are = r.looks_are in
    record {
      same = step.becomes.settings ∙ r.same;
      holds = step.becomes.holds;
      world = r.world ∙ ap (λ (v : WorldValue). (run_from settings v ss).0) (sym world);
      looks_are = omega (arith, looks_are, given, counted);
    }

-- one turn is taken off what is ahead
pub one_turn : (n i : ℕ) (words next : Lcg) (s : StepValue) → i < n → (s, next) ≡ turn_by words
    → turns_by (n - i) words ≡ s ∷ turns_by (n - (i + 1)) next
one_turn n i words next s within drawn =
    let e : n - i ≡ suc (n - (i + 1)) = omega arith in
    ap (λ m. turns_by m words) e
    ∙ (ap (λ (p : StepValue × Lcg). p.0 ∷ turns_by (n - (i + 1)) p.1) (sym drawn))

pub no_turn : (n i : ℕ) (words : Lcg) → n ≤ i → turns_by (n - i) words ≡ []
no_turn n i words out = let e : n - i ≡ 0 = omega arith in ap (λ m. turns_by m words) e

-- the first change is made in a new world
pub begun : (settings : SettingsValue) (start w : World) (said : Told) (change : ChangeValue)
    → settings_of start.settings ≡ settings → world_of start ≡ opening_world 4
    → change ≡ first_change → IsStep start w (publish 0 change) said
    → world_of w ≡ (stepped settings (opening_world 4) (publish 0 first_change)).0
begun settings start w said change same is change_is step =
    step.becomes.world
    ∙ (ap (λ (s : SettingsValue). (stepped s (world_of start) (publish 0 change)).0) same
    ∙ (ap (λ (v : WorldValue). (stepped settings v (publish 0 change)).0) is
    ∙ ap (λ (c : ChangeValue). (stepped settings (opening_world 4) (publish 0 c)).0) change_is))

-- then all turns are ahead
pub first_turn : (settings : SettingsValue) (turns seed : ℕ) (w : World) (words : Lcg) → Holds w
    → settings_of w.settings ≡ settings
    → world_of w ≡ (stepped settings (opening_world 4) (publish 0 first_change)).0
    → words ≡ pcg64_of_seed (pcg32_seed 32 seed)
    → IsWeaving settings (steps_of_seed turns seed) (opening_world 4) w 0
    (turns_by (turns - 0) words)
first_turn settings turns seed w words holds same is words_are =
    let seeded = pcg64_of_seed (pcg32_seed 32 seed) in
    let all : turns - 0 ≡ turns = omega arith in
    let begins : IsWeaving settings (steps_of_seed turns seed) (opening_world 4) w 0
    (turns_by turns seeded) = record {
      same = same;
      holds = holds;
      world = ap (λ (v : WorldValue). (run_from settings v (turns_by turns seeded)).0) (sym is);
      looks_are = ap (λ (v : WorldValue). 0 + answers_given (turns_by turns seeded)
          (run_from settings v (turns_by turns seeded)).1) (sym is);
    } in
    subst (λ (ss : List StepValue). IsWeaving settings (steps_of_seed turns seed)
    (opening_world 4) w 0 ss)
    (sym (ap (λ m. turns_by m words) all ∙ ap (turns_by turns) words_are)) begins

-- a turn is drawn and made
pub turn_made : (settings : SettingsValue) (steps : List StepValue) (first : WorldValue)
    (w next : World) (looks more n i : ℕ) (words left : Lcg) (s : StepValue) (said : Told) → i < n
    → (s, left) ≡ turn_by words
    → IsWeaving settings steps first w looks (turns_by (n - i) words) → IsStep w next s said
    → more ≡ looks + given_by s (told_value said)
    → IsWeaving settings steps first next more (turns_by (n - (i + 1)) left)
turn_made settings steps first w next looks more n i words left s said within drawn r step counted =
    weaves_on settings steps first w next looks more s (turns_by (n - (i + 1)) left) said
    (subst (λ (ss : List StepValue). IsWeaving settings steps first w looks ss)
    (one_turn n i words left s within drawn) r) step counted

-- all turns are made, and the line says what they left
pub summed_up : (settings : SettingsValue) (n i seed : ℕ) (w : World) (looks place kept : ℕ)
    (words : Lcg) → n ≤ i → IsWeaving settings (steps_of_seed n seed) (opening_world 4) w looks
    (turns_by (n - i) words)
    → place ≡ place_of (ops_of w) → kept ≡ kept_count (ops_of w)
    → weave_line place looks kept ≡ weave_of settings n seed
summed_up settings n i seed w looks place kept words out r place_is kept_is =
    let done = subst (λ (ss : List StepValue). IsWeaving settings (steps_of_seed n seed)
    (opening_world 4) w looks ss) (no_turn n i words out) r in
    let steps = steps_of_seed n seed in
    let given : looks ≡ answers_given steps (run_from settings (opening_world 4) steps).1 = let e =
    done.looks_are in omega (arith, e) in
    ap (λ m. weave_line m looks kept) (place_is
    ∙ ap (λ (v : WorldValue). place_of v.ops) (sym done.world))
    ∙ (ap (λ m. weave_line (place_of (run_from settings (opening_world 4) steps).0.ops) m kept)
    given
    ∙ ap (λ m. weave_line (place_of (run_from settings (opening_world 4) steps).0.ops)
    (answers_given steps (run_from settings (opening_world 4) steps).1) m)
    (kept_is ∙ ap (λ (v : WorldValue). kept_count v.ops) (sym done.world)))

-- what a turn's word says is its step
pub drawn_turn : (word : ℕ) (words left rest : Lcg) (s : StepValue) → (word, left) ≡ pcg64 words
    → (s, rest) ≡ turn_step (word / 4 % 8) (word % 4) (word / 32 % 16) (word / 512 % 4096) left
    → (s, rest) ≡ turn_by words
unfolding turn_by
drawn_turn word words left rest s drawn is =
    is ∙ ap (λ (d : ℕ × Lcg). turn_step (d.0 / 4 % 8) (d.0 % 4) (d.0 / 32 % 16)
    (d.0 / 512 % 4096) d.1) drawn

-- a kind that is none of the first four is tested in vain for them
unlike : (a b : ℕ) → a ≢ b → (a == b) ≡ false
unlike a b other =
    let P : Bool → Type 0 = λ t. (a == b) ≡ t → t ≡ false in
    let each : P (a == b) = elim (a == b) as P
    [ true ↦ (λ has. absurd (other ((Decides-eqb a b).0 has))) | false ↦ (λ lacks. refl) ] in
    each refl

pub turn_asks : (kind pass s q : ℕ) (words left : Lcg) (ask : AskValue) → kind ≢ 0 → kind ≢ 1
    → kind ≢ 2 → kind ≢ 3 → kind < 6 → (ask, left) ≡ drawn_ask s 0 words
    → (enter pass (pick ask), left) ≡ turn_step kind pass s q words
turn_asks kind pass s q words left ask a b c d few drawn =
    let made : turn_step kind pass s q words ≡ asking pass (drawn_ask s 0 words) =
    rw (unlike kind 0 a, unlike kind 1 b, unlike kind 2 c, unlike kind 3 d, lt-ltb kind 6 few)
    refl in
    ap (asking pass) drawn ∙ sym made

pub turn_answers : (kind pass s q : ℕ) (words : Lcg) → kind ≢ 0 → kind ≢ 1 → kind ≢ 2 → kind ≢ 3
    → 6 ≤ kind → (answer pass, words) ≡ turn_step kind pass s q words
turn_answers kind pass s q words a b c d many =
    let later : nat_lt kind 6 ≡ false = grind (arith, nat_tests) in
    let made : turn_step kind pass s q words ≡ (answer pass, words) =
    rw (unlike kind 0 a, unlike kind 1 b, unlike kind 2 c, unlike kind 3 d, later) refl in
    sym made
