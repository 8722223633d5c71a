-- What the state and the cache of a world say of a pick.
use Rattle.std.proofs.Common.{◌≡◌, ℕ, ◌^◌, ◌-◌, Bool, true, false, List, [], ◌∷◌, ◌++◌, Some, None}
use Rattle.std.proofs.Common.{Option, refl, ap, sym, ◌∙◌, subst, min}
use Rattle.std.specs.Prelude.{All, is_none, if◌then◌else◌}
use Rattle.std.proofs.lemmas.List.Elements.{All-head, All-tail}
use Rattle.name_tree.specs.Path.{Labels}
use Rattle.dtab_table.specs.Rules.{Rule}
use Rattle.addr_book.specs.Namer.{named_in}
use Rattle.bind_core.specs.Delegation.{Ending, Names, outcome_of, cost_of, kept_asked}
use Rattle.bind_core.specs.Outcome.{ending_of, IsDelegated}
use Rattle.bind_core.specs.declared.outcome.Delegated.{Delegated}
use Rattle.bind_core.specs.declared.outcome.Wanted.TheVariants.{Asked as WantedAsked}
use Rattle.bind_cache.specs.Kept.{Kept, IsRight, is_key}
use Rattle.bind_cache.specs.Sizes.{text_bytes}
use Rattle.bind_cache.specs.Cache.{AreRight, found_in}
use Rattle.bind_cache.specs.Bindings.{bindings_of}
use Rattle.bind_cache.proofs.Same.{is_key-Decides}
use Rattle.machine.specs.Values.{SettingsValue, StateValue, ChangeValue, AskValue, LookValue}
use Rattle.machine.specs.Values.{ReplyValue, ChosenValue}
use Rattle.machine.specs.Code.{settings_of, state_of}
use Rattle.machine.specs.State.{reply_of}
use Rattle.machine.specs.Looking.{effective, look_of}
use Rattle.machine.specs.Choosing.{pick_of, chosen_of, ending_in}
use Rattle.router_log.specs.Operation.{place_of}
use Rattle.router_log.specs.Value.{Value, value_of, standing_rules, IsRightValue}
use Rattle.router_log.specs.Call.{asked, looked, changing}
use Rattle.router_log.proofs.Places.{place_is}
use Rattle.router_log.proofs.Right.{values_right}
use Rattle.weave.specs.declared.world.World.{World}
use Rattle.weave.specs.World.{reply, chosen, delegation_in, answer_of, fresh_of}
use Rattle.weave.specs.Held.{ops_of, Holds}

-- what is found in a cache that is right is what the delegation comes to
pub found_right : (rules : List Rule) (names : Names) (ks : List Kept) (path : Labels)
    (own : List Rule) (e : Ending) → All (IsRight rules names) ks → found_in ks path own ≡ Some e
    → e ≡ outcome_of (rules ++ own) names path
found_right rules names [] path own e right h = absurd (cc)
found_right rules names (k ∷ ks) path own e right h =
    let here = All-head (IsRight rules names) k ks right in
    let P : Bool → Type 0 = λ b. is_key path own k ≡ b
    → (if b then Some k.ending else found_in ks path own) ≡ Some e
    → e ≡ outcome_of (rules ++ own) names path in
    let each : P (is_key path own k) =
    elim (is_key path own k) as P [
      | true ↦ (λ has is.
          let same = (is_key-Decides path own k).0 has in
          let it : k.ending ≡ e = cc in
          sym it ∙ (here.ending
          ∙ (ap (λ (rs : List Rule). outcome_of (rules ++ rs) names k.path) (sym same.1)
          ∙ ap (outcome_of (rules ++ own) names) (sym same.0))))
      | false ↦ (λ lacks is. found_right rules names ks path own e
          (All-tail (IsRight rules names) k ks right) is)
    ] in
    each refl h

module _ (w : World) (holds : Holds w) where
  abbrev S : SettingsValue
  S = settings_of w.settings

  right_now : AreRight (standing_rules S (state_of w.state)) (named_in (state_of w.state).book)
      (bindings_of w.cache)
  right_now = subst (λ (v : Value). IsRightValue S v) (sym holds.value)
      (values_right S (ops_of w) holds.world.fit)

  state_is : state_of w.state ≡ (value_of S (ops_of w)).state
  state_is = ap (λ (v : Value). v.state) holds.value

  place_now : (state_of w.state).place ≡ place_of (ops_of w)
  place_now = ap (λ (s : StateValue). s.place) state_is ∙ place_is S (ops_of w) holds.world.fit

  -- a cached outcome is that of the state
  pub cached_ending : (ask : AskValue) (e : Ending)
      → Some e ≡ found_in (bindings_of w.cache) ask.path ask.own
      → e ≡ ending_in S (state_of w.state) ask
  cached_ending ask e h = found_right (standing_rules S (state_of w.state))
      (named_in (state_of w.state).book) (bindings_of w.cache) ask.path ask.own e right_now.right
      (sym h)

  pub pick_told : (ask : AskValue) (place : ℕ) (said : ChosenValue)
      → place ≡ (state_of w.state).place → said ≡ chosen_of (pick_of S (state_of w.state) ask 0 0)
      → chosen place said ≡ answer_of S (ops_of w) (asked ask)
  pick_told ask place said at is =
      ap (λ n. chosen n said) (at ∙ place_now)
      ∙ ap (chosen (place_of (ops_of w)))
      (is ∙ ap (λ (s : StateValue). chosen_of (pick_of S s ask 0 0)) state_is)

  pub look_told : (l : LookValue) (place : ℕ) (said : ReplyValue)
      → place ≡ (state_of w.state).place → said ≡ look_of S (state_of w.state) l
      → reply place said ≡ answer_of S (ops_of w) (looked l)
  look_told l place said at is =
      ap (λ n. reply n said) (at ∙ place_now)
      ∙ ap (reply (place_of (ops_of w))) (is ∙ ap (λ (s : StateValue). look_of S s l) state_is)

  pub change_told : (change : ChangeValue) (place : ℕ) (said : ReplyValue)
      → place ≡ (state_of w.state).place → said ≡ reply_of S (state_of w.state) change
      → reply place said ≡ answer_of S (ops_of w) (changing change)
  change_told change place said at is =
      ap (λ n. reply n said) (at ∙ place_now)
      ∙ ap (reply (place_of (ops_of w))) (is
      ∙ ap (λ (s : StateValue). reply_of S s change) state_is)

  pub place_told : (n : ℕ) → n ≡ (state_of w.state).place → n ≡ place_of (ops_of w)
  place_told n is = is ∙ place_now

  cache_is : bindings_of w.cache ≡ (value_of S (ops_of w)).cache
  cache_is = ap (λ (v : Value). v.cache) holds.value

  pub nothing_fresh : (ask : AskValue) (e : Ending)
      → Some e ≡ found_in (bindings_of w.cache) ask.path ask.own
      → None ≡ fresh_of S (ops_of w) (asked ask)
  nothing_fresh ask e h =
      let there : found_in (value_of S (ops_of w)).cache ask.path ask.own ≡ Some e =
      ap (λ (ks : List Kept). found_in ks ask.path ask.own) (sym cache_is) ∙ sym h in
      sym (ap (λ (o : Option Ending). if is_none o then Some
      (delegation_in S (value_of S (ops_of w)).state ask.path ask.own) else None) there)

  pub some_fresh : (ask : AskValue) (k : Kept) → found_in (bindings_of w.cache) ask.path ask.own
      ≡ None → k ≡ delegation_in S (state_of w.state) ask.path ask.own
      → Some k ≡ fresh_of S (ops_of w) (asked ask)
  some_fresh ask k none is =
      let lacks : found_in (value_of S (ops_of w)).cache ask.path ask.own ≡ None =
      ap (λ (ks : List Kept). found_in ks ask.path ask.own) (sym cache_is) ∙ none in
      ap Some (is ∙ ap (λ (s : StateValue). delegation_in S s ask.path ask.own) state_is)
      ∙ sym (ap (λ (o : Option Ending). if is_none o then Some
      (delegation_in S (value_of S (ops_of w)).state ask.path ask.own) else None) lacks)

  -- what was worked out is the delegation in the state
  pub worked_out : (path : Labels) (own : List Rule) (d : Delegated) (k : Kept) (place : ℕ)
      → IsDelegated (effective S (state_of w.state) own)
      (named_in (state_of w.state).book) path WantedAsked d
      → k ≡ record {
        path = path;
        local = own;
        ending = ending_of d.outcome;
        cost = d.cost;
        asked =
            d.asked;
        bytes = min (text_bytes path own d.asked) (2 ^ 64 - 1);
        place = place;
      } → place ≡ (state_of w.state).place
      → k ≡ delegation_in S (state_of w.state) path own
  worked_out path own d k place is made at =
      let make : Ending → ℕ → List Labels → ℕ → Kept =
      λ ending cost asked place. record {
        path = path;
        local = own;
        ending = ending;
        cost = cost;
        asked = asked;
        bytes = min (text_bytes path own asked) (2 ^ 64 - 1);
        place = place;
      } in
      made
      ∙ (ap (λ (e : Ending). make e d.cost d.asked place) is.outcome
      ∙ (ap (λ n. make (outcome_of (effective S (state_of w.state) own)
      (named_in (state_of w.state).book) path) n d.asked place) is.cost
      ∙ (ap (λ (ps : List Labels).
      make (outcome_of (effective S (state_of w.state) own)
      (named_in (state_of w.state).book) path)
      (cost_of (effective S (state_of w.state) own) (named_in (state_of w.state).book) path) ps
      place) is.asked
      ∙ ap (make (outcome_of (effective S (state_of w.state) own)
      (named_in (state_of w.state).book) path)
      (cost_of (effective S (state_of w.state) own) (named_in (state_of w.state).book) path)
      (kept_asked (effective S (state_of w.state) own) (named_in (state_of w.state).book) path))
      at)))
