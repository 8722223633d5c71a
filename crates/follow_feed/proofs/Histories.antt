-- The changes of a router's history.
use Rattle.std.proofs.Common.{◌≡◌, ℕ, suc, length, take, List, [], ◌∷◌, ◌++◌, Bool, true, false}
use Rattle.std.proofs.Common.{refl, ap, sym, ◌∙◌}
use Rattle.std.specs.Prelude.{fold, if◌then◌else◌}
use Rattle.std.specs.FinMap.{get}
use Rattle.machine.specs.State.{after, is_accepted, opening}
use Rattle.machine.specs.Values.{ChangeValue, SettingsValue, StateValue}
use Rattle.router_log.specs.Operation.{Operation, changed, kept, place_of}
use Rattle.router_log.specs.Value.{Value, applied, opening_value, untouched_by, value_of}
use Rattle.follow_feed.specs.Feeds.{changes_in, feed_of, run_of}

pub place_is_length : (ops : List Operation) → place_of ops ≡ length (changes_in ops)
place_is_length [] = refl
place_is_length (changed caller serial change ∷ ops) = ap (λ n. suc n) (place_is_length ops)
place_is_length (kept caller serial k ∷ ops) = place_is_length ops

changes-append : (ops more : List Operation) → changes_in (ops ++ more)
    ≡ changes_in ops ++ changes_in more
changes-append [] more = refl
changes-append (changed caller serial change ∷ ops) more =
    ap (λ l. change ∷ l) (changes-append ops more)
changes-append (kept caller serial k ∷ ops) more = changes-append ops more

take_front : (cs ds : List ChangeValue) → take (length cs) (cs ++ ds) ≡ cs
take_front [] ds = refl
take_front (c ∷ cs) ds = ap (λ l. c ∷ l) (take_front cs ds)

take_whole : (cs : List ChangeValue) → take (length cs) cs ≡ cs
take_whole [] = refl
take_whole (c ∷ cs) = ap (λ l. c ∷ l) (take_whole cs)

-- the first changes of a history, as many as some operations have
pub first_changes : (ops more : List Operation) → take (place_of ops) (changes_in (ops ++ more))
    ≡ changes_in ops
first_changes ops more =
    rw (place_is_length ops, changes-append ops more)
    (take_front (changes_in ops) (changes_in more))

pub all_changes : (ops : List Operation) → take (place_of ops) (changes_in ops) ≡ changes_in ops
all_changes ops = rw (place_is_length ops) (take_whole (changes_in ops))

pub stays : (number : ℕ) (settings : SettingsValue) (ops more : List Operation) (space : List ℕ)
    → feed_of (run_of number settings (ops ++ more)) (place_of ops) space
    ≡ feed_of (run_of number settings ops) (place_of ops) space
stays number settings ops more space =
    let same : take (place_of ops) (changes_in (ops ++ more))
    ≡ take (place_of ops) (changes_in ops) =
    first_changes ops more ∙ sym (all_changes ops) in
    ap (λ (cs : List ChangeValue). record {
      run = number;
      place = place_of ops;
      table = get (fold (after settings) opening cs).store.spaces space;
    }) same

-- an operation moves the state as its change does, if it is one
state_moved : (settings : SettingsValue) (value : Value) (caller serial : ℕ) (change : ChangeValue)
    → (applied settings value (changed caller serial change)).state
    ≡ after settings value.state change
state_moved settings value caller serial change = by (is_accepted value.state change) refl
  where
    by : (b : Bool) → is_accepted value.state change ≡ b
        → (if b then record {
          state = after settings value.state change;
          cache =
              untouched_by settings value.state (after settings value.state change) change
              value.cache;
        } else value).state
        ≡ after settings value.state change
    by true e = refl
    by false e = rw e refl

state_folded : (settings : SettingsValue) (value : Value) (ops : List Operation)
    → (fold (applied settings) value ops).state ≡ fold (after settings) value.state (changes_in ops)
state_folded settings value [] = refl
state_folded settings value (changed caller serial change ∷ ops) =
    state_folded settings (applied settings value (changed caller serial change)) ops
    ∙ ap (λ (s : StateValue). fold (after settings) s (changes_in ops))
    (state_moved settings value caller serial change)
state_folded settings value (kept caller serial k ∷ ops) =
    state_folded settings (applied settings value (kept caller serial k)) ops

-- the state of a router is that behind all its changes
pub state_is : (settings : SettingsValue) (ops : List Operation)
    → (value_of settings ops).state ≡ fold (after settings) opening (changes_in ops)
state_is settings ops = state_folded settings opening_value ops
