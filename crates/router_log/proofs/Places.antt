-- What operations come to, one after another.
use Rattle.std.proofs.Common.{◌≡◌, ℕ, ◌+◌, true, List, [], ◌∷◌, ◌++◌, length, refl, arith, ap, ◌∙◌}
use Rattle.std.specs.Prelude.{fold, filter}
use Rattle.std.proofs.lemmas.List.Sums.{fold-append}
use Rattle.std.proofs.lemmas.List.Elements.{filter-append}
use Rattle.std.proofs.lemmas.List.{length-append}
use Rattle.machine.specs.Values.{SettingsValue, StateValue, ChangeValue, create, put, delete}
use Rattle.machine.specs.Values.{set_addrs, drop_service, report}
use Rattle.machine.specs.State.{is_accepted, changed as changed_state}
use Rattle.router_log.specs.Operation.{Operation, changed, kept, is_change, place_of}
use Rattle.router_log.specs.Value.{Value, applied, value_of, opening_value, Fits, AllFit}

-- one operation more
pub value_push : (settings : SettingsValue) (ops : List Operation) (op : Operation)
    → value_of settings (ops ++ op ∷ []) ≡ applied settings (value_of settings ops) op
value_push settings ops op = fold-append (applied settings) opening_value ops (op ∷ [])

-- operations that fit stay so with one more that fits what they come to
pub fit_push : (settings : SettingsValue) (value : Value) (ops : List Operation) (op : Operation)
    → AllFit settings value ops → Fits settings (fold (applied settings) value ops) op
    → AllFit settings value (ops ++ op ∷ [])
fit_push settings value [] op all fits = (fits, tt)
fit_push settings value (first ∷ ops) op all fits =
    (all.0, fit_push settings (applied settings value first) ops op all.1 fits)

-- and so do those at their front
pub fit_front : (settings : SettingsValue) (value : Value) (ops more : List Operation)
    → AllFit settings value (ops ++ more) → AllFit settings value ops
fit_front settings value [] more all = tt
fit_front settings value (first ∷ ops) more all =
    (all.0, fit_front settings (applied settings value first) ops more all.1)

pub fit_rest : (settings : SettingsValue) (value : Value) (ops more : List Operation)
    → AllFit settings value (ops ++ more) → AllFit settings (fold (applied settings) value ops) more
fit_rest settings value [] more all = all
fit_rest settings value (first ∷ ops) more all =
    fit_rest settings (applied settings value first) ops more all.1

-- what an accepted change leaves is one place on
changed_place : (settings : SettingsValue) (state : StateValue) (change : ChangeValue)
    → (changed_state settings state change).place ≡ state.place + 1
changed_place settings state (create name rules) = refl
changed_place settings state (put name expected rules) = refl
changed_place settings state (delete name expected) = refl
changed_place settings state (set_addrs service list) = refl
changed_place settings state (drop_service service) = refl
changed_place settings state (report addr good moment) = refl

-- an accepted change leaves what it leaves
pub applied_change : (settings : SettingsValue) (value : Value) (caller serial : ℕ)
    (change : ChangeValue) → is_accepted value.state change ≡ true
    → (applied settings value (changed caller serial change)).state
    ≡ changed_state settings value.state change
applied_change settings value caller serial change is = rw is refl

-- the state's place is the number of changes
place_from : (settings : SettingsValue) (value : Value) (ops : List Operation)
    → AllFit settings value ops → (fold (applied settings) value ops).state.place
    ≡ value.state.place + place_of ops
place_from settings value [] all = omega arith
place_from settings value (changed caller serial change ∷ ops) all =
    let next = applied settings value (changed caller serial change) in
    let rest = place_from settings next ops all.1 in
    let here : next.state.place ≡ value.state.place + 1 =
    ap (λ (s : StateValue). s.place) (applied_change settings value caller serial change all.0)
    ∙ changed_place settings value.state change in
    omega (arith, rest, here)
place_from settings value (kept caller serial k ∷ ops) all =
    place_from settings (applied settings value (kept caller serial k)) ops all.1

pub place_is : (settings : SettingsValue) (ops : List Operation)
    → AllFit settings opening_value ops → (value_of settings ops).state.place ≡ place_of ops
place_is settings ops all = let p = place_from settings opening_value ops all in omega (arith, p)

-- operations without a change leave the state
no_change : (settings : SettingsValue) (value : Value) (ops : List Operation) → place_of ops ≡ 0
    → (fold (applied settings) value ops).state ≡ value.state
no_change settings value [] none = refl
no_change settings value (changed caller serial change ∷ ops) none = absurd (omega (arith, none))
no_change settings value (kept caller serial k ∷ ops) none =
    no_change settings (applied settings value (kept caller serial k)) ops none

place_more : (ops more : List Operation) → place_of (ops ++ more) ≡ place_of ops + place_of more
place_more ops more = ap length (filter-append is_change ops more)
    ∙ length-append (filter is_change ops) (filter is_change more)

-- what stands at one place has one state, whatever was kept meanwhile
pub same_place : (settings : SettingsValue) (ops more : List Operation)
    → place_of (ops ++ more) ≡ place_of ops → (value_of settings (ops ++ more)).state
    ≡ (value_of settings ops).state
same_place settings ops more is =
    let none : place_of more ≡ 0 = omega (arith, place_more ops more, is) in
    ap (λ (v : Value). v.state) (fold-append (applied settings) opening_value ops more)
    ∙ no_change settings (value_of settings ops) more none
