-- What is kept for a path and a request's own rules is what a full delegation gives.
use Rattle.std.proofs.Common.{◌≡◌, Bool, true, false, List, [], ◌∷◌, ◌++◌, Option, Some, refl, ap}
use Rattle.std.proofs.Common.{sym, ◌∙◌}
use Rattle.std.specs.Prelude.{All, if◌then◌else◌}
use Rattle.std.proofs.lemmas.List.Elements.{All-head, All-tail}
use Rattle.name_tree.specs.Path.{Labels}
use Rattle.dtab_table.specs.Rules.{Rule}
use Rattle.addr_book.specs.Namer.{named_in}
use Rattle.bind_core.specs.Delegation.{Ending, Names, outcome_of}
use Rattle.machine.specs.Values.{SettingsValue, AskValue}
use Rattle.machine.specs.Choosing.{ending_in}
use Rattle.bind_cache.specs.Kept.{Kept, IsRight, is_key}
use Rattle.bind_cache.specs.Cache.{found_in}
use Rattle.bind_cache.proofs.Same.{is_key-Decides}
use Rattle.router_log.specs.Value.{Value, IsRightValue, standing_rules}

key_case : (rules : List Rule) (names : Names) (k : Kept) (rest : Option Ending) (path : Labels)
    (local : List Rule) (e : Ending) → IsRight rules names k
    → (rest ≡ Some e → e ≡ outcome_of (rules ++ local) names path) → (t : Bool)
    → is_key path local k ≡ t → (if t then Some k.ending else rest) ≡ Some e
    → e ≡ outcome_of (rules ++ local) names path
key_case rules names k rest path local e right others true is found =
    let same = (is_key-Decides path local k).0 is in
    let here : k.ending ≡ e = cc in
    sym here ∙ (right.ending
    ∙ sym (ap (λ (l : List Rule). outcome_of (rules ++ l) names path) same.1
    ∙ ap (λ (p : Labels). outcome_of (rules ++ k.local) names p) same.0))
key_case rules names k rest path local e right others false is found = others found

pub found_ending : (rules : List Rule) (names : Names) (ks : List Kept)
    → All (IsRight rules names) ks → (path : Labels) (local : List Rule) (e : Ending)
    → found_in ks path local ≡ Some e → e ≡ outcome_of (rules ++ local) names path
found_ending rules names [] all path local e is = absurd cc
found_ending rules names (k ∷ ks) all path local e is =
    key_case rules names k (found_in ks path local) path local e
    (All-head (IsRight rules names) k ks all)
    (found_ending rules names ks (All-tail (IsRight rules names) k ks all) path local e)
    (is_key path local k) refl is

-- so it is in a value whose kept delegations are right
pub kept_ending : (settings : SettingsValue) (value : Value) (ask : AskValue) (e : Ending)
    → IsRightValue settings value → found_in value.cache ask.path ask.own ≡ Some e
    → e ≡ ending_in settings value.state ask
kept_ending settings value ask e right found =
    found_ending (standing_rules settings value.state)
    (named_in value.state.book) value.cache right.right ask.path ask.own e found
