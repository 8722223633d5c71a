-- The names of a replica that is picked fit into the room that is set aside for them.
use Rattle.std.proofs.Common.{◌≡◌, ℕ, ◌≤◌, Bool, true, false, List, length, Option, Some, None, Bor}
use Rattle.std.proofs.Common.{sym, subst}
use Rattle.std.specs.Prelude.{option_map, IfSome}
use Rattle.name_tree.specs.Path.{canon_path}
use Rattle.addr_book.specs.Namer.{named_in}
use Rattle.addr_book.specs.declared.leaf.Leaf.{Leaf}
use Rattle.choose_core.specs.declared.mark.Limits.{Limits}
use Rattle.choose_core.specs.Branch.{chosen}
use Rattle.bind_core.specs.Delegation.{Ending, negative, failing, no_replica, too_deep, too_wide}
use Rattle.bind_core.specs.Delegation.{bound, IfBound}
use Rattle.machine.specs.declared.candidates.Taken.{Taken}
use Rattle.machine.specs.Looking.{effective}
use Rattle.machine.specs.Values.{SettingsValue, StateValue, AskValue, PickValue, replica, none}
use Rattle.machine.specs.Choosing.{Between, Offer, either, neither, some_offer, between_of}
use Rattle.machine.specs.Choosing.{offer_at, offer_of, ending_in, taken_of, is_first_taken, pick_at}
use Rattle.machine.specs.Choosing.{pick_of}
use Rattle.router.specs.declared.choosing.Decision.{Decision}
use Rattle.router.specs.declared.choosing.Decision.TheVariants as decision
use Rattle.router.specs.Chosen.{IsPermitted, decision_value}
use Rattle.router.specs.Short.{IsShort}
use Rattle.router.proofs.Short.{AllShort, named_in-short, outcome_short, chosen_short}

abbrev OfferShort : Offer → Type 0
OfferShort (either pair) = IsShort pair.leaf
OfferShort (neither why) = Unit {0}

abbrev pub PickShort : PickValue → Type 0
PickShort (replica r) = (length (canon_path r.client) ≤ 2048)
    × (length (canon_path r.residual) ≤ 2048)
PickShort (none why) = Unit {0}

some_short : (state : StateValue) (limits : Limits) (ask : AskValue) (o : Option Leaf)
    → IfSome o IsShort → OfferShort (some_offer (option_map (between_of state limits ask) o))
some_short state limits ask None h = tt
some_short state limits ask (Some l) h = h

offer_short : (state : StateValue) (limits : Limits) (ask : AskValue) (e : Ending)
    → IfBound AllShort e → OfferShort (offer_at state limits ask e)
offer_short state limits ask negative h = tt
offer_short state limits ask failing h = tt
offer_short state limits ask no_replica h = tt
offer_short state limits ask too_deep h = tt
offer_short state limits ask too_wide h = tt
offer_short state limits ask (bound found) h =
    some_short state limits ask (chosen state.book.services found ask.branch_word)
    (chosen_short state.book.services found ask.branch_word h)

taken_short : (pair : Between) (b : Bool) → IsShort pair.leaf
    → PickShort (replica (taken_of pair b))
taken_short pair true h = (h.client, h.residual)
taken_short pair false h = (h.client, h.residual)

pick_at-short : (first second : ℕ) (o : Offer) → OfferShort o → PickShort (pick_at first second o)
pick_at-short first second (either pair) h = taken_short pair (is_first_taken first second pair) h
pick_at-short first second (neither why) h = tt

pub pick_short : (settings : SettingsValue) (state : StateValue) (ask : AskValue)
    (first second : ℕ) → PickShort (pick_of settings state ask first second)
pick_short settings state ask first second =
    pick_at-short first second (offer_of settings state ask)
    (offer_short state settings.limits ask (ending_in settings state ask)
    (outcome_short (effective settings state ask.own) (named_in state.book) ask.path
    (named_in-short state.book)))

pub leaf_short : (d : Decision) (taken : Taken) (leaf : Bor Leaf)
    (first second : ℕ) {settings : SettingsValue} {state : StateValue} {ask : AskValue}
    {before after : List (ℕ × ℕ)} {loads : ℕ × ℕ} → d ≡ decision.Taken taken leaf first second
    → IsPermitted settings state ask before after loads (decision_value d) → IsShort leaf.now
leaf_short d taken leaf first second {settings} {state} {ask} {before} {after} {loads} is
    permitted =
    let short : PickShort (decision_value d) =
    subst PickShort (sym permitted.permitted) (pick_short settings state ask loads.0 loads.1) in
    let h : PickShort (decision_value (decision.Taken taken leaf first second)) =
    subst (λ (x : Decision). PickShort (decision_value x)) is short in
    record { client = h.0; residual = h.1 }
