-- The delegation that a pick brings along, and how a pick that had no memory leaves its pass.
use Rattle.std.proofs.Common.{◌≡◌, ℕ, List, [], Option, Some, None, Result, Ok, Err, subst, sym}
use Rattle.std.proofs.Common.{◌∙◌, arith}
use Rattle.std.specs.Prelude.{IfOk, OnErr, IfSome}
use Rattle.std.proofs.lemmas.List.{append-nil}
use mathlib.Core.List.{IsPrefix}
use Rattle.bind_cache.specs.Stored.{kept_of}
use Rattle.bind_cache.specs.declared.binding.Binding.{Binding}
use Rattle.machine.specs.Choosing.{offer_of}
use Rattle.machine.specs.Values.{SettingsValue, AskValue}
use Rattle.router_log.specs.Call.{asked}
use Rattle.router_log.specs.Operation.{Operation, place_of}
use Rattle.router_log.specs.Value.{value_of}
use Rattle.router.specs.declared.answer.Answer.{Answer}
use Rattle.router.specs.declared.answer.Answer.TheVariants as answer
use Rattle.router.specs.Asking.{Picks}
use Rattle.router.specs.declared.naming.Naming.{Ghosts}
use Rattle.router.specs.declared.pass.Pass.{Pass}
use Rattle.router.specs.Loads.{MayHaveRead}
use Rattle.router.specs.Passes.{seen_in, reads_in, taken_in, slot_in, Entered}
use Rattle.router.specs.Picked.{IsAnswer, IsFresh, IsWorkedOut, fresh_by}
use Rattle.router.specs.Views.{settings_by, seen_by}
use Rattle.router.specs.Views as views
use Rattle.router.proofs.Readers.{prefix_length}

-- it was worked out in a state that is seen
abbrev WorkedOutIn : SettingsValue → List Operation → Binding → Type 0
WorkedOutIn settings seen b = (ops : List Operation) × IsPrefix ops seen
    × IsWorkedOut settings (value_of settings ops).state (kept_of b)

fresh_case : (settings : SettingsValue) (seen : List Operation) (ask : AskValue)
    (o : Option Binding) → IsFresh settings (value_of settings seen) ask o
    → IfSome o (WorkedOutIn settings seen)
fresh_case settings seen ask None h = tt
fresh_case settings seen ask (Some b) h = (seen, ([], append-nil seen), h.2)

answer_case : {E : Type 0} (settings : SettingsValue) (seen : List Operation) (r : Result Answer E)
    (place : ℕ) (ask : AskValue) (before after : List (ℕ × ℕ))
    → IfOk r (IsAnswer settings (value_of settings seen) place ask before after)
    → IfOk r (λ a. IfSome (fresh_by a) (WorkedOutIn settings seen))
answer_case settings seen (Ok a) place ask before after is =
    fresh_case settings seen ask (fresh_by a) is.fresh
answer_case settings seen (Err e) place ask before after is = tt

pub fresh_worked_out : {E : Type 0} (told settings : SettingsValue) (seen : List Operation)
    (r : Result Answer E) (place : ℕ) (ask : AskValue) (before after : List (ℕ × ℕ))
    → told ≡ settings
    → IfOk r (IsAnswer told (value_of told seen) place ask before after)
    → IfOk r (λ a. IfSome (fresh_by a) (WorkedOutIn settings seen))
fresh_worked_out told settings seen r place ask before after same is =
    answer_case settings seen r place ask before after
    (subst (λ (s : SettingsValue). IfOk r (IsAnswer s (value_of s seen) place ask before after))
    same is)

-- what stands at a fault
pub both_err : {A E : Type 0} (r : Result A E) (X Y : Type 0) → X → OnErr r Y → OnErr r (X × Y)
both_err (Ok a) X Y x y = tt
both_err (Err e) X Y x y = (x, y)

pub read_by_name : {A E : Type 0} (told settings : SettingsValue) (seen : List Operation)
    (r : Result A E) (ask : AskValue) (before after : List (ℕ × ℕ)) → told ≡ settings
    → OnErr r (MayHaveRead (offer_of told (value_of told seen).state ask) before after)
    → OnErr r (MayHaveRead (offer_of settings (value_of settings seen).state ask) before after)
read_by_name told settings seen r ask before after same is =
    subst (λ (s : SettingsValue). OnErr r
    (MayHaveRead (offer_of s (value_of s seen).state ask) before after)) same is

-- a pass whose reader entered for an ask
module _ {J : Type 0} {g : Ghosts J} where
  pub asked_entered : (old new : Pass J g) (ask : AskValue)
      → views.Entered old.reader new.reader (asked ask) → new.made ≡ old.made → new.kept ≡ old.kept
      → taken_in new ≡ taken_in old → slot_in new ≡ slot_in old
      → Entered old new (asked ask)
  asked_entered old new ask e made kept taken slot = record {
    called = record {
      before = e.before;
      item = e.item;
      late = prefix_length (seen_in old) (seen_in new) e.before;
      within = omega arith;
      stands = λ op found. absurd cc;
    };
    made = sym new.stands.made_is ∙ (made ∙ old.stands.made_is);
    kept = sym new.stands.kept_is ∙ (kept ∙ old.stands.kept_is);
    refusals = e.refused;
    taken = taken;
    slot = slot;
  }

  picks_case : (old new : Pass J g) (ask : AskValue) (a : Answer) → Entered old new (asked ask)
      → IsAnswer g.settings (value_of g.settings (seen_in new)) (place_of (seen_in new)) ask
      (reads_in old) (reads_in new) a
      → Picks old new ask a
  picks_case old new ask (answer.Picked choice client residual fresh) entered is =
      record { entered = entered; answer = is }
  picks_case old new ask (answer.None why place fresh) entered is =
      record { entered = entered; answer = is }
  picks_case old new ask answer.NoEntry entered is = absurd (cc is.let_in)

  -- where it was answered, and did not lack memory, it is a pick
  pub picks_by : {E : Type 0} (old new : Pass J g) (ask : AskValue) (told : SettingsValue)
      (r : Result Answer E) (place : ℕ) → told ≡ g.settings → place ≡ place_of (seen_in new)
      → Entered old new (asked ask)
      → IfOk r (IsAnswer told (value_of told (seen_in new)) place ask (reads_in old)
      (reads_in new)) → IfOk r (Picks old new ask)
  picks_by old new ask told (Ok a) place same at entered is =
      picks_case old new ask a entered
      (subst (λ (n : ℕ). IsAnswer g.settings (value_of g.settings (seen_in new)) n ask
      (reads_in old) (reads_in new) a) at
      (subst (λ (s : SettingsValue). IsAnswer s (value_of s (seen_in new)) place ask (reads_in old)
      (reads_in new) a) same is))
  picks_by old new ask told (Err e) place same at entered is = tt
