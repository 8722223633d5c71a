-- What was read of the loads for a pick that was not answered.
use Rattle.std.proofs.Common.{◌≡◌, ℕ, List, [], sym, ◌∙◌, Result, Ok, Err, ap, subst}
use Rattle.std.specs.Prelude.{OnErr}
use Rattle.std.proofs.lemmas.List.{append-nil}
use mathlib.Core.Logic.{inl, inr}
use mathlib.Core.List.{IsPrefix}
use Rattle.machine.specs.Choosing.{Offer, offer_of}
use Rattle.machine.specs.Values.{SettingsValue, StateValue, AskValue, PickValue}
use Rattle.router.specs.Chosen.{IsPermitted}
use Rattle.router.specs.Loads.{reads_at, MayHaveRead}

-- what was read before begins it
pub read_front : (offer : Offer) (before after : List (ℕ × ℕ)) → MayHaveRead offer before after
    → IsPrefix before after
read_front offer before after (inl none) = ([], append-nil before ∙ sym none)
read_front offer before after (inr all) = (reads_at offer all.0, sym all.1)

on_err : {A E : Type 0} (r : Result A E) (P : Type 0) → P → OnErr r P
on_err (Ok x) P p = tt
on_err (Err e) P p = p

module _ (settings told_settings : SettingsValue) (state told_state : StateValue) (ask : AskValue)
    (before after : List (ℕ × ℕ)) where
  -- a pick that chose had read all
  pub has_read : {A E : Type 0} (r : Result A E) (loads : ℕ × ℕ) (said : PickValue)
      → told_settings ≡ settings → told_state ≡ state
      → IsPermitted told_settings told_state ask before after loads said
      → OnErr r (MayHaveRead (offer_of settings state ask) before after)
  has_read r loads said settings_are state_is is =
      let same : offer_of told_settings told_state ask ≡ offer_of settings state ask =
      ap (λ (s : SettingsValue). offer_of s told_state ask) settings_are
      ∙ ap (λ (v : StateValue). offer_of settings v ask) state_is in
      on_err r (MayHaveRead (offer_of settings state ask) before after)
      (subst (λ (o : Offer). MayHaveRead o before after) same (inr (loads, is.reads, is.loads_are)))
