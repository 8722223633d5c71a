-- What looks and picks come to in a state that was taken out of the value.
use Rattle.std.proofs.Common.{◌≡◌, ℕ, true, false, List, Option, Some, None, Result, Ok, Err, ap}
use Rattle.std.proofs.Common.{sym, ◌∙◌, subst}
use Rattle.std.specs.Prelude.{IfOk, OnErr}
use Rattle.bind_cache.specs.declared.binding.Binding.{Binding}
use Rattle.bind_cache.specs.Stored.{kept_of}
use Rattle.machine.specs.Choosing.{offer_of}
use Rattle.machine.specs.Code.{reply_value}
use Rattle.machine.specs.Looking.{look_of}
use Rattle.machine.specs.declared.reply.Reply.{Reply}
use Rattle.machine.specs.Values.{SettingsValue, StateValue, AskValue, LookValue}
use Rattle.router_log.specs.Value.{Value}
use Rattle.router.specs.declared.answer.Answer.{Answer}
use Rattle.router.specs.declared.detached.Detached.{Detached}
use Rattle.router.specs.Chosen.{IsPermitted}
use Rattle.router.specs.Detached.{settings_out, state_out, IsOut, IsNew, IsDelegatedAnswer}
use Rattle.router.specs.Detached.{IsMissed}
use Rattle.router.specs.Loads.{MayHaveRead}
use Rattle.router.specs.Picked.{IsAnswer, IsFresh, IsWorkedOut, is_kept_for, loads_by, said_by}
use Rattle.router.specs.Picked.{fresh_by}

-- what is told of what was taken out is told of that of which it was
told : (settings : SettingsValue) (state : StateValue) (d : Detached) → IsOut settings state d
    → (P : SettingsValue → StateValue → Type 0) → P (settings_out d) (state_out d)
    → P settings state
told settings state d out P p =
    subst (λ (t : StateValue). P settings t) out.state_is
    (subst (λ (s : SettingsValue). P s (state_out d)) out.settings_are p)

pub look_out : {E : Type 0} (settings : SettingsValue) (state : StateValue) (d : Detached)
    (asks : LookValue) (r : Result Reply E) → IsOut settings state d
    → IfOk r (λ reply. reply_value reply ≡ look_of (settings_out d) (state_out d) asks)
    → IfOk r (λ reply. reply_value reply ≡ look_of settings state asks)
look_out settings state d asks r out h =
    told settings state d out (λ s t. IfOk r (λ reply. reply_value reply ≡ look_of s t asks)) h

module _ (settings : SettingsValue) (value : Value) (place : ℕ) (ask : AskValue)
    (before mid : List (ℕ × ℕ)) (d : Detached)
    (is : IsMissed settings value place ask before mid d) where
  missed : (P : SettingsValue → StateValue → List (ℕ × ℕ) → Type 0)
      → P (settings_out d) (state_out d) mid → P settings value.state before
  missed P p = subst (λ (l : List (ℕ × ℕ)). P settings value.state l) is.unread
      (told settings value.state d is.out (λ s t. P s t mid) p)

  fresh_case : (o : Option Binding) → IsNew (settings_out d) (state_out d) ask o
      → IsFresh settings value ask o
  fresh_case None new = absurd new
  fresh_case (Some b) new = (is.none, new.0, missed (λ s t l. IsWorkedOut s t (kept_of b)) new.1)

  pub pick_out : {E : Type 0} (after : List (ℕ × ℕ)) (r : Result Answer E)
      → IfOk r (IsDelegatedAnswer (settings_out d) (state_out d) ask mid after)
      → IfOk r (IsAnswer settings value place ask before after)
  pick_out after (Ok a) h = record {
    let_in = h.let_in;
    permitted = missed (λ s t l. IsPermitted s t ask l after (loads_by a) (said_by a)) h.permitted;
    at_place = h.at_place ∙ (ap (λ (t : StateValue). t.place) is.out.state_is ∙ sym is.at_place);
    fresh = fresh_case (fresh_by a) h.fresh;
  }
  pick_out after (Err e) h = tt

  pub read_out : {A E : Type 0} (after : List (ℕ × ℕ)) (r : Result A E)
      → OnErr r (MayHaveRead (offer_of (settings_out d) (state_out d) ask) mid after)
      → OnErr r (MayHaveRead (offer_of settings value.state ask) before after)
  read_out after r h = missed (λ s t l. OnErr r (MayHaveRead (offer_of s t ask) l after)) h

  pub steps_out : (old new : ℕ) → is_kept_for value ask ≡ true → new ≡ old
  steps_out old new kept = absurd (let e : true ≡ false = sym kept ∙ is.none in cc)
