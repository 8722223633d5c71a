-- What the parts of an ask come to.
use Rattle.std.proofs.Common.{Result, Ok, Err, IfOk, OnErr}
use Rattle.std.specs.declared.alloc.AllocError.{AllocError}
use Rattle.machine.specs.Values.{SettingsValue, AskValue, PickValue}
use Rattle.router.specs.declared.names.Names.{Names}
use Rattle.proxy_session.specs.declared.asking.ReplicaPick.{ReplicaPick}
use Rattle.proxy_session.specs.declared.asking.AdmittedAnswer.{AdmittedAnswer}
use Rattle.proxy_session.specs.Asking.{FindingAnew, StopsAnew}
use Rattle.proxy_session.specs.Callers.{Caller, SeesMore}
use Rattle.proxy_session.specs.AskAnswers.{Picks, ReturnsSome, Says, fresh_in, said_in}
use Rattle.proxy_session.proofs.Calling.{finds_anew, stops_anew}

-- what a second ask was answered, whatever names are kept
abbrev pub SaysAny : PickValue → ReplicaPick → Type 0
SaysAny said f = (names : Names) → Says said names f

module _ (settings : SettingsValue) (old mid new : Caller) (ask : AskValue) where
  -- behind a second ask
  pub kept_behind : (p : AdmittedAnswer) → Picks settings old mid ask p
      → (r : Result ReplicaPick AllocError)
      → IfOk r (λ f. ReturnsSome settings mid new (fresh_in p) × SaysAny (said_in p) f)
      → IfOk r (λ f. (said : PickValue) × FindingAnew settings old new ask said × SaysAny said f)
  kept_behind p picks (Ok f) x = (said_in p, finds_anew settings old mid new ask p picks x.0, x.1)
  kept_behind p picks (Err e) x = tt

  pub unkept_behind : (p : AdmittedAnswer) → Picks settings old mid ask p
      → (r : Result ReplicaPick AllocError)
      → OnErr r (SeesMore mid new) → OnErr r (StopsAnew settings old new ask)
  unkept_behind p picks (Ok f) x = tt
  unkept_behind p picks (Err e) x = stops_anew settings old mid new ask p picks x
