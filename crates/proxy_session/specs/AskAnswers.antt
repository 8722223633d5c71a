-- What the code's answers to an ask say.
use Rattle.std.specs.Prelude.{◌≡◌, ℕ, true, List, Option, Some, None}
use Rattle.name_tree.specs.Path.{canon_path}
use Rattle.bind_cache.specs.Stored.{kept_of}
use Rattle.bind_cache.specs.declared.binding.Binding.{Binding}
use Rattle.machine.specs.Values.{SettingsValue, AskValue, PickValue, Replica, replica, none}
use Rattle.machine.specs.Choosing.{offer_of}
use Rattle.router.specs.declared.answer.Answer.{Answer}
use Rattle.router.specs.declared.answer.Answer.TheVariants as answer
use Rattle.router.specs.declared.answer.Choice.{Choice}
use Rattle.router.specs.declared.names.Names.{Names}
use Rattle.router.specs.Names.{client_text, residual_text}
use Rattle.router.specs.Chosen.{IsPermitted}
use Rattle.router.specs.Loads.{MayHaveRead}
use Rattle.router.specs.Picked.{IsFresh}
use Rattle.router_log.specs.Value.{value_of}
use Rattle.proxy_session.specs.declared.asking.ReplicaPick.{ReplicaPick}
use Rattle.proxy_session.specs.declared.asking.ReplicaPick.TheVariants as pick
use Rattle.proxy_session.specs.declared.asking.AdmittedAnswer.{AdmittedAnswer}
use Rattle.proxy_session.specs.declared.asking.AdmittedAnswer.TheVariants as admitted
use Rattle.proxy_session.specs.declared.asking.AdmittedPeek.{AdmittedPeek}
use Rattle.proxy_session.specs.declared.asking.AdmittedPeek.TheVariants as peeked
use Rattle.proxy_session.specs.declared.asking.Texts.{Texts}
use Rattle.proxy_session.specs.declared.asking.Texts.TheVariants as texts
use Rattle.proxy_session.specs.Callers.{Caller, Asks, Misses, Finds, Returns}

-- where the texts of a replica's names are
abbrev pub client_in : Names → Texts → List ℕ
client_in names texts.Kept = client_text names
client_in names (texts.Own client residual) = client.items

abbrev pub residual_in : Names → Texts → List ℕ
residual_in names texts.Kept = residual_text names
residual_in names (texts.Own client residual) = residual.items

-- this replica, with these texts of its names
pub record IsReplica (r : Replica) (choice : Choice) (client residual : List ℕ) : Type 0 where
  pub addr : choice.addr ≡ r.addr
  pub slot : choice.slot ≡ r.slot
  pub client_is : client ≡ canon_path r.client
  pub residual_is : residual ≡ canon_path r.residual

abbrev pub Says : PickValue → Names → ReplicaPick → Type 0
Says (replica r) names (pick.Replica choice texts) =
    IsReplica r choice (client_in names texts) (residual_in names texts)
Says (none why) names (pick.None other) = other ≡ why
Says _ names _ = ⊥

-- what one ask saw of what is kept
abbrev pub Sees : SettingsValue → Caller → Caller → AskValue → Names → AdmittedPeek → Type 0
Sees settings old new ask names (peeked.Hit choice) =
    (r : Replica) × Finds settings old new ask true (replica r)
    × IsReplica r choice (client_text names) (residual_text names)
Sees settings old new ask names (peeked.None why) = Finds settings old new ask true (none why)
Sees settings old new ask names peeked.Miss = Misses settings old new ask

-- what an answer says, where the pass was let in
abbrev pub picked_of : Answer → Option AdmittedAnswer
picked_of (answer.Picked choice client residual fresh) =
    Some (admitted.Replica choice client residual fresh)
picked_of (answer.None why place fresh) = Some (admitted.None why fresh)
picked_of answer.NoEntry = None

abbrev pub said_in : AdmittedAnswer → PickValue
said_in (admitted.Replica choice client residual fresh) = replica (record {
  addr = choice.addr;
  slot = choice.slot;
  client = client;
  residual = residual;
})
said_in (admitted.None why fresh) = none why

abbrev pub fresh_in : AdmittedAnswer → Option Binding
fresh_in (admitted.Replica choice client residual fresh) = fresh
fresh_in (admitted.None why fresh) = fresh

-- what a second ask was answered
pub record Picks
    (settings : SettingsValue) (old new : Caller) (ask : AskValue) (p : AdmittedAnswer)
    : Type 0 where
  pub asks : Asks settings old new ask
  pub loads : ℕ × ℕ
  pub permitted :
      IsPermitted settings (value_of settings new.seen).state ask old.reads new.reads loads
      (said_in p)
  pub fresh : IsFresh settings (value_of settings new.seen) ask (fresh_in p)

abbrev pub PicksOnce : SettingsValue → Caller → Caller → AskValue → Option AdmittedAnswer → Type 0
PicksOnce settings old new ask None = new ≡ old
PicksOnce settings old new ask (Some p) = Picks settings old new ask p

-- there was no memory for the answer: no load was read, or just those that the ask reads at its
-- point
abbrev pub StopsPick : SettingsValue → Caller → Caller → AskValue → Type 0
StopsPick settings old new ask =
    Asks settings old new ask
    × MayHaveRead (offer_of settings (value_of settings new.seen).state ask) old.reads new.reads

-- a delegation was given back, if there is one
abbrev pub ReturnsSome : SettingsValue → Caller → Caller → Option Binding → Type 0
ReturnsSome settings old new None = new ≡ old
ReturnsSome settings old new (Some b) = Returns settings old new (kept_of b)
