-- What looks and picks answer, and what they do to their pass.
use Rattle.std.specs.Prelude.{◌≡◌, ℕ, length}
use Rattle.machine.specs.Code.{reply_value}
use Rattle.machine.specs.declared.reply.Reply.{Reply}
use Rattle.machine.specs.Looking.{look_of}
use Rattle.machine.specs.Values.{LookValue, AskValue}
use Rattle.router_log.specs.Call.{looked, asked}
use Rattle.router_log.specs.Operation.{place_of}
use Rattle.router_log.specs.Value.{value_of}
use Rattle.router.specs.declared.answer.Answer.{Answer}
use Rattle.router.specs.declared.answer.Answer.TheVariants as answer
use Rattle.router.specs.declared.answer.Looked.{Looked}
use Rattle.router.specs.declared.answer.Looked.TheVariants as look
use Rattle.router.specs.declared.naming.Naming.{Ghosts}
use Rattle.router.specs.declared.pass.Pass.{Pass}
use Rattle.router.specs.declared.answer.Peek.{Peek}
use Rattle.router.specs.declared.answer.Peek.TheVariants as peek
use Rattle.router.specs.declared.names.Names.{Names}
use Rattle.router.specs.Peeked.{IsPeek, AreEmpty}
use Rattle.router.specs.Passes.{seen_in, reads_in, Entered, NotLetIn}
use Rattle.router.specs.Picked.{IsAnswer}

module _ {J : Type 0} {g : Ghosts J} where
  -- a look was answered from the state at its point, with how many delegations were kept there
  pub record IsLooked (old new : Pass J g) (asks : LookValue) (place : ℕ) (reply : Reply) (kept : ℕ)
      : Type 0 where
    pub entered : Entered old new (looked asks)
    pub reads : reads_in new ≡ reads_in old
    pub at_place : place ≡ place_of (seen_in new)
    pub answered : reply_value reply
        ≡ look_of g.settings (value_of g.settings (seen_in new)).state asks
    pub kept_is : kept ≡ length (value_of g.settings (seen_in new)).cache

  abbrev pub Looks : Pass J g → Pass J g → LookValue → Looked → Type 0
  Looks old new asks (look.Said place reply kept) = IsLooked old new asks place reply kept
  Looks old new asks look.NoEntry = NotLetIn old new

  -- a pick was answered from the value at its point
  pub record IsPicked (old new : Pass J g) (ask : AskValue) (a : Answer) : Type 0 where
    pub entered : Entered old new (asked ask)
    pub answer : IsAnswer g.settings (value_of g.settings (seen_in new)) (place_of (seen_in new))
        ask (reads_in old) (reads_in new) a

  abbrev pub Picks : Pass J g → Pass J g → AskValue → Answer → Type 0
  Picks old new ask (answer.Picked choice client residual fresh) =
      IsPicked old new ask (answer.Picked choice client residual fresh)
  Picks old new ask (answer.None why place fresh) =
      IsPicked old new ask (answer.None why place fresh)
  Picks old new ask answer.NoEntry = NotLetIn old new

  -- a pick was answered by what is kept in the value at its point
  pub record IsPeeked (old new : Pass J g) (ask : AskValue) (names : Names) (p : Peek) : Type 0
    where
      pub entered : Entered old new (asked ask)
      pub answer : IsPeek g.settings (value_of g.settings (seen_in new))
          (place_of (seen_in new)) ask
          (reads_in old) (reads_in new) names p

  abbrev pub Peeks : Pass J g → Pass J g → AskValue → Names → Peek → Type 0
  Peeks old new ask names (peek.Hit choice) = IsPeeked old new ask names (peek.Hit choice)
  Peeks old new ask names (peek.HitNone why place) =
      IsPeeked old new ask names (peek.HitNone why place)
  Peeks old new ask names (peek.Miss place) = IsPeeked old new ask names (peek.Miss place)
  Peeks old new ask names peek.NoEntry = NotLetIn old new × AreEmpty names
