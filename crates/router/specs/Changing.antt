-- What changes and delegations that are given back are answered, and what they do to their pass.
use Rattle.std.specs.Prelude.{◌≡◌, ◌+◌, ◌≤◌, ◌++◌, ◌⊎◌, if◌then◌else◌, true, List, length, Option}
use Rattle.std.specs.Prelude.{Some, None}
use Rattle.std.specs.Option.{option_to_list}
use mathlib.Core.List.{IsPrefix}
use Rattle.addr_book.specs.declared.addr.Addr.{Addr}
use Rattle.bind_cache.specs.Kept.{Kept}
use Rattle.machine.specs.Code.{reply_value}
use Rattle.machine.specs.declared.reply.Reply.{Reply}
use Rattle.machine.specs.State.{is_accepted, report_refusal, reply_of}
use Rattle.machine.specs.Values.{SettingsValue, ChangeValue, report}
use Rattle.router_log.specs.Call.{changing, keeping, publishes, is_large, is_late, is_had}
use Rattle.router_log.specs.Call.{are_spent, is_kept}
use Rattle.router_log.specs.Operation.{Operation, place_of}
use Rattle.router_log.specs.Value.{value_of}
use Rattle.router.specs.declared.answer.Remembered.{Remembered}
use Rattle.router.specs.declared.answer.Remembered.TheVariants as remembered
use Rattle.router.specs.declared.naming.Naming.{Ghosts}
use Rattle.router.specs.declared.pass.Pass.{Pass}
use Rattle.router.specs.Passes.{number_in, seen_in, made_in, kept_in, refusals_in, Called, NotLetIn}
use Rattle.router.specs.Passes.{SameSeat, SawMore}
use Rattle.router.specs.Picked.{IsWorkedOut}

-- the address of a report of a success
abbrev pub success_of : ChangeValue → Option Addr
success_of (report addr good moment) = if good then Some addr else None
success_of _ = None

-- whether a delegation is kept, where these operations were published before
abbrev pub remembered_as : SettingsValue → List Operation → Kept → Remembered
remembered_as settings ops k =
    if is_large k then remembered.Large k.cost k.bytes
    else if is_late ops k then remembered.Late k.place (place_of ops)
    else if is_had settings ops k then remembered.Had
    else if are_spent ops then remembered.KeptSpent
    else remembered.Kept

module _ {J : Type 0} {g : Ghosts J} where
  -- a pick of this pass worked it out: in a state that the pass has seen
  abbrev pub WasWorkedOut : Pass J g → Kept → Type 0
  WasWorkedOut p k =
      (ops : List Operation) × IsPrefix ops (seen_in p)
      × IsWorkedOut g.settings (value_of g.settings ops).state k

  -- A change was asked for behind a beginning of the list that begins with what the pass had seen.
  -- Where the state there accepts it, it was published next, and else nothing was; and so it was
  -- answered. The pass may not have been let in before, which its count of refusals shows
  pub record IsChanged (old new : Pass J g) (change : ChangeValue) (reply : Reply) : Type 0 where
    pub before : List Operation
    pub called : Called old new (changing change) (length before)
    pub seen : seen_in new ≡ before
        ++ option_to_list (publishes g.settings before (number_in old) (made_in old) (kept_in old)
        (changing change))
    pub answered : reply_value reply ≡ reply_of g.settings (value_of g.settings before).state change
    pub made : made_in new ≡ (if is_accepted (value_of g.settings before).state change
        then made_in old + 1 else made_in old)
    pub kept : kept_in new ≡ kept_in old
    pub refusals : refusals_in old ≤ refusals_in new
    pub seat : SameSeat old new

  -- A change is left for the lock, by the address of the success that it reports: it reports none,
  -- and nothing was done; or the pass was not let in; or in the state that the pass then sees the
  -- report is accepted, since the address is a service's and has failures
  abbrev pub IsLeft : Pass J g → Pass J g → Option Addr → Type 0
  IsLeft old new None = new ≡ old
  IsLeft old new (Some addr) =
      NotLetIn old new ⊎ (SawMore old new
      × (report_refusal (value_of g.settings (seen_in new)).state addr true ≡ None))

  -- a delegation was given back, to be kept
  pub record IsRemembered (old new : Pass J g) (k : Kept) (said : Remembered) : Type 0 where
    pub before : List Operation
    pub called : Called old new (keeping k) (length before)
    pub seen : seen_in new ≡ before
        ++ option_to_list (publishes g.settings before (number_in old) (made_in old) (kept_in old)
        (keeping k))
    pub answered : said ≡ remembered_as g.settings before k
    pub made : made_in new ≡ made_in old
    pub kept : kept_in new ≡ (if is_kept g.settings before k then kept_in old + 1 else kept_in old)
    pub refusals : refusals_in new ≡ refusals_in old
    pub seat : SameSeat old new

  -- both have seen one list then, which begins with what each had seen
  pub record Met (a b a' b' : Pass J g) : Type 0 where
    pub one : seen_in a' ≡ seen_in b'
    pub first : SawMore a a'
    pub second : SawMore b b'
