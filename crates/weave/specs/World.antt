-- The world: what was published, and what each pass has seen, called and not yet been answered.
-- Each step is one of one pass, or a meeting of two.
use Rattle.std.specs.Prelude.{ℕ, ◌-◌, ◌^◌, min, if◌then◌else◌, List, [], ◌∷◌, ◌++◌, length, take}
use Rattle.std.specs.Prelude.{replicate, slice_get, slice_set, Option, Some, None, is_some, is_none}
use Rattle.std.specs.Option.{option_to_list, option_or}
use Rattle.addr_book.specs.Namer.{named_in}
use Rattle.name_tree.specs.Path.{Labels}
use Rattle.dtab_table.specs.Rules.{Rule}
use Rattle.bind_core.specs.Delegation.{outcome_of, cost_of, kept_asked}
use Rattle.bind_cache.specs.Kept.{Kept}
use Rattle.bind_cache.specs.Sizes.{text_bytes}
use Rattle.bind_cache.specs.Cache.{found_in}
use Rattle.machine.specs.Values.{SettingsValue, StateValue, ChangeValue, LookValue, AskValue}
use Rattle.machine.specs.Values.{ReplyValue, ChosenValue}
use Rattle.machine.specs.State.{reply_of}
use Rattle.machine.specs.Looking.{effective, look_of}
use Rattle.machine.specs.Choosing.{pick_of, chosen_of}
use Rattle.one_history.specs.Entries.{changes_made, others_made}
use Rattle.router_log.specs.Operation.{Operation, is_change, place_of}
use Rattle.router_log.specs.Value.{value_of}
use Rattle.router_log.specs.Call.{Call, asked, looked, changing, keeping, publishes}

-- what a pass asks without changing anything
pub data Question : Type 0 where
  pick : AskValue → Question
  look : LookValue → Question

-- a step
pub data StepValue : Type 0 where
  -- a pass asks for a change
  publish : ℕ → ChangeValue → StepValue
  -- a pass asks something, and is not answered yet
  enter : ℕ → Question → StepValue
  -- a pass is answered
  answer : ℕ → StepValue
  -- a pass offers what it worked out last to the cache
  remember : ℕ → StepValue
  -- two passes learn what was published
  meet : ℕ → ℕ → StepValue

-- what a step tells: with a reply or a pick, how many changes stood before its call
pub data ToldValue : Type 0 where
  reply : ℕ → ReplyValue → ToldValue
  chosen : ℕ → ChosenValue → ToldValue
  was_kept : ToldValue
  was_not_kept : ToldValue
  nothing : ToldValue

-- a call with its point: how many operations stood before it
abbrev pub Item : Type 0
Item = Call × ℕ

-- a pass: how many operations it has seen; its calls; the place among these of the one that is not
-- answered yet; and the delegation that it worked out last
pub record PassValue : Type 0 where
  pub seen : ℕ
  pub items : List Item
  pub flight : Option ℕ
  pub fresh : Option Kept

abbrev pub new_pass : PassValue
new_pass = record { seen = 0; items = []; flight = None; fresh = None }

pub record WorldValue : Type 0 where
  pub ops : List Operation
  pub passes : List PassValue

-- nothing was published, and there are so many passes
abbrev pub opening_world : ℕ → WorldValue
opening_world passes = record { ops = []; passes = replicate passes new_pass }

-- a delegation that is worked out in a state
abbrev pub delegation_in : SettingsValue → StateValue → Labels → List Rule → Kept
delegation_in settings state path own =
    let rules = effective settings state own in
    let names = named_in state.book in
    let asked = kept_asked rules names path in
    record {
      path = path;
      local = own;
      ending = outcome_of rules names path;
      cost = cost_of rules names path;
      asked = asked;
      bytes = min (text_bytes path own asked) (2 ^ 64 - 1);
      place = state.place;
    }

abbrev pub call_of : Question → Call
call_of (pick ask) = asked ask
call_of (look l) = looked l

-- what a call behind some operations is answered. An answer to a pick has no loads in it
abbrev pub answer_of : SettingsValue → List Operation → Call → ToldValue
answer_of settings ops (asked ask) =
    chosen (place_of ops) (chosen_of (pick_of settings (value_of settings ops).state ask 0 0))
answer_of settings ops (looked l) =
    reply (place_of ops) (look_of settings (value_of settings ops).state l)
answer_of settings ops (changing change) =
    reply (place_of ops) (reply_of settings (value_of settings ops).state change)
answer_of settings ops (keeping k) = nothing

-- the delegation that a pick works out, where none is kept for its path and table
abbrev pub fresh_of : SettingsValue → List Operation → Call → Option Kept
fresh_of settings ops (asked ask) =
    if is_none (found_in (value_of settings ops).cache ask.path ask.own)
    then Some (delegation_in settings (value_of settings ops).state ask.path ask.own)
    else None
fresh_of settings ops _ = None

-- the call that is not answered yet
abbrev pub item_at : List Item → Option ℕ → Option Item
item_at items None = None
item_at items (Some at) = slice_get items at

abbrev pub in_flight : PassValue → Option Item
in_flight p = item_at p.items p.flight

module _ (settings : SettingsValue) where
  -- what a call of a pass publishes behind all that was published
  abbrev pub publishes_now : ℕ → List Operation → PassValue → Call → Option Operation
  publishes_now number ops p call =
      publishes settings ops number (changes_made is_change (publishes settings) number ops p.items)
      (others_made is_change (publishes settings) number ops p.items) call

  -- a pass with one call more, behind these operations, of which so many are seen then
  abbrev pub with_call : PassValue → Call → List Operation → List Operation → PassValue
  with_call p call ops now = record {
    seen = length now;
    items = p.items ++ (call, length ops) ∷ [];
    flight = p.flight;
    fresh = p.fresh;
  }

  -- a call of a pass: what it publishes stands behind all that was published
  abbrev pub called : WorldValue → ℕ → PassValue → Call → WorldValue
  called w number p call =
      let now = w.ops ++ option_to_list (publishes_now number w.ops p call) in
      record { ops = now; passes = slice_set w.passes number (with_call p call w.ops now) }

  abbrev pub seeing : WorldValue → ℕ → PassValue → WorldValue
  seeing w number p =
      let seen : PassValue = record {
        seen = length w.ops;
        items = p.items;
        flight = p.flight;
        fresh = p.fresh;
      } in
      record { ops = w.ops; passes = slice_set w.passes number seen }

  -- a question is in flight from the call that was made of it
  abbrev pub entered : WorldValue → ℕ → PassValue → Question → WorldValue
  entered w number p question =
      let asking : PassValue = record {
        seen = length w.ops;
        items = p.items ++ (call_of question, length w.ops) ∷ [];
        flight = Some (length p.items);
        fresh = p.fresh;
      } in
      record { ops = w.ops; passes = slice_set w.passes number asking }

  -- an answer is that to the call at its point, and ends its flight. A pick for which nothing was
  -- kept there leaves what it worked out
  abbrev pub answered : WorldValue → ℕ → PassValue → Option Item → WorldValue × ToldValue
  answered w number p None = (w, nothing)
  answered w number p (Some item) =
      let told : PassValue = record {
        seen = p.seen;
        items = p.items;
        flight = None;
        fresh = option_or (fresh_of settings (take item.1 w.ops) item.0) p.fresh;
      } in
      let world : WorldValue = record { ops = w.ops; passes = slice_set w.passes number told } in
      (world, answer_of settings (take item.1 w.ops) item.0)

  -- what was worked out last is kept, or not; where there is nothing, the pass sees what was
  -- published all the same
  abbrev pub remembered : WorldValue → ℕ → PassValue → Option Kept → WorldValue × ToldValue
  remembered w number p None = (seeing w number p, nothing)
  remembered w number p (Some k) =
      let is_published = is_some (publishes_now number w.ops p (keeping k)) in
      (called w number p (keeping k), if is_published then was_kept else was_not_kept)

  abbrev pub published : WorldValue → ℕ → Option PassValue → ChangeValue → WorldValue × ToldValue
  published w number None change = (w, nothing)
  published w number (Some p) change =
      (called w number p (changing change), answer_of settings w.ops (changing change))

  abbrev pub entering : WorldValue → ℕ → Option PassValue → Question → WorldValue × ToldValue
  entering w number None question = (w, nothing)
  entering w number (Some p) question = (entered w number p question, nothing)

  abbrev pub answering : WorldValue → ℕ → Option PassValue → WorldValue × ToldValue
  answering w number None = (w, nothing)
  answering w number (Some p) = answered w number p (in_flight p)

  abbrev pub remembering : WorldValue → ℕ → Option PassValue → WorldValue × ToldValue
  remembering w number None = (w, nothing)
  remembering w number (Some p) = remembered w number p p.fresh

  abbrev pub seen_by : WorldValue → ℕ → Option PassValue → WorldValue
  seen_by w number None = w
  seen_by w number (Some p) = seeing w number p

  abbrev pub meeting : WorldValue → ℕ → ℕ → Option PassValue → Option PassValue
      → WorldValue × ToldValue
  meeting w one other (Some p) (Some q) =
      (let first = seeing w one p in seen_by first other (slice_get first.passes other), nothing)
  meeting w one other _ _ = (w, nothing)

  -- a step, and what it tells. One that names a pass that is not there changes nothing
  abbrev pub stepped : WorldValue → StepValue → WorldValue × ToldValue
  stepped w (publish number change) = published w number (slice_get w.passes number) change
  stepped w (enter number question) = entering w number (slice_get w.passes number) question
  stepped w (answer number) = answering w number (slice_get w.passes number)
  stepped w (remember number) = remembering w number (slice_get w.passes number)
  stepped w (meet one other) =
      meeting w one other (slice_get w.passes one) (slice_get w.passes other)

  -- steps, one after another, and what each tells
  abbrev pub run_from : WorldValue → List StepValue → WorldValue × List ToldValue
  run_from w [] = (w, [])
  run_from w (s ∷ ss) =
      let first = stepped w s in let rest = run_from first.0 ss in (rest.0, first.1 ∷ rest.1)
