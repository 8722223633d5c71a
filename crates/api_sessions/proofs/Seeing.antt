-- What a pass has seen grows over a stay, and the count of requests stays in its bound.
use Rattle.std.proofs.Common.{◌≡◌, ◌<◌, ℕ, ◌+◌, ◌||◌, Bool, false, List, [], ◌++◌, eqb}
use Rattle.std.proofs.Common.{refl, sym, ap, ◌∙◌, append_assoc, append-nil, Option, None, inl, inr}
use mathlib.Core.List.{IsPrefix}
use Rattle.http_wire.specs.declared.ended.Ended.{Ended}
use Rattle.http_wire.specs.declared.head.Head.{Head}
use Rattle.http_wire.specs.declared.paused.Paused.{Paused}
use Rattle.http_wire.specs.declared.paused.Paused.TheVariants as paused
use Rattle.http_wire.specs.Target.{Form, IsServed}
use Rattle.router_log.specs.Operation.{Operation}
use Rattle.router.specs.declared.naming.Naming.{Ghosts}
use Rattle.router.specs.declared.pass.Pass.{Pass}
use Rattle.router.specs.Passes.{seen_in}
use Rattle.machine.specs.Values.{LookValue, get_table, services_at}
use Rattle.api_wire.specs.declared.delivery.Delivery.{Delivery}
use Rattle.api_wire.specs.declared.reply.ApiReply.{ApiReply}
use Rattle.api_wire.specs.Delivery.{delivery_of}
use Rattle.api_wire.specs.Demand as asks
use Rattle.api_wire.specs.Demand.{DemandValue}
use Rattle.api_sessions.specs.declared.which.Which.{Which}
use Rattle.api_sessions.specs.Answering.{AnswersAs, IsCarriedOut, IsDone, Leaves, LeavesAs}
use Rattle.api_sessions.specs.Answering.{LeavesDone, MayHaveLooked, Sources, Waited, again, at_once}
use Rattle.api_sessions.specs.Asked.{AskedValue, asked_of, demand, feed, metrics}
use Rattle.api_sessions.specs.Requests.{IsRequest}
use Rattle.api_sessions.specs.Serving.{Answers, PausesWith, Serves}
use Rattle.api_sessions.specs.Serving.{begun, one_more, while_closing}
use Rattle.api_sessions.specs.Stays.{Standing, StaysTo, sources_in}
use Rattle.api_sessions.proofs.Turning.{fewer, not_last}

pub prefix_on : (xs ys zs : List Operation) → IsPrefix xs ys → IsPrefix ys zs → IsPrefix xs zs
prefix_on xs ys zs p q =
    (p.0 ++ q.0, sym (append_assoc xs p.0 q.0) ∙ (ap (λ w. w ++ q.0) p.1 ∙ q.1))

pub prefix_same : (xs ys : List Operation) → ys ≡ xs → IsPrefix xs ys
prefix_same xs ys same = ([], append-nil xs ∙ sym same)

module _ {J : Type 0} {g : Ghosts J} where
  -- a pass has seen all that it had seen at an earlier moment
  abbrev pub SeesOn : Pass J g → Pass J g → Type 0
  SeesOn old new = IsPrefix (seen_in old) (seen_in new)

  -- the same of what a worker answers from
  abbrev pub SeesMore : Sources J g → Sources J g → Type 0
  SeesMore old new = SeesOn old.pass new.pass

  saw_same : (old new : Pass J g) → new ≡ old → SeesOn old new
  saw_same old new is =
      prefix_same (seen_in old) (seen_in new) (ap (λ (p : Pass J g). seen_in p) is)

  saw_on : (a b c : Pass J g) → SeesOn a b → SeesOn b c → SeesOn a c
  saw_on a b c p q = prefix_on (seen_in a) (seen_in b) (seen_in c) p q

  waited_saw : {old new : Pass J g} → Waited old new → SeesOn old new
  waited_saw {old} at_once = saw_same old old refl
  waited_saw {old} {new} (again {mid} waited number out) =
      saw_on old mid new (waited_saw waited) (prefix_same (seen_in mid) (seen_in new) out.seen)

  saw_still : (old new : Sources J g) → new ≡ old → SeesMore old new
  saw_still old new is = saw_same old.pass new.pass (ap (λ (s : Sources J g). s.pass) is)

  -- ---- what a request asks for

  looked_saw : (look : LookValue) (old new : Pass J g) → MayHaveLooked look old new
      → SeesOn old new
  looked_saw look old new looked =
      saw_on old looked.mid new (waited_saw looked.waited)
      (elim looked.made [
        | inl same ↦ saw_same looked.mid new same
        | inr entered ↦ entered.0.called.before
      ])

  done_saw : (d : DemandValue) (delivery : Delivery) (old new : Pass J g) (reply : ApiReply)
      → IsCarriedOut d delivery old new reply → SeesOn old new
  done_saw (asks.answer said) delivery old new reply done = saw_same old new done.0
  done_saw (asks.stop said) delivery old new reply done = saw_same old new done.0
  done_saw (asks.alter change) delivery old new reply done = done.changed.called.before
  done_saw (asks.ask look) delivery old new reply done =
      let said = done.answered in
      saw_on old said.mid new (waited_saw said.waited) said.looked.entered.called.before

  left_saw : (d : DemandValue) (old new : Pass J g) → Leaves d old new → SeesOn old new
  left_saw (asks.answer said) old new left = saw_same old new left
  left_saw (asks.stop said) old new left = saw_same old new left
  left_saw (asks.alter change) old new (inl unanswered) = unanswered.seen
  left_saw (asks.alter change) old new (inr (said, changed)) = changed.called.before
  left_saw (asks.ask look) old new left = looked_saw look old new left

  asked_saw : (a : AskedValue) (delivery : Delivery) (old new : Sources J g) (reply : ApiReply)
      → IsDone a delivery old new reply → SeesMore old new
  asked_saw metrics delivery old new reply done =
      saw_on old.pass done.looked.mid new.pass (waited_saw done.looked.waited)
      done.looked.looked.entered.called.before
  asked_saw (demand d) delivery old new reply done =
      done_saw d delivery old.pass new.pass reply done.0
  asked_saw (feed run space) delivery old new reply done =
      saw_on old.pass done.0.mid new.pass (waited_saw done.0.waited) done.0.entered.called.before

  asked_left_saw : (a : AskedValue) (old new : Sources J g) → LeavesDone a old new
      → SeesMore old new
  asked_left_saw metrics old new (inl same) = saw_still old new same
  asked_left_saw metrics old new (inr may) =
      looked_saw (services_at may.moment) old.pass new.pass may.looked
  asked_left_saw (demand d) old new left = left_saw d old.pass new.pass left.0
  asked_left_saw (feed run space) old new left =
      looked_saw (get_table space) old.pass new.pass left.0

  -- ---- a request

  module _ (head : Head) (body : List ℕ) (form : Form)
      (served : IsServed head.method head.target form) (old new : Sources J g) where
    answered_saw : (which : Which) (last : Bool) (reply : ApiReply)
        → AnswersAs which head last body old new reply → SeesMore old new
    answered_saw which last reply answers =
        asked_saw (asked_of which head form.line body) (delivery_of head last) old new reply
        (answers form served)

    wanting_saw : (which : Which) → LeavesAs which head body old new → SeesMore old new
    wanting_saw which leaves =
        asked_left_saw (asked_of which head form.line body) old new (leaves form served)

  request_saw : (which : Which) (last : Bool) (bytes behind : List ℕ) (head : Head)
      (body : List ℕ) (old new : Sources J g) (written : List ℕ) (stopped : Bool)
      (result : Option Ended) → IsRequest bytes head body behind
      → Answers which last head body old new written stopped result → SeesMore old new
  request_saw which last bytes behind head body old new written stopped result request
      (inl replied) =
      let tested = request.front.tested in
      answered_saw head body tested.form tested.served old new which last replied.reply
      replied.answers
  request_saw which last bytes behind head body old new written stopped result request
      (inr wants) =
      let tested = request.front.tested in
      wanting_saw head body tested.form tested.served old new which wants.leaves

  -- ---- a stay

  module _ (which : Which) (from : ℕ) (old : Sources J g) (bytes : List ℕ) where
    serves_saw : {n : ℕ} {mid : Sources J g} {rest written : List ℕ}
        → Serves which from old bytes n mid rest written → SeesMore old mid
    serves_saw begun = saw_still old old refl
    serves_saw (one_more count mid new rest behind written sent head body before request answers) =
        saw_on old.pass mid.pass new.pass (serves_saw before)
        (request_saw which (eqb (count + 1) 10000) rest behind head body mid new sent false None
        request answers)

    -- a connection that goes on has had fewer requests than it may have
    serves_few : from < 10000 → {n : ℕ} {mid : Sources J g} {rest written : List ℕ}
        → Serves which from old bytes n mid rest written → n < 10000
    serves_few few begun = few
    serves_few few
        (one_more count mid new rest behind written sent head body before request answers) =
        fewer count (serves_few few before)
        (not_last which (eqb (count + 1) 10000) head body mid new sent answers)

  pauses_saw : (which : Which) (spent closing : Bool) (bytes : List ℕ) (old new : Sources J g)
      (written : List ℕ) (stopped : Bool) (result : Paused)
      → PausesWith which spent closing bytes old new written stopped result → SeesMore old new
  pauses_saw which spent closing bytes old new written stopped paused.Quiet quiet =
      saw_still old new quiet.still
  pauses_saw which spent closing bytes old new written stopped (paused.Ended end) (inl ends) =
      request_saw (while_closing closing which) (spent || closing) bytes ends.behind ends.head
      ends.body old new written stopped ends.end ends.request ends.answers
  pauses_saw which spent closing bytes old new written stopped (paused.Ended end) (inr ends) =
      saw_still old new ends.0

  -- a stay forgets nothing that was seen
  pub stay_saw : (which : Which) (from upto : ℕ) (old new : Standing J g) (result : Paused)
      → StaysTo which from upto old new result → IsPrefix (seen_in old.pass) (seen_in new.pass)
  stay_saw which from upto old new result x =
      let s = x.serves in
      saw_on old.pass s.mid.pass new.pass
      (serves_saw which from (sources_in old) x.came s.serves)
      (pauses_saw which (eqb (upto + 1) 10000) x.closing s.rest s.mid (sources_in new) s.final
      x.stopped result s.pauses)

  pub stay_few : (which : Which) (from upto : ℕ) (old new : Standing J g) (result : Paused)
      → StaysTo which from upto old new result → from < 10000 → upto < 10000
  stay_few which from upto old new result x few =
      serves_few which from (sources_in old) x.came few x.serves.serves
