-- A change, or a delegation that is given back, as a whole call: the pass saw all that was
-- published, and then its call was made.
use Rattle.std.proofs.Common.{◌≡◌, ℕ, ◌+◌, ◌-◌, ◌^◌, ◌<◌, ◌==◌, Bool, true, false, List, [], ◌∷◌}
use Rattle.std.proofs.Common.{◌++◌, length, take, Option, Some, None, Result, Ok, Err, refl, ap}
use Rattle.std.proofs.Common.{sym, ◌∙◌, arith, subst}
use Rattle.std.specs.Prelude.{not, ◌&&◌, if◌then◌else◌, is_none, is_some, IfOk, OnErr}
use Rattle.std.specs.Option.{option_to_list}
use Rattle.std.proofs.lemmas.Bool.Decides.{nat_tests}
use Rattle.std.proofs.lemmas.List.{append-nil}
use Rattle.addr_book.specs.declared.addr.Addr.{Addr}
use Rattle.bind_cache.specs.Kept.{Kept}
use Rattle.machine.specs.Code.{reply_value}
use Rattle.machine.specs.declared.reply.Reply.{Reply}
use Rattle.machine.specs.State.{is_accepted, refusal, report_refusal, last_place, reply_of}
use Rattle.machine.specs.Values.{SettingsValue, StateValue, ChangeValue, create, put, delete}
use Rattle.machine.specs.Values.{set_addrs, drop_service, report, ReplyValue}
use Rattle.router_log.specs.Call.{Call, changing, keeping, publishes, is_kept}
use Rattle.router_log.specs.Operation.{Operation}
use Rattle.router_log.specs.Value.{Value, value_of}
use Rattle.router.specs.declared.answer.Remembered.{Remembered}
use Rattle.router.specs.declared.naming.Naming.{Ghosts}
use Rattle.router.specs.declared.pass.Pass.{Pass}
use Rattle.router.specs.Changing.{IsChanged, IsRemembered, remembered_as, success_of}
use Rattle.router.specs.Passes.{number_in, seen_in, made_in, kept_in, refusals_in, reads_in, Called}
use Rattle.router.specs.Passes.{Entered, SameSeat, SawMore, Unanswered}
use Rattle.router.proofs.Readers.{prefix_trans, prefix_length}

and_right : (a b : Bool) → (a && b) ≡ true → b ≡ true
and_right true b is = is
and_right false b is = absurd cc

-- a change that is accepted has a place left
pub room_left : (state : StateValue) (change : ChangeValue) (place : ℕ)
    → is_accepted state change ≡ true → state.place ≡ place → place < 2 ^ 64 → place < 2 ^ 64 - 1
room_left state change place accepted is below =
    let free : not (state.place == last_place) ≡ true =
    and_right (is_none (refusal state change)) (not (state.place == last_place)) accepted in
    room_case (state.place == last_place) refl free where
      room_case : (t : Bool) → (state.place == last_place) ≡ t → not t ≡ true → place < 2 ^ 64 - 1
      room_case true e free = absurd cc
      room_case false e free = let is' = is in let below' = below in grind (arith, nat_tests)

-- a change that is refused publishes nothing, and neither does a delegation that is not kept
pub refused_nothing : (settings : SettingsValue) (ops : List Operation) (n made kept : ℕ)
    (change : ChangeValue) → is_accepted (value_of settings ops).state change ≡ false
    → publishes settings ops n made kept (changing change) ≡ None
refused_nothing settings ops n made kept change is = rw is refl

pub unkept_nothing : (settings : SettingsValue) (ops : List Operation) (n made others : ℕ)
    (k : Kept) → is_kept settings ops k ≡ false → publishes settings ops n made others (keeping k)
    ≡ None
unkept_nothing settings ops n made others k is = rw is refl

-- whether a change is accepted, as it is told of an equal value
pub accepted_is : {A : Type 0} (o : Option A) (t : Bool) (whole value : Value)
    (change : ChangeValue) → is_some o ≡ is_accepted whole.state change → whole ≡ value
    → is_some o ≡ t → is_accepted value.state change ≡ t
accepted_is o t whole value change is same there =
    ap (λ (v : Value). is_accepted v.state change) (sym same) ∙ (sym is ∙ there)

-- a report of a success is refused as the report of its address is
pub success_refused : (state : StateValue) (change : ChangeValue) (addr : Addr) (said : ReplyValue)
    → success_of change ≡ Some addr → report_refusal state addr true ≡ Some said
    → (refusal state change ≡ Some said)
success_refused state (create name rules) addr said is found = absurd (cc is)
success_refused state (put name expected rules) addr said is found = absurd (cc is)
success_refused state (delete name expected) addr said is found = absurd (cc is)
success_refused state (set_addrs service list) addr said is found = absurd (cc is)
success_refused state (drop_service service) addr said is found = absurd (cc is)
success_refused state (report at true moment) addr said is found = let same : at ≡ addr = cc is in
    rw same found
success_refused state (report at false moment) addr said is found = absurd (cc is)

-- so it is not accepted, and answered so
pub refused_so : (state : StateValue) (change : ChangeValue) (said : ReplyValue)
    → refusal state change ≡ Some said → is_accepted state change ≡ false
refused_so state change said is = rw is refl

pub answered_so : (settings : SettingsValue) (state : StateValue) (change : ChangeValue)
    (said : ReplyValue) → refusal state change ≡ Some said → said ≡ reply_of settings state change
answered_so settings state change said is = rw is refl

module _ {J : Type 0} {g : Ghosts J} where
  pub unanswered : (old new : Pass J g) → SawMore old new → Unanswered old new
  unanswered old new more =
      record {
        seen = more.seen;
        items = more.items;
        refusals = omega (arith, more.refusals);
        seat = more.seat;
      }

module _ {J : Type 0} {g : Ghosts J} (old mid new : Pass J g) (more : Unanswered old mid)
    (n : number_in mid ≡ number_in old) (m : made_in mid ≡ made_in old)
    (k : kept_in mid ≡ kept_in old) where
  found_from : (ops : List Operation) (call : Call)
      → publishes g.settings ops (number_in old) (made_in old) (kept_in old) call
      ≡ publishes g.settings ops (number_in mid) (made_in mid) (kept_in mid) call
  found_from ops call =
      ap (λ (i : ℕ). publishes g.settings ops i (made_in old) (kept_in old) call) (sym n)
      ∙ (ap (λ (i : ℕ). publishes g.settings ops (number_in mid) i (kept_in old) call) (sym m)
      ∙ ap (λ (i : ℕ). publishes g.settings ops (number_in mid) (made_in mid) i call) (sym k))

  called_from : (call : Call) (at : ℕ) → Called mid new call at → Called old new call at
  called_from call at c = record {
    before = prefix_trans (seen_in old) (seen_in mid) (seen_in new) more.seen c.before;
    item = c.item ∙ ap (λ (l : List (Call × ℕ)). l ++ (call, at) ∷ []) more.items;
    late = omega (arith, prefix_length (seen_in old) (seen_in mid) more.seen, c.late);
    within = c.within;
    stands = λ op found. c.stands op (sym (found_from (take at (seen_in new)) call) ∙ found);
  }

  seat_from : SameSeat mid new → SameSeat old new
  seat_from s = record {
    reads = s.reads ∙ more.seat.reads;
    taken = s.taken ∙ more.seat.taken;
    slot = s.slot ∙ more.seat.slot;
  }

  module _ (before : List Operation) (seen : seen_in mid ≡ before) where
    pub changed_is : (change : ChangeValue) (reply : Reply) (t : Bool)
        → is_accepted (value_of g.settings before).state change ≡ t
        → reply_value reply ≡ reply_of g.settings (value_of g.settings before).state change
        → Called mid new (changing change) (length before)
        → seen_in new ≡ before ++ option_to_list
        (publishes g.settings before (number_in mid) (made_in mid) (kept_in mid) (changing change))
        → made_in new ≡ (if t then made_in mid + 1 else made_in mid) → kept_in new ≡ kept_in mid
        → refusals_in new ≡ refusals_in mid → SameSeat mid new → IsChanged old new change reply
    changed_is change reply t accepted reply_is called seen' made kept refusals seat = record {
      before = before;
      called = called_from (changing change) (length before) called;
      seen = seen' ∙ ap (λ (o : Option Operation). before ++ option_to_list o)
          (sym (found_from before (changing change)));
      answered = reply_is;
      made = made ∙ (ap (λ (i : ℕ). if t then i + 1 else i) m
          ∙ ap (λ (b : Bool). if b then made_in old + 1 else made_in old) (sym accepted));
      kept = kept ∙ k;
      refusals = omega (arith, refusals, more.refusals);
      seat = seat_from seat;
    }

    pub remembered_is : (kept : Kept) (said : Remembered) (t : Bool)
        → is_kept g.settings before kept ≡ t → said ≡ remembered_as g.settings before kept
        → Called mid new (keeping kept) (length before) → seen_in new
        ≡ before ++ option_to_list
        (publishes g.settings before (number_in mid) (made_in mid) (kept_in mid) (keeping kept))
        → kept_in new ≡ (if t then kept_in mid + 1 else kept_in mid) → made_in new ≡ made_in mid
        → refusals_in new ≡ refusals_in old → SameSeat mid new → IsRemembered old new kept said
    remembered_is kept said t is_t said_is called seen' others made refusals seat = record {
      before = before;
      called = called_from (keeping kept) (length before) called;
      seen = seen' ∙ ap (λ (o : Option Operation). before ++ option_to_list o)
          (sym (found_from before (keeping kept)));
      answered = said_is;
      made = made ∙ m;
      kept = others ∙ (ap (λ (i : ℕ). if t then i + 1 else i) k
          ∙ ap (λ (b : Bool). if b then kept_in old + 1 else kept_in old) (sym is_t));
      refusals = refusals;
      seat = seat_from seat;
    }

    -- with a call that published nothing
    module _ (call : Call) (e : Entered mid new call) (reads : reads_in new ≡ reads_in mid)
        (seen' : seen_in new ≡ before) where
      pub entered_called : Called mid new call (length before)
      entered_called = subst (λ (l : List Operation). Called mid new call (length l)) seen' e.called

      pub entered_seen : publishes g.settings before (number_in mid) (made_in mid)
          (kept_in mid) call ≡ None → seen_in new
          ≡ before ++ option_to_list
          (publishes g.settings before (number_in mid) (made_in mid) (kept_in mid) call)
      entered_seen none = seen'
          ∙ (sym (append-nil before) ∙ ap (λ (o : Option Operation). before ++ option_to_list o)
          (sym none))

      pub entered_seat : SameSeat mid new
      entered_seat = record { reads = reads; taken = e.taken; slot = e.slot }

    pub refused_is : (change : ChangeValue) (reply : Reply)
        → is_accepted (value_of g.settings before).state change ≡ false
        → reply_value reply ≡ reply_of g.settings (value_of g.settings before).state change
        → Entered mid new (changing change) → reads_in new ≡ reads_in mid → seen_in new ≡ before
        → IsChanged old new change reply
    refused_is change reply refused reply_is e reads seen' =
        let none = refused_nothing g.settings before (number_in mid) (made_in mid)
        (kept_in mid) change refused in
        changed_is change reply false refused reply_is
        (entered_called (changing change) e reads seen')
        (entered_seen (changing change) e reads seen' none) e.made e.kept e.refusals
        (entered_seat (changing change) e reads seen')

    pub unkept_is : (k' : Kept) (said : Remembered) → is_kept g.settings before k' ≡ false
        → said ≡ remembered_as g.settings before k'
        → Entered mid new (keeping k') → reads_in new ≡ reads_in mid → seen_in new ≡ before
        → refusals_in mid ≡ refusals_in old → IsRemembered old new k' said
    unkept_is k' said unkept said_is e reads seen' let_in =
        let none = unkept_nothing g.settings before (number_in mid) (made_in mid)
        (kept_in mid) k' unkept in
        remembered_is k' said false unkept said_is (entered_called (keeping k') e reads seen')
        (entered_seen (keeping k') e reads seen' none) e.kept e.made (e.refusals ∙ let_in)
        (entered_seat (keeping k') e reads seen')

  -- it was answered later
  pub changed_later : (change : ChangeValue) (reply : Reply) → IsChanged mid new change reply
      → IsChanged old new change reply
  changed_later change reply is = record {
    before = is.before;
    called = called_from (changing change) (length is.before) is.called;
    seen = is.seen ∙ ap (λ (o : Option Operation). is.before ++ option_to_list o)
        (sym (found_from is.before (changing change)));
    answered = is.answered;
    made = is.made ∙ ap (λ (i : ℕ). if is_accepted (value_of g.settings is.before).state change
        then i + 1 else i) m;
    kept = is.kept ∙ k;
    refusals = omega (arith, is.refusals, more.refusals);
    seat = seat_from is.seat;
  }

  pub changed_if_later : {E : Type 0} (change : ChangeValue) (r : Result Reply E)
      → IfOk r (IsChanged mid new change) → IfOk r (IsChanged old new change)
  changed_if_later change (Ok reply) is = changed_later change reply is
  changed_if_later change (Err e) is = tt

  -- nor did it publish anything later
  pub counts_if_later : {A E : Type 0} (r : Result A E)
      → OnErr r ((made_in new ≡ made_in mid) × (kept_in new ≡ kept_in mid))
      → OnErr r ((made_in new ≡ made_in old) × (kept_in new ≡ kept_in old))
  counts_if_later (Ok a) is = tt
  counts_if_later (Err e) is = (is.0 ∙ m, is.1 ∙ k)

  -- it was not answered later either
  pub unanswered_later : SawMore mid new → Unanswered old new
  unanswered_later later = record {
    seen = prefix_trans (seen_in old) (seen_in mid) (seen_in new) more.seen later.seen;
    items = later.items ∙ more.items;
    refusals = omega (arith, later.refusals, more.refusals);
    seat = seat_from later.seat;
  }
