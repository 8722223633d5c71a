-- Every list of steps leaves one history.
use Rattle.std.proofs.Common.{◌≡◌, ◌≢◌, ℕ, zero, suc, ◌≤◌, ◌==◌, Bool, true, false, List, [], ◌∷◌}
use Rattle.std.proofs.Common.{◌++◌, length, take, drop, Some, None, Option, refl, arith, ap, sym}
use Rattle.std.proofs.Common.{◌∙◌, subst, append_assoc, length-append}
use mathlib.Core.Logic.{◌⊎◌, inl, inr}
use Rattle.std.specs.Prelude.{◌&&◌, slice_get, slice_set, replicate, if◌then◌else◌, is_none}
use Rattle.std.specs.Option.{option_to_list, option_or}
use Rattle.std.proofs.lemmas.List.{append-nil, take-append-drop, take-append-le, drop-append-le}
use Rattle.std.proofs.lemmas.List.{drop_all}
use Rattle.std.proofs.lemmas.List.Elements.{filter-append, All-nil}
use Rattle.std.proofs.lemmas.Bool.Decides.{Decides-eqb}
use Rattle.std.proofs.Math.Seq.{take-length}
use Rattle.bind_cache.specs.Kept.{Kept}
use Rattle.bind_cache.specs.Cache.{found_in}
use Rattle.machine.specs.Values.{SettingsValue}
use Rattle.one_history.specs.Entries.{changes_made, others_made}
use Rattle.one_history.specs.Order.{InOrder, own_changes}
use Rattle.one_history.proofs.Turning.{call_keeps_order, grown_in_order}
use Rattle.router_log.specs.Operation.{Operation, kept, is_change, caller_of}
use Rattle.router_log.specs.Value.{value_of, opening_value, Fits, AllFit}
use Rattle.router_log.specs.Call.{Call, asked, looked, changing, keeping, publishes, is_kept}
use Rattle.router_log.proofs.Places.{fit_push, fit_front, place_is}
use Rattle.router_log.proofs.Publishing.{of_caller, change_fits, kept_fits}
use Rattle.router_log.proofs.Right.{values_right}
use Rattle.weave.specs.World.{Question, pick, look, StepValue, publish, enter, answer, remember}
use Rattle.weave.specs.World.{meet, Item, PassValue, new_pass, WorldValue, opening_world}
use Rattle.weave.specs.World.{delegation_in, call_of, fresh_of, in_flight, publishes_now, with_call}
use Rattle.weave.specs.World.{called, seeing, entered, answered, remembered, published, entering}
use Rattle.weave.specs.World.{answering, remembering, seen_by, meeting, stepped, run_from}
use Rattle.weave.specs.Laws.{IsPass, EveryScheduleIsOneHistory}
use Rattle.weave.specs.Worlds.{WasRight, PassOk, AllOk, IsWorld}

-- what stands in a list of which one member was replaced
pub set_get : {X : Type 0} (xs : List X) (n : ℕ) (x : X) (j : ℕ) (y : X)
    → slice_get (slice_set xs n x) j ≡ Some y → ((j ≡ n) × (y ≡ x))
    ⊎ ((j ≢ n) × (slice_get xs j ≡ Some y))
set_get [] n x j y h = absurd (cc)
set_get (z ∷ zs) zero x zero y h = inl (refl, let e : x ≡ y = cc in sym e)
set_get (z ∷ zs) zero x (suc j) y h = inr (λ e. omega (arith, e), h)
set_get (z ∷ zs) (suc n) x zero y h = inr (λ e. omega (arith, e), h)
set_get (z ∷ zs) (suc n) x (suc j) y h =
    elim (set_get zs n x j y h) [
      | inl same ↦ inl (ap suc same.0, same.1)
      | inr other ↦ inr (λ e. other.0 (omega (arith, e)), other.1)
    ]

pub none_of : {X : Type 0} (n j : ℕ) (x y : X) → slice_get (replicate n x) j ≡ Some y → y ≡ x
none_of zero j x y h = absurd (cc)
none_of (suc n) zero x y h = let e : x ≡ y = cc in sym e
none_of (suc n) (suc j) x y h = none_of n j x y h

false_unless_true : (b : Bool) → (b ≡ true → ⊥) → b ≡ false
false_unless_true true never = absurd (never refl)
false_unless_true false never = refl

and_false : (b : Bool) → (b && false) ≡ false
and_false true = refl
and_false false = refl

module _ (settings : SettingsValue) where
  abbrev pub Own : ℕ → List Operation → List Operation
  Own number ops = own_changes is_change (publishes settings) caller_of number ops

  abbrev pub Order : ℕ → List Operation → List Item → Type 0
  Order number ops items = InOrder is_change (publishes settings) caller_of number ops items

  pub was_right_grown : (ops more : List Operation) (k : Kept) → WasRight settings ops k
      → WasRight settings (ops ++ more) k
  was_right_grown ops more k h = record {
    front = h.front;
    rest = h.rest ++ more;
    is = sym (append_assoc h.front h.rest more) ∙ ap (λ (xs : List Operation). xs ++ more) h.is;
    place = h.place;
    right = h.right;
  }

  -- other passes stay as they are while one publishes
  pub grown : (ops more : List Operation) (number : ℕ) (p : PassValue)
      → PassOk settings ops number p → Own number more ≡ [] → PassOk settings (ops ++ more) number p
  grown ops more number p h none =
      let within = h.pass.within in
      record {
        pass = record {
          within = omega (arith, within, length-append ops more);
          order = subst (λ (seen : List Operation). Order number seen p.items)
              (sym (take-append-le p.seen ops more within)) h.pass.order;
          none_later = ap (Own number) (drop-append-le p.seen ops more within)
              ∙ (filter-append (λ op. is_change op && (caller_of op == number))
              (drop p.seen ops) more
              ∙ (ap (λ (xs : List Operation). xs ++ Own number more) h.pass.none_later ∙ none));
        };
        fresh = λ k is. was_right_grown ops more k (h.fresh k is);
      }

  -- a pass that sees all that was published is in order in it
  pub all_seen : (ops : List Operation) (number : ℕ) (p : PassValue) → IsPass settings ops number p
      → Order number ops p.items
  all_seen ops number p h =
      subst (λ (seen : List Operation). Order number seen p.items) (take-append-drop p.seen ops)
      (grown_in_order is_change (publishes settings) caller_of number (take p.seen ops)
      (drop p.seen ops) p.items h.order h.none_later)

  see_all : (ops : List Operation) (number : ℕ) (p : PassValue) → p.seen ≡ length ops
      → Order number ops p.items → IsPass settings ops number p
  see_all ops number p all order = record {
    within = omega (arith, all);
    order = subst (λ (seen : List Operation). Order number seen p.items)
        (sym (ap (λ n. take n ops) all ∙ take-length ops)) order;
    none_later = ap (λ n. Own number (drop n ops)) all
        ∙ ap (Own number) (drop_all (length ops) ops (omega arith));
  }

  -- one pass is replaced
  replaced : (ops : List Operation) (passes : List PassValue) (number : ℕ) (p : PassValue)
      → ((j : ℕ) (q : PassValue) → j ≢ number → slice_get passes j ≡ Some q
      → PassOk settings ops j q) → PassOk settings ops number p
      → AllOk settings ops (slice_set passes number p)
  replaced ops passes number p others own j q here =
      elim (set_get passes number p j q here) [
        | inl same ↦ subst (λ (x : PassValue). PassOk settings ops j x) (sym same.1)
            (subst (λ n. PassOk settings ops n p) (sym same.0) own)
        | inr other ↦ others j q other.0 other.1
      ]

  -- what a call publishes is of its caller, so no other pass has a change of its own in it
  not_theirs : (o : Option Operation) (number j : ℕ)
      → ((op : Operation) → o ≡ Some op → caller_of op ≡ number) → j ≢ number
      → Own j (option_to_list o) ≡ []
  not_theirs None number j of other = refl
  not_theirs (Some op) number j of other =
      let no : (caller_of op == j) ≡ false =
      false_unless_true (caller_of op == j)
      (λ has. other (sym ((Decides-eqb (caller_of op) j).0 has) ∙ of op refl)) in
      ap (λ (b : Bool). if is_change op && b then op ∷ [] else []) no
      ∙ ap (λ (b : Bool). if b then op ∷ [] else []) (and_false (is_change op))

  fit_more : (ops : List Operation) (o : Option Operation) → AllFit settings opening_value ops
      → ((op : Operation) → o ≡ Some op → Fits settings (value_of settings ops) op)
      → AllFit settings opening_value (ops ++ option_to_list o)
  fit_more ops None fit fits = subst (λ (xs : List Operation). AllFit settings opening_value xs)
      (sym (append-nil ops)) fit
  fit_more ops (Some op) fit fits = fit_push settings opening_value ops op fit (fits op refl)

  -- a call of a pass
  pub call_world : (w : WorldValue) (number : ℕ) (p : PassValue) (call : Call) → IsWorld settings w
      → slice_get w.passes number ≡ Some p
      → ((op : Operation) → publishes_now settings number w.ops p call ≡ Some op
      → Fits settings (value_of settings w.ops) op)
      → IsWorld settings (called settings w number p call)
  call_world w number p call h here fits =
      let o = publishes_now settings number w.ops p call in
      let now = w.ops ++ option_to_list o in
      let old = h.all number p here in
      let of : (op : Operation) → o ≡ Some op → caller_of op ≡ number =
      λ op is. of_caller settings number w.ops
      (changes_made is_change (publishes settings) number w.ops p.items)
      (others_made is_change (publishes settings) number w.ops p.items) call op is in
      record {
        fit = fit_more w.ops o h.fit fits;
        all = replaced now w.passes number (with_call settings p call w.ops now)
            (λ j q other is. grown w.ops (option_to_list o) j q (h.all j q is)
            (not_theirs o number j of other))
            (record {
              pass = see_all now number (with_call settings p call w.ops now) refl
                  (call_keeps_order is_change (publishes settings) caller_of number w.ops p.items
                  call (of_caller settings number) (all_seen w.ops number p old.pass));
              fresh = λ k is. was_right_grown w.ops (option_to_list o) k (old.fresh k is);
            });
      }

  -- a pass that learns all that was published
  pub see_world : (w : WorldValue) (number : ℕ) (p : PassValue) → IsWorld settings w
      → slice_get w.passes number ≡ Some p → IsWorld settings (seeing settings w number p)
  see_world w number p h here =
      let old = h.all number p here in
      let new : PassValue =
      record { seen = length w.ops; items = p.items; flight = p.flight; fresh = p.fresh } in
      record {
        fit = h.fit;
        all = replaced w.ops w.passes number new (λ j q other is. h.all j q is)
            (record {
              pass = see_all w.ops number new refl (all_seen w.ops number p old.pass);
              fresh = old.fresh;
            });
      }

  -- a question publishes nothing
  pub asks_nothing : (number : ℕ) (ops : List Operation) (p : PassValue) (question : Question)
      → publishes_now settings number ops p (call_of question) ≡ None
  asks_nothing number ops p (pick ask) = refl
  asks_nothing number ops p (look l) = refl

  pub enter_world : (w : WorldValue) (number : ℕ) (p : PassValue) (question : Question)
      → IsWorld settings w → slice_get w.passes number ≡ Some p
      → IsWorld settings (entered settings w number p question)
  enter_world w number p question h here =
      let old = h.all number p here in
      let new : PassValue =
      record {
        seen = length w.ops;
        items = p.items ++ (call_of question, length w.ops) ∷ [];
        flight = Some (length p.items);
        fresh = p.fresh;
      } in
      let behind = call_keeps_order is_change (publishes settings) caller_of number w.ops p.items
      (call_of question) (of_caller settings number) (all_seen w.ops number p old.pass) in
      let same : w.ops ++ option_to_list (publishes_now settings number w.ops p (call_of question))
      ≡ w.ops =
      ap (λ (o : Option Operation). w.ops ++ option_to_list o)
      (asks_nothing number w.ops p question) ∙ append-nil w.ops in
      record {
        fit = h.fit;
        all = replaced w.ops w.passes number new (λ j q other is. h.all j q is)
            (record {
              pass = see_all w.ops number new refl
                  (subst (λ (ops : List Operation). Order number ops new.items) same behind);
              fresh = old.fresh;
            });
      }

  -- what a pick works out is right where its call stands
  fresh_right : (ops : List Operation) (at : ℕ) (call : Call) (k : Kept)
      → AllFit settings opening_value ops → fresh_of settings (take at ops) call ≡ Some k
      → WasRight settings ops k
  fresh_right ops at (asked ask) k fit is =
      let front = take at ops in
      let state = (value_of settings front).state in
      let parts : front ++ drop at ops ≡ ops = take-append-drop at ops in
      let fits : AllFit settings opening_value front =
      fit_front settings opening_value front (drop at ops)
      (subst (λ (xs : List Operation). AllFit settings opening_value xs) (sym parts) fit) in
      let made = delegation_in settings state ask.path ask.own in
      let P : Bool → Type 0 = λ b. (if b then Some made else None) ≡ Some k → made ≡ k in
      let each : P (is_none (found_in (value_of settings front).cache ask.path ask.own)) =
      elim (is_none (found_in (value_of settings front).cache ask.path ask.own)) as P
      [ true ↦ (λ e. cc) | false ↦ (λ e. absurd (cc)) ] in
      let right : WasRight settings ops made =
      record {
        front = front;
        rest = drop at ops;
        is = parts;
        place = place_is settings front fits;
        right = record { ending = refl; cost = refl; asked = refl };
      } in
      subst (λ (x : Kept). WasRight settings ops x) (each is) right
  fresh_right ops at (looked l) k fit is = absurd (cc)
  fresh_right ops at (changing change) k fit is = absurd (cc)
  fresh_right ops at (keeping x) k fit is = absurd (cc)

  either_right : (ops : List Operation) (one other : Option Kept) (k : Kept)
      → ((x : Kept) → one ≡ Some x → WasRight settings ops x)
      → ((x : Kept) → other ≡ Some x → WasRight settings ops x) → option_or one other ≡ Some k
      → WasRight settings ops k
  either_right ops None other k first second is = second k is
  either_right ops (Some x) other k first second is = first k is

  pub answer_world : (w : WorldValue) (number : ℕ) (p : PassValue) (item : Option Item)
      → IsWorld settings w → slice_get w.passes number ≡ Some p
      → IsWorld settings (answered settings w number p item).0
  answer_world w number p None h here = h
  answer_world w number p (Some item) h here =
      let old = h.all number p here in
      let new : PassValue =
      record {
        seen = p.seen;
        items = p.items;
        flight = None;
        fresh =
            option_or (fresh_of settings (take item.1 w.ops) item.0) p.fresh;
      } in
      record {
        fit = h.fit;
        all = replaced w.ops w.passes number new (λ j q other is. h.all j q is)
            (record {
              pass = record {
                within = old.pass.within;
                order = old.pass.order;
                none_later =
                    old.pass.none_later;
              };
              fresh = λ k is. either_right w.ops (fresh_of settings (take item.1 w.ops) item.0)
                  p.fresh k (λ x e. fresh_right w.ops item.1 item.0 x h.fit e) old.fresh is;
            });
      }

  -- a kept delegation fits
  pub kept_here : (ops : List Operation) (number changes others : ℕ) (k : Kept) (op : Operation)
      → WasRight settings ops k → publishes settings ops number changes others (keeping k)
      ≡ Some op → Fits settings (value_of settings ops) op
  kept_here ops number changes others k op was is =
      let P : Bool → Type 0 = λ b. is_kept settings ops k ≡ b
      → (if b then Some (kept number others k) else None) ≡ Some op
      → Fits settings (value_of settings ops) op in
      let each : P (is_kept settings ops k) =
      elim (is_kept settings ops k) as P [
        | true ↦ (λ has e.
            let same : kept number others k ≡ op = cc in
            let there : is_kept settings (was.front ++ was.rest) k ≡ true =
            ap (λ (xs : List Operation). is_kept settings xs k) was.is ∙ has in
            let fits = kept_fits settings was.front was.rest k was.place was.right there number
            others in
            subst (λ (x : Operation). Fits settings (value_of settings ops) x) same
            (subst (λ (xs : List Operation). Fits settings (value_of settings xs)
            (kept number others k)) was.is fits))
        | false ↦ (λ lacks e. absurd (cc))
      ] in
      each refl is

  pub remember_world : (w : WorldValue) (number : ℕ) (p : PassValue) (fresh : Option Kept)
      → ((k : Kept) → fresh ≡ Some k → WasRight settings w.ops k) → IsWorld settings w
      → slice_get w.passes number ≡ Some p
      → IsWorld settings (remembered settings w number p fresh).0
  remember_world w number p None was h here = see_world w number p h here
  remember_world w number p (Some k) was h here =
      call_world w number p (keeping k) h here
      (λ op is. kept_here w.ops number
      (changes_made is_change (publishes settings) number w.ops p.items)
      (others_made is_change (publishes settings) number w.ops p.items) k op (was k refl) is)

  meet_world : (w : WorldValue) (other : ℕ) (q : Option PassValue) → IsWorld settings w
      → slice_get w.passes other ≡ q → IsWorld settings (seen_by settings w other q)
  meet_world w other None h here = h
  meet_world w other (Some q) h here = see_world w other q h here

  pub one_step : (w : WorldValue) (s : StepValue) → IsWorld settings w
      → IsWorld settings (stepped settings w s).0
  one_step w (publish number change) h =
      let P : Option PassValue → Type 0 = λ o. slice_get w.passes number ≡ o
      → IsWorld settings (published settings w number o change).0 in
      let each : P (slice_get w.passes number) =
      elim (slice_get w.passes number) as P [
        | None ↦ (λ here. h)
        | Some p ↦ (λ here.
            call_world w number p (changing change) h here
            (λ op is. (change_fits settings w.ops number
            (changes_made is_change (publishes settings) number w.ops p.items)
            (others_made is_change (publishes settings) number w.ops p.items) change op is).1))
      ] in
      each refl
  one_step w (enter number question) h =
      let P : Option PassValue → Type 0 = λ o. slice_get w.passes number ≡ o
      → IsWorld settings (entering settings w number o question).0 in
      let each : P (slice_get w.passes number) =
      elim (slice_get w.passes number) as P
      [ None ↦ (λ here. h) | Some p ↦ (λ here. enter_world w number p question h here) ] in
      each refl
  one_step w (answer number) h =
      let P : Option PassValue → Type 0 = λ o. slice_get w.passes number ≡ o
      → IsWorld settings (answering settings w number o).0 in
      let each : P (slice_get w.passes number) =
      elim (slice_get w.passes number) as P
      [ None ↦ (λ here. h) | Some p ↦ (λ here. answer_world w number p (in_flight p) h here) ] in
      each refl
  one_step w (remember number) h =
      let P : Option PassValue → Type 0 = λ o. slice_get w.passes number ≡ o
      → IsWorld settings (remembering settings w number o).0 in
      let each : P (slice_get w.passes number) =
      elim (slice_get w.passes number) as P [
        | None ↦ (λ here. h)
        | Some p ↦
            (λ here. remember_world w number p p.fresh (h.all number p here).fresh h here)
      ] in
      each refl
  one_step w (meet one other) h =
      let P : Option PassValue → Option PassValue → Type 0 = λ o q. slice_get w.passes one ≡ o
      → IsWorld settings (meeting settings w one other o q).0 in
      let first : (q : Option PassValue) → P (slice_get w.passes one) q = λ q.
      elim (slice_get w.passes one) as (λ o. P o q) [
        | None ↦ (λ here. h)
        | Some p ↦ both q p
      ] in
      first (slice_get w.passes other) refl
    where
      both : (q : Option PassValue) (p : PassValue) → slice_get w.passes one ≡ Some p
          → IsWorld settings (meeting settings w one other (Some p) q).0
      both None p here = h
      both (Some q) p here = meet_world (seeing settings w one p) other
          (slice_get (seeing settings w one p).passes other) (see_world w one p h here) refl

  any_steps : (w : WorldValue) (steps : List StepValue) → IsWorld settings w
      → IsWorld settings (run_from settings w steps).0
  any_steps w [] h = h
  any_steps w (s ∷ ss) h = any_steps (stepped settings w s).0 ss (one_step w s h)

  nothing_yet : (number : ℕ) → Order number [] []
  nothing_yet number = record {
    placed = record {
      within = All-nil (λ (i : Item). i.1 ≤ 0);
      follow = tt;
      stands =
          All-nil (λ (e : Operation × ℕ). slice_get [] e.1 ≡ Some e.0);
    };
    own = refl;
  }

  pub begin : (passes : ℕ) → IsWorld settings (opening_world passes)
  begin passes = record {
    fit = tt;
    all = λ number p here.
        subst (λ (x : PassValue). PassOk settings [] number x)
        (sym (none_of passes number new_pass p here))
        (record {
          pass = record { within = omega arith; order = nothing_yet number; none_later = refl };
          fresh = λ k is. absurd (cc);
        });
  }

pub every_schedule_is_one_history : EveryScheduleIsOneHistory
every_schedule_is_one_history settings passes steps =
    let h = any_steps settings (opening_world passes) steps (begin settings passes) in
    record {
      fit = h.fit;
      right = values_right settings
          (run_from settings (opening_world passes) steps).0.ops h.fit;
      passes = λ number p here. (h.all number p here).pass;
    }
