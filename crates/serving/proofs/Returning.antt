-- What a net comes to where stops were handed out, and listeners were made and came back.
use Rattle.std.proofs.Common.{◌≡◌, ℕ, zero, suc, ◌+◌, ◌-◌, ◌≤◌, ◌==◌, Bool, true, false, List, []}
use Rattle.std.proofs.Common.{◌∷◌, ◌++◌, append_assoc, append-nil, length, map, refl, sym, ap}
use Rattle.std.proofs.Common.{subst, ◌∙◌, arith, Some, None}
use Rattle.std.proofs.lemmas.Bool.Decides.{nat_tests}
use Rattle.std.specs.Prelude.{Option, IfSome, option_map, if◌then◌else◌}
use Rattle.std.specs.List.{AllByRecursion}
use Rattle.line_base.specs.Counts.{raised}
use Rattle.line_base.specs.Nets.{Ended, Networking, Returns, after_end, after_stopper, is_clean}
use Rattle.line_base.specs.Nets.{with_ended, with_room}
use Rattle.workers.specs.Turns.{raised_by}
use Rattle.line_base.specs.Accepts.{Listening, after_finish}
use Rattle.serving.specs.Returning.{all_ended, all_finished, listened}
use Rattle.serving.specs.Returning.{with_all, with_left_over, with_stops}

raised_first : (n count : ℕ) → raised_by n (raised count) ≡ raised (raised_by n count)
raised_first zero count = refl
raised_first (suc n) count = ap raised (raised_first n count)

module _ {P : Type 0} where
  -- ---- stops
  pub given_stops : (k : ℕ) (n : Networking P) → (with_stops k n).stops_given
      ≡ raised_by k n.stops_given
  given_stops zero n = refl
  given_stops (suc k) n = given_stops k (after_stopper n) ∙ raised_first k n.stops_given

  pub given_told : (k : ℕ) (n : Networking P) → (with_stops k n).told ≡ n.told
  given_told zero n = refl
  given_told (suc k) n = given_told k (after_stopper n)

  pub given_clean : (k : ℕ) (n : Networking P) → (with_stops k n).clean ≡ n.clean
  given_clean zero n = refl
  given_clean (suc k) n = given_clean k (after_stopper n)

  pub given_returned : (k : ℕ) (n : Networking P) → (with_stops k n).stops_returned
      ≡ n.stops_returned
  given_returned zero n = refl
  given_returned (suc k) n = given_returned k (after_stopper n)

  pub given_accepted : (k : ℕ) (n : Networking P) → (with_stops k n).accepted ≡ n.accepted
  given_accepted zero n = refl
  given_accepted (suc k) n = given_accepted k (after_stopper n)

  pub given_finished : (k : ℕ) (n : Networking P) → (with_stops k n).finished ≡ n.finished
  given_finished zero n = refl
  given_finished (suc k) n = given_finished k (after_stopper n)

  -- so many, and then more
  pub more_stops : (k m : ℕ) (n : Networking P) → with_stops m (with_stops k n)
      ≡ with_stops (k + m) n
  more_stops zero m n = let e : m ≡ 0 + m = omega arith in ap (λ (i : ℕ). with_stops i n) e
  more_stops (suc k) m n = let e : suc (k + m) ≡ suc k + m = omega arith in
      more_stops k m (after_stopper n) ∙ ap (λ (i : ℕ). with_stops i n) e

  -- ---- what came back
  pub ended_given : (es : List (Ended P)) (n : Networking P)
      → (all_ended es n).stops_given ≡ n.stops_given
  ended_given [] n = refl
  ended_given (e ∷ es) n = ended_given es (after_end n e)

  pub ended_returned : (es : List (Ended P)) (n : Networking P)
      → (all_ended es n).stops_returned ≡ raised_by (length es) n.stops_returned
  ended_returned [] n = refl
  ended_returned (e ∷ es) n = ended_returned es (after_end n e)
      ∙ raised_first (length es) n.stops_returned

  pub ended_clean : (es : List (Ended P)) (n : Networking P)
      → AllByRecursion (λ (e : Ended P). is_clean e.listener ≡ true) es
      → (all_ended es n).clean ≡ raised_by (length es) n.clean
  ended_clean [] n all = refl
  ended_clean (e ∷ es) n all =
      let one : (after_end n e).clean ≡ raised n.clean =
      ap (λ (b : Bool). if b then raised n.clean else n.clean) all.0 in
      ended_clean es (after_end n e) all.1
      ∙ (ap (raised_by (length es)) one ∙ raised_first (length es) n.clean)

  -- ---- what is told
  told_by : List (Ended P) → Returns P → Returns P
  told_by [] r = r
  told_by (e ∷ es) r = told_by es (with_ended e r)

  returns_same : (xs ys : List (Ended P)) (m n : ℕ) → xs ≡ ys → m ≡ n
      → ◌≡◌ {A = Returns P} (record { ended = xs; room = m }) (record { ended = ys; room = n })
  returns_same xs ys m n p q = λ i. record { ended = p i; room = q i }

  told_with : (es : List (Ended P)) (r : Returns P) → length es ≤ r.room
      → told_by es r ≡ with_all es r
  unfolding told_by
  told_with [] r room = returns_same r.ended (r.ended ++ []) r.room (r.room - 0)
      (sym (append-nil r.ended)) (omega arith)
  told_with (e ∷ es) r room =
      let some : (r.room == 0) ≡ false = grind (arith, nat_tests, room) in
      let next : Returns P = record { ended = r.ended ++ e ∷ []; room = r.room - 1 } in
      let one : with_ended e r ≡ next = ap (λ (b : Bool). if b then r else next) some in
      let left : length es ≤ r.room - 1 = omega (arith, room) in
      ap (told_by es) one ∙ (told_with es next left
      ∙ returns_same ((r.ended ++ e ∷ []) ++ es) (r.ended ++ e ∷ es) (r.room - 1 - length es)
      (r.room - suc (length es)) (append_assoc r.ended (e ∷ []) es) (omega arith))

  told_first : (e : Ended P) (es : List (Ended P)) (t : Option (Returns P))
      → option_map (told_by es) (option_map (with_ended e) t) ≡ option_map (told_by (e ∷ es)) t
  unfolding told_by
  told_first e es None = refl
  told_first e es (Some r) = refl

  told_none : (t : Option (Returns P)) → t ≡ option_map (told_by []) t
  unfolding told_by
  told_none None = refl
  told_none (Some r) = refl

  told_each : (es : List (Ended P)) (n : Networking P)
      → (all_ended es n).told ≡ option_map (told_by es) n.told
  told_each [] n = told_none n.told
  told_each (e ∷ es) n = told_each es (after_end n e) ∙ told_first e es n.told

  told_room : (es : List (Ended P)) (t : Option (Returns P)) → IfSome t (λ r. length es ≤ r.room)
      → option_map (told_by es) t ≡ option_map (with_all es) t
  told_room es None room = refl
  told_room es (Some r) room = ap Some (told_with es r room)

  pub ended_told : (es : List (Ended P)) (n : Networking P)
      → IfSome n.told (λ r. length es ≤ r.room) → (all_ended es n).told
      ≡ option_map (with_all es) n.told
  ended_told es n room = told_each es n ∙ told_room es n.told room

  -- ---- peers that were finished
  pub finished_closes : (ps : List P) (l : Listening P) → (all_finished ps l).closes ≡ l.closes
  finished_closes [] l = refl
  finished_closes (p ∷ ps) l = finished_closes ps (after_finish l p)

  pub finished_run : (ps : List P) (l : Listening P) → (all_finished ps l).run ≡ l.run
  finished_run [] l = refl
  finished_run (p ∷ ps) l = finished_run ps (after_finish l p)

  pub finished_accepted : (ps : List P) (l : Listening P)
      → (all_finished ps l).accepted ≡ l.accepted
  finished_accepted [] l = refl
  finished_accepted (p ∷ ps) l = finished_accepted ps (after_finish l p)

  pub finished_count : (ps : List P) (l : Listening P)
      → (all_finished ps l).finished ≡ raised_by (length ps) l.finished
  finished_count [] l = refl
  finished_count (p ∷ ps) l =
      finished_count ps (after_finish l p) ∙ raised_first (length ps) l.finished

  pub more_finished : (ps qs : List P) (l : Listening P)
      → all_finished qs (all_finished ps l) ≡ all_finished (ps ++ qs) l
  more_finished [] qs l = refl
  more_finished (p ∷ ps) qs l = more_finished ps qs (after_finish l p)

  pub over_length : (over : List P) (es : List (Ended P))
      → length (with_left_over over es) ≡ length es
  over_length over [] = refl
  over_length over (e ∷ es) = refl

  -- ---- listeners that were made
  told_more : (a b k : ℕ) (t : Option (Returns P)) → a + b ≡ k
      → option_map (with_room b) (option_map (with_room a) t) ≡ option_map (with_room k) t
  told_more a b k None is = refl
  told_more a b k (Some r) is = let e : r.room + a + b ≡ r.room + k = omega (arith, is) in
      ap Some (returns_same r.ended r.ended (r.room + a + b) (r.room + k) refl e)

  pub listened_more : (a b k : ℕ) (n : Networking P) → a + b ≡ k
      → listened b (listened a n) ≡ listened k n
  listened_more a b k n is =
      ap (λ (t : Option (Returns P)). let m : Networking P =
      record {
        told = t;
        clean = n.clean;
        accepted = n.accepted;
        finished = n.finished;
        stops_given = n.stops_given;
        stops_returned = n.stops_returned;
      } in m) (told_more a b k n.told is)

  room_in : (k : ℕ) (t : Option (Returns P)) → IfSome (option_map (with_room k) t) (λ r. k ≤ r.room)
  room_in k None = tt
  room_in k (Some r) = omega arith

  pub room_made : (k : ℕ) (old new : Networking P) → new ≡ listened k old
      → IfSome new.told (λ r. k ≤ r.room)
  room_made k old new is = subst (λ (n : Networking P). IfSome n.told (λ r. k ≤ r.room)) (sym is)
      (room_in k old.told)

-- one more came back
pub ended_moved : {A P : Type 0} (f : A → Ended P) (old new all : Networking P) (x : A)
    (rest whole : List A) → new ≡ after_end old (f x) → whole ≡ x ∷ rest
    → all_ended (map f whole) old ≡ all
    → all_ended (map f rest) new ≡ all
ended_moved f old new all x rest whole is cut same =
    ap (λ (n : Networking _). all_ended (map f rest) n) is
    ∙ (ap (λ (xs : List _). all_ended (map f xs) old) (sym cut) ∙ same)

pub ended_begun : {A P : Type 0} (f : A → Ended P) (n : Networking P) (xs ys : List A) → xs ≡ ys
    → all_ended (map f xs) n ≡ all_ended (map f ys) n
ended_begun f n xs ys same = ap (λ (zs : List _). all_ended (map f zs) n) same
