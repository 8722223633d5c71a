-- Turns one after another.
use Rattle.std.proofs.Common.{◌≡◌, ℕ, zero, suc, ◌+◌, ◌-◌, ◌==◌, false, List, [], ◌∷◌, ◌++◌, length}
use Rattle.std.proofs.Common.{take, Some, None, refl, sym, ap, ◌∙◌, subst, arith, length-append}
use Rattle.std.proofs.Common.{append_assoc}
use Rattle.std.proofs.lemmas.Bool.Decides.{nat_tests}
use Rattle.std.proofs.lemmas.List.{append-nil}
use Rattle.std.specs.Prelude.{Option, option_map}
use Rattle.line_base.specs.Accepts.{Listening, Visits, handing, telling, closing, failing}
use Rattle.line_base.specs.Accepts.{after_finish, with_handed, with_returned}
use Rattle.line_base.specs.Counts.{raised}
use Rattle.waiting.specs.declared.hand.Hand.{Hand}
use Rattle.waiting.specs.Hands.{Counts}
use Rattle.workers.specs.Turns.{End, Turn, from_peer, from_stay, left, given_back, turn, admitted}
use Rattle.workers.specs.Turns.{returned, peers_of_begin, peers_of_end, taken_in, left_in}
use Rattle.workers.specs.Turns.{ServesTurns, raised_by, with_turns, Lends, Handles, Works, IsAsOpen}
use Rattle.workers.specs.Turns.{Settles}

-- ---- servers
pub turns_on : {W P S : Type 0} (serves : W → Turn P S → W → Type 0) (old mid new : W)
    (ts us : List (Turn P S))
    → ServesTurns serves old ts mid → ServesTurns serves mid us new
    → ServesTurns serves old (ts ++ us) new
turns_on serves old mid new [] us first second =
    subst (λ s. ServesTurns serves s us new) first second
turns_on serves old mid new (t ∷ ts) us first second =
    (first.0, first.1, turns_on serves first.0 mid new ts us first.2 second)

module _ {P S : Type 0} where
  pub admitted-append : (ts us : List (Turn P S)) → admitted (ts ++ us) ≡ admitted ts ++ admitted us
  admitted-append [] us = refl
  admitted-append (t ∷ ts) us = ap (λ l. peers_of_begin t.begin ++ l) (admitted-append ts us)
      ∙ sym (append_assoc (peers_of_begin t.begin) (admitted ts) (admitted us))

  pub returned-append : (ts us : List (Turn P S)) → returned (ts ++ us) ≡ returned ts ++ returned us
  returned-append [] us = refl
  returned-append (t ∷ ts) us = ap (λ l. peers_of_end t.end ++ l) (returned-append ts us)
      ∙ sym (append_assoc (peers_of_end t.end) (returned ts) (returned us))

  pub taken-append : (ts us : List (Turn P S)) → taken_in (ts ++ us) ≡ taken_in ts + taken_in us
  taken-append [] us = omega arith
  taken-append (t ∷ ts) us = omega (arith, taken-append ts us)

  pub left-append : (ts us : List (Turn P S)) → left_in (ts ++ us) ≡ left_in ts + left_in us
  left-append [] us = omega arith
  left-append (t ∷ ts) us = omega (arith, left-append ts us)

-- ---- listeners
raised_on : (m n count : ℕ) → raised_by n (raised_by m count) ≡ raised_by (m + n) count
raised_on m zero count =
    let e : m ≡ m + zero = omega arith in ap (λ (k : ℕ). raised_by k count) e
raised_on m (suc n) count =
    let e : suc (m + n) ≡ m + suc n = omega arith in
    ap raised (raised_on m n count) ∙ ap (λ (k : ℕ). raised_by k count) e

module _ {P : Type 0} where
  take_nothing : (r : ℕ) → take r (let none : List P = [] in none) ≡ []
  take_nothing zero = refl
  take_nothing (suc r) = refl

  take_on : (r : ℕ) (xs ys : List P) → take r xs ++ take (r - length xs) ys ≡ take r (xs ++ ys)
  take_on r [] ys =
      let e : r - zero ≡ r = omega arith in
      ap (λ (l : List P). l ++ take (r - zero) ys) (take_nothing r)
      ∙ ap (λ (k : ℕ). take k ys) e
  take_on zero (x ∷ xs) ys =
      let e : zero - length (x ∷ xs) ≡ zero = omega arith in ap (λ (k : ℕ). take k ys) e
  take_on (suc r) (x ∷ xs) ys =
      let e : suc r - length (x ∷ xs) ≡ r - length xs = omega arith in
      ap (λ (l : List P). x ∷ l) (ap (λ (k : ℕ). take r xs ++ take k ys) e ∙ take_on r xs ys)

  same_visits : (v w : Visits P) → v.handed ≡ w.handed → v.returned ≡ w.returned → v.room ≡ w.room
      → v ≡ w
  same_visits v w handed back room =
      let at : List P → List P → ℕ → Visits P =
      λ h r n. record { handed = h; returned = r; room = n } in
      ap (λ h. at h v.returned v.room) handed
      ∙ (ap (λ r. at w.handed r v.room) back ∙ ap (λ n. at w.handed w.returned n) room)

  visits_on : (hs is bs cs : List P) (v : Visits P)
      → with_turns is cs (with_turns hs bs v) ≡ with_turns (hs ++ is) (bs ++ cs) v
  visits_on hs is bs cs v = same_visits _ _
      (append_assoc v.handed hs is)
      (append_assoc v.returned (take v.room bs) (take (v.room - length bs) cs)
      ∙ ap (λ l. v.returned ++ l) (take_on v.room bs cs))
      (omega (arith, length-append bs cs))

  option_on : (hs is bs cs : List P) (o : Option (Visits P))
      → option_map (with_turns is cs) (option_map (with_turns hs bs) o)
      ≡ option_map (with_turns (hs ++ is) (bs ++ cs)) o
  option_on hs is bs cs None = refl
  option_on hs is bs cs (Some v) = ap Some (visits_on hs is bs cs v)

  visits_none : (v : Visits P) → v ≡ with_turns [] [] v
  visits_none v = same_visits _ _ (sym (append-nil v.handed))
      (sym (ap (λ l. v.returned ++ l) (take_nothing v.room) ∙ append-nil v.returned)) (omega arith)

  option_none : (o : Option (Visits P)) → o ≡ option_map (with_turns [] []) o
  option_none None = refl
  option_none (Some v) = ap Some (visits_none v)

  visits_handed : (p : P) (v : Visits P) → with_handed p v ≡ with_turns (p ∷ []) [] v
  visits_handed p v = same_visits _ _ refl
      (sym (ap (λ l. v.returned ++ l) (take_nothing v.room) ∙ append-nil v.returned)) (omega arith)

  option_handed : (p : P) (o : Option (Visits P)) → option_map (with_handed p) o
      ≡ option_map (with_turns (p ∷ []) []) o
  option_handed p None = refl
  option_handed p (Some v) = ap Some (visits_handed p v)

  visits_returned : (p : P) (hs bs : List P) (n : ℕ)
      → with_returned p (record { handed = hs; returned = bs; room = n })
      ≡ with_turns [] (p ∷ []) (record { handed = hs; returned = bs; room = n })
  visits_returned p hs bs zero = same_visits _ _ (sym (append-nil hs)) (sym (append-nil bs)) refl
  visits_returned p hs bs (suc n) =
      let some : (suc n == 0) ≡ false = grind (arith, nat_tests) in
      rw some (same_visits _ _ (sym (append-nil hs)) (ap (λ l. bs ++ p ∷ l) (sym (take_nothing n)))
      (omega arith))

  option_returned : (p : P) (o : Option (Visits P))
      → option_map (with_returned p) o ≡ option_map (with_turns [] (p ∷ [])) o
  option_returned p None = refl
  option_returned p (Some v) = ap Some (visits_returned p v.handed v.returned v.room)

  pub lends_none : (l : Listening P) → Lends [] [] l l
  lends_none l = record {
    endpoint = refl;
    visits = option_none l.visits;
    accepted = refl;
    finished = refl;
  }

  pub lends_on : (hs is bs cs : List P) (a b c : Listening P) → Lends hs bs a b → Lends is cs b c
      → Lends (hs ++ is) (bs ++ cs) a c
  lends_on hs is bs cs a b c first second = record {
    endpoint = second.endpoint ∙ first.endpoint;
    visits = second.visits
        ∙ (ap (option_map (with_turns is cs)) first.visits ∙ option_on hs is bs cs a.visits);
    accepted = second.accepted
        ∙ (ap (raised_by (length is)) first.accepted
        ∙ (raised_on (length hs) (length is) a.accepted
        ∙ ap (λ k. raised_by k a.accepted) (sym (length-append hs is))));
    finished = second.finished
        ∙ (ap (raised_by (length cs)) first.finished
        ∙ (raised_on (length bs) (length cs) a.finished
        ∙ ap (λ k. raised_by k a.finished) (sym (length-append bs cs))));
  }

  pub lends_handing : (l : Listening P) (p : P) → Lends (p ∷ []) [] l (handing l p)
  lends_handing l p = record {
    endpoint = refl;
    visits = option_handed p l.visits;
    accepted = refl;
    finished = refl;
  }

  pub lends_finish : (l : Listening P) (p : P) → Lends [] (p ∷ []) l (after_finish l p)
  lends_finish l p = record {
    endpoint = refl;
    visits = option_returned p l.visits;
    accepted =
        refl;
    finished = refl;
  }

  pub lends_telling : (l : Listening P) → Lends [] [] l (telling l)
  lends_telling l = record {
    endpoint = refl;
    visits = option_none l.visits;
    accepted = refl;
    finished = refl;
  }

  pub lends_closing : (l : Listening P) → Lends [] [] l (closing l)
  lends_closing l = record {
    endpoint = refl;
    visits = option_none l.visits;
    accepted = refl;
    finished = refl;
  }

  pub lends_failing : (l : Listening P) → Lends [] [] l (failing l)
  lends_failing l = record {
    endpoint = refl;
    visits = option_none l.visits;
    accepted = refl;
    finished = refl;
  }

-- ---- hands
module _ {A B : Type 0} where
  pub handles_none : (h : Hand A B) → Handles 0 0 h h
  handles_none h = record { back = 0; left_is = refl; taken_is = refl }

  pub handles_on : (l t m u : ℕ) (x y z : Hand A B) → Handles l t x y → Handles m u y z
      → Handles (l + m) (t + u) x z
  handles_on l t m u x y z first second = record {
    back = first.back + second.back;
    left_is = omega (arith, first.left_is, second.left_is);
    taken_is = omega (arith, first.taken_is, second.taken_is);
  }

  pub handles_counts : (l t : ℕ) (x y : Hand A B) → Counts x y l t → Handles l t x y
  handles_counts l t x y c =
      record { back = 0; left_is = omega (arith, c.left_is); taken_is = omega (arith, c.taken_is) }

-- ---- workers
module _ {W P S A B : Type 0} (serves : W → Turn P S → W → Type 0) where
  pub works_none : (w : W) (l : Listening P) (h : Hand A B) → Works serves [] w w l l h h
  works_none w l h = record { turns = refl; lends = lends_none l; hands = handles_none h }

  -- a listener moved that told no peer
  pub works_quiet : (ts : List (Turn P S)) (w v : W) (l m n : Listening P) (h g : Hand A B)
      → Works serves ts w v l m h g → Lends [] [] m n → Works serves ts w v l n h g
  works_quiet ts w v l m n h g works more = record {
    turns = works.turns;
    lends = subst (λ hs. Lends hs (returned ts) l n) (append-nil (admitted ts))
        (subst (λ bs. Lends (admitted ts ++ []) bs l n) (append-nil (returned ts))
        (lends_on (admitted ts) [] (returned ts) [] l m n works.lends more));
    hands = works.hands;
  }

  pub works_on : (ts us : List (Turn P S)) (w v u : W) (l m n : Listening P) (h g f : Hand A B)
      → Works serves ts w v l m h g → Works serves us v u m n g f
      → Works serves (ts ++ us) w u l n h f
  works_on ts us w v u l m n h g f first second = record {
    turns = turns_on serves w v u ts us first.turns second.turns;
    lends = subst (λ hs. Lends hs (returned (ts ++ us)) l n) (sym (admitted-append ts us))
        (subst (λ bs. Lends (admitted ts ++ admitted us) bs l n) (sym (returned-append ts us))
        (lends_on _ _ _ _ l m n first.lends second.lends));
    hands = let both = handles_on (left_in ts) (taken_in ts) (left_in us)
        (taken_in us) h g f first.hands second.hands in record {
          back = both.back;
          left_is = omega (arith, both.left_is, left-append ts us);
          taken_is = omega (arith, both.taken_is, taken-append ts us);
        };
  }

  -- a new peer had its first turn
  pub works_came : (p : P) (e : End P S) (us : List (Turn P S)) (w v u : W) (l n : Listening P)
      (h f : Hand A B)
      → serves w (turn (from_peer p) e) v → Settles serves e us v u (handing l p) n h f
      → Works serves (turn (from_peer p) e ∷ us) w u l n h f
  works_came p e us w v u l n h f served s = record {
    turns = (v, served, s.turns);
    lends = subst (λ hs. Lends (p ∷ hs) (peers_of_end e ++ returned us) l n) (sym s.none_new)
        (lends_on (p ∷ []) [] [] (peers_of_end e ++ returned us) l (handing l p) n
        (lends_handing l p) s.lends);
    hands = record {
      back = s.hands.back;
      left_is = s.hands.left_is;
      taken_is =
          omega (arith, s.hands.taken_is);
    };
  }

  -- a connection that waited had a turn more
  pub works_ready : (a : S) (e : End P S) (us : List (Turn P S)) (w v u : W) (l n : Listening P)
      (h g f : Hand A B)
      → Counts h g 0 1 → serves w (turn (from_stay a) e) v → Settles serves e us v u l n g f
      → Works serves (turn (from_stay a) e ∷ us) w u l n h f
  works_ready a e us w v u l n h g f c served s = record {
    turns = (v, served, s.turns);
    lends = subst (λ hs. Lends hs (peers_of_end e ++ returned us) l n) (sym s.none_new) s.lends;
    hands = record {
      back = s.hands.back;
      left_is = omega (arith, s.hands.left_is, c.left_is);
      taken_is = omega (arith, s.hands.taken_is, c.taken_is);
    };
  }

  -- a connection that waited was ended
  pub settles_ended : (p : P) (w : W) (l : Listening P) (h : Hand A B)
      → Settles serves (given_back p) [] w w l (after_finish l p) h h
  settles_ended p w l h = record {
    turns = refl;
    none_new = refl;
    lends = lends_finish l p;
    hands = handles_none h;
    as_open = record { closes = refl; run = refl };
  }

  -- one waits
  pub settles_waits : (a : S) (w : W) (l : Listening P) (h g : Hand A B) → Counts h g 1 0
      → Settles serves (left a) [] w w l l h g
  settles_waits a w l h g c = record {
    turns = refl;
    none_new = refl;
    lends = lends_none l;
    hands = handles_counts 1 0 h g c;
    as_open = record { closes = refl; run = refl };
  }

  -- one waits in the place of another, which was ended
  pub settles_displaced : (a b : S) (p : P) (w v : W) (l : Listening P) (h g : Hand A B)
      → Counts h g 1 1
      → serves w (turn (from_stay b) (given_back p)) v
      → Settles serves (left a) (turn (from_stay b) (given_back p) ∷ []) w v l
      (after_finish l p) h g
  settles_displaced a b p w v l h g c served = record {
    turns = (v, served, refl);
    none_new = refl;
    lends = lends_finish l p;
    hands = handles_counts 1 1 h g c;
    as_open = record { closes = refl; run = refl };
  }

  -- one could not wait, and was ended
  pub settles_back : (a b : S) (p : P) (w v : W) (l : Listening P) (h g : Hand A B) → Counts h g 0 0
      → serves w (turn (from_stay b) (given_back p)) v
      → Settles serves (left a) (turn (from_stay b) (given_back p) ∷ []) w v l
      (after_finish l p) h g
  settles_back a b p w v l h g c served = record {
    turns = (v, served, refl);
    none_new = refl;
    lends = lends_finish l p;
    hands = record {
      back = 1;
      left_is = omega (arith, c.left_is);
      taken_is =
          omega (arith, c.taken_is);
    };
    as_open = record { closes = refl; run = refl };
  }

  -- nothing was taken
  pub works_idle : (ts : List (Turn P S)) (w v : W) (l m n : Listening P) (h g f : Hand A B)
      → Works serves ts w v l m h g → Lends [] [] m n → Counts g f 0 0 → Works serves ts w v l n h f
  works_idle ts w v l m n h g f works more c =
      let quiet : Works serves ts w v l n h g = works_quiet ts w v l m n h g works more in record {
        turns = works.turns;
        lends = quiet.lends;
        hands = record {
          back = works.hands.back;
          left_is = omega (arith, works.hands.left_is, c.left_is);
          taken_is = omega (arith, works.hands.taken_is, c.taken_is);
        };
      }

  -- ---- a worker so far, whose listener is as open as before
  pub record Working (w v : W) (l m : Listening P) (h g : Hand A B) : Type 0 where
    pub ts : List (Turn P S)
    pub works : Works serves ts w v l m h g
    pub closes : m.closes ≡ l.closes

  pub begins : (w : W) (l : Listening P) (h : Hand A B) → Working w w l l h h
  begins w l h = record { ts = []; works = works_none w l h; closes = refl }

  -- a new peer had its first turn
  pub came : (w v x u : W) (l m told n : Listening P) (h g f : Hand A B) (p : P) (e : End P S)
      → Working w v l m h g → told ≡ handing m p → serves v (turn (from_peer p) e) x
      → ((us : List (Turn P S)) × Settles serves e us x u told n g f) → Working w u l n h f
  came w v x u l m told n h g f p e so is served (us, s) =
      let settles : Settles serves e us x u (handing m p) n g f =
      subst (λ k. Settles serves e us x u k n g f) is s in
      record {
        ts = so.ts ++ turn (from_peer p) e ∷ us;
        works = works_on so.ts (turn (from_peer p) e ∷ us) w v u l m n h g f so.works
            (works_came p e us v x u m n g f served settles);
        closes = settles.as_open.closes ∙ so.closes;
      }

  -- a connection that waited had a turn more
  pub went_on : (w v x u : W) (l m told n : Listening P) (h g k f : Hand A B) (a : S) (e : End P S)
      → Working w v l m h g → told ≡ telling m → Counts g k 0 1
      → serves v (turn (from_stay a) e) x
      → ((us : List (Turn P S)) × Settles serves e us x u told n k f) → Working w u l n h f
  went_on w v x u l m told n h g k f a e so is c served (us, s) =
      let settles : Settles serves e us x u (telling m) n k f =
      subst (λ i. Settles serves e us x u i n k f) is s in
      let quiet : Works serves so.ts w v l (telling m) h g =
      works_quiet so.ts w v l m (telling m) h g so.works (lends_telling m) in
      record {
        ts = so.ts ++ turn (from_stay a) e ∷ us;
        works = works_on so.ts (turn (from_stay a) e ∷ us) w v u l (telling m) n h g f quiet
            (works_ready a e us v x u (telling m) n g k f c served settles);
        closes = settles.as_open.closes ∙ so.closes;
      }

  -- nobody waited under the number that was told
  pub found_none : (w v : W) (l m told : Listening P) (h g f : Hand A B)
      → Working w v l m h g → told ≡ telling m → Counts g f 0 0 → Working w v l told h f
  found_none w v l m told h g f so is c = subst (λ k. Working w v l k h f) (sym is) (record {
    ts = so.ts;
    works = works_idle so.ts w v l m (telling m) h g f so.works (lends_telling m) c;
    closes = so.closes;
  })

  -- a tick was told, and those who had waited for as long as they may were ended
  pub ticked : (w v u : W) (l m told n : Listening P) (h g f : Hand A B)
      → Working w v l m h g → told ≡ telling m
      → ((us : List (Turn P S)) × Works serves us v u told n g f) → IsAsOpen told n
      → Working w u l n h f
  ticked w v u l m told n h g f so is (us, works) still =
      let more : Works serves us v u (telling m) n g f =
      subst (λ k. Works serves us v u k n g f) is works in
      let quiet : Works serves so.ts w v l (telling m) h g =
      works_quiet so.ts w v l m (telling m) h g so.works (lends_telling m) in
      record {
        ts = so.ts ++ us;
        works = works_on so.ts us w v u l (telling m) n h g f quiet more;
        closes = still.closes ∙ (ap (λ (k : Listening P). k.closes) is ∙ so.closes);
      }

  -- a wait failed, and who had waited longest was ended, if somebody waited
  pub failed : (w v u : W) (l m told n : Listening P) (h g f : Hand A B)
      → Working w v l m h g → told ≡ failing m
      → ((us : List (Turn P S)) × Works serves us v u told n g f) → IsAsOpen told n
      → Working w u l n h f
  failed w v u l m told n h g f so is (us, works) still =
      let more : Works serves us v u (failing m) n g f =
      subst (λ k. Works serves us v u k n g f) is works in
      let quiet : Works serves so.ts w v l (failing m) h g =
      works_quiet so.ts w v l m (failing m) h g so.works (lends_failing m) in
      record {
        ts = so.ts ++ us;
        works = works_on so.ts us w v u l (failing m) n h g f quiet more;
        closes = still.closes ∙ (ap (λ (k : Listening P). k.closes) is ∙ so.closes);
      }

  -- the listener is closed, and those who waited were served what they had said
  pub drained : (w v u : W) (l m told n : Listening P) (h g f : Hand A B)
      → Working w v l m h g → told ≡ closing m
      → ((us : List (Turn P S)) × Works serves us v u told n g f)
      → (ts : List (Turn P S)) × Works serves ts w u l n h f
  drained w v u l m told n h g f so is (us, works) =
      let more : Works serves us v u (closing m) n g f =
      subst (λ k. Works serves us v u k n g f) is works in
      let quiet : Works serves so.ts w v l (closing m) h g =
      works_quiet so.ts w v l m (closing m) h g so.works (lends_closing m) in
      (so.ts ++ us, works_on so.ts us w v u l (closing m) n h g f quiet more)

  -- ---- a worker that ends those who wait
  pub record Emptying (w v : W) (l m : Listening P) (h g : Hand A B) : Type 0 where
    pub ts : List (Turn P S)
    pub works : Works serves ts w v l m h g
    pub still : IsAsOpen l m

  pub empties : (w : W) (l : Listening P) (h : Hand A B) → Emptying w w l l h h
  empties w l h = record {
    ts = [];
    works = works_none w l h;
    still = record { closes = refl; run = refl };
  }

  -- one more was ended
  pub ended_one : (w v u : W) (l m n : Listening P) (h g f : Hand A B) (a : S) (p : P)
      → Emptying w v l m h g → Counts g f 0 1 → serves v (turn (from_stay a) (given_back p)) u
      → n ≡ after_finish m p → Emptying w u l n h f
  ended_one w v u l m n h g f a p so c served is =
      subst (λ k. Emptying w u l k h f) (sym is) (record {
        ts = so.ts ++ turn (from_stay a) (given_back p) ∷ [];
        works = works_on so.ts (turn (from_stay a) (given_back p) ∷ []) w v u l m
            (after_finish m p) h g f so.works
            (works_ready a (given_back p) [] v u u m (after_finish m p) g f f c served
            (settles_ended p u m f));
        still = record { closes = so.still.closes; run = so.still.run };
      })

  -- one more had its last turn, which left it to wait, and was ended
  pub ended_after : (w v x u : W) (l m n : Listening P) (h g f : Hand A B) (a b : S) (p : P)
      → Emptying w v l m h g → Counts g f 0 1 → serves v (turn (from_stay a) (left b)) x
      → serves x (turn (from_stay b) (given_back p)) u → n ≡ after_finish m p
      → Emptying w u l n h f
  ended_after w v x u l m n h g f a b p so c served ended is =
      subst (λ k. Emptying w u l k h f) (sym is) (record {
        ts = so.ts ++ turn (from_stay a) (left b) ∷ (turn (from_stay b) (given_back p) ∷ []);
        works = works_on so.ts
            (turn (from_stay a) (left b) ∷ (turn (from_stay b) (given_back p) ∷ [])) w v u l m
            (after_finish m p) h g f so.works
            (works_ready a (left b) (turn (from_stay b) (given_back p) ∷ []) v x u m
            (after_finish m p) g f f c served
            (settles_back b b p x u m f f (record { left_is = omega arith; taken_is = omega arith })
            ended));
        still = record { closes = so.still.closes; run = so.still.run };
      })

  -- nobody waits any more
  pub emptied : (w v : W) (l m : Listening P) (h g f : Hand A B) → Emptying w v l m h g
      → Counts g f 0 0 → (ts : List (Turn P S)) × Works serves ts w v l m h f
  emptied w v l m h g f so c =
      (so.ts, works_idle so.ts w v l m m h g f so.works (lends_none m) c)
