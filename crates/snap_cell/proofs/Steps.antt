-- Each step keeps the rule over the copies.
use Rattle.std.proofs.Common.{◌≡◌, ℕ, zero, suc, ◌<◌, ◌≢◌, ◌⊎◌, List, [], ◌∷◌, ◌++◌, fold, set}
use Rattle.std.proofs.Common.{Option, Some, None, Result, Ok, Err, MatchResult, refl, sym, ap, ◌∙◌}
use Rattle.std.proofs.Common.{subst, ⊎_elim, inl, inr}
use Rattle.std.proofs.lemmas.List.Elements.{All-append, All-cons, All-nil}
use Rattle.std.proofs.lemmas.List.Sums.{fold-append}
use mathlib.Core.Option.{some}
use lib.ListN.{get_elem?}
use Rattle.left_right.specs.Register.{Admits, TurnsAt, Forks, Merges}
use Rattle.atomic_table.proofs.Lists.{at_set, at_snoc}
use Rattle.snap_cell.specs.declared.kept.Origin.{Origin}
use Rattle.snap_cell.specs.declared.history.Prefix.{Prefix}
use Rattle.snap_cell.specs.declared.kept.Kept.{Kept}
use Rattle.snap_cell.specs.Legal.{AllFit, Legal}
use Rattle.snap_cell.specs.declared.kept.Entry.{Entry}
use Rattle.snap_cell.specs.Kept.{after_entry}
use Rattle.snap_cell.specs.Rule.{Sound, Holds, Enters, Shows, IsReady, IsFirst, Opens, Stands}
use Rattle.snap_cell.specs.Rule.{Follows}

module _ {V S O : Type 0} (state : V → S) (applied : S → O → S) (Fits : S → O → Type 0)
    (caller : O → ℕ) where
  pub enters : (seat : ℕ) (v : Option (Origin V O)) (x : Kept V O)
      → TurnsAt (Holds state applied Fits caller) seat v x x (Enters state applied Fits caller)
  enters seat v x views h at = (
    v,
    record {
      sound = h.sound;
      known = λ j o e. ⊎_elim (λ (t : (j ≡ seat) × (v ≡ Some o)). h.known seat o (at ∙ ap some t.1))
          (λ (t : (j ≢ seat) × (get_elem? views j ≡ some (Some o))). h.known j o t.1)
          (at_set views seat j v (Some o) e);
    },
    (refl, h.sound, λ o is. h.known seat o (at ∙ ap some is)),
  )

  -- a new reader may come, which knows nothing
  pub admits : Admits (Holds state applied Fits caller) None
  admits x views h = record {
    sound = h.sound;
    known = λ j o e. ⊎_elim (h.known j o) (λ (same : None ≡ Some o). absurd (cc same))
        (at_snoc views None (Some o) j e);
  }

  -- the writer may tell what it knows
  pub forks : (seat : ℕ) (v : Option (Origin V O))
      → Forks (Holds state applied Fits caller) seat v v v
  forks seat v x views h at = record {
    sound = h.sound;
    known = λ j o e. ⊎_elim (λ (t : get_elem? (set views seat v) j ≡ some (Some o)).
        stays x views h seat v (λ u is. h.known seat u (at ∙ ap some is)) j o t)
        (λ (same : v ≡ Some o). h.known seat o (at ∙ ap some same))
        (at_snoc (set views seat v) v (Some o) j e);
  }
    where
      stays : (x : Kept V O) (views : List (Option (Origin V O)))
          → Holds state applied Fits caller x views → (seat : ℕ) (v : Option (Origin V O))
          → ((o : Origin V O) → v ≡ Some o → x.origin ≡ o)
          → (j : ℕ) (o : Origin V O) → get_elem? (set views seat v) j ≡ some (Some o) → x.origin ≡ o
      stays x views h seat v own j o e = ⊎_elim (λ (t : (j ≡ seat) × (v ≡ Some o)). own o t.1)
          (λ (t : (j ≢ seat) × (get_elem? views j ≡ some (Some o))). h.known j o t.1)
          (at_set views seat j v (Some o) e)

  -- a new reader takes in what the writer told
  pub merges : (seat : ℕ) (v : Option (Origin V O)) (other : ℕ) (w : Option (Origin V O))
      → Merges (Holds state applied Fits caller) seat v other w w None
  merges seat v other w x views h at apart there =
      let own : (o : Origin V O) → w ≡ Some o → x.origin ≡ o =
      λ o is. ⊎_elim (λ (t : (other ≡ seat) × (w ≡ w)). absurd (apart t.0))
      (λ (t : (other ≢ seat) × (get_elem? views other ≡ some w)).
      h.known other o (t.1 ∙ ap some is)) (at_set views seat other w w there) in
      record {
        sound = h.sound;
        known = λ j o e. ⊎_elim (λ (t : (j ≡ other) × (None ≡ Some o)). absurd (cc t.1))
            (λ (t : (j ≢ other) × (get_elem? (set views seat w) j ≡ some (Some o))).
            ⊎_elim (λ (u : (j ≡ seat) × (w ≡ Some o)). own o u.1)
            (λ (u : (j ≢ seat) × (get_elem? views j ≡ some (Some o))). h.known j o u.1)
            (at_set views seat j w (Some o) t.1))
            (at_set (set views seat w) other j None (Some o) e);
      }

  -- an operation that fits the state which the others leave may follow them
  fit_one_more : (s : S) (ops : List O) (op : O) → AllFit applied Fits s ops
      → Fits (fold applied s ops) op → AllFit applied Fits s (ops ++ op ∷ [])
  fit_one_more s [] op all fits = (fits, tt)
  fit_one_more s (x ∷ ops) op all fits = (all.0, fit_one_more (applied s x) ops op all.1 fits)

  pub legal_one_more : (s : S) (n : ℕ) (ops : List O) (op : O) → Legal applied Fits caller s n ops
      → Fits (fold applied s ops) op → caller op < n
      → Legal applied Fits caller s n (ops ++ op ∷ [])
  legal_one_more s n ops op legal fits low = record {
    fit = fit_one_more s ops op legal.fit fits;
    callers = All-append (λ o. caller o < n) ops (op ∷ []) legal.callers
        (All-cons (λ o. caller o < n) op [] low (All-nil (λ o. caller o < n)));
  }

  -- a copy with one operation more is sound
  pub sound_one_more : (x y : Kept V O) (known : Prefix O) (op : O)
      → Sound state applied Fits caller x → state y.value ≡ applied (state x.value) op
      → y.origin ≡ x.origin → y.known ≡ known
      → known.seen.log ≡ x.known.seen.log ++ op ∷ [] → known.seen.book ≡ x.known.seen.book
      → Fits (fold applied (state x.origin.opening.value) x.known.seen.log) op
      → caller op < x.origin.readers
      → Sound state applied Fits caller y
  sound_one_more x y known op h value origin is log book fits low =
      let o = state x.origin.opening.value in
      let ops = x.known.seen.log in
      let ends : y.known.seen.log ≡ ops ++ op ∷ [] = ap (λ k. k.seen.log) is ∙ log in
      let all : fold applied o (ops ++ op ∷ []) ≡ applied (fold applied o ops) op =
      fold-append applied o ops (op ∷ []) in
      let folded : state y.value ≡ fold applied o (ops ++ op ∷ []) =
      value ∙ (ap (λ s. applied s op) h.folded ∙ sym all) in
      let legal : Legal applied Fits caller o x.origin.readers (ops ++ op ∷ []) =
      legal_one_more o x.origin.readers ops op h.legal fits low in
      record {
        folded = rw (origin, ends) folded;
        legal = rw (origin, ends) legal;
        one_list = ap (λ k. k.seen.book) is
            ∙ (book ∙ (h.one_list ∙ ap (λ (z : Origin V O). z.empty.book) (sym origin)));
      }

  -- a publish keeps the rule, where what it shows is sound
  pub shows : (seat : ℕ) (v : Option (Origin V O)) (x y : Kept V O)
      → (Sound state applied Fits caller x → Sound state applied Fits caller y)
      → y.origin ≡ x.origin
      → TurnsAt (Holds state applied Fits caller) seat v x y (Shows state applied Fits caller)
  shows seat v x y sound origin views h at = (
    Some y.origin,
    record {
      sound = sound h.sound;
      known = λ j o e. ⊎_elim (λ (t : (j ≡ seat) × (Some y.origin ≡ Some o)). cc (t.1))
          (λ (t : (j ≢ seat) × (get_elem? views j ≡ some (Some o))). origin ∙ h.known j o t.1)
          (at_set views seat j (Some y.origin) (Some o) e);
    },
    (refl, sound h.sound),
  )

  -- the publish of the operation that is pending keeps the rule
  pub publishes : (seat : ℕ) (v : Option (Origin V O)) (x y : Kept V O) (pending : List (Entry O))
      → IsReady Fits caller applied state x pending
      → (state y.value, (y.origin, y.known))
      ≡ fold (after_entry applied) (state x.value, (x.origin, x.known)) pending
      → TurnsAt (Holds state applied Fits caller) seat v x y (Shows state applied Fits caller)
  publishes seat v x y pending (op, known, one, log, book, fits, low) is =
      let all : (state y.value, (y.origin, y.known))
      ≡ (applied (state x.value) op, (x.origin, known)) =
      is ∙ ap (fold (after_entry applied) (state x.value, (x.origin, x.known))) one in
      let origin : y.origin ≡ x.origin = ap (λ t. t.1.0) all in
      shows seat v x y (λ h. sound_one_more x y known op h (ap (λ t. t.0) all) origin
      (ap (λ t. t.1.1) all) log book fits low) origin

  pub ready_again : (x y : Kept V O) (pending more : List (Entry O)) → y ≡ x → more ≡ pending
      → IsReady Fits caller applied state x pending → IsReady Fits caller applied state y more
  ready_again x y pending more e f r =
      subst (λ z. IsReady Fits caller applied state z more) (sym e)
      (subst (λ z. IsReady Fits caller applied state x z) (sym f) r)

module _ {V S O : Type 0} (state : V → S) (applied : S → O → S) (Fits : S → O → Type 0)
    (caller : O → ℕ) where
  -- the copy with which a cell begins is sound, and no handle knows anything
  pub begins : (k : Kept V O) → IsFirst k → Holds state applied Fits caller k (None ∷ [])
  begins k first = record {
    sound = record {
      folded = rw (first.empty) (ap state first.opening);
      legal = rw (first.empty)
          (record { fit = tt; callers = All-nil (λ o. caller o < k.origin.readers) });
      one_list = first.one_list;
    };
    known = none_known k;
  }
    where
      none_known : (k : Kept V O) (j : ℕ) (o : Origin V O)
          → get_elem? (None ∷ []) j ≡ some (Some o) → k.origin ≡ o
      none_known k zero o e = absurd (cc e)
      none_known k (suc j) o e = absurd (cc e)

  -- the opening entry changes nothing
  pub opens : (seat : ℕ) (v : Option (Origin V O)) (x y : Kept V O) (pending : List (Entry O))
      → Opens x pending
      → (state y.value, (y.origin, y.known))
      ≡ fold (after_entry applied) (state x.value, (x.origin, x.known)) pending
      → TurnsAt (Holds state applied Fits caller) seat v x y (Shows state applied Fits caller)
  opens seat v x y pending one is =
      let all : (state y.value, (y.origin, y.known)) ≡ (state x.value, (x.origin, x.known)) =
      is ∙ ap (fold (after_entry applied) (state x.value, (x.origin, x.known))) one in
      let origin : y.origin ≡ x.origin = ap (λ t. t.1.0) all in
      let known : y.known ≡ x.known = ap (λ t. t.1.1) all in
      shows state applied Fits caller seat v x y (λ h. record {
        folded = rw (origin, known) (ap (λ t. t.0) all ∙ h.folded);
        legal = rw (origin, known) h.legal;
        one_list = rw (origin, known) h.one_list;
      }) origin

  -- so does the publish of what is pending
  pub publishes_pending : (seat : ℕ) (v : Option (Origin V O)) (x y : Kept V O)
      (pending : List (Entry O)) → IsReady Fits caller applied state x pending ⊎ Opens x pending
      → (state y.value, (y.origin, y.known))
      ≡ fold (after_entry applied) (state x.value, (x.origin, x.known)) pending
      → TurnsAt (Holds state applied Fits caller) seat v x y (Shows state applied Fits caller)
  publishes_pending seat v x y pending (inl ready) is =
      publishes state applied Fits caller seat v x y pending ready is
  publishes_pending seat v x y pending (inr opening) is = opens seat v x y pending opening is

-- what the publish of one entry tells
pub entry_follows : {V O E : Type 0} (x x' y : Kept V O) (e : Entry O)
    (v v' w : Option (Origin V O)) (pending : List (Entry O)) (P : Type 0) (r : Result (Unit {0}) E)
    → x' ≡ x → v' ≡ v → pending ≡ e ∷ []
    → MatchResult r (λ _. Follows x' pending y w × P) (λ _. (y ≡ x') × (w ≡ v'))
    → MatchResult r (λ _. Stands x.origin e.known y w × P) (λ _. (y ≡ x) × (w ≡ v))
entry_follows x x' y e v v' w pending P (Ok u) same view one m =
    (subst (λ z. Stands z.origin e.known y w) same (m.0 e one), m.1)
entry_follows x x' y e v v' w pending P (Err f) same view one m = (m.0 ∙ same, m.1 ∙ view)

-- what the publish of the opening entry tells
pub opening_follows : {V O E : Type 0} (x y : Kept V O) (v w : Option (Origin V O))
    (pending : List (Entry O)) (P : Type 0) (r : Result (Unit {0}) E)
    → Opens x pending → MatchResult r (λ _. Follows x pending y w × P) (λ _. (y ≡ x) × (w ≡ v))
    → MatchResult r (λ _. Stands x.origin x.known y w × P) (λ _. y ≡ x)
opening_follows x y v w pending P (Ok u) one m =
    (m.0 (record { operation = None; known = x.known }) one, m.1)
opening_follows x y v w pending P (Err f) one m = m.0
