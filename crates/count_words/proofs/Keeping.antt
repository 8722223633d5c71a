-- Each kind of step keeps the rule.
use Rattle.std.proofs.Common.{◌≡◌, ◌≢◌, ◌⊎◌, ℕ, zero, suc, ◌+◌, ◌-◌, ◌<◌, ◌≤◌, ◌^◌, List, [], ◌∷◌}
use Rattle.std.proofs.Common.{◌++◌}
use Rattle.std.proofs.Common.{length, set, get_or, get_or-set_same, get_or-set_other, length-set}
use Rattle.std.proofs.Common.{◌*◌, zero-add, take, drop, replicate, All, refl, sym, ap, subst, ◌∙◌}
use Rattle.std.proofs.Common.{⊎_elim, arith}
use Rattle.std.proofs.lemmas.Bool.{cases_eq, cases_lt}
use Rattle.std.proofs.lemmas.Bool.Decides.{nat_tests}
use Rattle.std.proofs.lemmas.List.{get_or-drop, get_or-take, get_or-replicate, length-drop}
use Rattle.std.proofs.lemmas.List.{length-replicate, length-take, length-take-le, length_push}
use Rattle.std.proofs.lemmas.List.{get_or_append_left, get_or_at, get_or_past}
use Rattle.std.proofs.lemmas.List.Elements.{All-append, All-weaker}
use mathlib.Core.Option.{some, some-injective, some-ne-none}
use lib.ListN.{get_elem?}
use Rattle.atomic_table.specs.Table.{Me, Allows, Splits, keeps, opening}
use Rattle.atomic_table.proofs.Lists.{at_set, at_snoc}
use Rattle.count_words.specs.declared.rule.Knowledge.{Knowledge}
use Rattle.count_words.specs.Owning.{owns_one, owners, Owns, HasRead, OwnersCount, Loaded, Stored}
use Rattle.count_words.specs.Owning.{as_it_is, behind_worker, nothing, opened, worker_of}

-- a change of one seat changes the owners by that seat alone
owners_set : (k : ℕ) (views : List Knowledge) (id : ℕ) (v w : Knowledge)
    → get_elem? views id ≡ some v
    → owners k (set views id w) + owns_one k v ≡ owners k views + owns_one k w
owners_set k [] id v w at = absurd (some-ne-none v (sym at))
owners_set k (x ∷ xs) zero v w at =
    let same : owns_one k x ≡ owns_one k v =
    ap (λ (t : Knowledge). owns_one k t) (some-injective x v at) in omega arith
owners_set k (x ∷ xs) (suc id) v w at = omega (arith, owners_set k xs id v w at)

own : (k : ℕ) (views : List Knowledge) (id : ℕ) (v : Knowledge) → get_elem? views id ≡ some v
    → owns_one k v ≤ owners k views
own k [] id v at = absurd (some-ne-none v (sym at))
own k (x ∷ xs) zero v at =
    let same : owns_one k x ≡ owns_one k v =
    ap (λ (t : Knowledge). owns_one k t) (some-injective x v at) in omega arith
own k (x ∷ xs) (suc id) v at = omega (arith, own k xs id v at)

-- two seats own what they own together
both_own : (k : ℕ) (views : List Knowledge) (id j : ℕ) (v u : Knowledge) → j ≢ id
    → get_elem? views id ≡ some v → get_elem? views j ≡ some u
    → owns_one k v + owns_one k u ≤ owners k views
both_own k [] id j v u apart at there = absurd (some-ne-none v (sym at))
both_own k (x ∷ xs) zero zero v u apart at there = absurd (apart refl)
both_own k (x ∷ xs) zero (suc j) v u apart at there =
    let same : owns_one k x ≡ owns_one k v =
    ap (λ (t : Knowledge). owns_one k t) (some-injective x v at) in
    omega (arith, own k xs j u there)
both_own k (x ∷ xs) (suc id) zero v u apart at there =
    let same : owns_one k x ≡ owns_one k u =
    ap (λ (t : Knowledge). owns_one k t) (some-injective x u there) in
    omega (arith, own k xs id v at)
both_own k (x ∷ xs) (suc id) (suc j) v u apart at there =
    omega (arith, both_own k xs id j v u (λ e. apart (ap suc e)) at there)

-- a seat's words are its own
mine : (v : Knowledge) (m : ℕ) → m < length v.counts → owns_one (v.first + m) v ≡ 1
mine v m within = grind (arith, nat_tests)

-- a fact of each seat, after one of them changed
module _ (F : Knowledge → Type 0) (views : List Knowledge) (w : Knowledge) (new : F w) where
  each_set : (id : ℕ) → ((j : ℕ) (u : Knowledge) → j ≢ id → get_elem? views j ≡ some u → F u)
      → (j : ℕ) (u : Knowledge) → get_elem? (set views id w) j ≡ some u → F u
  each_set id was j u e = ⊎_elim (λ (t : (j ≡ id) × (w ≡ u)). subst F t.1 new)
      (λ (t : (j ≢ id) × (get_elem? views j ≡ some u)). was j u t.0 t.1) (at_set views id j w u e)

-- a word that grows, and the others
grows : (words : List ℕ) (i n : ℕ) → i < length words → get_or words i 0 ≤ n → (k : ℕ)
    → get_or words k 0 ≤ get_or (set words i n) k 0
grows words i n within more k = ⊎_elim
    (λ (e : k ≡ i). subst (λ (j : ℕ). get_or words j 0 ≤ get_or (set words i n) j 0) (sym e)
    (let here : get_or (set words i n) i 0 ≡ n = get_or-set_same words i n 0 within in omega arith))
    (λ (e : k ≢ i).
    let same : get_or (set words i n) k 0 ≡ get_or words k 0 = get_or-set_other words i k n 0 e in
    omega arith)
    (cases_eq k i)

still_read : (words : List ℕ) (i n : ℕ) (v : Knowledge) → i < length words → get_or words i 0 ≤ n
    → HasRead words v → HasRead (set words i n) v
still_read words i n v within more read =
    All-weaker (λ (r : ℕ × ℕ). r.1 ≤ get_or words r.0 0)
    (λ (r : ℕ × ℕ). r.1 ≤ get_or (set words i n) r.0 0)
    (λ r le. let more_now = grows words i n within more r.0 in omega arith) v.reads read

-- the words of a seat that does not own the word that changes
still_owns : (words : List ℕ) (i n : ℕ) (u : Knowledge) → owns_one i u ≡ 0 → Owns words u
    → Owns (set words i n) u
still_owns words i n u other owns k within =
    let at = u.first + k in
    let apart : at ≢ i = λ e.
    let one : owns_one i u ≡ 1 = subst (λ (j : ℕ). owns_one j u ≡ 1) e (mine u k within) in
    omega arith in (
      omega (arith, length-set words i n, (owns k within).0),
      get_or-set_other words i at n 0 apart ∙ (owns k within).1,
    )

-- load: the word stays what it is
module _ (id : ℕ) (m : Me (Unit {0}) Knowledge) (i : ℕ) where
  same_owns : (words : List ℕ) (u : Knowledge) → i < length words → Owns words u
      → Owns (set words i (get_or words i 0)) u
  same_owns words u inside owns k within =
      let at = u.first + k in
      let still : get_or (set words i (get_or words i 0)) at 0 ≡ get_or words at 0 = ⊎_elim
      (λ (e : at ≡ i).
      subst (λ (j : ℕ). get_or (set words i (get_or words i 0)) j 0 ≡ get_or words j 0) (sym e)
      (get_or-set_same words i (get_or words i 0) 0 inside))
      (λ (e : at ≢ i). get_or-set_other words i at (get_or words i 0) 0 e)
      (cases_eq at i) in (
        omega (arith, length-set words i (get_or words i 0), (owns k within).0),
        still ∙ (owns k within).1,
      )

  one_read : (words : List ℕ) → i < length words
      → All (λ (r : ℕ × ℕ). r.1 ≤ get_or (set words i (get_or words i 0)) r.0 0)
      ((i, get_or words i 0) ∷ [])
  one_read words inside zero d lt =
      grows words i (get_or words i 0) inside (omega arith) i
  one_read words inside (suc k) d lt = absurd (omega arith)

  pub loads : (size slots : ℕ) → i < size
      → Allows (OwnersCount size) slots id m i (λ n. n)
      (λ n m'. Loaded i n m.0 m'.0 × (m'.1 ≡ m.1))
  loads size slots inside s h deep at fits =
      let found = get_or s.words i 0 in
      let w : Knowledge = record m.0 { reads = m.0.reads ++ (i, found) ∷ [] } in
      let within : i < length s.words = omega (arith, h.words) in
      let le : found ≤ found = omega arith in (
        w,
        keeps,
        tt,
        record {
          words = length-set s.words i found ∙ h.words;
          one = λ k. omega (arith, owners_set k s.views id m.0 w at, h.one k);
          own = each_set (Owns (set s.words i found)) s.views w
              (same_owns s.words m.0 within (h.own id m.0 at)) id
              (λ j u ne e. same_owns s.words u within (h.own j u e));
          read = each_set (HasRead (set s.words i found)) s.views w
              (All-append (λ (r : ℕ × ℕ). r.1 ≤ get_or (set s.words i found) r.0 0) m.0.reads
              ((i, found) ∷ []) (still_read s.words i found m.0 within le (h.read id m.0 at))
              (one_read s.words within))
              id (λ j u ne e. still_read s.words i found u within le (h.read j u e));
        },
        (
          (
            refl,
            All-weaker (λ (r : ℕ × ℕ). r.1 ≤ get_or s.words r.0 0)
                (λ (r : ℕ × ℕ). r.0 ≡ i → r.1 ≤ found)
                (λ r le e. subst (λ (j : ℕ). r.1 ≤ get_or s.words j 0) e le) m.0.reads
                (h.read id m.0 at),
          ),
          refl,
        ),
      )

-- store: the word gets what the seat's own count gets
module _ (id : ℕ) (m : Me (Unit {0}) Knowledge) (i place amount : ℕ)
    (within : place < length m.0.counts) (is : m.0.first + place ≡ i)
    (more : get_or m.0.counts place 0 ≤ amount) where
  same_extent : (k : ℕ) → owns_one k (record m.0 { counts = set m.0.counts place amount })
      ≡ owns_one k m.0
  same_extent k = let many = length-set m.0.counts place amount in grind (arith, nat_tests, many)

  new_owns : (words : List ℕ) → i < length words → Owns words m.0
      → Owns (set words i amount) (record m.0 { counts = set m.0.counts place amount })
  new_owns words inside owns k lt =
      let few : k < length m.0.counts = omega (arith, length-set m.0.counts place amount, lt) in (
        omega (arith, length-set words i amount, (owns k few).0),
        ⊎_elim
            (λ (e : k ≡ place).
            let at : m.0.first + k ≡ i = omega (arith, is, e) in
            subst (λ (j : ℕ). get_or (set words i amount) j 0
            ≡ get_or (set m.0.counts place amount) k 0) (sym at)
            (get_or-set_same words i amount 0 inside
            ∙ subst (λ (j : ℕ). amount ≡ get_or (set m.0.counts place amount) j 0) (sym e)
            (sym (get_or-set_same m.0.counts place amount 0 within))))
            (λ (e : k ≢ place).
            let at : m.0.first + k ≢ i = λ same. e (omega (arith, is, same)) in
            get_or-set_other words i (m.0.first + k) amount 0 at
            ∙ ((owns k few).1 ∙ sym (get_or-set_other m.0.counts place k amount 0 e)))
            (cases_eq k place),
      )

  pub stores : (size slots : ℕ) → i < size
      → Allows (OwnersCount size) slots id m i (λ _. amount)
      (λ _ m'. Stored i amount m.0 m'.0 × (m'.1 ≡ m.1))
  stores size slots inside s h deep at fits =
      let w : Knowledge = record m.0 { counts = set m.0.counts place amount } in
      let there : i < length s.words = omega (arith, inside, h.words) in
      let here : get_or s.words i 0 ≡ get_or m.0.counts place 0 =
      subst (λ (j : ℕ). get_or s.words j 0 ≡ get_or m.0.counts place 0) is
      (h.own id m.0 at place within).1 in
      let grown : get_or s.words i 0 ≤ amount = omega (arith, here, more) in
      let own_it : owns_one i m.0 ≡ 1 =
      subst (λ (j : ℕ). owns_one j m.0 ≡ 1) is (mine m.0 place within) in (
        w,
        keeps,
        tt,
        record {
          words = length-set s.words i amount ∙ h.words;
          one = λ k. omega (arith, owners_set k s.views id m.0 w at, h.one k, same_extent k);
          own = each_set (Owns (set s.words i amount)) s.views w
              (new_owns s.words there (h.own id m.0 at)) id
              (λ j u ne e.
              let other : owns_one i u ≡ 0 =
              omega (arith, both_own i s.views id j m.0 u ne at e, h.one i, own_it) in
              still_owns s.words i amount u other (h.own j u e));
          read = each_set (HasRead (set s.words i amount)) s.views w
              (still_read s.words i amount m.0 there grown (h.read id m.0 at)) id
              (λ j u ne e. still_read s.words i amount u there grown (h.read j u e));
        },
        (
          (λ p e.
              let same : place ≡ p = omega (arith, is, e) in
              ap (λ (q : ℕ). record m.0 { counts = set m.0.counts q amount }) same),
          refl,
        ),
      )

owners_more : (k : ℕ) (views : List Knowledge) (w : Knowledge)
    → owners k (views ++ w ∷ []) ≡ owners k views + owns_one k w
owners_more k [] w = omega arith
owners_more k (x ∷ xs) w = omega (arith, owners_more k xs w)

-- a fact of each seat, and of one more
module _ (F : Knowledge → Type 0) (views : List Knowledge) (w : Knowledge) (new : F w) where
  each_more : ((j : ℕ) (u : Knowledge) → get_elem? views j ≡ some u → F u)
      → (j : ℕ) (u : Knowledge) → get_elem? (views ++ w ∷ []) j ≡ some u → F u
  each_more was j u e =
      ⊎_elim (λ (t : get_elem? views j ≡ some u). was j u t) (λ (t : w ≡ u). subst F t new)
      (at_snoc views w u j e)

none_read : (words : List ℕ) (first : ℕ) (counts : List ℕ)
    → HasRead words (record { first = first; counts = counts; reads = [] })
none_read words first counts k d lt = absurd (omega arith)

-- a worker's words, and those behind them
module _ (v : Knowledge) (many : 64 ≤ length v.counts) where
  behind_many : length (drop 64 v.counts) + 64 ≡ length v.counts
  behind_many = omega (arith, length-drop 64 v.counts)

  worker_many : length (take 64 v.counts) ≡ 64
  worker_many = length-take-le 64 v.counts many

  cut : (k : ℕ) → owns_one k (behind_worker v) + owns_one k (worker_of v) ≡ owns_one k v
  cut k = grind (arith, nat_tests, behind_many, worker_many)

  behind_owns : (words : List ℕ) → Owns words v → Owns words (behind_worker v)
  behind_owns words owns k lt =
      let there = owns (64 + k) (omega (arith, behind_many, lt)) in
      let at : v.first + (64 + k) ≡ v.first + 64 + k = omega arith in (
        omega (arith, there.0),
        ap (λ (j : ℕ). get_or words j 0) (sym at)
            ∙ (there.1 ∙ sym (get_or-drop 64 v.counts k 0)),
      )

  worker_owns : (words : List ℕ) → Owns words v → Owns words (worker_of v)
  worker_owns words owns k lt =
      let few : k < 64 = omega (arith, worker_many, lt) in
      let there = owns k (omega (arith, few, many)) in
      (there.0, there.1 ∙ sym (get_or-take 64 v.counts k 0 few))

  -- hand on
  pub hands : (size id : ℕ) → Splits (OwnersCount size) id v (behind_worker v) (worker_of v)
  hands size id s h at =
      let views = set s.views id (behind_worker v) in
      record {
        words = h.words;
        one = λ k. omega (
          arith,
          owners_more k views (worker_of v),
          owners_set k s.views id v (behind_worker v) at,
          h.one k,
          cut k,
        );
        own = each_more (Owns s.words) views (worker_of v) (worker_owns s.words (h.own id v at))
            (each_set (Owns s.words) s.views (behind_worker v)
            (behind_owns s.words (h.own id v at)) id (λ j u ne e. h.own j u e));
        read = each_more (HasRead s.words) views (worker_of v)
            (none_read s.words v.first (take 64 v.counts))
            (each_set (HasRead s.words) s.views (behind_worker v) (h.read id v at) id
            (λ j u ne e. h.read j u e));
      }

-- split
none_owned : (k : ℕ) (v : Knowledge) → owns_one k (nothing v) ≡ 0
none_owned k v = grind (arith, nat_tests)

pub splits : (size id : ℕ) (v : Knowledge) → Splits (OwnersCount size) id v (as_it_is v) (nothing v)
splits size id v s h at =
    let views = set s.views id v in
    record {
      words = h.words;
      one = λ k. omega (
        arith,
        owners_more k views (nothing v),
        owners_set k s.views id v v at,
        h.one k,
        none_owned k v,
      );
      own = each_more (Owns s.words) views (nothing v) (λ k lt. absurd (omega arith))
          (each_set (Owns s.words) s.views v (h.own id v at) id (λ j u ne e. h.own j u e));
      read = each_more (HasRead s.words) views (nothing v) (none_read s.words 0 [])
          (each_set (HasRead s.words) s.views v (h.read id v at) id (λ j u ne e. h.read j u e));
    }

only : (F : Knowledge → Type 0) (w : Knowledge) → F w → (j : ℕ) (u : Knowledge)
    → get_elem? (w ∷ []) j ≡ some u → F u
only F w new zero u e = subst F (some-injective w u e) new
only F w new (suc j) u e = absurd (some-ne-none u (sym e))

one_owner : (k : ℕ) (v : Knowledge) → owns_one k v ≤ 1
one_owner k v = grind (arith, nat_tests)

-- the rule at the start
pub opens : (size : ℕ) (words : List ℕ) → words ≡ replicate size 0
    → OwnersCount size (opening words [] (opened size))
opens size words is = record {
  words = rw is (length-replicate {A = ℕ} size 0);
  one = λ k. omega (arith, one_owner k (opened size));
  own = only (Owns words) (opened size) (λ k lt.
      let few : k < size = omega (arith, lt, length-replicate {A = ℕ} size 0) in (
        rw is (omega (arith, few, length-replicate {A = ℕ} size 0)),
        rw is (ap (λ (j : ℕ). get_or (replicate {A = ℕ} size 0) j 0) (zero-add k)),
      ));
  read = only (HasRead words) (opened size) (none_read words 0 (replicate size 0));
}

-- a fact of one
pub single : {X : Type 0} (P : X → Type 0) (x : X) → P x → All P (x ∷ [])
single P x holds zero d lt = holds
single P x holds (suc k) d lt = absurd (omega arith)

-- one more, with the next number
pub numbered : {X : Type 0} (f : X → ℕ) (xs : List X) (x : X)
    → ((at : ℕ) (d : X) → at < length xs → f (get_or xs at d) ≡ 64 * at)
    → f x ≡ 64 * length xs → (at : ℕ) (d : X) → at < length (xs ++ x ∷ [])
    → f (get_or (xs ++ x ∷ []) at d) ≡ 64 * at
numbered f xs x was next at d lt = ⊎_elim
    (λ (before : at < length xs).
    ap f (get_or_append_left xs (x ∷ []) d at before) ∙ was at d before)
    (λ (behind : length xs ≤ at).
    let is : length xs ≡ at = omega (arith, lt, length_push xs x, behind) in
    ap f (get_or_at xs x [] d at is) ∙ (next ∙ ap (λ (n : ℕ). 64 * n) is))
    (cases_lt at (length xs))

-- where all counts are 0, so are those of the first worker, and those that are left
abbrev AreNone : List ℕ → Type 0
AreNone counts = (place : ℕ) → get_or counts place 0 ≡ 0

pub none_opened : (size : ℕ) → AreNone (replicate size 0)
none_opened size place = ⊎_elim
    (λ (within : place < size). get_or-replicate size place 0 0 within)
    (λ (past : size ≤ place).
    get_or_past (replicate size 0) place 0
    (omega (arith, past, length-replicate {A = ℕ} size 0)))
    (cases_lt place size)

pub none_taken : (counts taken : List ℕ) → taken ≡ take 64 counts → AreNone counts → AreNone taken
none_taken counts taken is none place =
    ap (λ (xs : List ℕ). get_or xs place 0) is
    ∙ ⊎_elim
    (λ (within : place < 64). get_or-take 64 counts place 0 within ∙ none place)
    (λ (past : 64 ≤ place).
    get_or_past (take 64 counts) place 0 (omega (arith, past, length-take 64 counts)))
    (cases_lt place 64)

pub none_behind : (counts left : List ℕ) → left ≡ drop 64 counts → AreNone counts → AreNone left
none_behind counts left is none place =
    ap (λ (xs : List ℕ). get_or xs place 0) is
    ∙ (get_or-drop 64 counts place 0 ∙ none (64 + place))
