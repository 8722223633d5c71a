-- A recogniser that reads the texts of a grammar dies where the longest front ends that begins some
-- text.
use Rattle.std.proofs.Common.{◌≡◌, ℕ, zero, suc, ◌+◌, ◌<◌, ◌≤◌, arith, List, [], ◌∷◌, ◌++◌, length}
use Rattle.std.proofs.Common.{take, drop, get_or, Option, Some, None, option_map, refl, sym, ap}
use Rattle.std.proofs.Common.{subst, ◌∙◌, append_assoc, le_refl, ⊎_elim}
use Rattle.std.specs.Option.{option_and_then}
use Rattle.std.proofs.lemmas.Bool.{cases_lt}
use Rattle.std.specs.Prelude.{IfSome, ⊤}
use Rattle.std.proofs.lemmas.Option.{none-some, same_Some, option_and_then_some}
use Rattle.std.proofs.lemmas.Option.{MatchOption-at_some}
use Rattle.std.proofs.lemmas.List.{take_more, take-take, take-append-drop, take_all, append-nil}
use Rattle.name_tree.specs.Recogniser.{run, value_from}
use Rattle.name_tree.specs.Faults.{BeginsText, IsFront}

-- two steps in turn
chained : {A B C : Type 0} (f : A → Option B) (g : B → Option C) (h : A → Option C) (o : Option A)
    → ((x : A) → h x ≡ option_and_then g (f x))
    → option_and_then h o ≡ option_and_then g (option_and_then f o)
chained f g h None e = refl
chained f g h (Some x) e = e x

module _ {S : Type 0} (next : S → ℕ → Option S) where
  pub run-append : (s t : List ℕ) (q : S) → run next q (s ++ t)
      ≡ option_and_then (λ to. run next to t) (run next q s)
  run-append [] t q = refl
  run-append (b ∷ bs) t q = chained (λ to. run next to bs) (λ to. run next to t)
      (λ to. run next to (bs ++ t)) (next q b) (λ to. run-append bs t to)

  pub value-append : {V : Type 0} (ended : S → Option V) (s t : List ℕ) (q : S)
      → value_from next ended q (s ++ t) ≡ option_and_then (λ to. value_from next ended to t)
      (run next q s)
  value-append ended [] t q = refl
  value-append ended (b ∷ bs) t q =
      chained (λ to. run next to bs) (λ to. value_from next ended to t)
      (λ to. value_from next ended to (bs ++ t)) (next q b) (λ to. value-append ended bs t to)

  -- one byte more
  pub run_more : (q to : S) (text : List ℕ) (at : ℕ) → at < length text
      → run next q (take at text) ≡ Some to → run next q (take (at + 1) text)
      ≡ next to (get_or text at 0)
  run_more q to text at h e =
      let f : S → Option S = λ k. run next k (get_or text at 0 ∷ []) in
      ap (run next q) (take_more text at 0 h)
      ∙ (run-append (take at text) (get_or text at 0 ∷ []) q
      ∙ (ap (option_and_then f) e ∙ alone (next to (get_or text at 0))))
    where
      alone : (o : Option S) → option_and_then (λ k. Some k) o ≡ o
      alone None = refl
      alone (Some k) = refl

  -- a front of a front that is read is read
  pub run_shorter : (q to : S) (s t : List ℕ) → run next q (s ++ t) ≡ Some to
      → (k : S) × (run next q s ≡ Some k)
  run_shorter q to s t e = option_and_then_some (λ k. run next k t) (run next q s) to
      (sym (run-append s t q) ∙ e) (λ k i r. (k, i))

  pub run_before : (q to : S) (text : List ℕ) (m n : ℕ) → m ≤ n
      → run next q (take n text) ≡ Some to → (k : S) × (run next q (take m text) ≡ Some k)
  run_before q to text m n h e =
      let same : take n text ≡ take m text ++ drop m (take n text) =
      sym (take-append-drop m (take n text))
      ∙ ap (λ t. t ++ drop m (take n text)) (take-take m n text h) in
      run_shorter q to (take m text) (drop m (take n text)) (ap (run next q) (sym same) ∙ e)

-- how far a text is read
abbrev counted : Option ℕ → ℕ
counted None = 0
counted (Some n) = suc n

abbrev pub read_len : {S : Type 0} → (S → ℕ → Option S) → S → List ℕ → ℕ
read_len next q [] = 0
read_len next q (b ∷ bs) = counted (option_map (λ to. read_len next to bs) (next q b))

module _ {S : Type 0} (next : S → ℕ → Option S) where
  read_len-within : (q : S) (s : List ℕ) → read_len next q s ≤ length s
  read_len-within q [] = omega arith
  read_len-within q (b ∷ bs) = go (next q b) (λ to. read_len-within to bs)
    where
      go : (o : Option S) → ((to : S) → read_len next to bs ≤ length bs)
          → counted (option_map (λ to. read_len next to bs) o) ≤ suc (length bs)
      go None h = omega arith
      go (Some to) h = let k = h to in omega arith

  read_len-read : (q : S) (s : List ℕ)
      → (to : S) × (run next q (take (read_len next q s) s) ≡ Some to)
  read_len-read q [] = (q, refl)
  read_len-read q (b ∷ bs) = go (next q b) refl (λ to. read_len-read to bs)
    where
      go : (o : Option S) → next q b ≡ o
          → ((to : S) → (k : S) × (run next to (take (read_len next to bs) bs) ≡ Some k))
          → (k : S) × (run next q
          (take (counted (option_map (λ to. read_len next to bs) o)) (b ∷ bs)) ≡ Some k)
      go None e h = (q, refl)
      go (Some to) e h = let k = h to in (k.0, rw e k.1)

  read_len-longest : (q to : S) (s : List ℕ) (n : ℕ) → n ≤ length s
      → run next q (take n s) ≡ Some to → n ≤ read_len next q s
  read_len-longest q to s zero h e = omega arith
  read_len-longest q to [] (suc n) h e = absurd (omega arith)
  read_len-longest q to (b ∷ bs) (suc n) h e =
      option_and_then_some (λ k. run next k (take n bs)) (next q b) to e
      (λ k i r. let more = read_len-longest k to bs n (omega arith) r in rw i (omega arith))

-- the laws of a recogniser: it reads each text of the grammar, gives nothing else, and each state
-- can be completed
pub record Recognises {S V : Type 0} (next : S → ℕ → Option S) (ended : S → Option V) (start : S)
    (Text : List ℕ → V → Type 0) : Type 0 where
  pub reads : (s : List ℕ) (v : V) → Text s v → value_from next ended start s ≡ Some v
  pub gives : (s : List ℕ) (v : V) → value_from next ended start s ≡ Some v → Text s v
  pub can_end : (q : S) → (more : List ℕ) × (v : V) × (value_from next ended q more ≡ Some v)

module _ {S V : Type 0} (next : S → ℕ → Option S) (ended : S → Option V) (start : S)
    (Text : List ℕ → V → Type 0) (laws : Recognises next ended start Text) where
  -- a text stands for at most one value
  pub one_value : (s : List ℕ) (v w : V) → Text s v → Text s w → v ≡ w
  one_value s v w p q = same_Some v w (sym (laws.reads s v p) ∙ laws.reads s w q)

  -- what is read begins some text
  pub begins : (s : List ℕ) (q : S) → run next start s ≡ Some q → BeginsText Text s
  begins s q e =
      let k = laws.can_end q in (
        k.0,
        k.1,
        laws.gives (s ++ k.0) k.1
            (value-append next ended s k.0 start
            ∙ (ap (option_and_then (λ to. value_from next ended to k.0)) e ∙ k.2)),
      )

  -- what begins some text is read
  pub is_begun : (s : List ℕ) → BeginsText Text s → (q : S) × (run next start s ≡ Some q)
  is_begun s b =
      option_and_then_some (λ to. value_from next ended to b.0) (run next start s) b.1
      (sym (value-append next ended s b.0 start) ∙ laws.reads (s ++ b.0) b.1 b.2) (λ q i r. (q, i))

  pub is_front : (text : List ℕ) → IsFront Text text (read_len next start text)
  is_front text =
      let k = read_len-read next start text in
      record {
        within = read_len-within next start text;
        begins = begins (take (read_len next start text) text) k.0 k.1;
        longest = λ n h b. let j = is_begun (take n text) b in
            read_len-longest next start j.0 text n h j.1;
      }

  -- what is read lies in the longest front
  pub in_front : (text : List ℕ) (n : ℕ) (q : S) → n ≤ length text
      → run next start (take n text) ≡ Some q → n ≤ read_len next start text
  in_front text n q h e = read_len-longest next start q text n h e

  -- a text is read up to here and no further
  pub fault_at : (text : List ℕ) (at : ℕ) (q : S) → at < length text
      → run next start (take at text) ≡ Some q → next q (get_or text at 0) ≡ None
      → IsFront Text text at × ((v : V) → Text text v → ⊥)
  fault_at text at q h e none =
      let dead : run next start (take (at + 1) text) ≡ None =
      run_more next start q text at h e ∙ none in
      let longest : (n : ℕ) → n ≤ length text → BeginsText Text (take n text) → n ≤ at
      = λ n k b. let j = is_begun (take n text) b in
      ⊎_elim (λ lt. let i = run_before next start j.0 text (at + 1) n (omega arith) j.1 in
      absurd (none-some i.0 (sym dead ∙ i.1))) (λ le. le) (cases_lt at n) in (
        record { within = omega arith; begins = begins (take at text) q e; longest = longest },
        λ v p. let whole : take (length text) text ≡ text =
            take_all (length text) text (le_refl (length text)) in
            let k = longest (length text) (le_refl (length text))
            (subst (λ (t : List ℕ). BeginsText Text t) (sym whole)
            ([], v, subst (λ (t : List ℕ). Text t v) (sym (append-nil text)) p)) in omega arith,
      )

  -- a text is read to its end, and is none
  pub fault_at_end : (text : List ℕ) (q : S) → run next start text ≡ Some q → ended q ≡ None
      → IsFront Text text (length text) × ((v : V) → Text text v → ⊥)
  fault_at_end text q e none =
      let whole : take (length text) text ≡ text =
      take_all (length text) text (le_refl (length text)) in (
        record {
          within = le_refl (length text);
          begins =
              subst (λ (t : List ℕ). BeginsText Text t) (sym whole) (begins text q e);
          longest = λ n h b. h;
        },
        λ v p. none-some v (sym (ended_as text q e ∙ none) ∙ laws.reads text v p),
      )
    where
      ended_as : (text : List ℕ) (q : S) → run next start text ≡ Some q
          → value_from next ended start text ≡ ended q
      ended_as text q e = ap (value_from next ended start) (sym (append-nil text))
          ∙ (value-append next ended text [] start ∙ ap (option_and_then (λ to. ended to)) e)

  -- a text is read to its end, and stands for a value
  pub value_at_end : (text : List ℕ) (q : S) (v : V) → run next start text ≡ Some q
      → ended q ≡ Some v → Text text v
  value_at_end text q v e some =
      laws.gives text v (ap (value_from next ended start) (sym (append-nil text))
      ∙ (value-append next ended text [] start ∙ (ap (option_and_then (λ to. ended to)) e ∙ some)))

-- where each byte keeps what the bytes up to here are, what is read on to the end completes them
module _ {S V : Type 0} (next : S → ℕ → Option S) (ended : S → Option V)
    (Front : S → List ℕ → Type 0) (Text : List ℕ → V → Type 0)
    (step : (q : S) (s : List ℕ) → Front q s → (b : ℕ)
    → IfSome (next q b) (λ to. Front to (s ++ b ∷ [])))
    (ends : (q : S) (s : List ℕ) → Front q s → (v : V) → ended q ≡ Some v → Text s v) where
  pub completes : (more : List ℕ) (q : S) (s : List ℕ) → Front q s → (v : V)
      → value_from next ended q more ≡ Some v → Text (s ++ more) v
  completes [] q s f v e = subst (λ (t : List ℕ). Text t v) (sym (append-nil s)) (ends q s f v e)
  completes (b ∷ bs) q s f v e =
      option_and_then_some (λ to. value_from next ended to bs) (next q b) v e
      (λ to i r. let k = MatchOption-at_some ⊤ (λ to. Front to (s ++ b ∷ [])) to i (step q s f b) in
      subst (λ (t : List ℕ). Text t v) (append_assoc s (b ∷ []) bs)
      (completes bs to (s ++ b ∷ []) k v r))
