-- Each kind of step keeps the count.
use Rattle.std.proofs.Common.{◌≡◌, ℕ, zero, suc, ◌+◌, ◌-◌, ◌%◌, ◌^◌, ◌<◌, ◌≤◌, ◌≢◌, List, [], ◌∷◌}
use Rattle.std.proofs.Common.{◌++◌, length, set, get_or, get_or-set_same, get_or-set_other}
use Rattle.std.proofs.Common.{length-set, replicate, Option, Some, None, refl, sym, ap, subst, ◌∙◌}
use Rattle.std.proofs.Common.{⊎_elim, arith}
use Rattle.std.proofs.lemmas.Bool.{cases_eq}
use Rattle.std.proofs.lemmas.Bool.Decides.{nat_tests}
use Rattle.std.proofs.lemmas.List.{length-replicate, get_or-replicate}
use mathlib.Core.Option.{some, some-injective, some-ne-none}
use lib.ListN.{get_elem?}
use Rattle.atomic_table.specs.Table.{Me, Allows, Splits, Joins, keeps, opening}
use Rattle.atomic_table.proofs.Lists.{at_set, at_snoc}
use Rattle.load_words.specs.declared.rule.Tally.{Tally}
use Rattle.load_words.specs.Counting.{holds_one, holders, all_parts, HasPart, WordsCountHolders}
use Rattle.load_words.specs.Counting.{opened, less_one_part, with_one_part, joined, spent, Loaded}
use Rattle.load_words.specs.Counting.{Added, Subtracted}

abbrev Holding : Tally → Type 0
Holding u = HasPart u.slot u.parts

abbrev Same : ℕ → Tally → Type 0
Same seats u = 0 < u.parts → u.seats ≡ seats

-- a change of one seat changes the count by that seat alone
holders_set : (k : ℕ) (views : List Tally) (id : ℕ) (v w : Tally) → get_elem? views id ≡ some v
    → holders k (set views id w) + holds_one k v.slot ≡ holders k views + holds_one k w.slot
holders_set k [] id v w at = absurd (some-ne-none v (sym at))
holders_set k (x ∷ xs) zero v w at = let same : holds_one k x.slot ≡ holds_one k v.slot =
    ap (λ (t : Tally). holds_one k t.slot) (some-injective x v at) in omega arith
holders_set k (x ∷ xs) (suc id) v w at = omega (arith, holders_set k xs id v w at)

parts_set : (views : List Tally) (id : ℕ) (v w : Tally) → get_elem? views id ≡ some v
    → all_parts (set views id w) + v.parts ≡ all_parts views + w.parts
parts_set [] id v w at = absurd (some-ne-none v (sym at))
parts_set (x ∷ xs) zero v w at = let same : x.parts ≡ v.parts =
    ap (λ (t : Tally). t.parts) (some-injective x v at) in omega arith
parts_set (x ∷ xs) (suc id) v w at = omega (arith, parts_set xs id v w at)

holders_more : (k : ℕ) (views : List Tally) (w : Tally)
    → holders k (views ++ w ∷ []) ≡ holders k views + holds_one k w.slot
holders_more k [] w = omega arith
holders_more k (x ∷ xs) w = omega (arith, holders_more k xs w)

parts_more : (views : List Tally) (w : Tally) → all_parts (views ++ w ∷ [])
    ≡ all_parts views + w.parts
parts_more [] w = omega arith
parts_more (x ∷ xs) w = omega (arith, parts_more xs w)

one_here : (k : ℕ) (slot : Option ℕ) → slot ≡ Some k → holds_one k slot ≡ 1
one_here k slot is = rw is (grind (arith, nat_tests))

none_here : (k i : ℕ) → k ≢ i → holds_one k (Some i) ≡ 0
none_here k i apart = grind (arith, nat_tests)

one_part : (k : ℕ) (slot : Option ℕ) (parts : ℕ) → HasPart slot parts → holds_one k slot ≤ parts
one_part k None parts has = omega arith
one_part k (Some held) parts has = grind (arith, nat_tests)

few : (k : ℕ) (views : List Tally)
    → ((id : ℕ) (v : Tally) → get_elem? views id ≡ some v → HasPart v.slot v.parts)
    → holders k views ≤ all_parts views
few k [] has = omega arith
few k (v ∷ vs) has = omega (
  arith,
  one_part k v.slot v.parts (has 0 v refl),
  few k vs (λ j u e. has (suc j) u e),
)

own : (k : ℕ) (views : List Tally) (id : ℕ) (v : Tally) → get_elem? views id ≡ some v
    → v.slot ≡ Some k → 1 ≤ holders k views
own k [] id v at is = absurd (some-ne-none v (sym at))
own k (x ∷ xs) zero v at is = omega
    (arith, one_here k x.slot (ap (λ (t : Tally). t.slot) (some-injective x v at) ∙ is))
own k (x ∷ xs) (suc id) v at is = omega (arith, own k xs id v at is)

-- a fact of each seat, after one of them changed, and with one more
module _ (F : Tally → Type 0) (views : List Tally) (w : Tally) (new : F w)
    (was : (j : ℕ) (u : Tally) → get_elem? views j ≡ some u → F u) where
  each_set : (id j : ℕ) (u : Tally) → get_elem? (set views id w) j ≡ some u → F u
  each_set id j u e = ⊎_elim (λ (t : (j ≡ id) × (w ≡ u)). subst F t.1 new)
      (λ (t : (j ≢ id) × (get_elem? views j ≡ some u)). was j u t.1) (at_set views id j w u e)

  each_more : (j : ℕ) (u : Tally) → get_elem? (views ++ w ∷ []) j ≡ some u → F u
  each_more j u e = ⊎_elim (λ t. was j u t) (λ t. subst F t new) (at_snoc views w u j e)

-- the words after the word i has changed as the seat's hold on the slot i has
module _ (words : List ℕ) (views : List Tally) (id i n : ℕ) (v w : Tally)
    (at : get_elem? views id ≡ some v) (within : i < length words)
    (moves : n + holds_one i v.slot ≡ get_or words i 0 + holds_one i w.slot)
    (others : (k : ℕ) → k ≢ i → holds_one k v.slot ≡ holds_one k w.slot) where
  pub counted : (k : ℕ) → get_or words k 0 ≡ holders k views
      → get_or (set words i n) k 0 ≡ holders k (set views id w)
  counted k was = ⊎_elim
      (λ (e : k ≡ i).
      let read : get_or (set words i n) k 0 ≡ n =
      subst (λ (j : ℕ). get_or (set words i n) j 0 ≡ n) (sym e)
      (get_or-set_same words i n 0 within) in
      let there : get_or words k 0 ≡ get_or words i 0 = ap (λ (j : ℕ). get_or words j 0) e in
      let before : holds_one k v.slot ≡ holds_one i v.slot = ap (λ (j : ℕ). holds_one j v.slot) e in
      let after : holds_one k w.slot ≡ holds_one i w.slot = ap (λ (j : ℕ). holds_one j w.slot) e in
      omega (arith, holders_set k views id v w at))
      (λ (e : k ≢ i).
      let read : get_or (set words i n) k 0 ≡ get_or words k 0 = get_or-set_other words i k n 0 e in
      omega (arith, holders_set k views id v w at, others k e))
      (cases_eq k i)

  -- the rule after a step of a seat that keeps its parts
  pub kept : (seats : ℕ) (homes : List (mathlib.Core.Option.Option (Unit {0})))
      → WordsCountHolders seats (record { words = words; homes = homes; views = views })
      → w.parts ≡ v.parts → w.seats ≡ v.seats → HasPart w.slot w.parts
      → WordsCountHolders seats
      (record { words = set words i n; homes = homes; views = set views id w })
  kept seats homes h parts same has = record {
    words = length-set words i n ∙ h.words;
    each = λ k lt. counted k (h.each k lt);
    limit = h.limit;
    parts = omega (arith, parts_set views id v w at, h.parts);
    holding = each_set Holding views w has h.holding id;
    same = each_set (Same seats) views w (λ pos. same ∙ h.same id v at (omega arith)) h.same id;
  }

-- a seat with a part
module _ (id : ℕ) (m : Me (Unit {0}) Tally) (part : 1 ≤ m.0.parts) where
  module _ (i : ℕ) (within : i < 8192) where
    -- load
    pub loads : (seats slots : ℕ) → Allows (WordsCountHolders seats) slots id m i (λ n. n)
        (λ n m'. Loaded i n m.0 m'.0 × (m'.1 ≡ m.1))
    loads seats slots s h deep at fits =
        let found = get_or s.words i 0 in
        let w : Tally = record m.0 { reads = m.0.reads ++ (i, found) ∷ [] } in
        let here : found ≡ holders i s.views = h.each i within in
        let most : found ≤ m.0.seats = rw (h.same id m.0 at part)
        (omega (arith, few i s.views h.holding, h.parts)) in (
          w,
          keeps,
          tt,
          kept s.words s.views id i found m.0 w at (omega (arith, h.words)) refl
              (λ k e. refl) seats s.homes h refl refl (h.holding id m.0 at),
          ((refl, most, λ held. omega (arith, own i s.views id m.0 at held)), refl),
        )

    -- add
    pub adds : (seats slots : ℕ) → m.0.slot ≡ None
        → Allows (WordsCountHolders seats) slots id m i (λ n. (n + 1) % 2 ^ 64)
        (λ n m'. Added i m.0 m'.0 × (m'.1 ≡ m.1))
    adds seats slots free s h deep at fits =
        let found = get_or s.words i 0 in
        let w : Tally = record m.0 { slot = Some i; taken = m.0.taken ++ i ∷ [] } in
        let here : found ≡ holders i s.views = h.each i within in
        let some_few = few i s.views h.holding in
        let sum : (found + 1) % 2 ^ 64 ≡ found + 1 = grind (arith, h.parts, h.limit) in
        let none : (k : ℕ) → holds_one k m.0.slot ≡ 0 = λ k. rw free refl in (
          w,
          keeps,
          tt,
          kept s.words s.views id i ((found + 1) % 2 ^ 64) m.0 w at (omega (arith, h.words))
              (omega (arith, none i, one_here i (Some i) refl))
              (λ k e. omega (arith, none k, none_here k i e)) seats s.homes h refl refl part,
          (refl, refl),
        )

    -- subtract
    pub subtracts : (seats slots : ℕ) → m.0.slot ≡ Some i
        → Allows (WordsCountHolders seats) slots id m i (λ n. (n + (2 ^ 64 - 1)) % 2 ^ 64)
        (λ n m'. Subtracted m.0 m'.0 × (m'.1 ≡ m.1))
    subtracts seats slots held s h deep at fits =
        let found = get_or s.words i 0 in
        let w : Tally = record m.0 { slot = None } in
        let here : found ≡ holders i s.views = h.each i within in
        let some_few = few i s.views h.holding in
        let mine = own i s.views id m.0 at held in
        let rest : (found + (2 ^ 64 - 1)) % 2 ^ 64 ≡ found - 1 = grind (arith, h.parts, h.limit) in
        let apart : (k : ℕ) → k ≢ i → holds_one k m.0.slot ≡ 0 =
        λ k e. rw held (none_here k i e) in (
          w,
          keeps,
          tt,
          kept s.words s.views id i ((found + (2 ^ 64 - 1)) % 2 ^ 64) m.0 w at
              (omega (arith, h.words)) (omega (arith, one_here i m.0.slot held))
              (λ k e. omega (arith, apart k e)) seats s.homes h refl refl tt,
          (refl, refl),
        )

-- split
pub splits : (seats id : ℕ) (v : Tally) → 1 ≤ v.parts → v.slot ≡ None
    → Splits (WordsCountHolders seats) id v (less_one_part v) (with_one_part v)
splits seats id v part free s h at =
    let views = set s.views id (less_one_part v) in record {
      words = h.words;
      each = λ k lt. h.each k lt ∙ omega (
        arith,
        holders_set k s.views id v (less_one_part v) at,
        holders_more k views (with_one_part v),
      );
      limit = h.limit;
      parts = omega (
        arith,
        parts_set s.views id v (less_one_part v) at,
        parts_more views (with_one_part v),
        h.parts,
      );
      holding = each_more Holding views (with_one_part v) tt
          (each_set Holding s.views (less_one_part v) (rw free tt) h.holding id);
      same = each_more (Same seats) views (with_one_part v) (λ pos. h.same id v at part)
          (each_set (Same seats) s.views (less_one_part v) (λ pos. h.same id v at part) h.same id);
    }

more_parts : (slot : Option ℕ) (a b : ℕ) → HasPart slot a → HasPart slot (a + b)
more_parts None a b has = tt
more_parts (Some held) a b has = omega arith

-- join
pub joins : (seats id other : ℕ) (v w : Tally) → 1 ≤ v.parts → w.slot ≡ None
    → Joins (WordsCountHolders seats) id v other w (joined v w) spent
joins seats id other v w part free s h at apart there =
    let views = set s.views id (joined v w) in
    let none : (k : ℕ) → holds_one k w.slot ≡ 0 = λ k. rw free refl in record {
      words = h.words;
      each = λ k lt. h.each k lt
          ∙ (omega (
            arith,
            holders_set k s.views id v (joined v w) at,
            holders_set k views other w spent there,
            none k,
          ));
      limit = h.limit;
      parts = omega (
        arith,
        parts_set s.views id v (joined v w) at,
        parts_set views other w spent there,
        h.parts,
      );
      holding = each_set Holding views spent tt
          (each_set Holding s.views (joined v w)
          (more_parts v.slot v.parts w.parts (h.holding id v at)) h.holding id) other;
      same = each_set (Same seats) views spent (λ pos. absurd (omega arith))
          (each_set (Same seats) s.views (joined v w) (λ pos. h.same id v at part) h.same id) other;
    }

only : (F : Tally → Type 0) (w : Tally) → F w → (j : ℕ) (u : Tally) → get_elem? (w ∷ []) j ≡ some u
    → F u
only F w new zero u e = subst F (some-injective w u e) new
only F w new (suc j) u e = absurd (some-ne-none u (sym e))

-- the rule at the start
pub opens : (seats n : ℕ) (words : List ℕ) → seats ≤ 1024 → n ≡ 8192 → words ≡ replicate n 0
    → WordsCountHolders seats (opening words [] (opened seats))
opens seats n words few size is = record {
  words = rw is (length-replicate n 0 ∙ size);
  each = λ k lt. rw is (get_or-replicate n k 0 0 (omega arith) ∙ omega arith);
  limit = few;
  parts = omega arith;
  holding = only Holding (opened seats) tt;
  same = only (Same seats) (opened seats) (λ pos. refl);
}
