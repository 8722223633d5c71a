-- Each number that was given is that of one connection, which waits or was handed out once.
use Rattle.std.proofs.Common.{◌≡◌, ℕ, ◌+◌, ◌<◌, ◌==◌, Bool, true, false, List, [], ◌∷◌, ◌++◌, None}
use Rattle.std.proofs.Common.{refl, ap, arith}
use Rattle.std.proofs.lemmas.Bool.Decides.{nat_tests}
use Rattle.waiting.specs.declared.waiters.Waiter.{Waiter}
use Rattle.waiting.specs.Waiting.{Line, found_at, without}
use Rattle.waiting.specs.Runs.{Call, joins, hands_back, takes, takes_oldest, one_at, times}
use Rattle.waiting.specs.Runs.{once_below, numbers, oldest_of, others_of, number_of, line_after}
use Rattle.waiting.specs.Runs.{out_of, line_behind, all_out, nobody}

times-append : (x : ℕ) (xs ys : List ℕ) → times x (xs ++ ys) ≡ times x xs + times x ys
times-append x [] ys = omega arith
times-append x (y ∷ xs) ys = omega (arith, times-append x xs ys)

once_more : (x n : ℕ) → once_below x (n + 1) ≡ once_below x n + one_at x n
once_more x n = grind (arith, nat_tests)

at_most : (x n : ℕ) → once_below x n < 2
at_most x n = grind (arith, nat_tests)

module _ {C : Type 0} where
  times_pushed : (x n : ℕ) (w : Waiter C) (ws : List (ℕ × Waiter C))
      → times x (numbers (ws ++ (n, w) ∷ [])) ≡ times x (numbers ws) + one_at x n
  times_pushed x n w [] = omega arith
  times_pushed x n w (v ∷ ws) = omega (arith, times_pushed x n w ws)

  times_oldest : (x : ℕ) (ws : List (ℕ × Waiter C))
      → times x (numbers (oldest_of ws)) + times x (numbers (others_of ws)) ≡ times x (numbers ws)
  times_oldest x [] = refl
  times_oldest x (w ∷ ws) = omega arith

  times_case : (x n : ℕ) (w : ℕ × Waiter C) (ws : List (ℕ × Waiter C)) (b : Bool) → (w.0 == n) ≡ b
      → times x (number_of n (found_at n ws)) + times x (numbers (without n ws))
      ≡ times x (numbers ws)
      → times x (number_of n (found_at n (w ∷ ws))) + times x (numbers (without n (w ∷ ws)))
      ≡ times x (numbers (w ∷ ws))
  times_case x n w ws true is later =
      let same : w.0 ≡ n = grind (arith, nat_tests) in
      let one : one_at x w.0 ≡ one_at x n = ap (one_at x) same in
      rw is (omega (arith, one))
  times_case x n w ws false is later = rw is (omega (arith, later))

  times_without : (x n : ℕ) (ws : List (ℕ × Waiter C))
      → times x (number_of n (found_at n ws)) + times x (numbers (without n ws))
      ≡ times x (numbers ws)
  times_without x n [] = refl
  times_without x n (w ∷ ws) = times_case x n w ws (w.0 == n) refl (times_without x n ws)

  one_call : (l : Line C) (c : Call C) (o x : ℕ) → o + times x (numbers l.waiting)
      ≡ once_below x l.next
      → (o + times x (out_of l c)) + times x (numbers (line_after l c).waiting)
      ≡ once_below x (line_after l c).next
  one_call l (joins since connection) o x is =
      omega (
        arith,
        is,
        once_more x l.next,
        times_pushed x l.next (record { since = since; connection = connection }) l.waiting,
      )
  one_call l hands_back o x is = omega (arith, is, once_more x l.next)
  one_call l (takes number) o x is = omega (arith, is, times_without x number l.waiting)
  one_call l takes_oldest o x is = omega (arith, is, times_oldest x l.waiting)

  all_calls : (l : Line C) (cs : List (Call C)) (o x : ℕ)
      → o + times x (numbers l.waiting) ≡ once_below x l.next
      → (o + times x (all_out l cs)) + times x (numbers (line_behind l cs).waiting)
      ≡ once_below x (line_behind l cs).next
  all_calls l [] o x is = omega (arith, is)
  all_calls l (c ∷ cs) o x is =
      let later = all_calls (line_after l c) cs (o + times x (out_of l c)) x
      (one_call l c o x is) in
      omega (arith, later, times-append x (out_of l c) (all_out (line_after l c) cs))

  pub each_once : (cs : List (Call C)) (x : ℕ)
      → times x (all_out nobody cs) + times x (numbers (line_behind nobody cs).waiting)
      ≡ once_below x (line_behind nobody cs).next
  each_once cs x =
      let none : once_below x 0 ≡ 0 = grind (arith, nat_tests) in
      omega (arith, all_calls nobody cs 0 x (omega (arith, none)))

  absent_case : (x : ℕ) (w : ℕ × Waiter C) (ws : List (ℕ × Waiter C)) (b : Bool) → (w.0 == x) ≡ b
      → times x (numbers (w ∷ ws)) ≡ 0
      → (times x (numbers ws) ≡ 0 → found_at x ws ≡ None) → found_at x (w ∷ ws) ≡ None
  absent_case x w ws true is none later =
      let one : one_at x w.0 ≡ 1 = rw is refl in absurd (omega (arith, none, one))
  absent_case x w ws false is none later =
      let zero_is : one_at x w.0 ≡ 0 = rw is refl in rw is (later (omega (arith, none, zero_is)))

  absent : (x : ℕ) (ws : List (ℕ × Waiter C)) → times x (numbers ws) ≡ 0 → found_at x ws ≡ None
  absent x [] none = refl
  absent x (w ∷ ws) none = absent_case x w ws (w.0 == x) refl none (absent x ws)

  pub stale_finds_nothing : (cs : List (Call C)) (x : ℕ) → 0 < times x (all_out nobody cs)
      → found_at x (line_behind nobody cs).waiting ≡ None
  stale_finds_nothing cs x out =
      absent x (line_behind nobody cs).waiting
      (omega (arith, out, each_once cs x, at_most x (line_behind nobody cs).next))
