-- A line of connections that wait, as the entries of a map.
use Rattle.std.proofs.Common.{◌≡◌, ℕ, ◌+◌, ◌<◌, ◌==◌, nat_lt, cond, Bool, true, false, List, []}
use Rattle.std.proofs.Common.{◌∷◌, ◌++◌, Some, None, refl, sym, ap, ◌∙◌, arith}
use Rattle.std.proofs.lemmas.Bool.Decides.{nat_tests}
use Rattle.std.specs.Prelude.{Option, option_map, IfSome}
use Rattle.std.specs.Ordering.{nat_cmp, is_eq}
use Rattle.std.specs.declared.cmp.Ordering.TheVariants.{Greater}
use Rattle.std.specs.Map.{lookup, remove_entry}
use Rattle.std.specs.BTreeMap.{insert_entry, is_at}
use Rattle.waiting.specs.declared.waiters.Waiter.{Waiter}
use Rattle.waiting.specs.Waiting.{AreBelow, HasOlder, IsOlder, found_at, without}

above : (n k : ℕ) → k < n → nat_cmp n k ≡ Greater
above n k less =
    let no : nat_lt n k ≡ false = grind (arith, nat_tests) in
    let other : (n == k) ≡ false = grind (arith, nat_tests) in rw (no, other) refl

at_is : (n k : ℕ) → is_eq (nat_cmp n k) ≡ (k == n)
at_is n k = grind (arith, nat_tests)

-- what holds of a value that is there
pub weaker_some : {A : Type 0} (o : Option A) (P Q : A → Type 0) → ((x : A) → P x → Q x)
    → IfSome o P → IfSome o Q
weaker_some None P Q f p = tt
weaker_some (Some x) P Q f p = f x p

module _ {C : Type 0} where
  -- a number that was not given finds nothing
  pub none_at : (n : ℕ) (ws : List (ℕ × Waiter C)) → AreBelow n ws
      → lookup (is_at (nat_cmp n)) ws ≡ None
  none_at n [] below = refl
  none_at n (w ∷ ws) below = rw (above n w.0 below.0) (none_at n ws below.1)

  -- and stands behind all others
  pub inserted_last : (n : ℕ) (x : Waiter C) (ws : List (ℕ × Waiter C)) → AreBelow n ws
      → insert_entry nat_cmp ws n x ≡ ws ++ (n, x) ∷ []
  inserted_last n x [] below = refl
  inserted_last n x (w ∷ ws) below = rw (above n w.0 below.0)
      (ap (λ l. w ∷ l) (inserted_last n x ws below.1))

  pub below_more : (n : ℕ) (ws : List (ℕ × Waiter C)) → AreBelow n ws → AreBelow (n + 1) ws
  below_more n [] below = tt
  below_more n (w ∷ ws) below = (omega (arith, below.0), below_more n ws below.1)

  pub below_joined : (n : ℕ) (x : Waiter C) (ws : List (ℕ × Waiter C)) → AreBelow n ws
      → AreBelow (n + 1) (ws ++ (n, x) ∷ [])
  below_joined n x [] below = (omega arith, tt)
  below_joined n x (w ∷ ws) below = (omega (arith, below.0), below_joined n x ws below.1)

  below_if : (n : ℕ) (b : Bool) (w : ℕ × Waiter C) (ws rest : List (ℕ × Waiter C))
      → AreBelow n (w ∷ ws) → AreBelow n rest → AreBelow n (cond b ws (w ∷ rest))
  below_if n true w ws rest below kept = below.1
  below_if n false w ws rest below kept = (below.0, kept)

  pub below_removed : (n number : ℕ) (ws : List (ℕ × Waiter C)) → AreBelow n ws
      → AreBelow n (remove_entry (is_at (nat_cmp number)) ws)
  below_removed n number [] below = tt
  below_removed n number (w ∷ ws) below =
      below_if n (is_eq (nat_cmp number w.0)) w ws (remove_entry (is_at (nat_cmp number)) ws) below
      (below_removed n number ws below.1)

  found_if : (b : Bool) (w : Waiter C) (o : Option (Waiter C)) (p : Option C)
      → option_map (λ x. x.connection) o ≡ p → option_map (λ x. x.connection) (cond b (Some w) o)
      ≡ cond b (Some w.connection) p
  found_if true w o p e = refl
  found_if false w o p e = e

  -- what a number finds
  pub found_is : (number : ℕ) (ws : List (ℕ × Waiter C))
      → option_map (λ x. x.connection) (lookup (is_at (nat_cmp number)) ws) ≡ found_at number ws
  found_is number [] = refl
  found_is number (w ∷ ws) =
      rw (at_is number w.0)
      (found_if (w.0 == number) w.1 (lookup (is_at (nat_cmp number)) ws) (found_at number ws)
      (found_is number ws))

  pub removed_is : (number : ℕ) (ws : List (ℕ × Waiter C))
      → remove_entry (is_at (nat_cmp number)) ws ≡ without number ws
  removed_is number [] = refl
  removed_is number (w ∷ ws) = rw (at_is number w.0)
      (ap (λ l. cond (w.0 == number) ws (w ∷ l)) (removed_is number ws))

  pub none_found : (number : ℕ) (ws : List (ℕ × Waiter C))
      → None ≡ lookup (is_at (nat_cmp number)) ws → None ≡ found_at number ws
  none_found number ws e = ap (option_map (λ (x : Waiter C). x.connection)) e ∙ found_is number ws

  pub some_found : (number : ℕ) (ws : List (ℕ × Waiter C)) (w : Waiter C)
      → Some w ≡ lookup (is_at (nat_cmp number)) ws → Some w.connection ≡ found_at number ws
  some_found number ws w e = ap (option_map (λ (x : Waiter C). x.connection)) e ∙ found_is number ws

  pub older_so : (limit : ℕ) (ws : List (ℕ × Waiter C)) (b : Bool) → IsOlder limit ws b → b ≡ true
      → HasOlder limit ws
  older_so limit [] b is held = absurd (let e : true ≡ false = sym held ∙ is in cc)
  older_so limit (w ∷ ws) true is held = is
  older_so limit (w ∷ ws) false is held = absurd (cc (held))
