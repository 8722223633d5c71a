-- Some members of a list, in their order; and one that is taken out.
use Rattle.std.proofs.Common.{◌≡◌, ℕ, zero, suc, ◌<◌, true, List, [], ◌∷◌, ◌++◌, length, get_or}
use Rattle.std.proofs.Common.{take, drop, map, refl, sym, subst, ap, ◌∙◌, inl, inr, arith}
use Rattle.std.proofs.lemmas.List.{map-append}
use Rattle.std.specs.List.{remove}
use Rattle.line_base.specs.Dials.{AreSomeOf, TakesOut, WasTaken}

module _ {X : Type 0} where
  -- all of them
  pub some_all : (xs : List X) → AreSomeOf xs xs
  some_all [] = tt
  some_all (x ∷ xs) = inl (refl, some_all xs)

  -- the same lists
  pub some_same : (xs ys : List X) → xs ≡ ys → AreSomeOf xs ys
  some_same xs ys is = subst (λ (zs : List X). AreSomeOf xs zs) is (some_all xs)

  -- they are some of a longer list
  pub some_behind : (xs ys : List X) (y : X) → AreSomeOf xs ys → AreSomeOf xs (y ∷ ys)
  some_behind [] ys y some = tt
  some_behind (x ∷ xs) ys y some = inr some

  -- all but one
  pub some_without : (before behind : List X) (x : X)
      → AreSomeOf (before ++ behind) (before ++ x ∷ behind)
  some_without [] behind x = some_behind behind behind x (some_all behind)
  some_without (b ∷ before) behind x = inl (refl, some_without before behind x)

  -- some of some
  pub some_trans : (xs ys zs : List X) → AreSomeOf xs ys → AreSomeOf ys zs → AreSomeOf xs zs
  some_trans [] ys zs p q = tt
  some_trans (x ∷ xs) [] zs p q = absurd p
  some_trans (x ∷ xs) (y ∷ ys) [] p q = absurd q
  some_trans (x ∷ xs) (y ∷ ys) (z ∷ zs) (inl p) (inl q) =
      inl (p.0 ∙ q.0, some_trans xs ys zs p.1 q.1)
  some_trans (x ∷ xs) (y ∷ ys) (z ∷ zs) (inr p) (inl q) = inr (some_trans (x ∷ xs) ys zs p q.1)
  some_trans (x ∷ xs) (y ∷ ys) (z ∷ zs) (inl p) (inr q) =
      inr (some_trans (x ∷ xs) (y ∷ ys) zs (inl p) q)
  some_trans (x ∷ xs) (y ∷ ys) (z ∷ zs) (inr p) (inr q) =
      inr (some_trans (x ∷ xs) (y ∷ ys) zs (inr p) q)

  -- they are some of a list with more behind it
  pub some_before : (xs ys more : List X) → AreSomeOf xs ys → AreSomeOf xs (ys ++ more)
  some_before [] ys more some = tt
  some_before (x ∷ xs) [] more some = absurd some
  some_before (x ∷ xs) (y ∷ ys) more (inl p) = inl (p.0, some_before xs ys more p.1)
  some_before (x ∷ xs) (y ∷ ys) more (inr p) = inr (some_before (x ∷ xs) ys more p)

  -- so are all of them with the same behind them
  pub some_more : (xs ys more : List X) → AreSomeOf xs ys → AreSomeOf (xs ++ more) (ys ++ more)
  some_more [] [] more some = some_all more
  some_more [] (y ∷ ys) more some = some_behind more (ys ++ more) y (some_more [] ys more tt)
  some_more (x ∷ xs) [] more some = absurd some
  some_more (x ∷ xs) (y ∷ ys) more (inl p) = inl (p.0, some_more xs ys more p.1)
  some_more (x ∷ xs) (y ∷ ys) more (inr p) = inr (some_more (x ∷ xs) ys more p)

  -- a list is what stands before a member, the member, and what stands behind it
  split_at : (xs : List X) (at : ℕ) (d : X) → at < length xs
      → xs ≡ take at xs ++ get_or xs at d ∷ drop (suc at) xs
  split_at [] at d lt = absurd (omega (arith, lt))
  split_at (y ∷ ys) zero d lt = refl
  split_at (y ∷ ys) (suc at) d lt = ap (λ zs. y ∷ zs) (split_at ys at d (omega (arith, lt)))

  -- the member at a place, once it was removed
  pub taken_at : (x : X) (old new : List X) (at : ℕ) → at < length old → x ≡ get_or old at x
      → new ≡ remove old at → WasTaken x old new
  taken_at x old new at lt value is = record {
    before = take at old;
    behind = drop (suc at) old;
    was = split_at old at x lt ∙ ap (λ y. take at old ++ y ∷ drop (suc at) old) (sym value);
    is_now = is;
  }

  -- the same out of an equal list
  pub taken_from : (x : X) (first old new : List X) → first ≡ old → WasTaken x first new
      → WasTaken x old new
  taken_from x first old new is w = subst (λ (xs : List X). WasTaken x xs new) is w

  -- the same to an equal list
  pub taken_to : (x : X) (old new last : List X) → last ≡ new → WasTaken x old new
      → WasTaken x old last
  taken_to x old new last is w = subst (λ (xs : List X). WasTaken x old xs) (sym is) w

module _ {X Y : Type 0} (f : X → Y) (x : X) (old new : List X) where
  was_seen : WasTaken x old new → (before behind : List Y)
      × (map f old ≡ before ++ f x ∷ behind) × (map f new ≡ before ++ behind)
  was_seen w = (
    map f w.before,
    map f w.behind,
    ap (map f) w.was ∙ map-append f w.before (x ∷ w.behind),
    ap (map f) w.is_now ∙ map-append f w.before w.behind,
  )

  -- what is left once one was taken out is some of what there was, also seen through a map
  pub some_taken : WasTaken x old new → AreSomeOf (map f new) (map f old)
  some_taken w =
      let s = was_seen w in
      subst (λ (ys : List Y). AreSomeOf ys (map f old)) (sym s.3)
      (subst (λ (ys : List Y). AreSomeOf (s.0 ++ s.1) ys) (sym s.2) (some_without s.0 s.1 (f x)))

-- a connection that was taken out leads where it leads
pub takes_out_by : {X : Type 0} (address_in : X → ℕ × ℕ) (x : X) (ip port : ℕ) (old new : List X)
    → (address_in x).0 ≡ ip → (address_in x).1 ≡ port → WasTaken x old new
    → TakesOut true (ip, port) (map address_in old) (map address_in new)
takes_out_by address_in x ip port old new here at w =
    subst (λ (p : ℕ). TakesOut true (ip, p) (map address_in old) (map address_in new)) at
    (subst (λ (i : ℕ). TakesOut true (i, (address_in x).1) (map address_in old)
    (map address_in new)) here
    (let s = was_seen address_in x old new w in (
      s.0,
      s.1,
      some_same (s.0 ++ address_in x ∷ s.1) (map address_in old) (sym s.2),
      s.3,
    )))
