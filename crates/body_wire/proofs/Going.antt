-- How steps of a decoder add up.
use Rattle.std.proofs.Common.{◌≡◌, ℕ, ◌<◌, List, [], ◌++◌, length, take, drop, refl, sym, ap, ◌∙◌}
use Rattle.std.proofs.Common.{subst, arith, append_assoc, append-nil, length-append}
use Rattle.std.proofs.lemmas.List.{take-append-drop, length-drop}
use Rattle.body_wire.specs.declared.decoder.Decoder.{Decoder}
use Rattle.body_wire.specs.declared.decoder.StopCause.{StopCause}
use Rattle.body_wire.specs.Stands.{Holds, GoesOn, Moves, Stops}
use Rattle.body_wire.specs.Turns.{Taken}

pub stays : (d : Decoder) → GoesOn d d [] []
stays d = record {
  form = refl;
  limit = refl;
  holds = λ framing taken passed holds.
      subst (λ (xs : List ℕ). Holds framing d xs (passed ++ [])) (sym (append-nil taken))
      (subst (λ (xs : List ℕ). Holds framing d taken xs) (sym (append-nil passed)) holds);
  lean = omega arith;
}

pub then : (a b c : Decoder) (t1 p1 t2 p2 : List ℕ) → GoesOn a b t1 p1 → GoesOn b c t2 p2
    → GoesOn a c (t1 ++ t2) (p1 ++ p2)
then a b c t1 p1 t2 p2 first second = record {
  form = second.form ∙ first.form;
  limit = second.limit ∙ first.limit;
  holds = λ framing taken passed holds.
      let h = second.holds framing (taken ++ t1) (passed ++ p1)
      (first.holds framing taken passed holds) in
      subst (λ (xs : List ℕ). Holds framing c xs (passed ++ (p1 ++ p2))) (append_assoc taken t1 t2)
      (subst (λ (xs : List ℕ). Holds framing c ((taken ++ t1) ++ t2) xs) (append_assoc passed p1 p2)
      h);
  lean = omega (arith, first.lean, second.lean, length-append t1 t2);
}

pub none_taken : (d : Decoder) (kept out : List ℕ) → Taken d d kept kept out out
none_taken d kept out =
    record { took = []; put = []; kept = refl; out = sym (append-nil out); goes = stays d }

pub moved : (a b c : Decoder) (k0 k1 k2 seen o0 o1 o2 : List ℕ) (n : ℕ) → Taken a b k0 k1 o0 o1
    → seen ≡ k1 → Moves b c seen n o1 o2 → k2 ≡ drop n k1
    → Taken a c k0 k2 o0 o2
moved a b c k0 k1 k2 seen o0 o1 o2 n taken same moves' rest =
    let moves = subst (λ (xs : List ℕ). Moves b c xs n o1 o2) same moves' in
    record {
      took = taken.took ++ take n k1;
      put = taken.put ++ moves.put;
      kept =
          taken.kept ∙ ap (λ xs. taken.took ++ xs) (sym (take-append-drop n k1))
          ∙ sym (append_assoc taken.took (take n k1) (drop n k1))
          ∙ ap (λ xs. (taken.took ++ take n k1) ++ xs) (sym rest);
      out = moves.out ∙ ap (λ xs. xs ++ moves.put) taken.out ∙ append_assoc o0 taken.put moves.put;
      goes = then a b c taken.took taken.put (take n k1) moves.put taken.goes moves.goes;
    }

pub smaller : (b c : Decoder) (k1 k2 seen o1 o2 : List ℕ) (n : ℕ) → seen ≡ k1
    → Moves b c seen n o1 o2 → k2 ≡ drop n k1 → length k2 < length k1
smaller b c k1 k2 seen o1 o2 n same moves' rest =
    let moves = subst (λ (xs : List ℕ). Moves b c xs n o1 o2) same moves' in
    let some = moves.some in
    let within = moves.within in
    let long : length k2 ≡ length (drop n k1) = ap length rest in
    omega (arith, length-drop n k1)

pub taken_same : (a b c : Decoder) (k0 k1 o0 o1 o2 : List ℕ) → Taken a b k0 k1 o0 o1 → c ≡ b
    → o2 ≡ o1 → Taken a c k0 k1 o0 o2
taken_same a b c k0 k1 o0 o1 o2 taken same out =
    subst (λ (d : Decoder). Taken a d k0 k1 o0 o2) (sym same)
    (subst (λ (xs : List ℕ). Taken a b k0 k1 o0 xs) (sym out) taken)

pub stopped : (a b c : Decoder) (k0 k1 seen o0 o1 o2 : List ℕ) (stop : StopCause)
    → Taken a b k0 k1 o0 o1 → seen ≡ k1 → c ≡ b → o2 ≡ o1 → Stops b seen stop
    → Taken a c k0 k1 o0 o2 × Stops c k1 stop
stopped a b c k0 k1 seen o0 o1 o2 stop taken same_kept same out stops = (
  taken_same a b c k0 k1 o0 o1 o2 taken same out,
  subst (λ (d : Decoder). Stops d k1 stop) (sym same)
      (subst (λ (xs : List ℕ). Stops b xs stop) same_kept stops),
)
