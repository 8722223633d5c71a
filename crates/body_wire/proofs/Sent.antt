-- What calls of sending add up to.
use Rattle.std.proofs.Common.{◌≡◌, ℕ, ◌+◌, ◌-◌, ◌<◌, ◌≤◌, List, [], ◌∷◌, ◌++◌, length, take, drop}
use Rattle.std.proofs.Common.{map, refl, sym, ap, ◌∙◌, subst, arith, append_assoc, append-nil}
use Rattle.std.proofs.Common.{Option, Some, None}
use Rattle.std.specs.List.{concat}
use Rattle.std.proofs.Math.Seq.{take-add}
use Rattle.std.proofs.lemmas.List.{take_all, length-drop, map-append, take-append-drop}
use Rattle.std.proofs.lemmas.List.Folds.{concat-append}
use Rattle.std.specs.Io.KnownBytes.{Appends, Consumes, Keeps}
use Rattle.std.proofs.KnownBytes.{Appends-trans, Appends-kept, Consumes-trans}
use Rattle.line_base.specs.declared.dialer.DialEvent.{DialEvent}
use Rattle.line_base.specs.declared.dialer.DialEvent.TheVariants.{Sent, Got}
use Rattle.line_base.specs.Dials.{KeepsLog, Logs, LogsMove}
use Rattle.body_wire.specs.Passing.{Sends, ReceivesPieces, IsFrontOf}

pub Sends-nil : (a : Option (List DialEvent)) → Sends a a []
Sends-nil None = tt
Sends-nil (Some old) = ([], sym (append-nil old), refl)

pub Sends-trans : (a b c : Option (List DialEvent)) (xs ys : List ℕ) → Sends a b xs → Sends b c ys
    → Sends a c (xs ++ ys)
Sends-trans None b c xs ys p q = tt
Sends-trans (Some old) None c xs ys p q = absurd p
Sends-trans (Some old) (Some mid) None xs ys p q = absurd q
Sends-trans (Some old) (Some mid) (Some new) xs ys p q = (
  p.0 ++ q.0,
  q.1 ∙ ap (λ l. l ++ map Sent q.0) p.1 ∙ append_assoc old (map Sent p.0) (map Sent q.0)
      ∙ ap (λ l. old ++ l) (sym (map-append Sent p.0 q.0)),
  concat-append p.0 q.0 ∙ (λ i. p.2 i ++ q.2 i),
)

Sends-one : (a b : Option (List DialEvent)) (piece : List ℕ) → Logs a b (Sent piece)
    → Sends a b piece
Sends-one None b piece logs = tt
Sends-one (Some old) None piece logs = absurd logs
Sends-one (Some old) (Some new) piece logs = (piece ∷ [], logs, append-nil piece)

Sends-kept : (a b c : Option (List DialEvent)) (xs : List ℕ) → Sends a b xs → KeepsLog b c
    → Sends a c xs
Sends-kept None b c xs p q = tt
Sends-kept (Some old) None c xs p q = absurd p
Sends-kept (Some old) (Some mid) None xs p q = absurd q
Sends-kept (Some old) (Some mid) (Some new) xs p q = (p.0, q ∙ p.1, p.2)

rest_of : (bytes : List ℕ) (at : ℕ) → take (length bytes - at) (drop at bytes) ≡ drop at bytes
rest_of bytes at =
    take_all (length bytes - at) (drop at bytes) (omega (arith, length-drop at bytes))

pub sent_more : (a b c : Option (List DialEvent)) (bytes : List ℕ) (at n : ℕ)
    → Sends a b (take at bytes) → at < length bytes
    → LogsMove b c (length (take (length bytes - at) (drop at bytes)))
    (Sent (take n (take (length bytes - at) (drop at bytes))))
    → Sends a c (take (at + n) bytes)
sent_more a b c bytes at n before less moves =
    let rest = rest_of bytes at in
    let some : 0 < length (take (length bytes - at) (drop at bytes)) =
    subst (λ (xs : List ℕ). 0 < length xs) (sym rest) (omega (arith, length-drop at bytes)) in
    let now : Sends b c (take n (drop at bytes)) = subst (λ (xs : List ℕ). Sends b c (take n xs))
    rest (Sends-one b c _ (moves.0 some)) in
    subst (Sends a c) (sym (take-add at n bytes))
    (Sends-trans a b c (take at bytes) (take n (drop at bytes)) before now)

pub front_sent : (a b c : Option (List DialEvent)) (bytes : List ℕ) (at : ℕ)
    → Sends a b (take at bytes) → KeepsLog b c
    → (sent : List ℕ) × Sends a c sent × IsFrontOf bytes sent
front_sent a b c bytes at before same = (
  take at bytes,
  Sends-kept a b c (take at bytes) before same,
  (drop at bytes, take-append-drop at bytes),
)

pub all_sent : (a b : Option (List DialEvent)) (bytes : List ℕ) (at : ℕ) → Sends a b (take at bytes)
    → length bytes ≤ at
    → (sent : List ℕ) × Sends a b sent × (sent ≡ bytes)
all_sent a b bytes at before past = (take at bytes, before, take_all at bytes past)

-- the same for a peer
pub given_more : (a b c : Option (List ℕ)) (bytes : List ℕ) (at n : ℕ) → Appends a b (take at bytes)
    → Appends b c (take n (take (length bytes - at) (drop at bytes)))
    → Appends a c (take (at + n) bytes)
given_more a b c bytes at n before now =
    let now' : Appends b c (take n (drop at bytes)) = subst
    (λ (xs : List ℕ). Appends b c (take n xs)) (rest_of bytes at) now in
    subst (Appends a c) (sym (take-add at n bytes))
    (Appends-trans a b c (take at bytes) (take n (drop at bytes)) before now')

pub front_given : (a b c : Option (List ℕ)) (bytes : List ℕ) (at : ℕ) → Appends a b (take at bytes)
    → Keeps b c
    → (sent : List ℕ) × Appends a c sent × IsFrontOf bytes sent
front_given a b c bytes at before same = (
  take at bytes,
  Appends-kept a b c (take at bytes) before same,
  (drop at bytes, take-append-drop at bytes),
)

pub all_given : (a b : Option (List ℕ)) (bytes : List ℕ) (at : ℕ) → Appends a b (take at bytes)
    → length bytes ≤ at
    → (sent : List ℕ) × Appends a b sent × (sent ≡ bytes)
all_given a b bytes at before past = (take at bytes, before, take_all at bytes past)

-- receives
pub Receives-nil : (a : Option (List DialEvent)) → ReceivesPieces a a []
Receives-nil None = tt
Receives-nil (Some old) = sym (append-nil old)

pub received_more : (a b c : Option (List DialEvent)) (pieces : List (List ℕ)) (piece : List ℕ)
    → ReceivesPieces a b pieces → Logs b c (Got piece)
    → ReceivesPieces a c (pieces ++ piece ∷ [])
received_more None b c pieces piece p q = tt
received_more (Some old) None c pieces piece p q = absurd p
received_more (Some old) (Some mid) None pieces piece p q = absurd q
received_more (Some old) (Some mid) (Some new) pieces piece p q =
    q ∙ ap (λ l. l ++ Got piece ∷ []) p ∙ append_assoc old (map Got pieces) (Got piece ∷ [])
    ∙ ap (λ l. old ++ l) (sym (map-append Got pieces (piece ∷ [])))

pub received_same : (a b c : Option (List DialEvent)) (pieces : List (List ℕ))
    → ReceivesPieces a b pieces → KeepsLog b c → ReceivesPieces a c pieces
received_same None b c pieces p q = tt
received_same (Some old) None c pieces p q = absurd p
received_same (Some old) (Some mid) None pieces p q = absurd q
received_same (Some old) (Some mid) (Some new) pieces p q = q ∙ p

-- bytes that came piece by piece
pub came_piece : (a b c : Option (List ℕ)) (pieces : List (List ℕ)) (piece : List ℕ)
    → Consumes a b (concat pieces) → Consumes b c piece
    → Consumes a c (concat (pieces ++ piece ∷ []))
came_piece a b c pieces piece before now =
    let joined : concat (pieces ++ piece ∷ [])
    ≡ concat pieces ++ piece = concat-append pieces (piece ∷ [])
    ∙ ap (λ xs. concat pieces ++ xs) (append-nil piece) in
    subst (Consumes a c) (sym joined) (Consumes-trans a b c (concat pieces) piece before now)
