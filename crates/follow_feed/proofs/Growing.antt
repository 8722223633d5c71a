-- How a dialer's log grows.
use Rattle.std.proofs.Common.{◌≡◌, ℕ, List, [], ◌∷◌, ◌++◌, map, refl, sym, ap, ◌∙◌, append_assoc}
use Rattle.std.proofs.Common.{append-nil, Option, Some, None}
use Rattle.std.specs.List.{concat}
use Rattle.std.proofs.lemmas.List.{map-append}
use Rattle.line_base.specs.declared.dialer.DialEvent.{DialEvent}
use Rattle.line_base.specs.declared.dialer.DialEvent.TheVariants.{Dialed, Sent, Got, Hung}
use Rattle.line_base.specs.Dials.{Grows, KeepsLog, Logs}
use Rattle.body_wire.specs.Passing.{Sends, ReceivesPieces}
use Rattle.http_wire.specs.ReplyReading.{LogsGot, joined}

pub grows_nothing : (a : Option (List DialEvent)) → Grows a a []
grows_nothing None = tt
grows_nothing (Some old) = sym (append-nil old)

pub grows_on : (a b c : Option (List DialEvent)) (xs ys : List DialEvent) → Grows a b xs
    → Grows b c ys
    → Grows a c (xs ++ ys)
grows_on None b c xs ys p q = tt
grows_on (Some old) None c xs ys p q = absurd p
grows_on (Some old) (Some mid) None xs ys p q = absurd q
grows_on (Some old) (Some mid) (Some new) xs ys p q =
    q ∙ ap (λ l. l ++ ys) p ∙ append_assoc old xs ys

pub grows_by_none : (a b : Option (List DialEvent)) → KeepsLog a b → Grows a b []
grows_by_none None b p = tt
grows_by_none (Some old) None p = absurd p
grows_by_none (Some old) (Some new) p = p ∙ sym (append-nil old)

pub grows_by_one : (a b : Option (List DialEvent)) (e : DialEvent) → Logs a b e → Grows a b (e ∷ [])
grows_by_one None b e p = tt
grows_by_one (Some old) None e p = absurd p
grows_by_one (Some old) (Some new) e p = p

pub grows_by_sends : (a b : Option (List DialEvent)) (bytes : List ℕ) → Sends a b bytes
    → (sent : List (List ℕ)) × Grows a b (map Sent sent) × (concat sent ≡ bytes)
grows_by_sends None b bytes p = (bytes ∷ [], tt, append-nil bytes)
grows_by_sends (Some old) None bytes p = absurd p
grows_by_sends (Some old) (Some new) bytes p = (p.0, p.1, p.2)

pub grows_by_pieces : (a b : Option (List DialEvent)) (pieces : List (List ℕ))
    → ReceivesPieces a b pieces
    → Grows a b (map Got pieces)
grows_by_pieces None b pieces p = tt
grows_by_pieces (Some old) None pieces p = absurd p
grows_by_pieces (Some old) (Some new) pieces p = p

pub grows_by_heads : (a b : Option (List DialEvent)) (pieces : List (List ℕ)) → LogsGot a b pieces
    → Grows a b (map Got pieces)
grows_by_heads None b pieces p = tt
grows_by_heads (Some old) None pieces p = absurd p
grows_by_heads (Some old) (Some new) pieces p = p

-- pieces that were got behind others
pub grows_by_more : (a b c : Option (List DialEvent)) (xs ys : List (List ℕ))
    → Grows a b (map Got xs)
    → Grows b c (map Got ys) → Grows a c (map Got (xs ++ ys))
grows_by_more None b c xs ys p q = tt
grows_by_more (Some old) None c xs ys p q = absurd p
grows_by_more (Some old) (Some mid) None xs ys p q = absurd q
grows_by_more (Some old) (Some mid) (Some new) xs ys p q =
    q ∙ ap (λ l. l ++ map Got ys) p ∙ append_assoc old (map Got xs) (map Got ys)
    ∙ ap (λ l. old ++ l) (sym (map-append Got xs ys))

-- a whole connection: a dial, what was said over it, and a hang
pub grows_by_talk : (a b c d : Option (List DialEvent)) (ip port : ℕ) (sent got : List (List ℕ))
    → Logs a b (Dialed ip port) → Grows b c (map Sent sent ++ map Got got) → Logs c d Hung
    → Grows a d (Dialed ip port ∷ (map Sent sent ++ (map Got got ++ Hung ∷ [])))
grows_by_talk None b c d ip port sent got p q r = tt
grows_by_talk (Some old) None c d ip port sent got p q r = absurd p
grows_by_talk (Some old) (Some one) None d ip port sent got p q r = absurd q
grows_by_talk (Some old) (Some one) (Some two) None ip port sent got p q r = absurd r
grows_by_talk (Some old) (Some one) (Some two) (Some new) ip port sent got p q r =
    let talk = map Sent sent ++ map Got got in
    let dialed : two ≡ (old ++ Dialed ip port ∷ []) ++ talk = q ∙ ap (λ l. l ++ talk) p in
    let all : new ≡ ((old ++ Dialed ip port ∷ []) ++ talk) ++ Hung ∷ [] =
    r ∙ ap (λ l. l ++ Hung ∷ []) dialed in
    all ∙ append_assoc (old ++ Dialed ip port ∷ []) talk (Hung ∷ [])
    ∙ append_assoc old (Dialed ip port ∷ []) (talk ++ Hung ∷ [])
    ∙ ap (λ l. old ++ Dialed ip port ∷ l) (append_assoc (map Sent sent) (map Got got) (Hung ∷ []))

pub joined_is : (pieces : List (List ℕ)) → joined pieces ≡ concat pieces
joined_is [] = refl
joined_is (piece ∷ pieces) = ap (λ l. piece ++ l) (joined_is pieces)
