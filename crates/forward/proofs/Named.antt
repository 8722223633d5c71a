-- The names that Connection fields list, field by field.
use Rattle.std.proofs.Common.{◌≡◌, ℕ, ◌+◌, ◌<◌, Bool, true, false, cond, List, [], ◌∷◌, ◌++◌}
use Rattle.std.proofs.Common.{length, map, filter, take, get_or, codes, refl, sym, ap, ◌∙◌}
use Rattle.std.proofs.Common.{append_assoc, ◌||◌, Bor, Option, subst}
use Rattle.std.specs.List.{list_any}
use Rattle.std.proofs.lemmas.List.{take_more, map-append, append-nil}
use Rattle.std.proofs.lemmas.List.Elements.{filter-append}
use Rattle.std.proofs.lemmas.Iterator.{YieldsList}
use Rattle.http_wire.specs.declared.head.Field.{Field}
use Rattle.http_wire.specs.Fields.{is_named, values_of}
use Rattle.http_wire.specs.Framing.{pieces_of, pieces_of_value}
use Rattle.httparse.specs.Grammar.{trim_ows}
use Rattle.http_wire.specs.Fields.{lower}
use Rattle.forward.specs.Dropped.{named_in_connection}
use Rattle.forward.specs.Listed.{lowered}

-- a test of any of the values is one of what they come from
pub list_any-map : {A B : Type 0} (p : B → Bool) (v : A → B) (xs : List A)
    → list_any (λ x. p (v x)) xs ≡ list_any p (map v xs)
list_any-map p v [] = refl
list_any-map p v (x ∷ xs) = ap (λ (b : Bool). p (v x) || b) (list_any-map p v xs)

-- a Connection field lists the pieces of its value
pub lists : (field : Field) → is_named (codes "Connection") field ≡ true
    → named_in_connection (field ∷ []) ≡ pieces_of_value field.value
unfolding values_of
lists field holds =
    ap (λ (b : Bool). pieces_of (map (λ (f : Field). f.value) (cond b (field ∷ []) []))) holds
    ∙ append-nil (pieces_of_value field.value)

-- another field lists nothing
pub lists_none : (field : Field) → is_named (codes "Connection") field ≡ false
    → named_in_connection (field ∷ []) ≡ []
unfolding values_of
lists_none field fails =
    ap (λ (b : Bool). pieces_of (map (λ (f : Field). f.value) (cond b (field ∷ []) []))) fails

-- no fields list nothing
pub nothing_listed : [] ≡ named_in_connection []
unfolding values_of
nothing_listed = refl

pieces-append : (vs ws : List (List ℕ)) → pieces_of (vs ++ ws) ≡ pieces_of vs ++ pieces_of ws
pieces-append [] ws = refl
pieces-append (v ∷ vs) ws = ap (λ ps. pieces_of_value v ++ ps) (pieces-append vs ws)
    ∙ sym (append_assoc (pieces_of_value v) (pieces_of vs) (pieces_of ws))

listed-append : (xs ys : List Field) → named_in_connection (xs ++ ys)
    ≡ named_in_connection xs ++ named_in_connection ys
unfolding values_of
listed-append xs ys =
    let value : Field → List ℕ = λ (f : Field). f.value in
    let named : Field → Bool = is_named (codes "Connection") in
    ap (λ fs. pieces_of (map value fs)) (filter-append named xs ys)
    ∙ ap pieces_of (map-append value (filter named xs) (filter named ys))
    ∙ pieces-append (map value (filter named xs)) (map value (filter named ys))

-- ---- in lower case

lowered-append : (xs ys : List (List ℕ)) → lowered (xs ++ ys) ≡ lowered xs ++ lowered ys
lowered-append xs ys = map-append lower xs ys

-- one field more
pub listed_more : (fields : List Field) (k : ℕ) (field : Field) (n1 n2 : List (List ℕ))
    → k < length fields → field ≡ get_or fields k field
    → n1 ≡ lowered (named_in_connection (take k fields))
    → n2 ≡ n1 ++ lowered (named_in_connection (field ∷ []))
    → n2 ≡ lowered (named_in_connection (take (k + 1) fields))
listed_more fields k field n1 n2 less at before put =
    put ∙ ap (λ ns. ns ++ lowered (named_in_connection (field ∷ []))) before
    ∙ sym (lowered-append (named_in_connection (take k fields)) (named_in_connection (field ∷ [])))
    ∙ ap lowered (sym (listed-append (take k fields) (field ∷ [])))
    ∙ ap (λ (f : Field). lowered (named_in_connection (take k fields ++ f ∷ []))) at
    ∙ ap (λ fs. lowered (named_in_connection fs)) (sym (take_more fields k field less))

-- one piece more
pub pieces_more : (n0 n1 n2 pieces : List (List ℕ)) (piece : List ℕ) → n1 ≡ n0 ++ lowered pieces
    → n2 ≡ n1 ++ lowered (piece ∷ [])
    → n2 ≡ n0 ++ lowered (pieces ++ piece ∷ [])
pieces_more n0 n1 n2 pieces piece before put =
    put ∙ (ap (λ ns. ns ++ lowered (piece ∷ [])) before
    ∙ (append_assoc n0 (lowered pieces) (lowered (piece ∷ []))
    ∙ ap (λ ns. n0 ++ ns) (sym (lowered-append pieces (piece ∷ [])))))

-- the pieces, each without the blanks around it
pub trimmed_each : (pieces : List (Bor (List ℕ))) (bytes : List (List ℕ))
    → map (λ p. p.now) pieces ≡ bytes → map (λ p. trim_ows p.now) pieces ≡ map trim_ows bytes
trimmed_each pieces bytes e = each pieces ∙ ap (map trim_ows) e
  where
    each : (ps : List (Bor (List ℕ))) → map (λ p. trim_ows p.now) ps
        ≡ map trim_ows (map (λ p. p.now) ps)
    each [] = refl
    each (p ∷ ps) = ap (λ rest. trim_ows p.now ∷ rest) (each ps)

-- what an iterator gives, a copy of it gives
pub gives_alike : {S A B : Type 0} {steps : S → Option A → S → Type 0} {v : A → B} {all : List B}
    (s t : S) → t ≡ s → YieldsList steps v s all → YieldsList steps v t all
gives_alike {steps = steps} {v} {all} s t same chain =
    subst (λ u. YieldsList steps v u all) (sym same) chain
