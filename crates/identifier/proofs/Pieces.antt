-- The pieces of a path, one after the other.
use Rattle.std.proofs.Common.{◌≡◌, ◌≢◌, ◌<◌, ◌≤◌, ◌+◌, ℕ, Bool, true, false, List, [], ◌∷◌, ◌++◌}
use Rattle.std.proofs.Common.{length, take, drop, get_or, eqb, ltb, leb, cond, arith, refl, sym, ap}
use Rattle.std.proofs.Common.{◌∙◌, filter, All, Some, None, min, subst, append_assoc}
use Rattle.std.specs.List.{before_first, after_first, position_or_len, slice_split, slice_index}
use Rattle.std.proofs.Math.Seq.{drop-append_seam, drop-length, take-append_seam}
use Rattle.std.proofs.lemmas.Bool.Decides.{nat_tests}
use Rattle.std.proofs.lemmas.List.{take_all, length-append, length-take, append-nil}
use Rattle.std.proofs.lemmas.List.Sums.{fails_before_first, passes_at_first, split_at_first}
use Rattle.std.proofs.lemmas.List.Splits.{slice_split_first, slice_split_none}
use Rattle.name_tree.specs.Path.{Labels}
use Rattle.http_uri.specs.ByteClasses.{slash}
use Rattle.identifier.specs.Naming.{first_of, has_byte, pieces_of}

abbrev is_slash : ℕ → Bool
is_slash b = eqb b slash

-- a slash at the front makes no piece
pub behind_slash : (b : ℕ) (bs : List ℕ) → b ≡ slash → pieces_of (b ∷ bs) ≡ pieces_of bs
behind_slash b bs is = ap (λ (x : ℕ). pieces_of (x ∷ bs)) is

-- a part that has a byte is a piece
kept : (part : List ℕ) (parts : List (List ℕ)) → 0 < length part
    → filter has_byte (part ∷ parts) ≡ part ∷ filter has_byte parts
kept [] parts some = absurd (omega arith)
kept (b ∷ bs) parts some = refl

is_mark : (b : ℕ) → eqb b slash ≡ true → b ≡ slash
is_mark b test = grind (arith, nat_tests)

-- a path that begins with a piece
pub next_piece : (rest : List ℕ) → 0 < length (before_first is_slash rest)
    → pieces_of rest ≡ before_first is_slash rest ∷ pieces_of
    (drop (length (before_first is_slash rest)) rest)
next_piece rest some = by_place (ltb at (length rest)) refl
  where
    at : ℕ
    at = position_or_len is_slash rest

    part : List ℕ
    part = before_first is_slash rest

    none_passes : length rest ≤ at → All (λ x. is_slash x ≡ false) rest
    none_passes past = λ k d within. fails_before_first is_slash rest k d (omega arith)

    by_place : (b : Bool) → ltb at (length rest) ≡ b → pieces_of rest
        ≡ part ∷ pieces_of (drop (length part) rest)
    by_place true test =
        let within : at < length rest = grind (arith, nat_tests) in
        let behind : drop (length part) rest ≡ get_or rest at 0 ∷ after_first is_slash rest =
        ap (drop (length part)) (split_at_first is_slash rest 0 within)
        ∙ drop-append_seam part (get_or rest at 0 ∷ after_first is_slash rest) in
        let mark = is_mark (get_or rest at 0) (passes_at_first is_slash rest 0 within) in
        ap (filter has_byte) (slice_split_first is_slash rest 0 within)
        ∙ kept part (slice_split is_slash (after_first is_slash rest)) some
        ∙ ap (λ (ps : List (List ℕ)). part ∷ ps)
        (sym (behind_slash (get_or rest at 0) (after_first is_slash rest) mark))
        ∙ ap (λ (bs : List ℕ). part ∷ pieces_of bs) (sym behind)
    by_place false test =
        let past : length rest ≤ at = grind (arith, nat_tests) in
        let whole : part ≡ rest = take_all at rest past in
        let behind : drop (length part) rest ≡ [] =
        ap (λ (bs : List ℕ). drop (length bs) rest) whole ∙ drop-length rest in
        ap (filter has_byte) (slice_split_none is_slash rest (none_passes past))
        ∙ ap (λ (bs : List ℕ). filter has_byte (bs ∷ [])) (sym whole)
        ∙ kept part [] some
        ∙ ap (λ (bs : List ℕ). part ∷ pieces_of bs) (sym behind)

-- and one that has none
pub no_piece : (rest : List ℕ) → slice_index rest 0 ≢ slash
    → length (before_first is_slash rest) ≡ 0 → pieces_of rest ≡ []
no_piece [] first none = refl
no_piece (b ∷ bs) first none =
    let len : length (before_first is_slash (b ∷ bs))
    ≡ min (position_or_len is_slash (b ∷ bs)) (length (b ∷ bs)) = length-take _ _ in
    let start : position_or_len is_slash (b ∷ bs) ≡ 0 = omega (arith, len, none) in
    let mark = passes_at_first is_slash (b ∷ bs) 0 (omega (arith, start)) in
    absurd (first (is_mark _ (ap (λ (at : ℕ). is_slash (get_or (b ∷ bs) at 0)) (sym start) ∙ mark)))

-- so many pieces at the front are the first so many
pub so_many : (count : ℕ) (labels more pieces : Labels) → pieces ≡ labels ++ more
    → length labels ≡ count → first_of count pieces ≡ Some labels
so_many count labels more pieces is many = by_test (leb count (length pieces)) refl
  where
    len : length pieces ≡ length labels + length more
    len = ap length is ∙ length-append labels more

    front : take count pieces ≡ labels
    front = (λ k. take (sym many k) (is k)) ∙ take-append_seam labels more

    by_test : (b : Bool) → leb count (length pieces) ≡ b
        → cond b (Some (take count pieces)) None ≡ Some labels
    by_test true test = ap Some front
    by_test false test = let bad : length pieces < count = grind (arith, nat_tests) in
        absurd (omega (arith, len, bad, many))

-- and fewer pieces are too few
pub too_few : (count : ℕ) (labels pieces : Labels) → pieces ≡ labels ++ [] → length labels < count
    → first_of count pieces ≡ None
too_few count labels pieces is few = by_test (leb count (length pieces)) refl
  where
    len : length pieces ≡ length labels
    len = ap length (is ∙ append-nil labels)

    by_test : (b : Bool) → leb count (length pieces) ≡ b
        → cond b (Some (take count pieces)) None ≡ None
    by_test true test = let bad : count ≤ length pieces = grind (arith, nat_tests) in
        absurd (omega (arith, len, bad, few))
    by_test false test = refl

-- the next piece was put behind the labels
pub one_more : (path rest piece behind : List ℕ) (labels now : Labels)
    → pieces_of path ≡ labels ++ pieces_of rest → piece ≡ before_first is_slash rest
    → 0 < length piece
    → now ≡ labels ++ piece ∷ [] → pieces_of behind ≡ pieces_of (drop (length piece) rest)
    → pieces_of path ≡ now ++ pieces_of behind
one_more path rest piece behind labels now so_far is some pushed after =
    let next : pieces_of rest ≡ piece ∷ pieces_of (drop (length piece) rest) =
    next_piece rest (subst (λ (bs : List ℕ). 0 < length bs) is some)
    ∙ ap (λ (bs : List ℕ). bs ∷ pieces_of (drop (length bs) rest)) (sym is) in
    so_far
    ∙ ap (λ (ps : Labels). labels ++ ps) (next ∙ ap (λ (ps : Labels). piece ∷ ps) (sym after))
    ∙ sym (append_assoc labels (piece ∷ []) (pieces_of behind))
    ∙ ap (λ (ps : Labels). ps ++ pieces_of behind) (sym pushed)
