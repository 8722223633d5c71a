-- What some bytes show stays, whatever follows them.
use Rattle.std.proofs.Common.{◌≡◌, ◌≢◌, ◌<◌, ◌≤◌, ◌+◌, ◌-◌, ℕ, Bool, true, false, List, [], ◌∷◌}
use Rattle.std.proofs.Common.{◌++◌, length, take, drop, refl, sym, ap, ◌∙◌, subst, arith, eqb, ltb}
use Rattle.std.proofs.Common.{cond, ◌&&◌, Option, Some, None, IsSomeAnd, append_assoc, append-nil}
use Rattle.std.proofs.Common.{length-append}
use Rattle.std.specs.List.{position_or_len}
use Rattle.std.specs.Option.{option_map}
use Rattle.std.proofs.Math.ListN.{get_or-append}
use Rattle.std.proofs.Math.Seq.{take-append-add}
use Rattle.std.proofs.lemmas.Bool.Decides.{nat_tests}
use Rattle.std.proofs.lemmas.List.{take_all, take-append-le, drop-append-le}
use Rattle.std.proofs.lemmas.List.Elements.{All-cons, All-nil}
use Rattle.std.proofs.lemmas.List.Sums.{position_or_len_is, fails_before_first, passes_at_first}
use Rattle.httparse.specs.Grammar.{print_request, ReadsRequest, HasNoRequest}
use Rattle.httparse.proofs.GrammarLemmas.{ReadsRequest-append}
use Rattle.http_wire.specs.declared.head.Head.{Head}
use Rattle.http_wire.specs.FirstLine.{first_line, line_at, skip_empty_lines, ends_in_other_version}
use Rattle.http_wire.specs.Heads.{most, window, NamesOtherVersion, BeginsWith, IsBad, IsOpen}
use Rattle.http_wire.specs.Heads.{IsTooLarge}
use Rattle.http_wire.specs.Reading.{Whatever}
use Rattle.http_wire.proofs.Looks.{no_line}

-- the front of a longer list is that of the shorter one, and more
take_longer : (n : ℕ) (bytes more : List ℕ) → (m : List ℕ)
    × (take n (bytes ++ more) ≡ take n bytes ++ m)
take_longer n bytes more = by_length (ltb (length bytes) n) refl
  where
    by_length : (t : Bool) → ltb (length bytes) n ≡ t
        → (m : List ℕ) × (take n (bytes ++ more) ≡ take n bytes ++ m)
    by_length true test =
        let few : length bytes < n = grind (arith, nat_tests) in
        let some : length bytes + (n - length bytes) ≡ n = omega arith in (
          take (n - length bytes) more,
          ap (λ (k : ℕ). take k (bytes ++ more)) (sym some)
              ∙ (take-append-add bytes more (n - length bytes)
              ∙ ap (λ (xs : List ℕ). xs ++ take (n - length bytes) more)
              (sym (take_all n bytes (omega arith)))),
        )
    by_length false test =
        let many : n ≤ length bytes = grind (arith, nat_tests) in
        ([], take-append-le n bytes more many ∙ sym (append-nil (take n bytes)))

-- the bytes that count go on as the bytes do
pub window_more : (bytes more : List ℕ) → (m : List ℕ)
    × (window (bytes ++ more) ≡ window bytes ++ m)
unfolding window
window_more bytes more = take_longer most bytes more

-- where there are enough bytes, no more of them count
pub window_full : (bytes more : List ℕ) → most ≤ length bytes
    → window (bytes ++ more) ≡ window bytes
unfolding window
window_full bytes more many = take-append-le most bytes more many

-- a line that has ended stays as it is
line_more : (bytes more line : List ℕ) → Some line ≡ line_at bytes
    → Some line ≡ line_at (bytes ++ more)
line_more bytes more line is =
    by_test (ltb (position_or_len (λ (b : ℕ). eqb b 10) bytes) (length bytes)) refl is
  where
    found : position_or_len (λ (b : ℕ). eqb b 10) bytes < length bytes
        → position_or_len (λ (b : ℕ). eqb b 10) (bytes ++ more)
        ≡ position_or_len (λ (b : ℕ). eqb b 10) bytes
    found within =
        position_or_len_is (λ (b : ℕ). eqb b 10) (bytes ++ more)
        (position_or_len (λ (b : ℕ). eqb b 10) bytes) 0
        (omega (arith, length-append bytes more))
        (λ k below. let inside : k < length bytes = omega arith in
        ap (λ (b : ℕ). eqb b 10) (get_or-append bytes more 0 k inside)
        ∙ fails_before_first (λ (b : ℕ). eqb b 10) bytes k 0 below)
        (λ _. ap (λ (b : ℕ). eqb b 10)
        (get_or-append bytes more 0 (position_or_len (λ (b : ℕ). eqb b 10) bytes) within)
        ∙ passes_at_first (λ (b : ℕ). eqb b 10) bytes 0 within)

    by_test : (t : Bool) → ltb (position_or_len (λ (b : ℕ). eqb b 10) bytes) (length bytes) ≡ t
        → Some line ≡ option_map (λ (n : ℕ). take n bytes)
        (cond t (Some (position_or_len (λ (b : ℕ). eqb b 10) bytes)) None)
        → Some line ≡ line_at (bytes ++ more)
    by_test false test some = absurd (cc)
    by_test true test some =
        let within : position_or_len (λ (b : ℕ). eqb b 10) bytes < length bytes =
        grind (arith, nat_tests) in
        let place = found within in
        let inside : ltb (position_or_len (λ (b : ℕ). eqb b 10) (bytes ++ more))
        (length (bytes ++ more)) ≡ true =
        rw place (grind (arith, nat_tests, length-append bytes more, within)) in
        let same : take (position_or_len (λ (b : ℕ). eqb b 10) bytes) bytes
        ≡ take (position_or_len (λ (b : ℕ). eqb b 10) (bytes ++ more)) (bytes ++ more) =
        rw place (sym (take-append-le (position_or_len (λ (b : ℕ). eqb b 10) bytes) bytes more
        (omega arith))) in
        some ∙ (ap Some same
        ∙ ap (λ (t : Bool). option_map (λ (n : ℕ). take n (bytes ++ more))
        (cond t (Some (position_or_len (λ (b : ℕ). eqb b 10) (bytes ++ more))) None)) (sym inside))

-- a byte that is no line feed is no line
alone : (a : ℕ) (line : List ℕ) → eqb a 10 ≡ false → Some line ≡ line_at (a ∷ []) → ⊥
alone a line test some =
    let other : a ≢ 10 = λ same. grind (arith, nat_tests, same, test) in
    let none = no_line (a ∷ [])
    (All-cons (λ (b : ℕ). b ≢ 10) a [] other (All-nil (λ (b : ℕ). b ≢ 10))) in
    cc

-- the empty lines at the front end where they did
skip_more : (bytes more line : List ℕ) → Some line ≡ line_at (skip_empty_lines bytes)
    → skip_empty_lines (bytes ++ more) ≡ skip_empty_lines bytes ++ more
skip_more [] more line is = absurd (cc)
skip_more (a ∷ []) more line is = by_feed (eqb a 10) refl is
  where
    by_feed : (t : Bool) → eqb a 10 ≡ t → Some line ≡ line_at (cond t [] (a ∷ []))
        → skip_empty_lines ((a ∷ []) ++ more) ≡ cond (eqb a 10) [] (a ∷ []) ++ more
    by_feed true test some = absurd (cc)
    by_feed false test some = absurd (alone a line test some)
skip_more (a ∷ b ∷ bytes) more line is =
    by_tests (eqb a 10) (eqb a 13 && eqb b 10) (skip_more (b ∷ bytes) more line)
    (skip_more bytes more line) is
  where
    by_tests : (feed return : Bool)
        → (Some line ≡ line_at (skip_empty_lines (b ∷ bytes))
        → skip_empty_lines ((b ∷ bytes) ++ more) ≡ skip_empty_lines (b ∷ bytes) ++ more)
        → (Some line ≡ line_at (skip_empty_lines bytes) → skip_empty_lines (bytes ++ more)
        ≡ skip_empty_lines bytes ++ more)
        → Some line ≡ line_at
        (cond feed (skip_empty_lines (b ∷ bytes))
        (cond return (skip_empty_lines bytes) (a ∷ b ∷ bytes)))
        → cond feed (skip_empty_lines (b ∷ (bytes ++ more)))
        (cond return (skip_empty_lines (bytes ++ more)) (a ∷ b ∷ (bytes ++ more)))
        ≡ cond feed (skip_empty_lines (b ∷ bytes))
        (cond return (skip_empty_lines bytes) (a ∷ b ∷ bytes)) ++ more
    by_tests true return first second some = first some
    by_tests false true first second some = second some
    by_tests false false first second some = refl

-- so does the first line, once it has ended
pub first_line_more : (bytes more line : List ℕ) → Some line ≡ first_line bytes
    → Some line ≡ first_line (bytes ++ more)
unfolding first_line
first_line_more bytes more line is =
    line_more (skip_empty_lines bytes) more line is
    ∙ ap line_at (sym (skip_more bytes more line is))

-- what holds of the first line that has ended goes on to hold
line_holds : (P : List ℕ → Type 0) (bytes more : List ℕ) → IsSomeAnd (first_line bytes) P
    → IsSomeAnd (first_line (bytes ++ more)) P
line_holds P bytes more holds = by_line (first_line bytes) refl holds
  where
    by_line : (o : Option (List ℕ)) → o ≡ first_line bytes → IsSomeAnd o P
        → IsSomeAnd (first_line (bytes ++ more)) P
    by_line None is holds = absurd holds
    by_line (Some line) is holds = subst (λ (o : Option (List ℕ)). IsSomeAnd o P)
        (first_line_more bytes more line is) holds

-- and of the bytes that count
counted_holds : (P : List ℕ → Type 0) (bytes more : List ℕ)
    → IsSomeAnd (first_line (window bytes)) P
    → IsSomeAnd (first_line (window (bytes ++ more))) P
counted_holds P bytes more holds =
    let w = window_more bytes more in
    subst (λ (xs : List ℕ). IsSomeAnd (first_line xs) P) (sym w.1)
    (line_holds P (window bytes) w.0 holds)

-- a head that the bytes begin with
pub begins_whatever : (bytes : List ℕ) (head : Head) (len : ℕ) → BeginsWith bytes head len
    → Whatever (λ all. BeginsWith all head len) bytes
begins_whatever bytes head len begins more =
    let w = window_more bytes more in
    let cut : length (window bytes) ≡ length
    (print_request begins.parts ++ drop len (window bytes)) = ap length begins.reads.1 in
    let within : len ≤ length (window bytes) =
    omega (
      arith,
      cut,
      begins.long,
      length-append (print_request begins.parts)
          (drop len (window bytes)),
    ) in
    let longer = ReadsRequest-append (window bytes) begins.parts
    (drop len (window bytes)) w.0 begins.reads in
    let reads : ReadsRequest (window bytes ++ w.0) begins.parts (drop len (window bytes ++ w.0)) =
    subst (λ (rest : List ℕ). ReadsRequest (window bytes ++ w.0) begins.parts rest)
    (sym (drop-append-le len (window bytes) w.0 within)) longer in
    record {
      parts = begins.parts;
      line = counted_holds (λ (line : List ℕ). ends_in_other_version line ≡ false) bytes more
          begins.line;
      reads = subst (λ (xs : List ℕ). ReadsRequest xs begins.parts (drop len xs)) (sym w.1) reads;
      long = begins.long;
      is = begins.is;
    }

-- bytes that no continuation makes a head
pub bad_whatever : (bytes : List ℕ) → IsBad bytes → Whatever IsBad bytes
bad_whatever bytes bad more =
    let w = window_more bytes more in
    record {
      line = counted_holds (λ (line : List ℕ). ends_in_other_version line ≡ false) bytes more
          bad.line;
      never = λ after. subst (λ (xs : List ℕ). HasNoRequest (xs ++ after)) (sym w.1)
          (subst HasNoRequest (sym (append_assoc (window bytes) w.0 after))
          (bad.never (w.0 ++ after)));
    }

-- another version
pub other_whatever : (bytes : List ℕ) → NamesOtherVersion bytes → Whatever NamesOtherVersion bytes
other_whatever bytes other more = counted_holds
    (λ (line : List ℕ). ends_in_other_version line ≡ true) bytes more other

-- too many bytes
pub large_whatever : (bytes : List ℕ) → IsTooLarge bytes → Whatever IsTooLarge bytes
large_whatever bytes large more = record {
  many = let enough = large.many in omega (arith, length-append bytes more);
  open_ = subst IsOpen (sym (window_full bytes more large.many)) large.open_;
}
