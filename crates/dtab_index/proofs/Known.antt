-- What is known of prefixes at each position, and that it tells which of them match a path.
use Rattle.std.proofs.Common.{◌≡◌, ◌≢◌, ◌⊎◌, inl, inr, ⊎_elim, ℕ, zero, suc, ◌+◌, ◌<◌, ◌≤◌, List}
use Rattle.std.proofs.Common.{[], ◌∷◌, ◌++◌, Bool, true, false, ◌&&◌, length, set, drop, get_or}
use Rattle.std.proofs.Common.{Option, Some, None, refl, sym, ap, ◌∙◌, subst, arith, add-one}
use Rattle.std.proofs.Common.{drop-cons, append_assoc, append-nil}
use Rattle.std.specs.List.{slice_get}
use Rattle.std.specs.Prelude.{not, ◌||◌}
use Rattle.std.specs.Str.{bytes_eq}
use Rattle.std.proofs.lemmas.Bool.{and_from, or_right, not_from_true, not_from_false}
use Rattle.std.proofs.lemmas.List.{length-append, length-set, drop_all}
use Rattle.std.proofs.lemmas.Option.{none-some, same_Some, slice_get_past, slice_get-get_or}
use Rattle.dtab_index.specs.Bits.{has}
use Rattle.dtab_index.specs.Columns.{has_label, allows, passes, IsBlank, Says, SaysAt, AreSaid}
use Rattle.dtab_index.specs.Columns.{AreBlank, SaySame, KeepSaid}
use Rattle.dtab_index.specs.Index.{Label, Pattern, fits, matches}
use Rattle.dtab_index.specs.declared.column.Column.{Column}

-- ---- elements of lists that are changed
pub at_push : {A : Type 0} (xs : List A) (x : A) (k : ℕ) (y : A)
    → slice_get (xs ++ x ∷ []) k ≡ Some y → (slice_get xs k ≡ Some y) ⊎ ((k ≡ length xs) × (x ≡ y))
at_push [] x zero y is = inr (refl, same_Some x y is)
at_push [] x (suc k) y is = absurd (none-some y is)
at_push (z ∷ xs) x zero y is = inl is
at_push (z ∷ xs) x (suc k) y is = ⊎_elim (λ h. inl h) (λ h. inr (omega (arith, h.0), h.1))
    (at_push xs x k y is)

pub at_set : {A : Type 0} (xs : List A) (at k : ℕ) (x y : A) → slice_get (set xs at x) k ≡ Some y
    → ((k ≡ at) × (x ≡ y)) ⊎ ((k ≡ at → ⊥) × (slice_get xs k ≡ Some y))
at_set [] at k x y is = absurd (none-some y is)
at_set (z ∷ xs) zero zero x y is = inl (refl, same_Some x y is)
at_set (z ∷ xs) zero (suc k) x y is = inr (λ (e : suc k ≡ 0). omega (arith, e), is)
at_set (z ∷ xs) (suc at) zero x y is = inr (λ (e : 0 ≡ suc at). omega (arith, e), is)
at_set (z ∷ xs) (suc at) (suc k) x y is =
    ⊎_elim (λ h. inl (omega (arith, h.0), h.1))
    (λ h. inr (λ (e : suc k ≡ suc at). h.0 (omega (arith, e)), h.1)) (at_set xs at k x y is)

pub at_end : {A : Type 0} (xs ys : List A) (x : A) → slice_get (xs ++ x ∷ ys) (length xs) ≡ Some x
at_end [] ys x = refl
at_end (z ∷ xs) ys x = at_end xs ys x

-- ---- which prefixes match
or_false : (b : Bool) → (b || false) ≡ b
or_false true = refl
or_false false = refl

module _ (place : ℕ) where
  reached_by : (c : Column) (p : Pattern) → Says c p place → has c.reached.words place ≡ true
  reached_by c None says = says.0
  reached_by c (Some m) says = says.0

  allows_fits : (c : Column) (p : Pattern) (l : Label) → Says c p place
      → allows c l place ≡ fits p l
  allows_fits c None l says = or_right (has_label c l place) (not (has c.named.words place))
      (not_from_false (has c.named.words place) says.1)
  allows_fits c (Some m) l says = (λ i. says.2 l i || not (says.1 i)) ∙ or_false (bytes_eq m l)

  passes_from : (cs : List Column) (ps : List Pattern) (path : List Label) → length ps ≤ length cs
      → ((k : ℕ) (c : Column) → slice_get cs k ≡ Some c → SaysAt c (slice_get ps k) place)
      → passes cs path place ≡ matches ps path
  passes_from [] [] path long each = refl
  passes_from [] (p ∷ ps) path long each = absurd (omega arith)
  passes_from (c ∷ cs) [] [] long each = let ended = each 0 c refl in
      not_from_false (has c.reached.words place) ended.0
  passes_from (c ∷ cs) [] (l ∷ ls) long each =
      let ended = each 0 c refl in
      and_from (allows c l place) (passes cs ls place)
      (or_right (has_label c l place) (not (has c.named.words place))
      (not_from_false (has c.named.words place) ended.1))
      (passes_from cs [] ls (omega arith) (λ k d is. each (suc k) d is))
  passes_from (c ∷ cs) (p ∷ ps) [] long each =
      not_from_true (has c.reached.words place) (reached_by c p (each 0 c refl))
  passes_from (c ∷ cs) (p ∷ ps) (l ∷ ls) long each =
      let here : allows c l place ≡ fits p l = allows_fits c p l (each 0 c refl) in
      let rest : passes cs ls place ≡ matches ps ls =
      passes_from cs ps ls (omega arith) (λ k d is. each (suc k) d is) in
      λ i. here i && rest i

  pub passes_matches : (cs : List Column) (ps : List Pattern) (path : List Label)
      → AreSaid cs ps place → passes cs path place ≡ matches ps path
  passes_matches cs ps path said = passes_from cs ps path said.long said.each

  -- ---- what is known stands
  pub keep_all : (cs : List Column) → KeepSaid cs cs place
  keep_all cs = record { said = λ ps s. s; blank = λ b. b }

  pub keep_more : (xs ys zs : List Column) → KeepSaid xs ys place → KeepSaid ys zs place
      → KeepSaid xs zs place
  keep_more xs ys zs first next = record
      { said = λ ps s. next.said ps (first.said ps s); blank = λ b. next.blank (first.blank b) }

  pub blank_ended : (c : Column) (ps : List Pattern) (k : ℕ) → IsBlank c place → length ps ≤ k
      → SaysAt c (slice_get ps k) place
  blank_ended c ps k blank past = let none : slice_get ps k ≡ None = slice_get_past ps k past in
      rw none (blank.reached, blank.named)

  blank_along : (c d : Column) → c ≡ d → IsBlank c place → IsBlank d place
  blank_along c d e blank = let P : Column → Type 0 = λ x. IsBlank x place in subst P e blank

  pub keep_push : (cs : List Column) (c : Column) → IsBlank c place
      → KeepSaid cs (cs ++ c ∷ []) place
  keep_push cs c blank = record {
    said = λ ps s. record {
      long = omega (arith, s.long, length-append cs (c ∷ []));
      each = λ k d is.
          ⊎_elim (λ (h : slice_get cs k ≡ Some d). s.each k d h)
          (λ (h : (k ≡ length cs) × (c ≡ d)). blank_ended d ps k (blank_along c d h.1 blank)
          (omega (arith, s.long, h.0)))
          (at_push cs c k d is);
    };
    blank = λ b k d is. ⊎_elim (λ (h : slice_get cs k ≡ Some d). b k d h)
        (λ (h : (k ≡ length cs) × (c ≡ d)). blank_along c d h.1 blank) (at_push cs c k d is);
  }

  pub keep_pushed : (xs ys zs : List Column) (c : Column) → KeepSaid xs ys place
      → zs ≡ ys ++ c ∷ [] → IsBlank c place → KeepSaid xs zs place
  keep_pushed xs ys zs c first pushed blank =
      rw pushed (keep_more xs ys (ys ++ c ∷ []) first (keep_push ys c blank))

  says_same : (old new : Column) (o : Option Pattern) → SaySame old new place → SaysAt old o place
      → SaysAt new o place
  says_same old new None same says = (same.reached ∙ says.0, same.named ∙ says.1)
  says_same old new (Some None) same says = (same.reached ∙ says.0, same.named ∙ says.1)
  says_same old new (Some (Some m)) same says =
      (same.reached ∙ says.0, same.named ∙ says.1, λ l. same.rows l ∙ says.2 l)

  blank_same : (old new : Column) → SaySame old new place → IsBlank old place → IsBlank new place
  blank_same old new same blank = record {
    reached = same.reached ∙ blank.reached;
    named = same.named ∙ blank.named;
    rows =
        λ l. same.rows l ∙ blank.rows l;
  }

  pub says_along : (c d : Column) (o : Option Pattern) → c ≡ d → SaysAt c o place → SaysAt d o place
  says_along c d o e says = let P : Column → Type 0 = λ x. SaysAt x o place in subst P e says

  pub keep_set : (cs : List Column) (at : ℕ) (old new : Column) → slice_get cs at ≡ Some old
      → SaySame old new place → KeepSaid cs (set cs at new) place
  keep_set cs at old new here same = record {
    said = λ ps s. record {
      long = omega (arith, s.long, length-set cs at new);
      each = λ k d is.
          ⊎_elim
          (λ (h : (k ≡ at) × (new ≡ d)).
          let stood : slice_get cs k ≡ Some old = ap (slice_get cs) h.0 ∙ here in
          says_along new d (slice_get ps k) h.1
          (says_same old new (slice_get ps k) same (s.each k old stood)))
          (λ (h : (k ≡ at → ⊥) × (slice_get cs k ≡ Some d)). s.each k d h.1)
          (at_set cs at k new d is);
    };
    blank = λ b k d is.
        ⊎_elim
        (λ (h : (k ≡ at) × (new ≡ d)).
        let stood : slice_get cs k ≡ Some old = ap (slice_get cs) h.0 ∙ here in
        blank_along new d h.1 (blank_same old new same (b k old stood)))
        (λ (h : (k ≡ at → ⊥) × (slice_get cs k ≡ Some d)). b k d h.1)
        (at_set cs at k new d is);
  }

  -- ---- of some prefixes, those that a path leaves
  pub narrowed : (cs : List Column) (path : List Label) (at : ℕ) (c : Column) (l : Label)
      (old new : Bool) → at < length cs → c ≡ get_or cs at c → slice_get path at ≡ Some l
      → (old && passes (drop at cs) (drop at path) place) ≡ passes cs path place
      → new ≡ (old && allows c l place)
      → (new && passes (drop (at + 1) cs) (drop (at + 1) path) place) ≡ passes cs path place
  narrowed cs path at c l old new within is label stands narrow =
      let labels = label_there path at l label in
      let cut : passes (drop at cs) (drop at path) place
      ≡ (allows c l place && passes (drop (at + 1) cs) (drop (at + 1) path) place) =
      rw (drop-cons cs at c within, ← is, labels, add-one) refl in
      ap (λ b. b && passes (drop (at + 1) cs) (drop (at + 1) path) place) narrow
      ∙ (and_assoc old (allows c l place) (passes (drop (at + 1) cs) (drop (at + 1) path) place)
      ∙ (ap (λ b. old && b) (sym cut) ∙ stands))
    where
      and_assoc : (x y z : Bool) → ((x && y) && z) ≡ (x && (y && z))
      and_assoc true y z = refl
      and_assoc false y z = refl

      label_there : (path : List Label) (at : ℕ) (l : Label) → slice_get path at ≡ Some l
          → drop at path ≡ l ∷ drop (suc at) path
      label_there [] at l is = absurd (none-some l is)
      label_there (x ∷ path) zero l is = ap (λ y. y ∷ path) (same_Some x l is)
      label_there (x ∷ path) (suc at) l is = label_there path at l is

  pub path_ended : (cs : List Column) (path : List Label) (at : ℕ) (c : Column) (old new : Bool)
      → at < length cs → c ≡ get_or cs at c → length path ≤ at
      → (old && passes (drop at cs) (drop at path) place) ≡ passes cs path place
      → new ≡ (old && not (has c.reached.words place)) → new ≡ passes cs path place
  path_ended cs path at c old new within is past stands narrow =
      let none : drop at path ≡ [] = drop_all at path past in
      let cut : passes (drop at cs) (drop at path) place ≡ not (has c.reached.words place) =
      rw (drop-cons cs at c within, ← is, none) refl in
      narrow ∙ (ap (λ b. old && b) (sym cut) ∙ stands)

  pub none_left : (cs : List Column) (path : List Label) (at : ℕ) (left : Bool) → left ≡ false
      → (left && passes (drop at cs) (drop at path) place) ≡ passes cs path place
      → left ≡ passes cs path place
  none_left cs path at left none stands =
      none ∙ (sym (ap (λ b. b && passes (drop at cs) (drop at path) place) none) ∙ stands)

  pub columns_ended : (cs : List Column) (path : List Label) (at : ℕ) (left : Bool) → length cs ≤ at
      → (left && passes (drop at cs) (drop at path) place) ≡ passes cs path place
      → left ≡ passes cs path place
  columns_ended cs path at left past stands =
      let none : drop at cs ≡ [] = drop_all at cs past in
      let cut : passes (drop at cs) (drop at path) place ≡ true = rw none refl in
      sym (ap (λ b. left && b) cut ∙ and_true left) ∙ stands
    where
      and_true : (x : Bool) → (x && true) ≡ x
      and_true true = refl
      and_true false = refl

-- ---- what a prefix has is noted label by label, the last first
pub record ArePut (full left : List Pattern) (old now : List Column) (place : ℕ) : Type 0 where
  pub behind : List Pattern
  pub parts : full ≡ left ++ behind
  pub long : length full ≤ length now
  pub blank : (k : ℕ) (c : Column) → slice_get now k ≡ Some c → k < length left → IsBlank c place
  pub said : (k : ℕ) (c : Column) → slice_get now k ≡ Some c → length left ≤ k
      → SaysAt c (slice_get full k) place
  pub kept : (other : ℕ) → other ≢ place → KeepSaid old now other

pub none_put : (full : List Pattern) (old : List Column) (place : ℕ) → length full ≤ length old
    → AreBlank old place → ArePut full full old old place
none_put full old place long blank = record {
  behind = [];
  parts = sym (append-nil full);
  long = long;
  blank = λ k c is lt. blank k c is;
  said = λ k c is past. blank_ended place c full k (blank k c is) past;
  kept = λ other ne. keep_all other old;
}

pub put_more : (full left rest : List Pattern) (p : Pattern) (old now : List Column) (place : ℕ)
    (c new : Column) → ArePut full left old now place → left ≡ rest ++ p ∷ []
    → slice_get now (length rest) ≡ Some c
    → Says new p place → ((other : ℕ) → other ≢ place → SaySame c new other)
    → ArePut full rest old (set now (length rest) new) place
put_more full left rest p old now place c new put is here says same =
    let whole : full ≡ rest ++ p ∷ put.behind = put.parts
    ∙ (ap (λ (xs : List Pattern). xs ++ put.behind) is ∙ append_assoc rest (p ∷ []) put.behind) in
    let count : length left ≡ length rest + 1 = ap length is ∙ length-append rest (p ∷ []) in
    record {
      behind = p ∷ put.behind;
      parts = whole;
      long = omega (arith, put.long, length-set now (length rest) new);
      blank = λ k d found lt.
          ⊎_elim
          (λ (h : (k ≡ length rest) × (new ≡ d)). absurd (omega (arith, h.0, lt)))
          (λ (h : (k ≡ length rest → ⊥) × (slice_get now k ≡ Some d)).
          put.blank k d h.1 (omega (arith, lt, count)))
          (at_set now (length rest) k new d found);
      said = λ k d found past.
          ⊎_elim
          (λ (h : (k ≡ length rest) × (new ≡ d)).
          let label : slice_get full k ≡ Some p = ap (slice_get full) h.0
          ∙ (ap (λ (xs : List Pattern). slice_get xs (length rest)) whole
          ∙ at_end rest put.behind p) in
          rw label (says_along place new d (Some p) h.1 says))
          (λ (h : (k ≡ length rest → ⊥) × (slice_get now k ≡ Some d)).
          put.said k d h.1 (let above : length left ≤ k =
          higher k (length rest) (length left) h.0 past count in above))
          (at_set now (length rest) k new d found);
      kept = λ other ne. keep_more other old now (set now (length rest) new) (put.kept other ne)
          (keep_set other now (length rest) c new here (same other ne));
    }
  where
    higher : (k n m : ℕ) → (k ≡ n → ⊥) → n ≤ k → m ≡ n + 1 → m ≤ k
    higher k n m ne le is = omega (arith, ne, is)

module _ (full left rest : List Pattern) (p : Pattern) (old now : List Column) (place at : ℕ)
    (c : Column) (put : ArePut full left old now place) (is : left ≡ rest ++ p ∷ [])
    (last : at ≡ length rest) (here : c ≡ get_or now at c) where
  within : at < length now
  within = omega (
    arith,
    last,
    ap length put.parts,
    length-append left put.behind,
    ap length is,
    length-append rest (p ∷ []),
    put.long,
  )

  found : slice_get now at ≡ Some c
  found = slice_get-get_or now at c within ∙ ap (λ x. Some x) (sym here)

  pub blank_there : IsBlank c place
  blank_there = put.blank at c found
      (omega (arith, last, ap length is, length-append rest (p ∷ [])))

  module _ (new : Column) where
    pub put_there : Says new p place → ((other : ℕ) → other ≢ place → SaySame c new other)
        → ArePut full rest old (set now at new) place
    put_there says same =
        let P : ℕ → Type 0 = λ n. ArePut full rest old (set now n new) place in
        let stands : slice_get now (length rest) ≡ Some c = ap (slice_get now) (sym last) ∙ found in
        subst P (sym last) (put_more full left rest p old now place c new put is stands says same)

    pub kept_there : ((other : ℕ) → other ≢ place → SaySame c new other) → (other : ℕ)
        → other ≢ place → KeepSaid old (set now at new) other
    kept_there same other ne = keep_more other old now (set now at new) (put.kept other ne)
        (keep_set other now at c new found (same other ne))

pub all_put : (full : List Pattern) (left : List Pattern) (old now : List Column) (place : ℕ)
    → ArePut full left old now place → left ≡ [] → AreSaid now full place
all_put full left old now place put none = record {
  long = put.long;
  each = λ k c is. put.said k c is (let count : length left ≡ 0 = ap length none in
      omega (arith, count));
}
