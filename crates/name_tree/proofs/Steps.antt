-- Each byte that is read keeps what the bytes up to here spell.
use Rattle.std.proofs.Common.{◌≡◌, ℕ, true, ◌+◌, ◌-◌, ◌*◌, ◌/◌, ◌<◌, arith, List, [], ◌∷◌, ◌++◌}
use Rattle.std.proofs.Common.{length, Option, Some, None, refl, sym, ap, subst, subst₂, ◌∙◌}
use Rattle.std.proofs.Common.{append_assoc, length-append}
use Rattle.std.specs.Prelude.{◌==◌, nat_lt, IfSome}
use Rattle.std.proofs.lemmas.Bool.{eqb-true, ltb-true}
use Rattle.std.proofs.lemmas.List.{append-nil}
use Rattle.std.proofs.lemmas.Option.{none-some, same_Some}
use Rattle.name_tree.specs.Path.{Labels}
use Rattle.name_tree.specs.Value.{TreeValue, leaf, neg, fail, empty, BranchValue, one_whole}
use Rattle.name_tree.specs.Value.{one_or_alt, union_of}
use Rattle.name_tree.specs.Grammar.{is_blank, is_digit, AreBlanks, no_blank, no_digit, digit, whole}
use Rattle.name_tree.specs.Grammar.{decimal, SpellsSimple, path, failing, negative, nothing, group}
use Rattle.name_tree.specs.Grammar.{SpellsBranch, bare, weighed, branch, TreeText}
use Rattle.name_tree.specs.LabelReading.{is_path_byte}
use Rattle.name_tree.specs.PathReading.{Walk, walk_start, next_walk, end_walk}
use Rattle.name_tree.specs.TreeReading.{Frame, Place, Mode, State, with_part, with_alt, opened}
use Rattle.name_tree.specs.TreeReading.{closed, begin_simple, behind_weight, behind_branch}
use Rattle.name_tree.specs.TreeReading.{behind_path, next, next_state, ended_state, before, ended}
use Rattle.name_tree.specs.TreeReading.{end_tree, ended_path, tree_read}
use Rattle.name_tree.proofs.Answered.{if_test, if_mapped_from}
use Rattle.name_tree.proofs.Blanks.{blanks_snoc, digits_snoc}
use Rattle.name_tree.proofs.Walks.{WalkFront, walk_step, walk_begun, walk_end}
use Rattle.name_tree.proofs.Recognisers.{completes}
use Rattle.name_tree.proofs.Fronts.{number_snoc, unit_snoc, fraction_snoc, PaddedUnion, PaddedTree}
use Rattle.name_tree.proofs.Fronts.{padded_text, padded_union, parts_more, alts_more, BranchFront}
use Rattle.name_tree.proofs.Fronts.{Ahead, Opens, Opened, InStar, Inside, Behind, Front}

-- what the bytes up to here are, behind one more
abbrev Next : List ℕ → ℕ → State → Type 0
Next s b st = Front st.0 st.1 (s ++ b ∷ [])

one_byte : (s front rest : List ℕ) (b : ℕ) → s ≡ front ++ rest
    → s ++ b ∷ [] ≡ front ++ (rest ++ b ∷ [])
one_byte s front rest b e = ap (λ t. t ++ b ∷ []) e ∙ append_assoc front rest (b ∷ [])

-- inside a branch where a simple may begin
record AtSimple (p : Place) (w : Option ℕ) (s : List ℕ) : Type 0 where
  front : List ℕ
  blanks : List ℕ
  weight : List ℕ
  same : s ≡ front ++ (blanks ++ weight)
  ahead : Ahead (λ t. Opened p.outer t) p.alts p.parts front
  are_blanks : AreBlanks blanks
  weighs : BranchFront weight w

at_bare : {p : Place} {s : List ℕ} → Inside p Mode.start s → AtSimple p None s
at_bare f = record {
  front = f.front;
  blanks = f.rest;
  weight = [];
  same = f.same ∙ ap (λ t. f.front ++ t) (sym (append-nil f.rest));
  ahead = f.ahead;
  are_blanks = f.branch;
  weighs = record { extend = λ r. bare r };
}

at_star : {p : Place} {n : ℕ} {s : List ℕ} → Inside p (Mode.star n) s → AtSimple p (Some n) s
at_star {p} {n} {s} f =
    let k : InStar n f.rest = f.branch in
    record {
      front = f.front;
      blanks = k.blanks;
      weight = k.weight ++ (k.between ++ 42 ∷ k.after);
      same = f.same ∙ ap (λ t. f.front ++ t) k.same;
      ahead = f.ahead;
      are_blanks = k.are_blanks;
      weighs = record {
        extend = λ {t} {v} r.
            let same : k.weight ++ k.between ++ 42 ∷ [] ++ k.after ++ t
            ≡ (k.weight ++ (k.between ++ 42 ∷ k.after)) ++ t = simp append_assoc in
            let P : List ℕ → Type 0 = λ u. SpellsBranch u (Some n, v) in
            subst P same (weighed k.spells k.are_between k.are_after r);
      };
    }

mark_step : {p : Place} {w : Option ℕ} {s : List ℕ} → AtSimple p w s → (b : ℕ) (v : TreeValue)
    → SpellsSimple (b ∷ []) v → Next s b (with_part p w v, Mode.behind)
mark_step {p} {w} {s} k b v r = record {
  front = k.front;
  rest = k.blanks ++ ((k.weight ++ b ∷ []) ++ []);
  parts = p.parts;
  last = (w, v);
  same = rw k.same (simp (append_assoc, append-nil));
  these = refl;
  ahead = k.ahead;
  branch = record {
    blanks = k.blanks;
    branch = k.weight ++ b ∷ [];
    after = [];
    same = refl;
    are_blanks = k.are_blanks;
    spells = k.weighs.extend r;
    are_after = no_blank;
  };
}

slash_step : {p : Place} {w : Option ℕ} {s : List ℕ} → AtSimple p w s → (b : ℕ) → b ≡ 47
    → Next s b (p, Mode.walk w walk_start)
slash_step {p} {w} {s} k b e = record {
  front = k.front;
  rest = k.blanks ++ (k.weight ++ 47 ∷ []);
  same = rw (k.same, e) (simp append_assoc);
  ahead = k.ahead;
  branch = record {
    blanks = k.blanks;
    weight = k.weight;
    path = 47 ∷ [];
    same = refl;
    are_blanks =
        k.are_blanks;
    weighs = k.weighs;
    walks = walk_begun;
  };
}

open_step : {p : Place} {w : Option ℕ} {s : List ℕ} → AtSimple p w s → (b : ℕ) → b ≡ 40
    → Next s b (opened p w, Mode.start)
open_step {p} {w} {s} k b e = record {
  front = s ++ b ∷ [];
  rest = [];
  same = sym (append-nil (s ++ b ∷ []));
  ahead = record {
    outer = s ++ b ∷ [];
    unions = [];
    branches = [];
    same = sym (append-nil (s ++ b ∷ []));
    opened = record {
      front = k.front;
      blanks = k.blanks;
      weight = k.weight;
      same =
          rw (k.same, e) (simp append_assoc);
      ahead = k.ahead;
      are_blanks = k.are_blanks;
      weighs = k.weighs;
    };
    alts = record { extend = λ r. r };
    parts = record { extend = λ r. r };
  };
  branch = no_blank;
}

simple_step : {p : Place} {w : Option ℕ} {s : List ℕ} → AtSimple p w s → (b : ℕ)
    → IfSome (begin_simple p w b) (Next s b)
simple_step {p} {w} {s} k b =
    if_test (Next s b) (b == 47) _ _ (λ h. slash_step k b (eqb-true b 47 h))
    (λ _. if_test (Next s b) (b == 40) _ _ (λ h. open_step k b (eqb-true b 40 h))
    (λ _. if_test (Next s b) (b == 126) _ _
    (λ h. mark_step k b neg (let P : ℕ → Type 0 = λ c. SpellsSimple (c ∷ []) neg in
    subst P (sym (eqb-true b 126 h)) negative))
    (λ _. if_test (Next s b) (b == 33) _ _
    (λ h. mark_step k b fail (let P : ℕ → Type 0 = λ c. SpellsSimple (c ∷ []) fail in
    subst P (sym (eqb-true b 33 h)) failing))
    (λ _. if_test (Next s b) (b == 36) _ _
    (λ h. mark_step k b empty (let P : ℕ → Type 0 = λ c. SpellsSimple (c ∷ []) empty in
    subst P (sym (eqb-true b 36 h)) nothing)) (λ _. tt)))))

blank_step : {p : Place} {s : List ℕ} → Inside p Mode.start s → (b : ℕ) → is_blank b ≡ true
    → Next s b (p, Mode.start)
blank_step f b h = record {
  front = f.front;
  rest = f.rest ++ b ∷ [];
  same =
      one_byte _ f.front f.rest b f.same;
  ahead = f.ahead;
  branch = blanks_snoc b f.branch h;
}

first_digit : {p : Place} {s : List ℕ} → Inside p Mode.start s → (b : ℕ) → is_digit b ≡ true
    → Next s b (p, Mode.whole (b - 48) 1)
first_digit f b h = record {
  front = f.front;
  rest = f.rest ++ b ∷ [];
  same = one_byte _ f.front f.rest b f.same;
  ahead = f.ahead;
  branch = record {
    blanks = f.rest;
    digits = b ∷ [];
    same = refl;
    are_blanks = f.branch;
    are_digits = digit h no_digit;
    some = omega arith;
    few = omega arith;
    count = refl;
    value = omega arith;
  };
}

first_point : {p : Place} {s : List ℕ} → Inside p Mode.start s → (b : ℕ) → b ≡ 46
    → Next s b (p, Mode.point 0)
first_point f b e = record {
  front = f.front;
  rest = f.rest ++ b ∷ [];
  same = one_byte _ f.front f.rest b f.same;
  ahead = f.ahead;
  branch = record {
    blanks = f.rest;
    digits = [];
    same = ap (λ c. f.rest ++ c ∷ []) e;
    are_blanks =
        f.branch;
    are_digits = no_digit;
    few = omega arith;
    value = refl;
  };
}

start_step : {p : Place} {s : List ℕ} → Inside p Mode.start s → (b : ℕ)
    → IfSome (next p Mode.start b) (Next s b)
start_step {p} {s} f b =
    if_test (Next s b) (is_blank b) _ _ (λ h. blank_step f b h)
    (λ _. if_test (Next s b) (is_digit b) _ _ (λ h. first_digit f b h)
    (λ _. if_test (Next s b) (b == 46) _ _ (λ h. first_point f b (eqb-true b 46 h))
    (λ _. simple_step (at_bare f) b)))

star_step : {p : Place} {n : ℕ} {s : List ℕ} → Inside p (Mode.star n) s → (b : ℕ)
    → IfSome (next p (Mode.star n) b) (Next s b)
star_step {p} {n} {s} f b =
    if_test (Next s b) (is_blank b) _ _
    (λ h. record {
      front = f.front;
      rest = f.rest ++ b ∷ [];
      same = one_byte s f.front f.rest b f.same;
      ahead = f.ahead;
      branch = record {
        blanks = f.branch.blanks;
        weight = f.branch.weight;
        between = f.branch.between;
        after = f.branch.after ++ b ∷ [];
        same = rw f.branch.same (simp append_assoc);
        are_blanks = f.branch.are_blanks;
        spells = f.branch.spells;
        are_between = f.branch.are_between;
        are_after = blanks_snoc b f.branch.are_after h;
      };
    })
    (λ _. simple_step (at_star f) b)

-- weights

weight_step : {p : Place} {n : ℕ} {s : List ℕ} → Inside p (Mode.weight n) s → (b : ℕ)
    → IfSome (behind_weight p n b) (Next s b)
weight_step {p} {n} {s} f b =
    if_test (Next s b) (is_blank b) _ _
    (λ h. record {
      front = f.front;
      rest = f.rest ++ b ∷ [];
      same = one_byte s f.front f.rest b f.same;
      ahead = f.ahead;
      branch = record {
        blanks = f.branch.blanks;
        weight = f.branch.weight;
        after = f.branch.after ++ b ∷ [];
        same = rw f.branch.same (simp append_assoc);
        are_blanks = f.branch.are_blanks;
        spells = f.branch.spells;
        are_after = blanks_snoc b f.branch.are_after h;
      };
    })
    (λ _. if_test (Next s b) (b == 42) _ _
    (λ h. record {
      front = f.front;
      rest = f.rest ++ b ∷ [];
      same = one_byte s f.front f.rest b f.same;
      ahead = f.ahead;
      branch = record {
        blanks = f.branch.blanks;
        weight = f.branch.weight;
        between = f.branch.after;
        after = [];
        same = rw (f.branch.same, eqb-true b 42 h) (simp append_assoc);
        are_blanks = f.branch.are_blanks;
        spells = f.branch.spells;
        are_between = f.branch.are_after;
        are_after = no_blank;
      };
    })
    (λ _. tt))

whole_weight : {p : Place} {n k : ℕ} {s : List ℕ} → Inside p (Mode.whole n k) s
    → Inside p (Mode.weight (n * one_whole)) s
whole_weight {p} {n} {k} {s} f = record {
  front = f.front;
  rest = f.rest;
  same = f.same;
  ahead = f.ahead;
  branch = record {
    blanks = f.branch.blanks;
    weight = f.branch.digits;
    after = [];
    same = f.branch.same ∙ ap (λ t. f.branch.blanks ++ t) (sym (append-nil f.branch.digits));
    are_blanks = f.branch.are_blanks;
    spells = rw f.branch.value (whole f.branch.are_digits f.branch.some f.branch.few);
    are_after = no_blank;
  };
}

decimals_weight : {p : Place} {n u : ℕ} {s : List ℕ} → Inside p (Mode.decimals n u) s
    → Inside p (Mode.weight n) s
decimals_weight {p} {n} {u} {s} f = record {
  front = f.front;
  rest = f.rest;
  same = f.same;
  ahead = f.ahead;
  branch = record {
    blanks = f.branch.blanks;
    weight = f.branch.digits ++ 46 ∷ [] ++ f.branch.decimals;
    after = [];
    same = rw f.branch.same (simp (append_assoc, append-nil));
    are_blanks = f.branch.are_blanks;
    spells = rw f.branch.value
        (decimal f.branch.are_digits f.branch.few f.branch.are_decimals f.branch.some);
    are_after = no_blank;
  };
}

digit_step : {p : Place} {n k : ℕ} {s : List ℕ} → Inside p (Mode.whole n k) s → (b : ℕ)
    → is_digit b ≡ true → k < 6 → Next s b (p, Mode.whole (10 * n + (b - 48)) (k + 1))
digit_step {p} {n} {k} {s} f b h room =
    let longer : length (f.branch.digits ++ b ∷ []) ≡ length f.branch.digits + 1 =
    length-append f.branch.digits (b ∷ []) in
    let count = f.branch.count in
    record {
      front = f.front;
      rest = f.rest ++ b ∷ [];
      same = one_byte s f.front f.rest b f.same;
      ahead = f.ahead;
      branch = record {
        blanks = f.branch.blanks;
        digits = f.branch.digits ++ b ∷ [];
        same = rw f.branch.same (simp append_assoc);
        are_blanks = f.branch.are_blanks;
        are_digits = digits_snoc b f.branch.are_digits h;
        some = omega arith;
        few = omega arith;
        count = omega arith;
        value = rw f.branch.value (sym (number_snoc 0 f.branch.digits b));
      };
    }

point_step : {p : Place} {n k : ℕ} {s : List ℕ} → Inside p (Mode.whole n k) s → (b : ℕ) → b ≡ 46
    → Next s b (p, Mode.point (n * one_whole))
point_step {p} {n} {k} {s} f b e = record {
  front = f.front;
  rest = f.rest ++ b ∷ [];
  same = one_byte s f.front f.rest b f.same;
  ahead = f.ahead;
  branch = record {
    blanks = f.branch.blanks;
    digits = f.branch.digits;
    same = rw (f.branch.same, e) (simp append_assoc);
    are_blanks = f.branch.are_blanks;
    are_digits = f.branch.are_digits;
    few = f.branch.few;
    value = ap (λ m. m * one_whole) f.branch.value;
  };
}

whole_step : {p : Place} {n k : ℕ} {s : List ℕ} → Inside p (Mode.whole n k) s → (b : ℕ)
    → IfSome (next p (Mode.whole n k) b) (Next s b)
whole_step {p} {n} {k} {s} f b =
    if_test (Next s b) (is_digit b) _ _
    (λ h. if_test (Next s b) (nat_lt k 6) _ _ (λ room. digit_step f b h (ltb-true k 6 room))
    (λ _. tt))
    (λ _. if_test (Next s b) (b == 46) _ _ (λ h. point_step f b (eqb-true b 46 h))
    (λ _. weight_step (whole_weight f) b))

first_decimal : {p : Place} {n : ℕ} {s : List ℕ} → Inside p (Mode.point n) s → (b : ℕ)
    → is_digit b ≡ true → Next s b (p, Mode.decimals (n + (b - 48) * 100000) 10000)
first_decimal {p} {n} {s} f b h = record {
  front = f.front;
  rest = f.rest ++ b ∷ [];
  same = one_byte s f.front f.rest b f.same;
  ahead = f.ahead;
  branch = record {
    blanks = f.branch.blanks;
    digits = f.branch.digits;
    decimals = b ∷ [];
    same = rw f.branch.same (simp append_assoc);
    are_blanks = f.branch.are_blanks;
    are_digits = f.branch.are_digits;
    few = f.branch.few;
    are_decimals = digit h no_digit;
    some = omega arith;
    worth = refl;
    value = rw f.branch.value (omega arith);
  };
}

decimal_step : {p : Place} {n u : ℕ} {s : List ℕ} → Inside p (Mode.decimals n u) s → (b : ℕ)
    → is_digit b ≡ true → Next s b (p, Mode.decimals (n + (b - 48) * u) (u / 10))
decimal_step {p} {n} {u} {s} f b h =
    let longer : length (f.branch.decimals ++ b ∷ []) ≡ length f.branch.decimals + 1 =
    length-append f.branch.decimals (b ∷ []) in
    let more = fraction_snoc 100000 f.branch.decimals b in
    record {
      front = f.front;
      rest = f.rest ++ b ∷ [];
      same = one_byte s f.front f.rest b f.same;
      ahead = f.ahead;
      branch = record {
        blanks = f.branch.blanks;
        digits = f.branch.digits;
        decimals = f.branch.decimals ++ b ∷ [];
        same = rw f.branch.same (simp append_assoc);
        are_blanks = f.branch.are_blanks;
        are_digits = f.branch.are_digits;
        few = f.branch.few;
        are_decimals = digits_snoc b f.branch.are_decimals h;
        some = omega arith;
        worth = ap (λ v. v / 10) f.branch.worth ∙ sym (unit_snoc 100000 f.branch.decimals b);
        value = rw (f.branch.value, f.branch.worth) (omega (arith, more));
      };
    }

decimals_step : {p : Place} {n u : ℕ} {s : List ℕ} → Inside p (Mode.decimals n u) s → (b : ℕ)
    → IfSome (next p (Mode.decimals n u) b) (Next s b)
decimals_step {p} {n} {u} {s} f b =
    if_test (Next s b) (is_digit b) _ _ (λ h. decimal_step f b h)
    (λ _. weight_step (decimals_weight f) b)

-- behind a branch

whole_union : {p : Place} {s : List ℕ} (k : Behind p s)
    → PaddedUnion (k.ahead.branches ++ k.rest) p.parts
whole_union {p} {s} k =
    let single : PaddedUnion (k.branch.blanks ++ (k.branch.branch ++ k.branch.after))
    (k.last ∷ []) = PaddedUnion.padded k.branch.are_blanks
    (branch k.branch.spells) k.branch.are_after in
    subst₂ PaddedUnion (ap (λ t. k.ahead.branches ++ t) (sym k.branch.same)) (sym k.these)
    (k.ahead.parts.extend single)

whole_tree : {p : Place} {s : List ℕ} (k : Behind p s)
    → PaddedTree (k.ahead.unions ++ (k.ahead.branches ++ k.rest)) (p.alts ++ union_of p.parts ∷ [])
whole_tree k = k.ahead.alts.extend (padded_union (whole_union k))

and_step : {p : Place} {s : List ℕ} → Behind p s → (b : ℕ) → b ≡ 38 → Next s b (p, Mode.start)
and_step {p} {s} k b e = record {
  front = s ++ b ∷ [];
  rest = [];
  same = sym (append-nil (s ++ b ∷ []));
  ahead = record {
    outer = k.ahead.outer;
    unions = k.ahead.unions;
    branches = k.ahead.branches
        ++ (k.branch.blanks ++ (k.branch.branch ++ (k.branch.after ++ 38 ∷ [])));
    same = rw (k.same, k.ahead.same, k.branch.same, e) (simp append_assoc);
    opened = k.ahead.opened;
    alts = k.ahead.alts;
    parts = rw k.these (parts_more k.ahead.parts k.branch.are_blanks k.branch.spells
        k.branch.are_after);
  };
  branch = no_blank;
}

bar_step : {p : Place} {s : List ℕ} → Behind p s → (b : ℕ) → b ≡ 124
    → Next s b (with_alt p, Mode.start)
bar_step {p} {s} k b e = record {
  front = s ++ b ∷ [];
  rest = [];
  same = sym (append-nil (s ++ b ∷ []));
  ahead = record {
    outer = k.ahead.outer;
    unions = k.ahead.unions ++ ((k.ahead.branches ++ k.rest) ++ 124 ∷ []);
    branches = [];
    same = rw (k.same, k.ahead.same, e) (simp (append_assoc, append-nil));
    opened = k.ahead.opened;
    alts = alts_more k.ahead.alts (whole_union k);
    parts = record { extend = λ r. r };
  };
  branch = no_blank;
}

blank_behind : {p : Place} {s : List ℕ} → Behind p s → (b : ℕ) → is_blank b ≡ true
    → Next s b (p, Mode.behind)
blank_behind {p} {s} k b h = record {
  front = k.front;
  rest = k.rest ++ b ∷ [];
  parts = k.parts;
  last = k.last;
  same = one_byte s k.front k.rest b k.same;
  these = k.these;
  ahead = k.ahead;
  branch = record {
    blanks = k.branch.blanks;
    branch = k.branch.branch;
    after = k.branch.after ++ b ∷ [];
    same = rw k.branch.same (simp append_assoc);
    are_blanks = k.branch.are_blanks;
    spells = k.branch.spells;
    are_after = blanks_snoc b k.branch.are_after h;
  };
}

close_step : (fs : List Frame) (vs : List TreeValue) (ps : List BranchValue) (s : List ℕ)
    → Behind (record { outer = fs; alts = vs; parts = ps }) s → (b : ℕ) → b ≡ 41
    → IfSome (closed fs (one_or_alt (vs ++ union_of ps ∷ []))) (Next s b)
close_step [] vs ps s k b e = tt
close_step (f ∷ fs) vs ps s k b e =
    let o : Opens (λ t. Opened fs t) f k.ahead.outer = k.ahead.opened in
    let inside : List ℕ = k.ahead.unions ++ (k.ahead.branches ++ k.rest) in
    record {
      front = o.front;
      rest = o.blanks ++ ((o.weight ++ (40 ∷ inside ++ 41 ∷ [])) ++ []);
      parts = f.parts;
      last = (f.weight, one_or_alt (vs ++ union_of ps ∷ []));
      same = rw (k.same, k.ahead.same, o.same, e) (simp (append_assoc, append-nil));
      these = refl;
      ahead = o.ahead;
      branch = record {
        blanks = o.blanks;
        branch = o.weight ++ (40 ∷ inside ++ 41 ∷ []);
        after = [];
        same = refl;
        are_blanks = o.are_blanks;
        spells = o.weighs.extend (group (padded_text (whole_tree k)));
        are_after = no_blank;
      };
    }

behind_step : {p : Place} {s : List ℕ} → Behind p s → (b : ℕ)
    → IfSome (behind_branch p b) (Next s b)
behind_step {p} {s} k b =
    if_test (Next s b) (is_blank b) _ _ (λ h. blank_behind k b h)
    (λ _. if_test (Next s b) (b == 38) _ _ (λ h. and_step k b (eqb-true b 38 h))
    (λ _. if_test (Next s b) (b == 124) _ _ (λ h. bar_step k b (eqb-true b 124 h))
    (λ _. if_test (Next s b) (b == 41) _ _
    (λ h. close_step p.outer p.alts p.parts s k b (eqb-true b 41 h)) (λ _. tt))))

-- paths

path_ends : {p : Place} {w : Option ℕ} {at : Walk} {s : List ℕ} → Inside p (Mode.walk w at) s
    → (ls : Labels) → end_walk at ≡ Some ls → Behind (with_part p w (leaf ls)) s
path_ends {p} {w} {at} {s} f ls e = record {
  front = f.front;
  rest = f.rest;
  parts = p.parts;
  last = (w, leaf ls);
  same = f.same;
  these = refl;
  ahead = f.ahead;
  branch = record {
    blanks = f.branch.blanks;
    branch = f.branch.weight ++ f.branch.path;
    after = [];
    same = rw f.branch.same (simp (append_assoc, append-nil));
    are_blanks = f.branch.are_blanks;
    spells = f.branch.weighs.extend (path (walk_end at f.branch.path ls f.branch.walks e));
    are_after = no_blank;
  };
}

path_step : {p : Place} {w : Option ℕ} {at : Walk} {s : List ℕ} → Inside p (Mode.walk w at) s
    → (b : ℕ) (o : Option Labels) → end_walk at ≡ o → IfSome (behind_path p w b o) (Next s b)
path_step f b None e = tt
path_step f b (Some ls) e = behind_step (path_ends f ls e) b

walking : {p : Place} {w : Option ℕ} {at : Walk} {s : List ℕ} (f : Inside p (Mode.walk w at) s)
    (b : ℕ) (to : Walk) → WalkFront to (f.branch.path ++ b ∷ []) → Next s b (p, Mode.walk w to)
walking {p} {w} {at} {s} f b to h = record {
  front = f.front;
  rest = f.rest ++ b ∷ [];
  same = one_byte s f.front f.rest b f.same;
  ahead = f.ahead;
  branch = record {
    blanks = f.branch.blanks;
    weight = f.branch.weight;
    path = f.branch.path ++ b ∷ [];
    same = rw f.branch.same (simp append_assoc);
    are_blanks = f.branch.are_blanks;
    weighs = f.branch.weighs;
    walks = h;
  };
}

walk_in_step : {p : Place} {w : Option ℕ} {at : Walk} {s : List ℕ} → Inside p (Mode.walk w at) s
    → (b : ℕ) → IfSome (next p (Mode.walk w at) b) (Next s b)
walk_in_step {p} {w} {at} {s} f b =
    if_test (Next s b) (is_path_byte b) _ _
    (λ _. if_mapped_from (Next s b) (λ to. WalkFront to (f.branch.path ++ b ∷ []))
    (λ to. (p, Mode.walk w to)) (next_walk at b) (walk_step at f.branch.path f.branch.walks b)
    (λ to h. walking f b to h))
    (λ _. path_step f b (end_walk at) refl)

-- each byte

pub step : (p : Place) (m : Mode) (s : List ℕ) → Front p m s → (b : ℕ)
    → IfSome (next p m b) (Next s b)
step p Mode.start s f b = start_step f b
step p (Mode.whole n k) s f b = whole_step f b
step p (Mode.point n) s f b = if_test (Next s b) (is_digit b) _ _ (λ h. first_decimal f b h)
    (λ _. tt)
step p (Mode.decimals n u) s f b = decimals_step f b
step p (Mode.weight n) s f b = weight_step f b
step p (Mode.star n) s f b = star_step f b
step p (Mode.walk w at) s f b = walk_in_step f b
step p Mode.behind s f b = behind_step f b

-- the end

behind_ends : (fs : List Frame) (vs : List TreeValue) (ps : List BranchValue) (s : List ℕ)
    → Behind (record { outer = fs; alts = vs; parts = ps }) s → (v : TreeValue)
    → end_tree (record { outer = fs; alts = vs; parts = ps }) ≡ Some v → TreeText s v
behind_ends [] vs ps s k v e =
    let text = padded_text (whole_tree k) in
    let same : k.ahead.unions ++ (k.ahead.branches ++ k.rest) ≡ s =
    rw (k.same, k.ahead.same, k.ahead.opened) (simp append_assoc) in
    subst₂ TreeText same (same_Some _ v e) text
behind_ends (f ∷ fs) vs ps s k v e = absurd (none-some v e)

walk_ends : (p : Place) (w : Option ℕ) (at : Walk) (s : List ℕ) → Inside p (Mode.walk w at) s
    → (v : TreeValue) (o : Option Labels) → end_walk at ≡ o → ended_path p w o ≡ Some v
    → TreeText s v
walk_ends p w at s f v None i e = absurd (none-some v e)
walk_ends p w at s f v (Some ls) i e =
    behind_ends p.outer p.alts (p.parts ++ (w, leaf ls) ∷ []) s (path_ends f ls i) v e

ends : (p : Place) (m : Mode) (s : List ℕ) → Front p m s → (v : TreeValue) → ended p m ≡ Some v
    → TreeText s v
ends p Mode.start s f v e = absurd (none-some v e)
ends p (Mode.whole n k) s f v e = absurd (none-some v e)
ends p (Mode.point n) s f v e = absurd (none-some v e)
ends p (Mode.decimals n u) s f v e = absurd (none-some v e)
ends p (Mode.weight n) s f v e = absurd (none-some v e)
ends p (Mode.star n) s f v e = absurd (none-some v e)
ends p (Mode.walk w at) s f v e = walk_ends p w at s f v (end_walk at) refl e
ends p Mode.behind s f v e = behind_ends p.outer p.alts p.parts s f v e

pub at_start : (fs : List Frame) (s : List ℕ) → Opened fs s → Front (before fs) Mode.start s
at_start fs s o = record {
  front = s;
  rest = [];
  same = sym (append-nil s);
  ahead = record {
    outer = s;
    unions = [];
    branches = [];
    same = sym (append-nil s);
    opened = o;
    alts = record { extend = λ r. r };
    parts = record { extend = λ r. r };
  };
  branch = no_blank;
}

-- what reading a text gives is what the text stands for
pub read_is_spelled : (s : List ℕ) (v : TreeValue) → tree_read s ≡ Some v → TreeText s v
read_is_spelled s v e =
    completes next_state ended_state (λ q t. Front q.0 q.1 t) TreeText
    (λ q t f b. step q.0 q.1 t f b) (λ q t f w i. ends q.0 q.1 t f w i) s
    (before [], Mode.start) [] (at_start [] [] refl) v e
