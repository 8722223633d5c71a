-- What a reader that took some bytes in knows of the text, and what it may answer.
use Rattle.std.proofs.Common.{◌≡◌, ℕ, Bool, true, false, ◌+◌, ◌-◌, ◌<◌, ◌≤◌, arith, List, [], ◌∷◌}
use Rattle.std.proofs.Common.{length, take, get_or, Option, Some, None, refl, sym, ap, subst, ◌∙◌}
use Rattle.std.proofs.Common.{⊎_elim}
use Rattle.std.specs.Prelude.{◌==◌, IfSome, ⊤}
use Rattle.std.proofs.lemmas.Bool.{cases_lt, cases_Bool, eqb-true}
use Rattle.std.proofs.lemmas.Option.{same_Some, option_and_then_some, MatchOption-at_some}
use Rattle.std.proofs.lemmas.Option.{slice_get_within, get_or_from_slice_get, slice_get-get_or}
use Rattle.std.proofs.lemmas.List.{take_all}
use Rattle.name_tree.specs.Recogniser.{run}
use Rattle.name_tree.specs.Faults.{most_bytes, most_open, open_after, open_behind, IsTooDeep}
use Rattle.name_tree.specs.Faults.{IsValue, IsTooNested, IsSyntax}
use Rattle.name_tree.proofs.Recognisers.{Recognises, run_more, read_len, is_front, in_front}
use Rattle.name_tree.proofs.Recognisers.{fault_at, fault_at_end, value_at_end}

-- the number of open parentheses that each state knows
pub record Counts {S : Type 0} (next : S → ℕ → Option S) (start : S) (depth : S → ℕ) : Type 0 where
  pub at_start : depth start ≡ 0
  pub each : (q : S) (b : ℕ) → IfSome (next q b) (λ to. depth to ≡ open_after (depth q) b)

-- a reader in a state took so many bytes of a text in, and no parenthesis among them is too deep
pub record SoFar {S : Type 0} (next : S → ℕ → Option S) (start : S) (text : List ℕ) (at : ℕ)
    (q : S) : Type 0 where
  pub reads : run next start (take at text) ≡ Some q
  pub flat : (k : ℕ) → k < at → IsTooDeep text k → ⊥

pub at_first : {S : Type 0} (next : S → ℕ → Option S) (start : S) (text : List ℕ)
    → SoFar next start text 0 start
at_first next start text = record { reads = refl; flat = λ k h. absurd (omega arith) }

not_more : (n b : ℕ) → (b == 40) ≡ false → (t : Bool) → (b == 41) ≡ t → n < open_after n b → ⊥
not_more n b p true q h = let e : open_after n b ≡ n - 1 = rw (p, q) refl in omega arith
not_more n b p false q h = let e : open_after n b ≡ n = rw (p, q) refl in omega arith

-- the byte behind which more parentheses are open
parenthesis : (n b : ℕ) → n < open_after n b → b ≡ 40
parenthesis n b h = ⊎_elim (λ t. eqb-true b 40 t) (λ t. absurd (not_more n b t (b == 41) refl h))
    (cases_Bool (b == 40))

module _ {S : Type 0} (next : S → ℕ → Option S) (start : S) (depth : S → ℕ)
    (counts : Counts next start depth) where
  counted : (s : List ℕ) (q to : S) → run next q s ≡ Some to → depth to ≡ open_behind (depth q) s
  counted [] q to e = ap depth (sym (same_Some q to e))
  counted (b ∷ bs) q to e =
      option_and_then_some (λ k. run next k bs) (next q b) to e
      (λ k i r. let one = MatchOption-at_some ⊤ (λ k. depth k ≡ open_after (depth q) b) k i
      (counts.each q b) in counted bs k to r ∙ ap (λ n. open_behind n bs) one)

  depth_at : (text : List ℕ) (at : ℕ) (q : S) → SoFar next start text at q
      → depth q ≡ open_behind 0 (take at text)
  depth_at text at q f = counted (take at text) start q f.reads
      ∙ ap (λ n. open_behind n (take at text)) counts.at_start

  pub goes_on : (text : List ℕ) (at : ℕ) (q to : S) → SoFar next start text at q → at < length text
      → next q (get_or text at 0) ≡ Some to → depth to ≤ most_open
      → SoFar next start text (at + 1) to
  goes_on text at q to f h e few =
      let one = MatchOption-at_some ⊤ (λ k. depth k ≡ open_after (depth q) (get_or text at 0)) to e
      (counts.each q (get_or text at 0)) in
      let deep = depth_at text at q f in
      record {
        reads = run_more next start q text at h f.reads ∙ e;
        flat = λ k less too. ⊎_elim (λ below. f.flat k below too)
            (λ above. let same : k ≡ at = omega arith in
            let here : IsTooDeep text at = subst (λ n. IsTooDeep text n) same too in
            let paren : get_or text at 0 ≡ 40 = get_or_from_slice_get text at 40 0 here.0 in
            let more : depth to ≡ depth q + 1 = one ∙ ap (open_after (depth q)) paren in
            let many = here.1 in absurd (omega arith)) (cases_lt k at);
      }

  -- a byte that opens one parenthesis too many
  module _ {V : Type 0} (ended : S → Option V) (Text : List ℕ → V → Type 0)
      (laws : Recognises next ended start Text) where
    pub nested : (text : List ℕ) (at : ℕ) (q to : S) → SoFar next start text at q
        → length text ≤ most_bytes → at < length text → next q (get_or text at 0) ≡ Some to
        → depth q ≤ most_open → most_open < depth to → IsTooNested Text text at
    nested text at q to f short h e few many =
        let one = MatchOption-at_some ⊤ (λ k. depth k ≡ open_after (depth q) (get_or text at 0)) to
        e (counts.each q (get_or text at 0)) in
        let paren = parenthesis (depth q) (get_or text at 0) (omega arith) in
        let more : depth to ≡ depth q + 1 = one ∙ ap (open_after (depth q)) paren in
        let deep = depth_at text at q f in
        let read : run next start (take (at + 1) text) ≡ Some to =
        run_more next start q text at h f.reads ∙ e in
        let inside = in_front next ended start Text laws text (at + 1) to (omega arith) read in
        record {
          short = short;
          deep = (slice_get-get_or text at 0 h ∙ ap Some paren, omega arith);
          first = f.flat;
          front = read_len next start text;
          is_front = is_front next ended start Text laws text;
          inside = omega arith;
        }

    -- a byte with which no text goes on
    pub leaves : (text : List ℕ) (at : ℕ) (q : S) → SoFar next start text at q
        → length text ≤ most_bytes → at < length text → next q (get_or text at 0) ≡ None
        → IsSyntax Text text at
    leaves text at q f short h e =
        let k = fault_at next ended start Text laws text at q h f.reads e in
        record { short = short; flat = f.flat; is_front = k.0; refused = k.1 }

    -- the text ends where none may end
    pub leaves_at_end : (text : List ℕ) (at : ℕ) (q : S) → SoFar next start text at q
        → length text ≤ most_bytes → length text ≤ at → ended q ≡ None
        → IsSyntax Text text (length text)
    leaves_at_end text at q f short h e =
        let k = fault_at_end next ended start Text laws text q
        (ap (run next start) (sym (take_all at text h)) ∙ f.reads) e in
        record {
          short = short;
          flat = λ n less. f.flat n (omega arith);
          is_front = k.0;
          refused =
              k.1;
        }

    -- the text ends where one may end
    pub stands_at_end : (text : List ℕ) (at : ℕ) (q : S) (v : V) → SoFar next start text at q
        → length text ≤ most_bytes → length text ≤ at → ended q ≡ Some v → IsValue Text text v
    stands_at_end text at q v f short h e =
        record {
          short = short;
          flat = λ n deep. let less = slice_get_within text n 40 deep.0 in
              f.flat n (omega arith) deep;
          stands = value_at_end next ended start Text laws text q v
              (ap (run next start) (sym (take_all at text h)) ∙ f.reads) e;
        }
