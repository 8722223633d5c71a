-- What is computed is what the grammar says.
use Rattle.std.proofs.Common.{◌≡◌, ℕ, zero, suc, ◌≤◌, arith, List, [], ◌∷◌, length, take, Bool}
use Rattle.std.proofs.Common.{true, false, Option, Some, None, Result, Ok, Err, refl, ap, inl, inr}
use Rattle.std.specs.Prelude.{◌&&◌, ◌==◌, ◌⊎◌, nat_le, if◌then◌else◌, slice_get, MatchResult}
use Rattle.std.proofs.lemmas.Option.{same_Some}
use Rattle.std.proofs.lemmas.Bool.Decides.{nat_tests}
use Rattle.name_tree.specs.Faults.{most_bytes, most_open, open_after, open_behind, IsValue}
use Rattle.name_tree.specs.declared.read.TextFault.{TextFault}
use Rattle.name_tree.specs.declared.read.TextFault.TheVariants.{OutOfMemory}
use Rattle.name_tree.specs.Answers.{FaultFits}
use Rattle.name_tree.specs.Recogniser.{value_from}
use Rattle.name_tree.specs.Computed.{is_flat, in_limits, path_of, tree_of, Computes}
use Rattle.name_tree.specs.Grammar.{PathText, TreeText}
use Rattle.name_tree.specs.PathReading.{before as before_path, next_path, end_path}
use Rattle.name_tree.specs.TreeReading.{next_state, ended_state}
use Rattle.name_tree.proofs.Only.{no_fault}
use Rattle.name_tree.proofs.PathLaws.{path_laws}
use Rattle.name_tree.proofs.TreeLaws.{tree_laws, tree_start}

-- a parenthesis that is too deep, where so many are open before the text
abbrev IsDeepFrom : ℕ → List ℕ → ℕ → Type 0
IsDeepFrom n text at = (slice_get text at ≡ Some 40) × (most_open ≤ open_behind n (take at text))

behind_test : (t x : Bool) → (if t then false else x) ≡ true → x ≡ true
behind_test true x h = cc
behind_test false x h = h

fails : (t : Bool) → (t ≡ true → ⊥) → t ≡ false
fails true h = absurd (h refl)
fails false h = refl

paren_is : (b n : ℕ) → (b == 40 && nat_le most_open n) ≡ true → b ≡ 40
paren_is b n h = grind (arith, nat_tests)

paren_deep : (b n : ℕ) → (b == 40 && nat_le most_open n) ≡ true → most_open ≤ n
paren_deep b n h = grind (arith, nat_tests)

flat_is : (n : ℕ) (text : List ℕ) → is_flat n text ≡ true → (at : ℕ) → IsDeepFrom n text at → ⊥
flat_is n [] flat at deep = let h = deep.0 in cc
flat_is n (b ∷ bs) flat zero deep =
    let here : b ≡ 40 = same_Some b 40 deep.0 in
    let test : (b == 40 && nat_le most_open n) ≡ true = let h = deep.1 in
    grind (arith, nat_tests) in
    let f : (if b == 40 && nat_le most_open n then false else is_flat (open_after n b) bs) ≡ true =
    flat in
    let g : false ≡ true = rw test at f in cc
flat_is n (b ∷ bs) flat (suc at) deep =
    flat_is (open_after n b) bs (behind_test (b == 40 && nat_le most_open n) _ flat) at
    (deep.0, deep.1)

is_flat_where : (n : ℕ) (text : List ℕ) → ((at : ℕ) → IsDeepFrom n text at → ⊥)
    → is_flat n text ≡ true
is_flat_where n [] none = refl
is_flat_where n (b ∷ bs) none =
    let rest = is_flat_where (open_after n b) bs (λ at d. none (suc at) (d.0, d.1)) in
    let test : (b == 40 && nat_le most_open n) ≡ false =
    fails _ (λ h. none 0 (ap Some (paren_is b n h), paren_deep b n h)) in rw test rest

within_both : (s t : Bool) {V : Type 0} (o : Option V) (v : V)
    → (if s && t then o else None) ≡ Some v → (s ≡ true) × (t ≡ true) × (o ≡ Some v)
within_both true true o v h = (refl, refl, h)
within_both true false o v h = cc
within_both false t o v h = cc

module _ {V : Type 0} (value : List ℕ → Option V) (Text : List ℕ → V → Type 0)
    (gives : (s : List ℕ) (v : V) → value s ≡ Some v → Text s v)
    (reads : (s : List ℕ) (v : V) → Text s v → value s ≡ Some v) where
  pub computes : Computes (in_limits value) Text
  computes text v = (
    λ e. let h = within_both (nat_le (length text) most_bytes) (is_flat 0 text) (value text) v e in
        let short : length text ≤ most_bytes = let k = h.0 in grind (arith, nat_tests) in
        record {
          short = short;
          flat = λ at deep. flat_is 0 text h.1 at deep;
          stands =
              gives text v h.2;
        },
    λ k. let test : nat_le (length text) most_bytes ≡ true = let h = k.short in
        grind (arith, nat_tests) in rw (test, is_flat_where 0 text k.flat) (reads text v k.stands),
  )

pub computes_paths : Computes path_of PathText
unfolding path_of
computes_paths = computes (value_from next_path end_path before_path) PathText path_laws.gives
    path_laws.reads

pub computes_trees : Computes tree_of TreeText
unfolding tree_of
computes_trees = computes (value_from next_state ended_state tree_start) TreeText tree_laws.gives
    tree_laws.reads

-- what was read was computed
pub computed : {V X : Type 0} (value : List ℕ → Option V) (Text : List ℕ → V → Type 0)
    → Computes value Text → (view : X → V) (text : List ℕ) (read : Result X TextFault)
    → MatchResult read (λ x. IsValue Text text (view x)) (FaultFits Text text)
    → MatchResult read (λ x. value text ≡ Some (view x))
    (λ fault. (fault ≡ OutOfMemory) ⊎ (value text ≡ None))
computed value Text law view text (Ok x) h = (law text (view x)).1 h
computed {V} value Text law view text (Err fault) h = go (value text) refl
  where
    go : (o : Option V) → value text ≡ o → (fault ≡ OutOfMemory) ⊎ (value text ≡ None)
    go None e = inr e
    go (Some v) e = inl (no_fault Text text v ((law text v).0 e) fault h)
