-- A list whose elements are each right for their places.
use Rattle.std.proofs.Common.{◌≡◌, ℕ, ◌+◌, ◌<◌, List, [], ◌∷◌, ◌++◌, length, get_or, length-append}
use Rattle.std.proofs.Common.{sym, ap, ◌∙◌, subst, arith}
use Rattle.std.proofs.Math.ListN.{get_or-append}
use Rattle.std.proofs.Math.Seq.{get_or-append_seam}
use borrow.Author.Count.{below_more}

-- so is one with an element more behind it, which is right for its place
pub placed_more : {L : Type 0} (P : ℕ → L → Type 0) (ls ms : List L) (l : L) (n : ℕ)
    → ms ≡ ls ++ l ∷ [] → length ls ≡ n
    → ((at : ℕ) (d : L) → at < length ls → P at (get_or ls at d)) → P n l → (at : ℕ) (d : L)
    → at < length ms → P at (get_or ms at d)
placed_more P ls ms l n is count all here at d lt =
    let long : length ms ≡ n + 1 = ap length is
    ∙ (length-append ls (l ∷ []) ∙ ap (λ k. k + 1) count) in
    let last : get_or (ls ++ l ∷ []) n d ≡ l =
    subst (λ k. get_or (ls ++ l ∷ []) k d ≡ l) count (get_or-append_seam ls l [] d) in
    below_more (λ k. P k (get_or ms k d)) n
    (λ k below. let within : k < length ls = omega arith in
    subst (P k) (sym (ap (λ xs. get_or xs k d) is ∙ get_or-append ls (l ∷ []) d k within))
    (all k d within))
    (subst (P n) (sym (ap (λ xs. get_or xs n d) is ∙ last)) here)
    at (omega arith)
