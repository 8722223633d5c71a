-- As many parentheses are on the stack as are open behind the bytes that were read.
use Rattle.std.proofs.Common.{◌≡◌, ℕ, arith, List, [], ◌∷◌, length, Option, Some, None, refl, sym}
use Rattle.std.specs.Prelude.{◌==◌, nat_lt, IfSome}
use Rattle.std.proofs.lemmas.Bool.{eqb-true}
use Rattle.name_tree.specs.Path.{Labels}
use Rattle.name_tree.specs.Value.{TreeValue, leaf}
use Rattle.name_tree.specs.Grammar.{is_blank, is_digit}
use Rattle.name_tree.specs.Faults.{open_after}
use Rattle.name_tree.specs.LabelReading.{is_path_byte}
use Rattle.name_tree.specs.PathReading.{next_walk, end_walk}
use Rattle.name_tree.specs.TreeReading.{Frame, Place, Mode, State, with_part, inner, closed}
use Rattle.name_tree.specs.TreeReading.{begin_simple, behind_weight, behind_branch, behind_path}
use Rattle.name_tree.specs.TreeReading.{next}
use Rattle.name_tree.proofs.Bytes.{digit-path}
use Rattle.name_tree.proofs.Quiet.{quiet_at, quiet_blank, quiet_path}
use Rattle.name_tree.proofs.Answered.{if_test, if_mapped}

-- the depth behind a byte
abbrev Deep : Place → ℕ → State → Type 0
Deep p b q = length q.0.outer ≡ open_after (length p.outer) b

simple_depth : (p : Place) (w : Option ℕ) (b : ℕ) → IfSome (begin_simple p w b) (Deep p b)
simple_depth p w b =
    let n : ℕ = length p.outer in
    if_test (Deep p b) (b == 47) _ _ (λ h. sym (quiet_at n b 47 (eqb-true b 47 h) refl))
    (λ _. if_test (Deep p b) (b == 40) _ _ (λ h. rw (eqb-true b 40 h) (omega arith))
    (λ _. if_test (Deep p b) (b == 126) _ _ (λ h. sym (quiet_at n b 126 (eqb-true b 126 h) refl))
    (λ _. if_test (Deep p b) (b == 33) _ _ (λ h. sym (quiet_at n b 33 (eqb-true b 33 h) refl))
    (λ _. if_test (Deep p b) (b == 36) _ _ (λ h. sym (quiet_at n b 36 (eqb-true b 36 h) refl))
    (λ _. tt)))))

weight_depth : (p : Place) (n b : ℕ) → IfSome (behind_weight p n b) (Deep p b)
weight_depth p n b =
    if_test (Deep p b) (is_blank b) _ _ (λ h. sym (quiet_blank (length p.outer) b h))
    (λ _. if_test (Deep p b) (b == 42) _ _
    (λ h. sym (quiet_at (length p.outer) b 42 (eqb-true b 42 h) refl)) (λ _. tt))

close_depth : (p : Place) (b : ℕ) (fs : List Frame) (v : TreeValue) → p.outer ≡ fs → b ≡ 41
    → IfSome (closed fs v) (Deep p b)
close_depth p b [] v e h = tt
close_depth p b (f ∷ fs) v e h = rw (e, h) (omega arith)

behind_depth : (p : Place) (b : ℕ) → IfSome (behind_branch p b) (Deep p b)
behind_depth p b =
    let n : ℕ = length p.outer in
    if_test (Deep p b) (is_blank b) _ _ (λ h. sym (quiet_blank n b h))
    (λ _. if_test (Deep p b) (b == 38) _ _ (λ h. sym (quiet_at n b 38 (eqb-true b 38 h) refl))
    (λ _. if_test (Deep p b) (b == 124) _ _ (λ h. sym (quiet_at n b 124 (eqb-true b 124 h) refl))
    (λ _. if_test (Deep p b) (b == 41) _ _
    (λ h. close_depth p b p.outer (inner p) refl (eqb-true b 41 h)) (λ _. tt))))

path_depth : (p : Place) (w : Option ℕ) (b : ℕ) (o : Option Labels)
    → IfSome (behind_path p w b o) (Deep p b)
path_depth p w b None = tt
path_depth p w b (Some ls) = behind_depth (with_part p w (leaf ls)) b

pub step_depth : (p : Place) (m : Mode) (b : ℕ) → IfSome (next p m b) (Deep p b)
step_depth p Mode.start b =
    let n : ℕ = length p.outer in
    if_test (Deep p b) (is_blank b) _ _ (λ h. sym (quiet_blank n b h))
    (λ _. if_test (Deep p b) (is_digit b) _ _ (λ h. sym (quiet_path n b (digit-path b h)))
    (λ _. if_test (Deep p b) (b == 46) _ _ (λ h. sym (quiet_at n b 46 (eqb-true b 46 h) refl))
    (λ _. simple_depth p None b)))
step_depth p (Mode.whole n k) b =
    let d : ℕ = length p.outer in
    if_test (Deep p b) (is_digit b) _ _
    (λ h. if_test (Deep p b) (nat_lt k 6) _ _ (λ _. sym (quiet_path d b (digit-path b h)))
    (λ _. tt))
    (λ _. if_test (Deep p b) (b == 46) _ _ (λ h. sym (quiet_at d b 46 (eqb-true b 46 h) refl))
    (λ _. weight_depth p _ b))
step_depth p (Mode.point n) b = if_test (Deep p b) (is_digit b) _ _
    (λ h. sym (quiet_path (length p.outer) b (digit-path b h))) (λ _. tt)
step_depth p (Mode.decimals n u) b =
    if_test (Deep p b) (is_digit b) _ _ (λ h. sym (quiet_path (length p.outer) b (digit-path b h)))
    (λ _. weight_depth p n b)
step_depth p (Mode.weight n) b = weight_depth p n b
step_depth p (Mode.star n) b = if_test (Deep p b) (is_blank b) _ _
    (λ h. sym (quiet_blank (length p.outer) b h)) (λ _. simple_depth p (Some n) b)
step_depth p (Mode.walk w at) b =
    if_test (Deep p b) (is_path_byte b) _ _
    (λ h. if_mapped (Deep p b) (λ to. (p, Mode.walk w to)) (next_walk at b)
    (λ to _. sym (quiet_path (length p.outer) b h)))
    (λ _. path_depth p w b (end_walk at))
step_depth p Mode.behind b = behind_depth p b
