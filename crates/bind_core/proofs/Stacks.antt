-- What a stack makes of an ending.
use Rattle.std.proofs.Common.{◌≡◌, ◌+◌, ◌≤◌, List, [], ◌∷◌, ◌++◌, length, true, refl, ap, ◌∙◌}
use Rattle.std.proofs.Common.{arith, append_assoc, length-append}
use Rattle.std.proofs.lemmas.List.{append-nil}
use Rattle.dtab_table.specs.Rules.{Rule}
use Rattle.bind_core.specs.declared.frame.Frame.{Frame}
use Rattle.bind_core.specs.declared.frame.Frame.TheVariants as frame
use Rattle.bind_core.specs.Delegation.{Names, Visit, Told, lookup, walk_each, negative, failing}
use Rattle.bind_core.specs.Delegation.{no_replica, too_deep, too_wide, bound, or_else}
use Rattle.bind_core.specs.Kept.{kept_of}
use Rattle.bind_core.specs.Stack.{ends_all, stack_work, union_branches, closed, choice_told}
use Rattle.bind_core.specs.Stack.{frame_on, resume}
use Rattle.bind_core.proofs.Closing.{closed-more, closed-ended}
use Rattle.bind_core.proofs.Unions.{union_told-more, union_told-ended}

pub or_else-assoc : (a b c : Told) → or_else (or_else a b) c ≡ or_else a (or_else b c)
or_else-assoc (negative, n) (negative, m) c =
    ap (λ (k : List Visit). (c.0, k)) (append_assoc n m c.1)
or_else-assoc (negative, n) (failing, m) c = refl
or_else-assoc (negative, n) (no_replica, m) c = refl
or_else-assoc (negative, n) (too_deep, m) c = refl
or_else-assoc (negative, n) (too_wide, m) c = refl
or_else-assoc (negative, n) (bound x, m) c = refl
or_else-assoc (failing, n) b c = refl
or_else-assoc (no_replica, n) b c = refl
or_else-assoc (too_deep, n) b c = refl
or_else-assoc (too_wide, n) b c = refl
or_else-assoc (bound x, n) b c = refl

-- lookups only become more
pub or_else-more : (a b : Told) → length a.1 ≤ length (or_else a b).1
or_else-more (negative, n) b = omega (arith, length-append n b.1)
or_else-more (failing, n) b = omega arith
or_else-more (no_replica, n) b = omega arith
or_else-more (too_deep, n) b = omega arith
or_else-more (too_wide, n) b = omega arith
or_else-more (bound x, n) b = omega arith

-- what ends all passes
or_else-ended : (a b : Told) → ends_all a.0 ≡ true → or_else a b ≡ a
or_else-ended (negative, n) b ends = cc
or_else-ended (failing, n) b ends = cc
or_else-ended (no_replica, n) b ends = cc
or_else-ended (too_deep, n) b ends = refl
or_else-ended (too_wide, n) b ends = refl
or_else-ended (bound x, n) b ends = cc

-- nothing is left at the end
pub ended : (t : Told) → or_else t (negative, []) ≡ t
ended (negative, n) = ap (λ (k : List Visit). (negative, k)) (append-nil n)
ended (failing, n) = refl
ended (no_replica, n) = refl
ended (too_deep, n) = refl
ended (too_wide, n) = refl
ended (bound x, n) = refl

module _ (rules : List Rule) (names : Names) where
  pub frame_on-more : (f : Frame) (t : Told) → length t.1 ≤ length (frame_on rules names f t).1
  frame_on-more (frame.FirstOf f) t =
      let told = choice_told rules names f in
      omega (arith, or_else-more t told, closed-more f.visit (or_else t told))
  frame_on-more (frame.Union f) t = union_told-more (kept_of f.gathered) f.weight t
      (walk_each (lookup rules names f.left) (union_branches f))

  frame_on-ended : (f : Frame) (t : Told) → ends_all t.0 ≡ true → frame_on rules names f t ≡ t
  frame_on-ended (frame.FirstOf f) t ends =
      ap (closed f.visit) (or_else-ended t (choice_told rules names f) ends)
      ∙ closed-ended f.visit t ends
  frame_on-ended (frame.Union f) t ends =
      union_told-ended (kept_of f.gathered) f.weight t
      (walk_each (lookup rules names f.left) (union_branches f)) ends

  -- frames that were put on later go first
  pub resume-append : (fs gs : List Frame) (t : Told)
      → resume rules names (fs ++ gs) t ≡ resume rules names fs (resume rules names gs t)
  resume-append [] gs t = refl
  resume-append (f ∷ fs) gs t = ap (frame_on rules names f) (resume-append fs gs t)

  pub resume-ended : (fs : List Frame) (t : Told) → ends_all t.0 ≡ true
      → resume rules names fs t ≡ t
  resume-ended [] t ends = refl
  resume-ended (f ∷ fs) t ends = ap (frame_on rules names f) (resume-ended fs t ends)
      ∙ frame_on-ended f t ends

  pub resume-more : (fs : List Frame) (t : Told) → length t.1 ≤ length (resume rules names fs t).1
  resume-more [] t = omega arith
  resume-more (f ∷ fs) t =
      omega (arith, resume-more fs t, frame_on-more f (resume rules names fs t))

pub stack_work-append : (rules : List Rule) (fs gs : List Frame)
    → stack_work rules (fs ++ gs) ≡ stack_work rules fs + stack_work rules gs
stack_work-append rules [] gs = omega arith
stack_work-append rules (f ∷ fs) gs = omega (arith, stack_work-append rules fs gs)
