-- A delegation depends on nothing but what the tables and the names say of the paths that it looks
-- up.
use Rattle.std.proofs.Common.{◌≡◌, ◌-◌, ℕ, zero, suc, Bool, true, false, List, [], ◌∷◌, ◌++◌}
use Rattle.std.proofs.Common.{length, map, refl, sym, ap, subst, ◌∙◌}
use Rattle.std.specs.Prelude.{nat_lt, ◌==◌, ◌||◌, if◌then◌else◌}
use Rattle.name_tree.specs.Path.{Labels, canon_path}
use Rattle.name_tree.specs.Value.{TreeValue, TreeValues, Branches, leaf, neg, fail, empty, alt}
use Rattle.name_tree.specs.Value.{union, none, more, no_branch, branch}
use Rattle.dtab_table.specs.Dtab.{rewrites}
use Rattle.dtab_table.specs.Rules.{Rule}
use Rattle.bind_core.specs.Delegation.{Ending, negative, failing, no_replica, too_deep, too_wide}
use Rattle.bind_core.specs.Delegation.{bound, Visit, Told, Evaluated, or_else, is_too_deep}
use Rattle.bind_core.specs.Delegation.{is_failing, is_empty, some_end, found_in, kept, joint_visits}
use Rattle.bind_core.specs.Delegation.{together, walk, walk_all, walk_each, first_of, named_ending}
use Rattle.bind_core.specs.Delegation.{Names, visited, lookup, most_deep, most_path_bytes}
use Rattle.bind_core.specs.Laws.{AgreeAtAll, IsLocal}

abbrev paths : List Visit → List Labels
paths vs = map (λ v. v.path) vs

told_is : (e f : Ending) (vs us : List Visit) → e ≡ f → vs ≡ us → let x : Told = (e, vs) in
    let y : Told = (f, us) in x ≡ y
told_is e f vs us p q = rw (p, q) refl

module _ (rules others : List Rule) (names renames : Names) where
  abbrev Agreed : List Visit → Type 0
  Agreed vs = AgreeAtAll rules others names renames (paths vs)

  agreed_front : (vs us : List Visit) → Agreed (vs ++ us) → Agreed vs
  agreed_front [] us h = tt
  agreed_front (v ∷ vs) us h = (h.0, agreed_front vs us h.1)

  agreed_back : (vs us : List Visit) → Agreed (vs ++ us) → Agreed us
  agreed_back [] us h = h
  agreed_back (v ∷ vs) us h = agreed_back vs us h.1

  -- the first is the same, and so is the second where it is looked for
  or_else-same : (a b c d : Told) → Agreed (or_else a b).1 → (Agreed a.1 → c ≡ a)
      → (Agreed b.1 → d ≡ b) → or_else c d ≡ or_else a b
  or_else-same (negative, vs) b c d h first second =
      rw (first (agreed_front vs b.1 h), second (agreed_back vs b.1 h)) refl
  or_else-same (failing, vs) b c d h first second = rw (first h) refl
  or_else-same (no_replica, vs) b c d h first second = rw (first h) refl
  or_else-same (too_deep, vs) b c d h first second = rw (first h) refl
  or_else-same (too_wide, vs) b c d h first second = rw (first h) refl
  or_else-same (bound f, vs) b c d h first second = rw (first h) refl

  -- branches that are the same up to the first that is too deep
  abbrev SameUpTo : List Evaluated → List Evaluated → Type 0
  SameUpTo [] [] = Unit {0}
  SameUpTo [] (c ∷ cs) = ⊥
  SameUpTo (b ∷ bs) [] = ⊥
  SameUpTo (b ∷ bs) (c ∷ cs) = (c ≡ b) × (is_too_deep b.told.0 ≡ false → SameUpTo bs cs)

  abbrev SameJoint : List Evaluated → List Evaluated → Type 0
  SameJoint bs cs = (some_end is_too_deep cs ≡ some_end is_too_deep bs)
      × (joint_visits cs ≡ joint_visits bs) × (some_end is_too_deep bs ≡ false → cs ≡ bs)

  same_joint : (bs cs : List Evaluated) → SameUpTo bs cs → SameJoint bs cs
  same_joint [] [] h = (refl, refl, λ shallow. refl)
  same_joint [] (c ∷ cs) h = absurd h
  same_joint (b ∷ bs) [] h = absurd h
  same_joint (b ∷ bs) (c ∷ cs) h =
      let P : Bool → Type 0 = λ deep. (deep ≡ false → SameJoint bs cs)
      → ((deep || some_end is_too_deep cs) ≡ (deep || some_end is_too_deep bs))
      × ((b.told.1 ++ (if deep then [] else joint_visits cs))
      ≡ (b.told.1 ++ (if deep then [] else joint_visits bs)))
      × ((deep || some_end is_too_deep bs) ≡ false → b ∷ cs ≡ b ∷ bs) in
      let tail : P (is_too_deep b.told.0) =
      elim (is_too_deep b.told.0) as P [
        | true ↦ (λ rest. (refl, refl, λ shallow. cc))
        | false ↦ (λ rest. let j = rest refl in (
          j.0,
          ap (λ (vs : List Visit). b.told.1 ++ vs) j.1,
          λ shallow. ap (λ (xs : List Evaluated). b ∷ xs) (j.2 shallow),
        ))
      ] in
      let both = tail (λ shallow. same_joint bs cs (h.1 shallow)) in
      subst (λ (x : Evaluated). SameJoint (b ∷ bs) (x ∷ cs)) (sym h.0) both

  together-same : (bs cs : List Evaluated) → SameUpTo bs cs → together cs ≡ together bs
  together-same bs cs h =
      let j = same_joint bs cs h in
      let P : Bool → Type 0 = λ deep. (deep ≡ false → cs ≡ bs)
      → (if deep then too_deep else kept (found_in cs) (some_end is_failing cs)
      (some_end is_empty cs))
      ≡ (if deep then too_deep else kept (found_in bs) (some_end is_failing bs)
      (some_end is_empty bs)) in
      let ends : P (some_end is_too_deep bs) =
      elim (some_end is_too_deep bs) as P [
        | true ↦ (λ same. refl)
        | false ↦ (λ same. ap
            (λ (xs : List Evaluated). kept (found_in xs) (some_end is_failing xs)
            (some_end is_empty xs)) (same refl))
      ] in
      let joints = ap (λ (deep : Bool). if deep then too_deep else kept (found_in cs)
      (some_end is_failing cs) (some_end is_empty cs)) j.0 ∙ ends j.2 in
      told_is (together cs).0 (together bs).0 (joint_visits cs) (joint_visits bs) joints j.1

  module _ (look lookup_other : Labels → Told)
      (same : (path : Labels) → Agreed (look path).1 → lookup_other path ≡ look path) where
    mutual
      walk-same : (t : TreeValue) → Agreed (walk look t).1 → walk lookup_other t ≡ walk look t
      walk-same (leaf path) h = same path h
      walk-same neg h = refl
      walk-same fail h = refl
      walk-same empty h = refl
      walk-same (alt ts) h = walk_all-same ts h
      walk-same (union bs) h = together-same (walk_each look bs) (walk_each lookup_other bs)
          (walk_each-same bs h)

      walk_all-same : (ts : TreeValues) → Agreed (walk_all look ts).1
          → walk_all lookup_other ts ≡ walk_all look ts
      walk_all-same none h = refl
      walk_all-same (more t ts) h = or_else-same (walk look t) (walk_all look ts)
          (walk lookup_other t) (walk_all lookup_other ts) h (walk-same t) (walk_all-same ts)

      walk_each-same : (bs : Branches) → Agreed (joint_visits (walk_each look bs))
          → SameUpTo (walk_each look bs) (walk_each lookup_other bs)
      walk_each-same no_branch h = tt
      walk_each-same (branch n t bs) h =
          let P : Bool → Type 0 = λ zero_weight.
          Agreed (joint_visits (if zero_weight then walk_each look bs else record
          { weight = n; told = walk look t } ∷ walk_each look bs))
          → SameUpTo (if zero_weight then walk_each look bs else record
          { weight = n; told = walk look t } ∷ walk_each look bs)
          (if zero_weight then walk_each lookup_other bs else record
          { weight = n; told = walk lookup_other t } ∷ walk_each lookup_other bs) in
          let each : P (n == 0) =
          elim (n == 0) as P [
            | true ↦ walk_each-same bs
            | false ↦ (λ agreed.
                let rest : Bool → List Visit = λ deep. if deep then [] else joint_visits
                (walk_each look bs) in
                let head : walk lookup_other t ≡ walk look t =
                walk-same t (agreed_front (walk look t).1 (rest (is_too_deep (walk look t).0))
                agreed) in (
                  ap (λ (x : Told). let b : Evaluated = record { weight = n; told = x } in b) head,
                  λ shallow. walk_each-same bs
                      (agreed_back (walk look t).1 (joint_visits (walk_each look bs))
                      (subst (λ (deep : Bool). Agreed ((walk look t).1 ++ rest deep)) shallow
                      agreed)),
                ))
          ] in
          each h

    first_of-same : (ts : List TreeValue) → Agreed (first_of look ts).1
        → first_of lookup_other ts ≡ first_of look ts
    first_of-same [] h = refl
    first_of-same (t ∷ ts) h = or_else-same (walk look t) (first_of look ts) (walk lookup_other t)
        (first_of lookup_other ts) h (walk-same t) (first_of-same ts)

  lookup-same : (left : ℕ) (path : Labels) → Agreed (lookup rules names left path).1
      → lookup others renames left path ≡ lookup rules names left path
  unfolding lookup
  lookup-same zero path h = refl
  lookup-same (suc left) path h =
      let inner : Told = or_else (first_of (lookup rules names left) (rewrites rules path))
      (named_ending (names path), []) in
      let other : Told = or_else (first_of (lookup others renames left) (rewrites others path))
      (named_ending (renames path), []) in
      let depth = most_deep - suc left in
      let deep : Told = (too_deep, []) in
      let P : Bool → Type 0 = λ long. Agreed (if long then deep else visited depth path inner).1
      → (if long then deep else visited depth path other)
      ≡ (if long then deep else visited depth path inner) in
      let each : P (nat_lt most_path_bytes (length (canon_path path))) =
      elim (nat_lt most_path_bytes (length (canon_path path))) as P [
        | true ↦ (λ agreed. refl)
        | false ↦ (λ agreed.
            let trees : other ≡ or_else
            (first_of (lookup others renames left) (rewrites rules path))
            (named_ending (renames path), []) =
            ap (λ (ts : List TreeValue). or_else (first_of (lookup others renames left) ts)
            (named_ending (renames path), [])) (sym agreed.0.0) in
            let named : or_else (first_of (lookup others renames left) (rewrites rules path))
            (named_ending (renames path), []) ≡ or_else
            (first_of (lookup others renames left) (rewrites rules path))
            (named_ending (names path), []) =
            ap (λ o. or_else (first_of (lookup others renames left) (rewrites rules path))
            (named_ending o, [])) (sym agreed.0.1) in
            let below : or_else (first_of (lookup others renames left) (rewrites rules path))
            (named_ending (names path), []) ≡ inner =
            or_else-same (first_of (lookup rules names left) (rewrites rules path))
            (named_ending (names path), [])
            (first_of (lookup others renames left) (rewrites rules path))
            (named_ending (names path), [])
            agreed.1 (first_of-same (lookup rules names left) (lookup others renames left)
            (lookup-same left) (rewrites rules path)) (λ k. refl) in
            ap (visited depth path) (trees ∙ (named ∙ below)))
      ] in
      each h

pub is_local : IsLocal
is_local rules others names renames path h = lookup-same rules others names renames most_deep path h
