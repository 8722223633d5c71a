-- Lists that go together.
use Rattle.std.proofs.Common.{◌≡◌, ℕ, zero, suc, ◌+◌, ◌||◌, Bool, true, false, List, [], ◌∷◌, ◌++◌}
use Rattle.std.proofs.Common.{append_assoc, append-nil, length, length-append, map, refl, sym, ap}
use Rattle.std.proofs.Common.{subst, ◌∙◌, arith}
use Rattle.std.specs.List.{AllZip, list_any}
use Rattle.serving.specs.Posts.{Post, posts_at}

-- one more at the end of both
pub zip_push : {A B : Type 0} (R : A → B → Type 0) (xs : List A) (ys : List B) (x : A) (y : B)
    → AllZip R xs ys → R x y → AllZip R (xs ++ x ∷ []) (ys ++ y ∷ [])
zip_push R [] [] x y all one = (one, tt)
zip_push R [] (b ∷ ys) x y all one = absurd all
zip_push R (a ∷ xs) [] x y all one = absurd all
zip_push R (a ∷ xs) (b ∷ ys) x y all one = (all.0, zip_push R xs ys x y all.1 one)

pub zip_count : {A B : Type 0} (R : A → B → Type 0) (xs : List A) (ys : List B) → AllZip R xs ys
    → length ys ≡ length xs
zip_count R [] [] all = refl
zip_count R [] (b ∷ ys) all = absurd all
zip_count R (a ∷ xs) [] all = absurd all
zip_count R (a ∷ xs) (b ∷ ys) all = ap suc (zip_count R xs ys all.1)

module _ {A : Type 0} (R : Post → A → Type 0) (post : ℕ → Post) where
  -- before the first post at an address
  pub none_posted : (ps : List Post) (js : List A) → AllZip R ps js
      → AllZip R (ps ++ posts_at post 0) js
  none_posted ps js all = subst (λ (qs : List Post). AllZip R qs js) (nil_behind ps) all
    where
      nil_behind : (qs : List Post) → qs ≡ qs ++ []
      nil_behind [] = refl
      nil_behind (q ∷ qs) = ap (λ (rs : List Post). q ∷ rs) (nil_behind qs)

  -- and the next one
  pub one_posted : (n m : ℕ) (ps : List Post) (old new : List A) (j : A) → m ≡ n + 1
      → new ≡ old ++ j ∷ [] → AllZip R (ps ++ posts_at post n) old → R (post n) j
      → AllZip R (ps ++ posts_at post m) new
  one_posted n m ps old new j next grown all one =
      let e : m ≡ suc n = omega (arith, next) in
      let pushed = zip_push R (ps ++ posts_at post n) old (post n) j all one in
      let same : (ps ++ posts_at post n) ++ post n ∷ [] ≡ ps ++ posts_at post m =
      append_assoc ps (posts_at post n) (post n ∷ [])
      ∙ ap (λ (k : ℕ). ps ++ posts_at post k) (sym e) in
      subst (λ (js : List A). AllZip R (ps ++ posts_at post m) js) (sym grown)
      (subst (λ (qs : List Post). AllZip R qs (old ++ j ∷ [])) same pushed)

pub posts_count : (post : ℕ → Post) (n : ℕ) → length (posts_at post n) ≡ n
posts_count post zero = refl
posts_count post (suc n) = let e = length-append (posts_at post n) (post n ∷ []) in
    let h = posts_count post n in omega (arith, e, h)

-- what a loop moves over, one at a time
pub moved : {A B : Type 0} (f : A → B) (new old all : List B) (x : A) (rest whole : List A)
    → new ≡ old ++ f x ∷ [] → whole ≡ x ∷ rest → old ++ map f whole ≡ all → new ++ map f rest ≡ all
moved f new old all x rest whole grown cut same =
    ap (λ (ys : List _). ys ++ map f rest) grown
    ∙ (append_assoc old (f x ∷ []) (map f rest) ∙ (ap (λ xs. old ++ map f xs) (sym cut) ∙ same))

-- nothing is left to move
pub all_moved : {A B : Type 0} (f : A → B) (new all : List B) (left : List A) → length left ≡ 0
    → new ++ map f left ≡ all → new ≡ all
all_moved f new all [] none same = nil_behind new ∙ same
  where
    nil_behind : {C : Type 0} (ys : List C) → ys ≡ ys ++ []
    nil_behind [] = refl
    nil_behind (y ∷ ys) = ap (λ (zs : List _). y ∷ zs) (nil_behind ys)
all_moved f new all (x ∷ left) none same = absurd (omega (arith, none))

pub or_assoc : (a b c : Bool) → ((a || b) || c) ≡ (a || (b || c))
or_assoc true b c = refl
or_assoc false b c = refl

-- whether one of them is such
pub any_moved : {A : Type 0} (f : A → Bool) (new old all : Bool) (x : A) (rest whole : List A)
    → new ≡ (old || f x) → whole ≡ x ∷ rest → (old || list_any f whole) ≡ all
    → (new || list_any f rest) ≡ all
any_moved f new old all x rest whole is cut same =
    ap (λ (b : Bool). b || list_any f rest) is
    ∙ (or_assoc old (f x) (list_any f rest) ∙ (ap (λ xs. old || list_any f xs) (sym cut) ∙ same))

pub any_begun : {A : Type 0} (f : A → Bool) (old : Bool) (xs ys : List A) → old ≡ false → xs ≡ ys
    → (old || list_any f xs) ≡ list_any f ys
any_begun f old xs ys is same = ap (λ (b : Bool). b || list_any f xs) is ∙ ap (list_any f) same

pub map_begun : {A B : Type 0} (f : A → B) (old : List B) (xs ys : List A) → xs ≡ ys
    → old ++ map f xs ≡ old ++ map f ys
map_begun f old xs ys same = ap (λ (zs : List _). old ++ map f zs) same

pub any_done : (old all rest : Bool) → rest ≡ false → (old || rest) ≡ all → old ≡ all
any_done old all rest none same = behind old ∙ (ap (λ (b : Bool). old || b) (sym none) ∙ same)
  where
    behind : (b : Bool) → b ≡ (b || false)
    behind true = refl
    behind false = refl

pub or_left : (a b : Bool) → (a || b) ≡ false → a ≡ false
or_left true b none = none
or_left false b none = refl

pub or_right : (a b : Bool) → (a || b) ≡ false → b ≡ false
or_right true b none = cc none
or_right false b none = none

-- a list begins with the same one, whatever it is called
pub begins_with : {A : Type 0} (whole rest : List A) (x y : A) → y ≡ x → whole ≡ x ∷ rest
    → whole ≡ y ∷ rest
begins_with whole rest x y same cut = subst (λ (z : _). whole ≡ z ∷ rest) (sym same) cut

-- a pass is handed to a job
pub handed : {A B : Type 0} (f : A → B) (new old : List A) (x : A) (whole rest all : List B)
    → new ≡ old ++ x ∷ [] → whole ≡ f x ∷ rest → map f old ++ whole ≡ all → map f new ++ rest ≡ all
handed f new old x whole rest all grown cut same =
    ap (λ (ys : List _). map f ys ++ rest) grown
    ∙ (ap (λ (zs : List _). zs ++ rest) (map_push f old x)
    ∙ (append_assoc (map f old) (f x ∷ []) rest
    ∙ (ap (λ (zs : List _). map f old ++ zs) (sym cut) ∙ same)))
  where
    map_push : {A B : Type 0} (h : A → B) (xs : List A) (y : A)
        → map h (xs ++ y ∷ []) ≡ map h xs ++ h y ∷ []
    map_push h [] y = refl
    map_push h (z ∷ xs) y = ap (λ (zs : List _). h z ∷ zs) (map_push h xs y)

-- whether one was such, once none is left
pub none_left : {A : Type 0} (f : A → Bool) (old all : Bool) (left : List A) → length left ≡ 0
    → (old || list_any f left) ≡ all → old ≡ all
none_left f old all [] none same = any_done old all false refl same
none_left f old all (x ∷ left) none same = absurd (omega (arith, none))

pub any_map : {A B : Type 0} (f : A → B) (p : B → Bool) (xs : List A)
    → list_any (λ x. p (f x)) xs ≡ list_any p (map f xs)
any_map f p [] = refl
any_map f p (x ∷ xs) = ap (λ (b : Bool). p (f x) || b) (any_map f p xs)

-- what one more job has, of lists that each job has, goes behind that of those before it
pub lists_push : {A B : Type 0} (f : A → List B) (all : List A → List B) → all [] ≡ []
    → ((x : A) (xs : List A) → all (x ∷ xs) ≡ f x ++ all xs) → (xs : List A) (x : A)
    → all (xs ++ x ∷ []) ≡ all xs ++ f x
lists_push f all none one [] x =
    one x [] ∙ (ap (λ (ys : List _). f x ++ ys) none
    ∙ (append-nil (f x) ∙ ap (λ (ys : List _). ys ++ f x) (sym none)))
lists_push f all none one (y ∷ xs) x =
    one y (xs ++ x ∷ []) ∙ (ap (λ (ys : List _). f y ++ ys) (lists_push f all none one xs x)
    ∙ (sym (append_assoc (f y) (all xs) (f x))
    ∙ ap (λ (ys : List _). ys ++ f x) (sym (one y xs))))

-- one of those that are left was handed to a job
pub lists_moved : {A B : Type 0} (f : A → List B) (all : List A → List B) → all [] ≡ []
    → ((x : A) (xs : List A) → all (x ∷ xs) ≡ f x ++ all xs) → (new old : List A) (x : A) (b : B)
    → (whole rest ks : List B) → new ≡ old ++ x ∷ [] → f x ≡ b ∷ [] → whole ≡ b ∷ rest
    → all old ++ whole ≡ ks → all new ++ rest ≡ ks
lists_moved f all none one new old x b whole rest ks grown has cut same =
    ap (λ (js : List _). all js ++ rest) grown
    ∙ (ap (λ (ys : List _). ys ++ rest) (lists_push f all none one old x)
    ∙ (ap (λ (ys : List _). (all old ++ ys) ++ rest) has
    ∙ (append_assoc (all old) (b ∷ []) rest
    ∙ (ap (λ (ys : List _). all old ++ ys) (sym cut) ∙ same))))

-- a job that has none of them changes nothing
pub lists_same : {A B : Type 0} (f : A → List B) (all : List A → List B) → all [] ≡ []
    → ((x : A) (xs : List A) → all (x ∷ xs) ≡ f x ++ all xs) → (new old : List A) (x : A)
    → new ≡ old ++ x ∷ [] → f x ≡ [] → all new ≡ all old
lists_same f all none one new old x grown has =
    ap all grown ∙ (lists_push f all none one old x
    ∙ (ap (λ (ys : List _). all old ++ ys) has ∙ append-nil (all old)))

-- none of them is left
pub nothing_left : {B : Type 0} (had left ks : List B) → length left ≡ 0 → had ++ left ≡ ks
    → had ≡ ks
nothing_left had [] ks none same = sym (append-nil had) ∙ same
nothing_left had (x ∷ left) ks none same = absurd (omega (arith, none))
