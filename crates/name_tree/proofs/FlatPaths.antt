-- Paths as one list of bytes: their labels, parts of them and paths behind each other.
use Rattle.std.proofs.Common.{◌≡◌, ℕ, zero, suc, ◌+◌, ◌-◌, ◌<◌, ◌≤◌, ◌==◌, Bool, not, true, false}
use Rattle.std.proofs.Common.{IsTrue, List, [], ◌∷◌, ◌++◌, length, take, drop, get_or, Option, Some}
use Rattle.std.proofs.Common.{SomeIff, refl, sym, ap, subst, ◌∙◌, arith, length-append, length-drop}
use Rattle.std.specs.Prelude.{slice_get, ◌↔◌}
use Rattle.std.specs.Cmp.Lexicographic.{bytes_decides}
use Rattle.std.specs.Str.{bytes_eq}
use Rattle.std.proofs.lemmas.Bool.Decides.{nat_tests}
use Rattle.std.proofs.lemmas.List.{take_more_same}
use Rattle.std.proofs.lemmas.Option.{slice_get_within, get_or_from_slice_get}
use Rattle.std.proofs.lemmas.List.{take-append-drop}
use Rattle.std.proofs.lemmas.List.{take_all, take-append-le, drop-append-le, length-take}
use Rattle.std.proofs.lemmas.List.{length-take-le, take-take, drop-take, drop-drop}
use Rattle.std.specs.List.{concat}
use Rattle.name_tree.specs.Path.{Label, Labels}
use Rattle.name_tree.specs.FlatPath.{labels_in, AreCut, start_at, moved}

pub length-labels : (from : ℕ) (es bs : List ℕ) → length (labels_in from es bs) ≡ length es
length-labels from [] bs = refl
length-labels from (e ∷ es) bs = ap (λ (n : ℕ). suc n) (length-labels e es (drop (e - from) bs))

pub labels_long : (es bs : List ℕ) (ls : Labels) → labels_in 0 es bs ≡ ls → length ls ≡ length es
labels_long es bs ls view = ap length (sym view) ∙ length-labels 0 es bs

-- ---- where labels begin and end
pub start_first : (from : ℕ) (es : List ℕ) (at : ℕ) → at < length es
    → start_at from es (at + 1) ≡ get_or es at 0
start_first from [] at within = absurd (omega arith)
start_first from (e ∷ es) zero within = refl
start_first from (e ∷ es) (suc at) within = let next : suc at + 1 ≡ suc (at + 1) = omega arith in
    rw next (start_first e es at (omega arith))

start_above : (from : ℕ) (es bs : List ℕ) (at : ℕ) → AreCut from es bs → from ≤ start_at from es at
start_above from es bs zero cut = omega arith
start_above from [] bs (suc at) cut = omega arith
start_above from (e ∷ es) bs (suc at) cut =
    omega (arith, cut.0, start_above e es (drop (e - from) bs) at cut.2)

start_within : (from : ℕ) (es bs : List ℕ) (at : ℕ) → AreCut from es bs
    → start_at from es at - from ≤ length bs
start_within from es bs zero cut = omega arith
start_within from [] bs (suc at) cut = omega arith
start_within from (e ∷ es) bs (suc at) cut =
    omega (
      arith,
      cut.0,
      cut.1,
      start_within e es (drop (e - from) bs) at cut.2,
      start_above e es (drop (e - from) bs) at cut.2,
      length-drop (e - from) bs,
    )

start_later : (from : ℕ) (es bs : List ℕ) (at more : ℕ) → AreCut from es bs
    → start_at from es at ≤ start_at from es (at + more)
start_later from es bs zero more cut = let same : 0 + more ≡ more = omega arith in
    rw same (start_above from es bs more cut)
start_later from [] bs (suc at) more cut = let next : suc at + more ≡ suc (at + more) =
    omega arith in rw next (omega arith)
start_later from (e ∷ es) bs (suc at) more cut = let next : suc at + more ≡ suc (at + more) =
    omega arith in rw next (start_later e es (drop (e - from) bs) at more cut.2)

pub start_last : (from : ℕ) (es bs : List ℕ) → AreCut from es bs
    → start_at from es (length es) ≡ from + length bs
start_last from [] bs cut = omega (arith, ap length cut)
start_last from (e ∷ es) bs cut = start_last e es (drop (e - from) bs) cut.2
    ∙ (let all : e + length (drop (e - from) bs) ≡ from + length bs =
    omega (arith, cut.0, cut.1, length-drop (e - from) bs) in all)

-- where a label begins is where the one before it ends
pub start_before : (es : List ℕ) (at : ℕ) → 0 < at → at ≤ length es
    → get_or es (at - 1) 0 ≡ start_at 0 es at
start_before es at some within =
    let next : (at - 1) + 1 ≡ at = omega arith in
    sym (start_first 0 es (at - 1) (omega arith)) ∙ ap (start_at 0 es) next

-- the places of a label, and its bytes
pub record IsLabel (es bs : List ℕ) (at start end : ℕ) : Type 0 where
  pub order : start ≤ end
  pub within : end ≤ length bs
  pub label : slice_get (labels_in 0 es bs) at ≡ Some (take (end - start) (drop start bs))

label_from : (from : ℕ) (es bs : List ℕ) (at : ℕ) → AreCut from es bs → at < length es
    → slice_get (labels_in from es bs) at
    ≡ Some (take (start_at from es (at + 1) - start_at from es at)
    (drop (start_at from es at - from) bs))
label_from from [] bs at cut within = absurd (omega arith)
label_from from (e ∷ es) bs zero cut within = let none : from - from ≡ 0 = omega arith in
    rw none refl
label_from from (e ∷ es) bs (suc at) cut within =
    let next : suc at + 1 ≡ suc (at + 1) = omega arith in
    let above = start_above e es (drop (e - from) bs) at cut.2 in
    let gap : start_at e es at - from ≡ (e - from) + (start_at e es at - e) =
    omega (arith, cut.0, above) in
    let apart : drop (start_at e es at - e) (drop (e - from) bs)
    ≡ drop (start_at e es at - from) bs = drop-drop (start_at e es at - e) (e - from) bs
    ∙ ap (λ (n : ℕ). drop n bs) (sym gap) in
    rw (next, ← apart) (label_from e es (drop (e - from) bs) at cut.2 (omega arith))

pub label_is : (es bs : List ℕ) (at start end : ℕ) → AreCut 0 es bs → at < length es
    → start ≡ start_at 0 es at → end ≡ get_or es at 0 → IsLabel es bs at start end
label_is es bs at start end cut within start_is end_is =
    let end_at : end ≡ start_at 0 es (at + 1) = end_is ∙ sym (start_first 0 es at within) in
    let none : start_at 0 es at - 0 ≡ start_at 0 es at = omega arith in
    record {
      order = omega (arith, start_is, end_at, start_later 0 es bs at 1 cut);
      within = omega (arith, end_at, start_within 0 es bs (at + 1) cut);
      label = rw (start_is, end_at) (rw none at (label_from 0 es bs at cut within));
    }

-- ---- a label behind the others
drop_whole : (n : ℕ) (l : List ℕ) → length l ≤ n → drop n l ≡ []
drop_whole zero [] long = refl
drop_whole zero (x ∷ l) long = absurd (omega arith)
drop_whole (suc n) [] long = refl
drop_whole (suc n) (x ∷ l) long = drop_whole n l (omega arith)

pub labels-push : (from : ℕ) (es bs : List ℕ) (l : Label) (end : ℕ) → AreCut from es bs
    → 0 < length l → end ≡ from + length bs + length l
    → labels_in from (es ++ end ∷ []) (bs ++ l) ≡ labels_in from es bs ++ l ∷ []
labels-push from [] bs l end cut some is =
    let none : length bs ≡ 0 = ap length cut in
    let all : end - from ≡ length l = omega (arith, is, none) in
    rw (cut, all) (ap (λ (x : Label). x ∷ []) (take_all (length l) l (omega arith)))
labels-push from (e ∷ es) bs l end cut some is =
    rw (take-append-le (e - from) bs l cut.1, drop-append-le (e - from) bs l cut.1)
    (ap (λ (ls : Labels). take (e - from) bs ∷ ls)
    (labels-push e es (drop (e - from) bs) l end cut.2 some
    (omega (arith, is, cut.0, cut.1, length-drop (e - from) bs))))

pub cut-push : (from : ℕ) (es bs : List ℕ) (l : Label) (end : ℕ) → AreCut from es bs → 0 < length l
    → end ≡ from + length bs + length l → AreCut from (es ++ end ∷ []) (bs ++ l)
cut-push from [] bs l end cut some is =
    let none : length bs ≡ 0 = ap length cut in
    let all : end - from ≡ length l = omega (arith, is, none) in
    rw (cut, all) (
      omega (arith, is, some, none),
      omega arith,
      drop_whole (length l) l (omega arith),
    )
cut-push from (e ∷ es) bs l end cut some is = (
  cut.0,
  omega (arith, cut.1, length-append bs l),
  rw (drop-append-le (e - from) bs l cut.1)
      (cut-push e es (drop (e - from) bs) l end cut.2 some
      (omega (arith, is, cut.0, cut.1, length-drop (e - from) bs))),
)

-- ---- parts
start-drop : (from : ℕ) (es : List ℕ) (k n : ℕ) → k ≤ length es
    → start_at (start_at from es k) (drop k es) n ≡ start_at from es (k + n)
start-drop from es zero n within = let same : 0 + n ≡ n = omega arith in rw same refl
start-drop from [] (suc k) n within = absurd (omega arith)
start-drop from (e ∷ es) (suc k) n within = let next : suc k + n ≡ suc (k + n) = omega arith in
    rw next (start-drop e es k n (omega arith))

pub labels-drop : (from : ℕ) (es bs : List ℕ) (k : ℕ) → AreCut from es bs → k ≤ length es
    → (labels_in (start_at from es k) (drop k es) (drop (start_at from es k - from) bs)
    ≡ drop k (labels_in from es bs)) × AreCut (start_at from es k) (drop k es)
    (drop (start_at from es k - from) bs)
labels-drop from es bs zero cut within = let none : from - from ≡ 0 = omega arith in
    rw none (refl, cut)
labels-drop from [] bs (suc k) cut within = absurd (omega arith)
labels-drop from (e ∷ es) bs (suc k) cut within =
    let gap : start_at e es k - from ≡ (e - from) + (start_at e es k - e) =
    omega (arith, cut.0, start_above e es (drop (e - from) bs) k cut.2) in
    let apart : drop (start_at e es k - e) (drop (e - from) bs)
    ≡ drop (start_at e es k - from) bs = drop-drop (start_at e es k - e) (e - from) bs
    ∙ ap (λ (n : ℕ). drop n bs) (sym gap) in
    rw (← apart) (labels-drop e es (drop (e - from) bs) k cut.2 (omega arith))

pub labels-take : (from : ℕ) (es bs : List ℕ) (k : ℕ) → AreCut from es bs → k ≤ length es
    → (labels_in from (take k es) (take (start_at from es k - from) bs)
    ≡ take k (labels_in from es bs)) × AreCut from (take k es) (take (start_at from es k - from) bs)
labels-take from es bs zero cut within = let none : from - from ≡ 0 = omega arith in
    rw none (refl, refl)
labels-take from [] bs (suc k) cut within = absurd (omega arith)
labels-take from (e ∷ es) bs (suc k) cut within =
    let rest = drop (e - from) bs in
    let above = start_above e es rest k cut.2 in
    let gap : start_at e es k - from ≡ (e - from) + (start_at e es k - e) =
    omega (arith, cut.0, above) in
    let first : take (e - from) (take (start_at e es k - from) bs) ≡ take (e - from) bs =
    take-take (e - from) (start_at e es k - from) bs (omega (arith, gap)) in
    let last : drop (e - from) (take (start_at e es k - from) bs)
    ≡ take (start_at e es k - e) rest =
    ap (λ (n : ℕ). drop (e - from) (take n bs)) gap
    ∙ drop-take (e - from) (start_at e es k - e) bs in
    let tail = labels-take e es rest k cut.2 (omega arith) in
    rw (first, last) (
      ap (λ (ls : Labels). take (e - from) bs ∷ ls) tail.0,
      (cut.0, omega (arith, length-take (start_at e es k - from) bs, cut.1, gap), tail.1),
    )

-- ---- labels that are moved
pub labels-moved : (from old new : ℕ) (es bs : List ℕ) → old ≤ from → AreCut from es bs
    → (labels_in (from - old + new) (moved old new es) bs ≡ labels_in from es bs)
    × AreCut (from - old + new) (moved old new es) bs
labels-moved from old new [] bs within cut = (refl, cut)
labels-moved from old new (e ∷ es) bs within cut =
    let same : (e - old + new) - (from - old + new) ≡ e - from = omega (arith, within, cut.0) in
    let rest = labels-moved e old new es (drop (e - from) bs)
    (omega (arith, within, cut.0)) cut.2 in
    rw same (
      ap (λ (ls : Labels). take (e - from) bs ∷ ls) rest.0,
      (omega (arith, within, cut.0), cut.1, rest.1),
    )

-- the labels from one place to before another, where they stand
part_at : (es bs : List ℕ) (from to : ℕ) → AreCut 0 es bs → from ≤ to → to ≤ length es
    → (labels_in (start_at 0 es from) (take (to - from) (drop from es))
    (take (start_at 0 es to - start_at 0 es from) (drop (start_at 0 es from) bs))
    ≡ take (to - from) (drop from (labels_in 0 es bs)))
    × AreCut (start_at 0 es from) (take (to - from) (drop from es))
    (take (start_at 0 es to - start_at 0 es from) (drop (start_at 0 es from) bs))
part_at es bs from to cut order within =
    let tail = labels-drop 0 es bs from cut (omega (arith, order, within)) in
    let here : start_at 0 es from - 0 ≡ start_at 0 es from = omega arith in
    let tail_cut : AreCut (start_at 0 es from) (drop from es) (drop (start_at 0 es from) bs) =
    rw here at tail.1 in
    let tail_is : labels_in (start_at 0 es from) (drop from es) (drop (start_at 0 es from) bs)
    ≡ drop from (labels_in 0 es bs) = rw here at tail.0 in
    let front = labels-take (start_at 0 es from) (drop from es) (drop (start_at 0 es from) bs)
    (to - from) tail_cut (omega (arith, order, within, length-drop from es)) in
    let last : start_at (start_at 0 es from) (drop from es) (to - from) ≡ start_at 0 es to =
    start-drop 0 es from (to - from) (omega (arith, order, within))
    ∙ ap (start_at 0 es) (let all : from + (to - from) ≡ to = omega (arith, order) in all) in
    let front_is = rw last at front.0 in
    let front_cut = rw last at front.1 in
    (front_is ∙ ap (take (to - from)) tail_is, front_cut)

-- ---- one path behind another
pub labels-append : (from : ℕ) (es ds bs cs : List ℕ) → AreCut from es bs
    → AreCut (from + length bs) ds cs
    → (labels_in from (es ++ ds) (bs ++ cs) ≡ labels_in from es bs
    ++ labels_in (from + length bs) ds cs) × AreCut from (es ++ ds) (bs ++ cs)
labels-append from [] ds bs cs cut behind =
    let none : from + length bs ≡ from = omega (arith, ap length cut) in
    rw (none, cut) (refl, rw none at behind)
labels-append from (e ∷ es) ds bs cs cut behind =
    let base : from + length bs ≡ e + length (drop (e - from) bs) =
    omega (arith, cut.0, cut.1, length-drop (e - from) bs) in
    let rest = labels-append e es ds (drop (e - from) bs) cs cut.2 (rw base at behind) in
    rw (take-append-le (e - from) bs cs cut.1, drop-append-le (e - from) bs cs cut.1, base) (
      ap (λ (ls : Labels). take (e - from) bs ∷ ls) rest.0,
      (cut.0, omega (arith, cut.1, length-append bs cs), rest.1),
    )

-- ---- the labels say all
bytes_are : (from : ℕ) (es bs : List ℕ) → AreCut from es bs → concat (labels_in from es bs) ≡ bs
bytes_are from [] bs cut = sym cut
bytes_are from (e ∷ es) bs cut = ap (λ (xs : List ℕ). take (e - from) bs ++ xs)
    (bytes_are e es (drop (e - from) bs) cut.2) ∙ take-append-drop (e - from) bs

-- ---- a label behind the others, and one path behind another, as the code makes them
pub label_put : (es bs : List ℕ) (ls : Labels) (l : Label) (start end : ℕ) → AreCut 0 es bs
    → labels_in 0 es bs ≡ ls → start ≡ start_at 0 es (length es) → end ≡ start + length l
    → 0 < length l
    → (labels_in 0 (es ++ end ∷ []) (bs ++ l) ≡ ls ++ l ∷ []) × AreCut 0 (es ++ end ∷ []) (bs ++ l)
label_put es bs ls l start end cut view start_is end_is some =
    let all : end ≡ 0 + length bs + length l =
    omega (arith, start_is, end_is, start_last 0 es bs cut) in (
      labels-push 0 es bs l end cut some all ∙ ap (λ (xs : Labels). xs ++ l ∷ []) view,
      cut-push 0 es bs l end cut some all,
    )

-- the labels from one place to before another of other ones behind these
pub part_put : (es bs ds cs : List ℕ) (ls others : Labels) (from to base start end : ℕ)
    → AreCut 0 es bs → AreCut 0 ds cs → labels_in 0 es bs ≡ ls → labels_in 0 ds cs ≡ others
    → from ≤ to → to ≤ length others → base ≡ start_at 0 es (length es)
    → start ≡ start_at 0 ds from → end ≡ start_at 0 ds to → (new_ends new_bytes : List ℕ)
    → new_ends ≡ es ++ moved start base (take (to - from) (drop from ds))
    → new_bytes ≡ bs ++ take (end - start) (drop start cs)
    → (labels_in 0 new_ends new_bytes ≡ ls ++ take (to - from) (drop from others))
    × AreCut 0 new_ends new_bytes
part_put es bs ds cs ls others from to base start end cut other view behind order within base_is
    start_is end_is new_ends new_bytes ends_are_these bytes_are_these =
    let inside : to ≤ length ds = omega (arith, within, labels_long ds cs others behind) in
    let part = part_at ds cs from to other order inside in
    let part_ends = take (to - from) (drop from ds) in
    let part_bytes = take (start_at 0 ds to - start_at 0 ds from) (drop (start_at 0 ds from) cs) in
    let shifted = labels-moved (start_at 0 ds from) (start_at 0 ds from) base part_ends part_bytes
    (omega arith) part.1 in
    let zeroed : start_at 0 ds from - start_at 0 ds from + base ≡ 0 + length bs =
    omega (arith, base_is, start_last 0 es bs cut) in
    let same : labels_in (0 + length bs) (moved (start_at 0 ds from) base part_ends) part_bytes
    ≡ labels_in (start_at 0 ds from) part_ends part_bytes = rw zeroed at shifted.0 in
    let all = labels-append 0 es (moved (start_at 0 ds from) base part_ends) bs part_bytes cut
    (rw zeroed at shifted.1) in
    rw (ends_are_these, bytes_are_these, start_is, end_is) (
      all.0 ∙ (λ i. view i
          ++ ((same ∙ (part.0 ∙ ap (λ (xs : Labels). take (to - from) (drop from xs)) behind)) i)),
      all.1,
    )

-- ---- the same of a path, whose labels contracts see
pub label_pushed : (es bs new_ends new_bytes : List ℕ) (ls : Labels) (l : Label) (start end : ℕ)
    → AreCut 0 es bs → labels_in 0 es bs ≡ ls → start ≡ start_at 0 es (length es)
    → end ≡ start + length l → 0 < length l
    → new_ends ≡ es ++ end ∷ [] → new_bytes ≡ bs ++ l
    → (labels_in 0 new_ends new_bytes ≡ ls ++ l ∷ []) × AreCut 0 new_ends new_bytes
label_pushed es bs new_ends new_bytes ls l start end cut view start_is end_is some ends_are_these
    bytes_are_these = rw (ends_are_these, bytes_are_these)
    (label_put es bs ls l start end cut view start_is end_is some)

-- a label that was put behind the others, and taken away again
pub label_kept : (es bs new_ends new_bytes : List ℕ) (ls : Labels) (l : Label) (start : ℕ)
    → AreCut 0 es bs → labels_in 0 es bs ≡ ls → start ≡ start_at 0 es (length es) → new_ends ≡ es
    → new_bytes ≡ take start (bs ++ l)
    → (labels_in 0 new_ends new_bytes ≡ ls) × AreCut 0 new_ends new_bytes
label_kept es bs new_ends new_bytes ls l start cut view start_is ends_are_these bytes_are_these =
    let last : start ≡ length bs = omega (arith, start_is, start_last 0 es bs cut) in
    let all : new_bytes ≡ bs = bytes_are_these
    ∙ (take-append-le start bs l (omega (arith, last)) ∙ take_all start bs (omega (arith, last))) in
    rw (ends_are_these, all) (view, cut)

pub moved_more : (old new : ℕ) (es : List ℕ) (k : ℕ) → k < length es
    → moved old new (take (k + 1) es) ≡ moved old new (take k es) ++ (get_or es k 0 - old + new)
    ∷ []
moved_more old new [] k within = absurd (omega arith)
moved_more old new (e ∷ es) zero within = refl
moved_more old new (e ∷ es) (suc k) within =
    let next : suc k + 1 ≡ suc (k + 1) = omega arith in
    rw next (ap (λ (xs : List ℕ). (e - old + new) ∷ xs) (moved_more old new es k (omega arith)))

-- ---- paths label by label
pub empty_is : (ls : Labels) (n : ℕ) → n ≡ length ls → IsTrue (n == 0) ↔ (ls ≡ [])
empty_is [] n long = (λ h. refl, λ none. ap (λ (k : ℕ). k == 0) long)
empty_is (l ∷ ls) n long = (
  λ h. absurd (let zero_is : n ≡ 0 = let is : (n == 0) ≡ true = h in grind (arith, nat_tests) in
      omega (arith, long, zero_is)),
  λ none. absurd (cc),
)

is_told : (told : Bool) → false ≡ not told → told ≡ true
is_told true is = refl
is_told false is = absurd (cc)

pub same_more : (xs ys : Labels) (k : ℕ) (l m : Label) → take k xs ≡ take k ys
    → slice_get xs k ≡ Some l → slice_get ys k ≡ Some m → false ≡ not (bytes_eq l m)
    → take (k + 1) xs ≡ take (k + 1) ys
same_more xs ys k l m same first second is =
    take_more_same xs ys k [] (slice_get_within xs k l first) (slice_get_within ys k m second) same
    (get_or_from_slice_get xs k l [] first
    ∙ ((bytes_decides l m).0 (is_told (bytes_eq l m) is)
    ∙ sym (get_or_from_slice_get ys k m [] second)))

-- the bytes of a part, between its places
pub record ArePlaces (ls : Labels) (bytes : List ℕ) (from to start end : ℕ) : Type 0 where
  pub order : start ≤ end
  pub within : end ≤ length bytes
  pub count : length (concat (take (to - from) (drop from ls))) ≡ end - start

pub part_places : (es bs : List ℕ) (ls : Labels) (from to start end : ℕ) → AreCut 0 es bs
    → labels_in 0 es bs ≡ ls → from ≤ to → to ≤ length ls → start ≡ start_at 0 es from
    → end ≡ start_at 0 es to
    → ArePlaces ls bs from to start end
part_places es bs ls from to start end cut view order within start_is end_is =
    let whole : from + (to - from) ≡ to = omega (arith, order) in
    let later : start_at 0 es from ≤ start_at 0 es to =
    rw whole at (start_later 0 es bs from (to - from) cut) in
    let inside : start_at 0 es to ≤ length bs = omega (arith, start_within 0 es bs to cut) in
    let part = part_at es bs from to cut order (omega (arith, within, labels_long es bs ls view)) in
    let part_ends = take (to - from) (drop from es) in
    let part_bytes = take (start_at 0 es to - start_at 0 es from) (drop (start_at 0 es from) bs) in
    let bytes : concat (take (to - from) (drop from ls)) ≡ part_bytes =
    ap (λ (xs : Labels). concat (take (to - from) (drop from xs))) (sym view)
    ∙ (ap concat (sym part.0) ∙ bytes_are (start_at 0 es from) part_ends part_bytes part.1) in
    let long : length part_bytes ≡ start_at 0 es to - start_at 0 es from =
    length-take-le (start_at 0 es to - start_at 0 es from) (drop (start_at 0 es from) bs)
    (omega (arith, later, inside, length-drop (start_at 0 es from) bs)) in
    record {
      order = omega (arith, start_is, end_is, later);
      within = omega (arith, end_is, inside);
      count = ap length bytes ∙ (long ∙ (λ i. sym end_is i - sym start_is i));
    }

-- a sum that was found to fit
pub sum_is : (sum : Option ℕ) (x v : ℕ) (fits : Type 0) → SomeIff sum fits v → sum ≡ Some x → x ≡ v
sum_is sum x v fits told found =
    let P : Option ℕ → Type 0 = λ o. SomeIff o fits v in
    let both : SomeIff (Some x) fits v = subst P found told in
    both.1
