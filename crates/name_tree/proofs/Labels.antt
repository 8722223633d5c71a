-- A label is read as it is spelled, and what was read spells it.
use Rattle.std.proofs.Common.{◌≡◌, ℕ, ◌+◌, ◌*◌, List, [], ◌∷◌, ◌++◌, true, false, Some, refl, sym}
use Rattle.std.proofs.Common.{ap, subst, ◌∙◌, append_assoc}
use Rattle.std.specs.Prelude.{◌==◌, IfSome}
use Rattle.std.proofs.lemmas.Bool.{eqb-true}
use Rattle.std.proofs.lemmas.List.{append-nil}
use Rattle.std.proofs.lemmas.Option.{none-some, same_Some}
use Rattle.name_tree.specs.Path.{Label, is_plain}
use Rattle.name_tree.specs.Grammar.{hex_value, SpellsByte, plain, escape, SpellsLabel, byte, bytes}
use Rattle.name_tree.specs.Recogniser.{run}
use Rattle.name_tree.specs.LabelReading.{Spelling, next_spelling, whole_label, end_spelling}
use Rattle.name_tree.specs.LabelReading.{is_path_byte}
use Rattle.name_tree.proofs.Bytes.{plain-path, plain-slash, plain-star, hex-path, hex-slash}
use Rattle.name_tree.proofs.Bytes.{hex-star}
use Rattle.name_tree.proofs.Answered.{if_test, if_mapped}

-- from the spelling to the reading

escape_run : (i j m n : ℕ) → hex_value i ≡ Some m → hex_value j ≡ Some n
    → (l : Label) (more : List ℕ)
    → run next_spelling (Spelling.bytes l) (92 ∷ 120 ∷ i ∷ j ∷ more)
    ≡ run next_spelling (Spelling.bytes (l ++ (16 * m + n) ∷ [])) more
unfolding is_plain
escape_run i j m n p q l more = rw (p, q) refl

byte_run : {s : List ℕ} {b : ℕ} → SpellsByte s b → (l : Label) (more : List ℕ)
    → run next_spelling (Spelling.bytes l) (s ++ more)
    ≡ run next_spelling (Spelling.bytes (l ++ b ∷ [])) more
byte_run (plain h) l more = rw h refl
byte_run (escape {h = i} {l = j} {m = m} {n = n} p q) l more = escape_run i j m n p q l more

label_run : {s : List ℕ} {l : Label} → SpellsLabel s l → (m : Label) (more : List ℕ)
    → run next_spelling (Spelling.bytes m) (s ++ more)
    ≡ run next_spelling (Spelling.bytes (m ++ l)) more
label_run (byte r) m more = byte_run r m more
label_run (bytes {s = s} {t = t} {b = b} {l = l} r rs) m more =
    rw append_assoc (byte_run r m (t ++ more)
    ∙ (label_run rs (m ++ b ∷ []) more ∙ ap (λ k. run next_spelling (Spelling.bytes k) more)
    (append_assoc m (b ∷ []) l)))

pub label_read : {s : List ℕ} {l : Label} → SpellsLabel s l
    → run next_spelling (Spelling.bytes []) s ≡ Some (Spelling.bytes l)
label_read {s} {l} r = ap (run next_spelling (Spelling.bytes [])) (sym (append-nil s))
    ∙ label_run r [] []

pub label_ends : {s : List ℕ} {l : Label} → SpellsLabel s l
    → end_spelling (Spelling.bytes l) ≡ Some l
label_ends (byte r) = refl
label_ends (bytes r rs) = refl

-- the bytes that a label's spelling has

pub record InLabels (b : ℕ) : Type 0 where
  pub path : is_path_byte b ≡ true
  pub slash : (b == 47) ≡ false
  pub star : (b == 42) ≡ false

backslash_in : InLabels 92
unfolding is_plain
backslash_in = record { path = refl; slash = refl; star = refl }

letter_in : InLabels 120
unfolding is_plain
letter_in = record { path = refl; slash = refl; star = refl }

plain_in : (b : ℕ) → is_plain b ≡ true → InLabels b
plain_in b h = record { path = plain-path b h; slash = plain-slash b h; star = plain-star b h }

hex_in : (b m : ℕ) → hex_value b ≡ Some m → InLabels b
hex_in b m h = record { path = hex-path b m h; slash = hex-slash b m h; star = hex-star b m h }

pub spelling_in : (at : Spelling) (b : ℕ) → IfSome (next_spelling at b) (λ _. InLabels b)
spelling_in (Spelling.bytes l) b =
    if_test (λ _. InLabels b) (is_plain b) _ _ (λ h. plain_in b h)
    (λ _. if_test (λ _. InLabels b) (b == 92) _ _
    (λ h. subst InLabels (sym (eqb-true b 92 h)) backslash_in) (λ _. tt))
spelling_in (Spelling.escape l) b =
    if_test (λ _. InLabels b) (b == 120) _ _
    (λ h. subst InLabels (sym (eqb-true b 120 h)) letter_in) (λ _. tt)
spelling_in (Spelling.hex l) b = if_mapped (λ _. InLabels b) (λ m. Spelling.digit l m)
    (hex_value b) (λ m e. hex_in b m e)
spelling_in (Spelling.digit l m) b =
    if_mapped (λ _. InLabels b) (λ n. Spelling.bytes (l ++ (16 * m + n) ∷ [])) (hex_value b)
    (λ n e. hex_in b n e)

-- each place in a label can be completed
pub record CanEnd (at : Spelling) : Type 0 where
  pub more : List ℕ
  pub label : Label
  pub reads : run next_spelling at more ≡ Some (Spelling.bytes label)
  pub ends : whole_label label ≡ Some label

whole_behind : (l : Label) (b : ℕ) → whole_label (l ++ b ∷ []) ≡ Some (l ++ b ∷ [])
whole_behind [] b = refl
whole_behind (c ∷ cs) b = refl

pub spelling_can_end : (at : Spelling) → CanEnd at
unfolding is_plain
spelling_can_end (Spelling.bytes l) =
    record { more = 97 ∷ []; label = l ++ 97 ∷ []; reads = refl; ends = whole_behind l 97 }
spelling_can_end (Spelling.escape l) =
    record { more = 120 ∷ 48 ∷ 48 ∷ []; label = l ++ 0 ∷ []; reads = refl; ends = whole_behind l 0 }
spelling_can_end (Spelling.hex l) =
    record { more = 48 ∷ 48 ∷ []; label = l ++ 0 ∷ []; reads = refl; ends = whole_behind l 0 }
spelling_can_end (Spelling.digit l m) =
    record {
      more = 48 ∷ [];
      label = l ++ (16 * m + 0) ∷ [];
      reads = refl;
      ends =
          whole_behind l (16 * m + 0);
    }

-- from the reading to the spelling

label_snoc : {s t : List ℕ} {l : Label} {b : ℕ} → SpellsLabel s l → SpellsByte t b
    → SpellsLabel (s ++ t) (l ++ b ∷ [])
label_snoc (byte r) q = bytes r (byte q)
label_snoc (bytes r rs) q = rw append_assoc (bytes r (label_snoc rs q))

-- bytes that spell these, of which there may be none
abbrev pub Spells : Label → List ℕ → Type 0
Spells [] s = s ≡ []
Spells (b ∷ bs) s = SpellsLabel s (b ∷ bs)

-- these bytes begin the spelling of a label
record BytesFront (s : List ℕ) (l : Label) : Type 0 where
  extend : {t : List ℕ} {b : ℕ} → SpellsByte t b → SpellsLabel (s ++ t) (l ++ b ∷ [])

front_of : (l : Label) (s : List ℕ) → Spells l s → BytesFront s l
front_of [] s e = subst (λ (t : List ℕ). BytesFront t []) (sym e) (record { extend = λ q. byte q })
front_of (b ∷ bs) s r = record { extend = λ q. label_snoc r q }

spells_more : (l : Label) (b : ℕ) (s : List ℕ) → SpellsLabel s (l ++ b ∷ [])
    → Spells (l ++ b ∷ []) s
spells_more [] b s r = r
spells_more (c ∷ cs) b s r = r

-- the bytes of a label up to here
abbrev pub SpellingFront : Spelling → List ℕ → Type 0
SpellingFront (Spelling.bytes l) s = Spells l s
SpellingFront (Spelling.escape l) s = (x : List ℕ) × Spells l x × (s ≡ x ++ 92 ∷ [])
SpellingFront (Spelling.hex l) s = (x : List ℕ) × Spells l x × (s ≡ x ++ 92 ∷ 120 ∷ [])
SpellingFront (Spelling.digit l m) s = (x : List ℕ) × (h : ℕ) × Spells l x × (hex_value h ≡ Some m)
    × (s ≡ x ++ 92 ∷ 120 ∷ h ∷ [])

pub spelling_step : (at : Spelling) (s : List ℕ) → SpellingFront at s → (b : ℕ)
    → IfSome (next_spelling at b) (λ to. SpellingFront to (s ++ b ∷ []))
spelling_step (Spelling.bytes l) s f b =
    if_test (λ to. SpellingFront to (s ++ b ∷ [])) (is_plain b) _ _
    (λ h. let front = front_of l s f in spells_more l b (s ++ b ∷ []) (front.extend (plain h)))
    (λ _. if_test (λ to. SpellingFront to (s ++ b ∷ [])) (b == 92) _ _
    (λ h. (s, f, ap (λ c. s ++ c ∷ []) (eqb-true b 92 h))) (λ _. tt))
spelling_step (Spelling.escape l) s f b =
    if_test (λ to. SpellingFront to (s ++ b ∷ [])) (b == 120) _ _
    (λ h. (
      f.0,
      f.1,
      ap (λ u. u ++ b ∷ []) f.2
          ∙ (append_assoc f.0 (92 ∷ []) (b ∷ []) ∙ ap (λ c. f.0 ++ 92 ∷ c ∷ []) (eqb-true b 120 h)),
    )) (λ _. tt)
spelling_step (Spelling.hex l) s f b =
    if_mapped (λ to. SpellingFront to (s ++ b ∷ [])) (λ m. Spelling.digit l m) (hex_value b)
    (λ m e. (f.0, b, f.1, e, ap (λ u. u ++ b ∷ []) f.2 ∙ append_assoc f.0 (92 ∷ 120 ∷ []) (b ∷ [])))
spelling_step (Spelling.digit l m) s f b =
    if_mapped (λ to. SpellingFront to (s ++ b ∷ [])) (λ n. Spelling.bytes (l ++ (16 * m + n) ∷ []))
    (hex_value b)
    (λ n e.
    let whole : s ++ b ∷ [] ≡ f.0 ++ 92 ∷ 120 ∷ f.1 ∷ b ∷ [] =
    ap (λ u. u ++ b ∷ []) f.4 ∙ append_assoc f.0 (92 ∷ 120 ∷ f.1 ∷ []) (b ∷ []) in
    let front = front_of l f.0 f.2 in
    spells_more l (16 * m + n) (s ++ b ∷ [])
    (subst (λ (u : List ℕ). SpellsLabel u (l ++ (16 * m + n) ∷ [])) (sym whole)
    (front.extend (escape f.3 e))))

whole_spells : (l k : Label) (s : List ℕ) → Spells l s → whole_label l ≡ Some k → SpellsLabel s k
whole_spells [] k s r e = absurd (none-some k e)
whole_spells (b ∷ bs) k s r e = subst (λ (m : Label). SpellsLabel s m) (same_Some (b ∷ bs) k e) r

pub spelling_end : (at : Spelling) (s : List ℕ) (l : Label) → SpellingFront at s
    → end_spelling at ≡ Some l → SpellsLabel s l
spelling_end (Spelling.bytes k) s l f e = whole_spells k l s f e
spelling_end (Spelling.escape k) s l f e = absurd (none-some l e)
spelling_end (Spelling.hex k) s l f e = absurd (none-some l e)
spelling_end (Spelling.digit k m) s l f e = absurd (none-some l e)
