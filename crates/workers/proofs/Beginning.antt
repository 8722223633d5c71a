-- Jobs that are begun one after another, and then waited for.
use Rattle.std.proofs.Common.{◌≡◌, List, [], ◌∷◌, ◌++◌, length, refl, sym, ap, ◌∙◌, subst, arith}
use Rattle.std.proofs.Common.{append_assoc, append-nil}
use Rattle.std.specs.List.{AllZip}
use Rattle.std.proofs.lemmas.Slice.Zip.{all_zipped_more}

none_in : {X : Type 0} (xs : List X) → length xs ≡ 0 → xs ≡ []
none_in [] none = refl
none_in (x ∷ xs) none = absurd (omega (arith, none))

module _ {J B K : Type 0} (is : J → B → Type 0) (comes : J → K → Type 0) (jobs : List J) where
  -- some jobs were begun, and these are left
  pub record AreBegun (begun : List B) (left : List J) : Type 0 where
    pub done : List J
    pub parts : jobs ≡ done ++ left
    pub each : AllZip is done begun

  pub none_begun : (begun : List B) (left : List J) → begun ≡ [] → left ≡ jobs → AreBegun begun left
  none_begun begun left none all = rw (none, all) (record { done = []; parts = refl; each = tt })

  pub begun_more : (begun more : List B) (b : B) (j : J) (left rest : List J) → AreBegun begun left
      → left ≡ j ∷ rest → is j b → more ≡ begun ++ b ∷ [] → AreBegun more rest
  begun_more begun more b j left rest before next here put = record {
    done = before.done ++ j ∷ [];
    parts = before.parts ∙ (ap (λ (js : List J). before.done ++ js) next
        ∙ sym (append_assoc before.done (j ∷ []) rest));
    each = rw put (all_zipped_more is before.done begun j b before.each here);
  }

  pub all_begun : (begun : List B) (left : List J) → AreBegun begun left → length left ≡ 0
      → AllZip is jobs begun
  all_begun begun left before none =
      let all : jobs ≡ before.done = before.parts
      ∙ (ap (λ (js : List J). before.done ++ js) (none_in left none) ∙ append-nil before.done) in
      subst (λ (js : List J). AllZip is js begun) (sym all) before.each

  -- some of them have come back, and these threads are left
  pub record AreBack (left : List B) (back : List K) : Type 0 where
    pub done : List J
    pub rest : List J
    pub parts : jobs ≡ done ++ rest
    pub begun : AllZip is rest left
    pub each : AllZip comes done back

  pub none_back : (begun left : List B) (back : List K) → AllZip is jobs begun → left ≡ begun
      → back ≡ [] → AreBack left back
  none_back begun left back each same none =
      rw (same, none) (record { done = []; rest = jobs; parts = refl; begun = each; each = tt })

  one_back : (b : B) (left : List B) (back : List K) (k : K) (done rest : List J)
      → jobs ≡ done ++ rest → AllZip is rest (b ∷ left) → AllZip comes done back
      → ((j : J) → is j b → comes j k)
      → AreBack left (back ++ k ∷ [])
  one_back b left back k done [] parts begun each keeps = absurd begun
  one_back b left back k done (j ∷ js) parts begun each keeps = record {
    done = done ++ j ∷ [];
    rest = js;
    parts = parts ∙ sym (append_assoc done (j ∷ []) js);
    begun = begun.1;
    each = all_zipped_more comes done back j k each (keeps j begun.0);
  }

  pub back_more : (b : B) (left rest : List B) (back more : List K) (k : K) → AreBack left back
      → left ≡ b ∷ rest → ((j : J) → is j b → comes j k) → more ≡ back ++ k ∷ [] → AreBack rest more
  back_more b left rest back more k before next keeps put =
      let begun : AllZip is before.rest (b ∷ rest) =
      subst (AllZip is before.rest) next before.begun in
      rw put (one_back b rest back k before.done before.rest before.parts begun before.each keeps)

  all_of : (back : List K) (done rest : List J) → jobs ≡ done ++ rest → AllZip is rest []
      → AllZip comes done back → AllZip comes jobs back
  all_of back done [] parts begun each =
      subst (λ (js : List J). AllZip comes js back) (sym (parts ∙ append-nil done)) each
  all_of back done (j ∷ js) parts begun each = absurd begun

  pub all_back : (left : List B) (back : List K) → AreBack left back → length left ≡ 0
      → AllZip comes jobs back
  all_back left back before none =
      let begun : AllZip is before.rest [] =
      subst (AllZip is before.rest) (none_in left none) before.begun in
      all_of back before.done before.rest before.parts begun before.each
