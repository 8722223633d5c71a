-- What a recorder is behind exchanges.
use Rattle.std.proofs.Common.{◌≡◌, List, [], ◌∷◌, ◌++◌, refl, subst, sym}
use Rattle.exchange_record.specs.Told.{Records, Told}

module _ {S : Type 0} (begins : S → S → Type 0) (ends : S → Told → S → Type 0) where
  -- of some exchanges, and then of further ones
  pub records_on : (a b c : S) (ts us : List Told) → Records begins ends a ts b
      → Records begins ends b us c → Records begins ends a (ts ++ us) c
  records_on a b c [] us same more = subst (λ (s : S). Records begins ends s us c) same more
  records_on a b c (t ∷ ts) us (begun, ended, begins_so, ends_so, rest) more =
      (begun, ended, begins_so, ends_so, records_on ended b c ts us rest more)

  -- of one
  pub records_one : (a b c : S) (t : Told) → begins a b → ends b t c
      → Records begins ends a (t ∷ []) c
  records_one a b c t begins_so ends_so = (b, c, begins_so, ends_so, refl)
