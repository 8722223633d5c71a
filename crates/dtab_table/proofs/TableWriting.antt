-- One entry more is written.
use Rattle.std.proofs.Common.{◌≡◌, ℕ, ◌+◌, ◌<◌, List, [], ◌∷◌, ◌++◌, length, map, take, get_or, sym}
use Rattle.std.proofs.Common.{ap, ◌∙◌, append_assoc}
use Rattle.std.specs.Prelude.{codes}
use Rattle.std.proofs.lemmas.List.{take_more, map-append, append-nil}
use Rattle.dtab_table.specs.declared.entry.Entry.{Entry}
use Rattle.dtab_table.specs.Rules.{Rule, rule_of}
use Rattle.dtab_table.specs.TableCanon.{canon_rule, canon_more}

more-snoc : (rs : List Rule) (r : Rule) → canon_more (rs ++ r ∷ [])
    ≡ canon_more rs ++ (codes ";" ++ canon_rule r)
more-snoc [] r = append-nil (codes ";" ++ canon_rule r)
more-snoc (q ∷ qs) r = ap (λ x. codes ";" ++ canon_rule q ++ x) (more-snoc qs r)
    ∙ sym (append_assoc (codes ";" ++ canon_rule q) (canon_more qs) (codes ";" ++ canon_rule r))

pub entries_grown : (es : List Entry) (k : ℕ) (e : Entry) (old one two three : List ℕ)
    → k < length es → e ≡ get_or es k e
    → one ≡ old ++ canon_more (map rule_of (take k es)) → two ≡ one ++ 59 ∷ []
    → three ≡ two ++ canon_rule (rule_of e)
    → three ≡ old ++ canon_more (map rule_of (take (k + 1) es))
entries_grown es k e old one two three less at f g h =
    let step : canon_more (map rule_of (take (k + 1) es))
    ≡ canon_more (map rule_of (take k es)) ++ (codes ";" ++ canon_rule (rule_of e))
    = ap (λ xs. canon_more (map rule_of xs)) (take_more es k e less)
    ∙ (ap (λ u. canon_more (map rule_of (take k es ++ u ∷ []))) (sym at)
    ∙ (ap canon_more (map-append rule_of (take k es) (e ∷ []))
    ∙ more-snoc (map rule_of (take k es)) (rule_of e))) in
    rw (h, g, f, step) (simp append_assoc)
