-- The lines of an address file, one after another.
use Rattle.std.proofs.Common.{◌≡◌, ℕ, ◌+◌, ◌≤◌, List, [], ◌∷◌, ◌++◌, length, drop, refl, sym, ap}
use Rattle.std.proofs.Common.{◌∙◌, arith, append_assoc, length-drop, append-nil, subst, min, Ok}
use Rattle.std.proofs.Common.{Err, Vec, Global}
use Rattle.std.specs.Prelude.{slice_range}
use Rattle.addr_book.specs.declared.addr.Weighted.{Weighted}
use Rattle.addr_book.specs.declared.file_line.FileLine.{FileLine}
use Rattle.addr_book.specs.declared.file_line.FileLine.TheVariants.{Blank, Item, Bad}
use Rattle.text_parts.specs.Lines.{lines_of}
use Rattle.addr_book.specs.FileLine.{line_value}
use Rattle.addr_book.specs.declared.addr_file.AddrFault.TheVariants.{BadLine}
use Rattle.addr_book.specs.AddrFile.{File, bad_at, addrs, with_line, file_from, file_value}
use Rattle.addr_book.specs.AddrFile.{IsLinesAnswer}

-- what a file says, behind lines with these addresses
abbrev pub behind : List Weighted → File → File
behind xs (bad_at n) = bad_at n
behind xs (addrs ys) = addrs (xs ++ ys)

behind_none : (file : File) → behind [] file ≡ file
behind_none (bad_at n) = refl
behind_none (addrs ys) = refl

behind_addr : (xs : List Weighted) (a : Weighted) (n : ℕ) (file : File)
    → behind xs (with_line n (Item a) file) ≡ behind (xs ++ a ∷ []) file
behind_addr xs a n (bad_at m) = refl
behind_addr xs a n (addrs ys) = ap addrs (sym (append_assoc xs (a ∷ []) ys))

none_left : (xs : List ℕ) → length xs ≡ 0 → xs ≡ []
none_left [] is = refl
none_left (x ∷ xs) is = absurd (omega arith)

pub begins : (text : List ℕ) (xs : List Weighted) → xs ≡ []
    → file_value text ≡ behind xs (file_from (0 + 1) (lines_of (drop 0 text)))
begins text xs e = rw e (sym (behind_none (file_value text)))

pub ends : (text : List ℕ) (xs : List Weighted) (line at : ℕ)
    → file_value text ≡ behind xs (file_from (line + 1) (lines_of (drop at text)))
    → length text ≤ at
    → file_value text ≡ addrs xs
ends text xs line at same past =
    let e : drop at text ≡ [] = none_left (drop at text) (omega (arith, length-drop at text)) in
    same ∙ (ap (λ (rest : List ℕ). behind xs (file_from (line + 1) (lines_of rest))) e
    ∙ ap addrs (append-nil xs))

module _ (text : List ℕ) (xs : List Weighted) (line at stop next : ℕ)
    (same : file_value text ≡ behind xs (file_from (line + 1) (lines_of (drop at text))))
    (cut : lines_of (drop at text) ≡ slice_range text at stop ∷ lines_of (drop next text)) where
  abbrev rest : File
  rest = file_from (line + 1 + 1) (lines_of (drop next text))

  step : (said : FileLine) → said ≡ line_value (slice_range text at stop)
      → file_value text ≡ behind xs (with_line (line + 1) said rest)
  step said is = same ∙ (ap (λ (ls : List (List ℕ)). behind xs (file_from (line + 1) ls)) cut
      ∙ ap (λ (v : FileLine). behind xs (with_line (line + 1) v rest)) (sym is))

  pub bad_line : (said : FileLine) → said ≡ Bad → said ≡ line_value (slice_range text at stop)
      → file_value text ≡ bad_at (line + 1)
  bad_line said bad is = step said is
      ∙ ap (λ (v : FileLine). behind xs (with_line (line + 1) v rest)) bad

  pub blank_line : (said : FileLine) → said ≡ Blank → said ≡ line_value (slice_range text at stop)
      → file_value text ≡ behind xs rest
  blank_line said blank is = step said is
      ∙ ap (λ (v : FileLine). behind xs (with_line (line + 1) v rest)) blank

  pub addr_line : (said : FileLine) (a : Weighted) → said ≡ Item a
      → said ≡ line_value (slice_range text at stop) → file_value text ≡ behind (xs ++ a ∷ []) rest
  addr_line said a addr is = step said is
      ∙ (ap (λ (v : FileLine). behind xs (with_line (line + 1) v rest)) addr
      ∙ behind_addr xs a (line + 1) rest)

pub bad_answer : (file : File) (n m : ℕ) → file ≡ bad_at n → m ≡ min n 4294967295
    → IsLinesAnswer file (Err (BadLine m))
bad_answer file n m is e = subst (λ (f : File). IsLinesAnswer f (Err (BadLine m))) (sym is) e

pub addrs_answer : (file : File) (v : Vec Weighted Global) → file ≡ addrs v.items
    → IsLinesAnswer file (Ok v)
addrs_answer file v is = subst (λ (f : File). IsLinesAnswer f (Ok v)) (sym is) refl
