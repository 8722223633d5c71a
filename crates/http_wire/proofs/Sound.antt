-- The fields that were read are sound.
use Rattle.std.proofs.Common.{◌≡◌, ◌<◌, ◌≤◌, ◌^◌, ℕ, Bool, true, false, List, [], ◌∷◌, length}
use Rattle.std.proofs.Common.{reverse, map, cond, sym, ap, subst, arith, Result, Ok, Err, IfOk, All}
use Rattle.std.proofs.Common.{IsTrue}
use Rattle.std.specs.Char.{is_ascii_digit, digit_value}
use Rattle.std.specs.Str.Parse.{AllDigits, digits_value}
use Rattle.std.proofs.lemmas.Bool.Decides.{nat_tests}
use Rattle.std.proofs.lemmas.Int.Digits.{digits_value-lt}
use Rattle.std.proofs.lemmas.List.Elements.{All-nil, All-cons, All-head, All-tail}
use Rattle.std.proofs.lemmas.List.Sorted.{All-permutation, IsPermutation-reverse}
use Rattle.httparse.specs.Grammar.{AllPass, IsField, IsToken, is_ows, is_value_byte, skip_ows}
use Rattle.httparse.specs.Grammar.{trim_ows, Field as Line}
use Rattle.httparse.specs.Spans.{name_and_value}
use Rattle.http_wire.specs.declared.head.Field.{Field}
use Rattle.http_wire.specs.declared.head.Head.{Head}
use Rattle.http_wire.specs.declared.head.ReplyHead.{ReplyHead}
use Rattle.http_wire.specs.declared.reading.HeadEnd.{HeadEnd}
use Rattle.http_wire.specs.Heads.{IsSoundField}
use Rattle.http_wire.specs.Parsed.{pair_of}
use Rattle.http_wire.specs.Reading.{Answers}
use Rattle.http_wire.specs.ReplyReading.{LooksReply}
use Rattle.http_wire.specs.Sound.{IsSoundHead, IsSoundReply, IsSoundTarget}

abbrev IsValue : ℕ → Type 0
IsValue b = IsTrue (is_value_byte b)

skipped : (bytes : List ℕ) → All IsValue bytes → All IsValue (skip_ows bytes)
skipped [] all = all
skipped (b ∷ bytes) all = by_test (is_ows b) (skipped bytes (All-tail IsValue b bytes all))
  where
    by_test : (t : Bool) → All IsValue (skip_ows bytes)
        → All IsValue (cond t (skip_ows bytes) (b ∷ bytes))
    by_test true later = later
    by_test false later = all

turned : (bytes : List ℕ) → All IsValue bytes → All IsValue (reverse bytes)
turned bytes all = All-permutation IsValue bytes (reverse bytes) (IsPermutation-reverse bytes) all

trimmed_values : (bytes : List ℕ) → All IsValue bytes → All IsValue (trim_ows bytes)
unfolding trim_ows
trimmed_values bytes all = turned (skip_ows (reverse (skip_ows bytes)))
    (skipped (reverse (skip_ows bytes)) (turned (skip_ows bytes) (skipped bytes all)))

pub sound_fields : (fields : List Field) (lines : List Line)
    → map pair_of fields ≡ map name_and_value lines → All IsField lines → All IsSoundField fields
sound_fields [] lines same all = All-nil IsSoundField
sound_fields (f ∷ fs) [] same all = absurd (cc)
sound_fields (f ∷ fs) (l ∷ ls) same all =
    let first : pair_of f ≡ name_and_value l = cc in
    let others : map pair_of fs ≡ map name_and_value ls = cc in
    let line = All-head IsField l ls all in
    let name : l.name ≡ f.name = sym (ap (λ (p : List ℕ × List ℕ). p.0) first) in
    let value : trim_ows l.raw ≡ f.value = sym (ap (λ (p : List ℕ × List ℕ). p.1) first) in
    All-cons IsSoundField f fs (
      subst IsToken name line.name,
      subst (AllPass is_value_byte) value
          (trimmed_values l.raw line.raw),
    )
    (sound_fields fs ls others (All-tail IsField l ls all))

-- an answer's head
pub sound_answer : (bytes kept : List ℕ) (result : Result Head HeadEnd) → Answers bytes kept result
    → IfOk result IsSoundHead
sound_answer bytes kept (Ok head) (len, begins, cut) =
    let shown = begins [] in
    let good = shown.reads.0 in
    record {
      method = subst IsToken (sym shown.is.method) good.method;
      target = subst IsSoundTarget (sym shown.is.target)
          (record { some = good.target.0; bytes = good.target.1; utf8 = good.target_text });
      version = subst (λ (v : ℕ). v ≤ 1) (sym shown.is.version) good.minor;
      fields = sound_fields head.fields shown.parts.fields shown.is.fields good.fields;
    }
sound_answer bytes kept (Err e) answers = tt

-- three digits write a number below 1,000
digits : (bytes : List ℕ) → All (λ b. IsTrue (is_ascii_digit b)) bytes → AllDigits 10 bytes
digits [] all = tt
digits (b ∷ bytes) all = (
  digit b (All-head (λ x. IsTrue (is_ascii_digit x)) b bytes all),
  digits bytes (All-tail (λ x. IsTrue (is_ascii_digit x)) b bytes all),
)
  where
    digit : (x : ℕ) → IsTrue (is_ascii_digit x) → digit_value x < 10
    digit x test = grind (arith, nat_tests)

three : (bytes : List ℕ) → length bytes ≡ 3 → All (λ b. IsTrue (is_ascii_digit b)) bytes
    → digits_value 10 bytes < 1000
three bytes long all = subst (λ (n : ℕ). digits_value 10 bytes < 10 ^ n) long
    (digits_value-lt 10 bytes (digits bytes all))

pub sound_reply : (bytes kept : List ℕ) (result : Result ReplyHead HeadEnd)
    → LooksReply bytes kept result → IfOk result IsSoundReply
sound_reply bytes kept (Ok head) (len, begins, cut) =
    let shown = begins [] in
    let good = shown.reads.0 in
    record {
      version = subst (λ (v : ℕ). v ≤ 1) (sym shown.is.version) good.minor;
      status = subst (λ (n : ℕ). n < 1000) (sym shown.is.status)
          (three shown.parts.digits good.digits.0 good.digits.1);
      reason = subst (AllPass is_value_byte) (sym shown.is.reason) good.reason;
      fields = sound_fields head.fields shown.parts.fields shown.is.fields good.fields;
    }
sound_reply bytes kept (Err e) looks = tt
