-- What is known of a head that was read off bytes.
use Rattle.std.proofs.Common.{◌≡◌, ℕ, ◌≤◌, List, [], ◌∷◌, ◌++◌, map, drop, sym, ap, subst, All}
use Rattle.std.proofs.Common.{IsTrue}
use Rattle.std.specs.List.{flat_map}
use Rattle.std.proofs.lemmas.List.Concat.{flat_map-cons}
use Rattle.std.proofs.lemmas.List.Elements.{All-cons, All-head, All-nil, All-tail, All-take}
use Rattle.httparse.specs.Ascii.{colon, space}
use Rattle.httparse.specs.Grammar.{print_blank, print_end, print_field, print_request}
use Rattle.httparse.specs.Grammar.{print_section, print_version, trim_ows, AllPass, IsField}
use Rattle.httparse.specs.Grammar.{IsToken, RequestHead, Field as Line}
use Rattle.httparse.specs.Spans.{name_and_value}
use Rattle.http_wire.specs.declared.head.Field.{Field}
use Rattle.http_wire.specs.declared.head.Head.{Head}
use Rattle.http_wire.specs.Heads.{most, window, BeginsWith}
use Rattle.http_wire.specs.Parsed.{pair_of}
use Rattle.http_wire.specs.Sound.{IsSoundHead, IsSoundTarget}
use Rattle.http_wire.proofs.Sound.{sound_fields}
use Rattle.proxy_session.proofs.FieldTexts.{back, both_pass, front, is_byte, trimmed_text}
use Rattle.proxy_session.proofs.FieldTexts.{IsFieldText}
use Rattle.httparse.specs.Grammar.{is_value_byte}

abbrev IsByte : ℕ → Type 0
IsByte b = IsTrue (is_byte b)

abbrev HasBytes : Line → Type 0
HasBytes line = AllPass is_byte line.raw

-- the value of a field may stand in a field as it is
abbrev pub HasText : Field → Type 0
HasText field = IsFieldText field.value

pub record IsReceived (head : Head) : Type 0 where
  pub sound : IsSoundHead head
  pub method : AllPass is_byte head.method
  pub target : AllPass is_byte head.target
  pub fields : All HasText head.fields

lines_bytes : (lines : List Line) → All IsByte (flat_map print_field lines) → All HasBytes lines
lines_bytes [] all = All-nil HasBytes
lines_bytes (l ∷ ls) all =
    let whole : All IsByte (print_field l ++ flat_map print_field ls) = subst (All IsByte)
    (flat_map-cons print_field l ls) all in
    let named : All IsByte (l.name ++ colon ∷ l.raw) =
    front IsByte (l.name ++ colon ∷ l.raw) (print_end l.end)
    (front IsByte (print_field l) (flat_map print_field ls) whole) in
    All-cons HasBytes l ls (All-tail IsByte colon l.raw (back IsByte l.name (colon ∷ l.raw) named))
    (lines_bytes ls (back IsByte (print_field l) (flat_map print_field ls) whole))

field_texts : (fields : List Field) (lines : List Line) → map pair_of fields
    ≡ map name_and_value lines → All IsField lines → All HasBytes lines → All HasText fields
field_texts [] lines same all bytes = All-nil HasText
field_texts (f ∷ fs) [] same all bytes = absurd (cc)
field_texts (f ∷ fs) (l ∷ ls) same all bytes =
    let first : pair_of f ≡ name_and_value l = cc in
    let others : map pair_of fs ≡ map name_and_value ls = cc in
    let value : trim_ows l.raw ≡ f.value = sym (ap (λ (p : List ℕ × List ℕ). p.1) first) in
    let text = both_pass is_value_byte is_byte l.raw (All-head IsField l ls all).raw
    (All-head HasBytes l ls bytes) in
    All-cons HasText f fs (subst IsFieldText value (trimmed_text l.raw text))
    (field_texts fs ls others (All-tail IsField l ls all) (All-tail HasBytes l ls bytes))

-- the parts of a head of bytes
record HavePartsBytes (parts : RequestHead) : Type 0 where
  method : AllPass is_byte parts.method
  target : AllPass is_byte parts.target
  lines : All HasBytes parts.fields

printed : (h : RequestHead) → All IsByte (print_request h) → HavePartsBytes h
unfolding print_request
printed h all =
    let section = print_section h.fields h.last in
    let asked = print_blank h.blank ++ h.method in
    let aimed = asked ++ space ∷ h.target in
    let versioned = aimed ++ space ∷ print_version h.minor in
    let line = versioned ++ print_end h.line_end in
    let of_line : All IsByte line = front IsByte line section all in
    let of_aimed : All IsByte aimed = front IsByte aimed (space ∷ print_version h.minor)
    (front IsByte versioned (print_end h.line_end) of_line) in
    let of_asked : All IsByte asked = front IsByte asked (space ∷ h.target) of_aimed in
    record {
      method = back IsByte (print_blank h.blank) h.method of_asked;
      target = All-tail IsByte space h.target (back IsByte asked (space ∷ h.target) of_aimed);
      lines =
          lines_bytes h.fields (front IsByte (flat_map print_field h.fields) (print_end h.last)
          (back IsByte line section all));
    }

pub received : (bytes : List ℕ) (head : Head) (len : ℕ) → AllPass is_byte bytes
    → BeginsWith bytes head len → IsReceived head
unfolding window
received bytes head len all begins =
    let good = begins.reads.0 in
    let parts = begins.parts in
    let whole : All IsByte (print_request parts ++ drop len (window bytes)) = subst (All IsByte)
    begins.reads.1 (All-take IsByte most bytes all) in
    let own = printed parts (front IsByte (print_request parts) (drop len (window bytes)) whole) in
    record {
      sound = record {
        method = subst IsToken (sym begins.is.method) good.method;
        target = subst IsSoundTarget (sym begins.is.target) (record {
          some = good.target.0;
          bytes = good.target.1;
          utf8 = good.target_text;
        });
        version = subst (λ (v : ℕ). v ≤ 1) (sym begins.is.version) good.minor;
        fields = sound_fields head.fields parts.fields begins.is.fields good.fields;
      };
      method = subst (AllPass is_byte) (sym begins.is.method) own.method;
      target = subst (AllPass is_byte) (sym begins.is.target) own.target;
      fields = field_texts head.fields parts.fields begins.is.fields good.fields own.lines;
    }
