-- The lines of the text format (Prometheus, text format 0.0.4).
use Rattle.std.specs.Prelude.{ℕ, ◌==◌, if◌then◌else◌, List, [], ◌∷◌, ◌++◌, codes}
use Rattle.std.specs.Fmt.{decimal}
use Rattle.std.specs.List.{flat_map}
use Rattle.metrics_text.specs.declared.format.Kind.{Kind}
use Rattle.metrics_text.specs.declared.format.Kind.TheVariants.{Counter, Gauge, Histogram}

abbrev pub kind_text : Kind → List ℕ
kind_text Counter = codes "counter"
kind_text Gauge = codes "gauge"
kind_text Histogram = codes "histogram"

-- a line that says something of a metric, behind a mark
abbrev pub comment_line : List ℕ → List ℕ → List ℕ → List ℕ
comment_line mark name text = mark ++ name ++ codes " " ++ text ++ codes "\n"

-- what a metric is, and its type
unfoldable pub head_lines : List ℕ → Kind → List ℕ → List ℕ
head_lines name kind help =
    codes "# HELP " ++ name ++ codes " " ++ help ++ codes "\n# TYPE " ++ name ++ codes " "
    ++ kind_text kind ++ codes "\n"

-- a sample's value after its name and its labels
abbrev pub value_line : List ℕ → List ℕ
value_line value = codes " " ++ value ++ codes "\n"

-- in a label's value a backslash, a quotation mark and a line feed are escaped
abbrev pub escaped_byte : ℕ → List ℕ
escaped_byte b =
    if b == 92 then codes "\\\\"
    else (if b == 34 then codes "\\\"" else (if b == 10 then codes "\\n"
    else b ∷ []))

abbrev pub escaped : List ℕ → List ℕ
escaped text = flat_map escaped_byte text

-- a sample with one label
unfoldable pub labelled_line : List ℕ → List ℕ → List ℕ → ℕ → List ℕ
labelled_line name label text value =
    name ++ codes "{" ++ label ++ codes "=\"" ++ escaped text ++ codes "\"}"
    ++ value_line (decimal value)

-- a metric with one sample and no label
unfoldable pub single_text : List ℕ → Kind → List ℕ → ℕ → List ℕ
single_text name kind help value = head_lines name kind help ++ name ++ value_line (decimal value)
