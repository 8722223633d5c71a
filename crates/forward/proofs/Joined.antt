-- The lines of a head, added one by one.
use Rattle.std.proofs.Common.{◌≡◌, ℕ, ◌+◌, ◌<◌, Bool, true, false, cond, List, [], ◌∷◌, ◌++◌}
use Rattle.std.proofs.Common.{length, map, filter, take, get_or, codes, refl, sym, ap, ◌∙◌}
use Rattle.std.proofs.Common.{append_assoc}
use Rattle.std.proofs.lemmas.List.{take_more, map-append, append-nil}
use Rattle.std.proofs.lemmas.List.Elements.{filter-append}
use Rattle.name_tree.specs.Path.{canon_path}
use Rattle.dtab_table.specs.Dtab.{rules_of}
use Rattle.http_wire.specs.declared.head.Field.{Field}
use Rattle.http_wire.specs.declared.head.Head.{Head}
use Rattle.forward.specs.declared.going.Going.{Going}
use Rattle.httparse.specs.Ascii.{crlf_bytes}
use Rattle.http_wire.specs.Lines.{ended, field_line, line_of}
use Rattle.forward.specs.declared.listed.Listed.{Listed}
use Rattle.forward.specs.Dropped.{kept_but, named_in_connection, never_kept, never_back}
use Rattle.forward.specs.Kept.{is_left, left_by}
use Rattle.forward.specs.Listed.{StandFor}
use Rattle.forward.proofs.Found.{left_is_kept}
use Rattle.http_wire.specs.declared.head.ReplyHead.{ReplyHead}
use Rattle.http_wire.specs.declared.frames.Framing.{Framing}
use Rattle.forward.specs.Returned.{status_line, back_framing_lines, returned}
use Rattle.forward.specs.Forwarded.{closing_lines, request_line, framing_lines, via, table_lines}
use Rattle.forward.specs.Forwarded.{residual_lines, lines, forwarded}

ended-append : (xs ys : List (List ℕ)) → ended (xs ++ ys) ≡ ended xs ++ ended ys
ended-append [] ys = refl
ended-append (x ∷ xs) ys = ap (λ t. x ++ crlf_bytes ++ t) (ended-append xs ys)
    ∙ sym (append_assoc (x ++ crlf_bytes) (ended xs) (ended ys))

-- a name, a value and the end of a line are one line
pub line_put : (r0 r1 r2 r3 name value end : List ℕ) → r1 ≡ r0 ++ name → r2 ≡ r1 ++ value
    → r3 ≡ r2 ++ end → r3 ≡ r0 ++ (name ++ value ++ end ++ [])
line_put r0 r1 r2 r3 name value end e1 e2 e3 =
    e3 ∙ ap (λ r. r ++ end) (e2 ∙ ap (λ r. r ++ value) e1 ∙ append_assoc r0 name value)
    ∙ append_assoc r0 (name ++ value) end
    ∙ ap (λ t. r0 ++ t) (sym (append-nil (name ++ value ++ end)))

-- the parts of a status line and the end of a line are one line
pub status_put : (r0 r1 r2 r3 r4 a b c d : List ℕ) → r1 ≡ r0 ++ a → r2 ≡ r1 ++ b → r3 ≡ r2 ++ c
    → r4 ≡ r3 ++ d
    → r4 ++ crlf_bytes ≡ r0 ++ ended ((a ++ b ++ c ++ d) ∷ [])
status_put r0 r1 r2 r3 r4 a b c d e1 e2 e3 e4 =
    ap (λ r. r ++ crlf_bytes)
    (e4 ∙ ap (λ r. r ++ d) (e3 ∙ ap (λ r. r ++ c) (e2 ∙ ap (λ r. r ++ b) e1)))
    ∙ simp (append_assoc, append-nil)

-- the lines of the fields that are left
abbrev left_lines : List (List ℕ) → Listed → List Field → List ℕ
left_lines never listed fields = ended (map field_line (left_by never listed fields))

-- a field that is left is one line
pub left_line : (never : List (List ℕ)) (listed : Listed) (field : Field)
    → is_left never listed field ≡ true
    → left_lines never listed (field ∷ []) ≡ ended (field_line field ∷ [])
unfolding left_by
left_line never listed field holds =
    ap (λ (b : Bool). ended (map field_line (cond b (field ∷ []) []))) holds

-- one that is not is none
pub no_line : (never : List (List ℕ)) (listed : Listed) (field : Field)
    → is_left never listed field ≡ false → left_lines never listed (field ∷ []) ≡ []
unfolding left_by
no_line never listed field fails = ap
    (λ (b : Bool). ended (map field_line (cond b (field ∷ []) []))) fails

-- no fields are no lines
pub nothing_left : (never : List (List ℕ)) (listed : Listed) (bytes : List ℕ)
    → bytes ≡ bytes ++ left_lines never listed []
unfolding left_by
nothing_left never listed bytes = sym (append-nil bytes)

left-append : (never : List (List ℕ)) (listed : Listed) (xs ys : List Field)
    → left_lines never listed (xs ++ ys) ≡ left_lines never listed xs ++ left_lines never listed ys
unfolding left_by
left-append never listed xs ys =
    ap (λ fs. ended (map field_line fs)) (filter-append (is_left never listed) xs ys)
    ∙ ap ended (map-append field_line (filter (is_left never listed) xs)
    (filter (is_left never listed) ys))
    ∙ ended-append (map field_line (filter (is_left never listed) xs))
    (map field_line (filter (is_left never listed) ys))

-- one field more
pub left_more : (never : List (List ℕ)) (listed : Listed) (fields : List Field) (k : ℕ)
    (field : Field) (r0 r1 r2 : List ℕ) → k < length fields
    → field ≡ get_or fields k field → r1 ≡ r0 ++ left_lines never listed (take k fields)
    → r2 ≡ r1 ++ left_lines never listed (field ∷ [])
    → r2 ≡ r0 ++ left_lines never listed (take (k + 1) fields)
left_more never listed fields k field r0 r1 r2 less at before put =
    let step : left_lines never listed (take (k + 1) fields)
    ≡ left_lines never listed (take k fields) ++ left_lines never listed (field ∷ [])
    = ap (left_lines never listed) (take_more fields k field less)
    ∙ ap (λ (f : Field). left_lines never listed (take k fields ++ f ∷ [])) (sym at)
    ∙ left-append never listed (take k fields) (field ∷ []) in
    rw (put, before, step)
    (append_assoc r0 (left_lines never listed (take k fields))
    (left_lines never listed (field ∷ [])))

-- the lines of the fields that are left are those of the fields that go on
pub left_kept : (never : List (List ℕ)) (listed : Listed) (fields all : List Field) → fields ≡ all
    → StandFor listed.names.items (named_in_connection all)
    → left_lines never listed fields ≡ ended (map field_line (kept_but never all))
unfolding left_by kept_but
left_kept never listed fields all same stands =
    ap (left_lines never listed) same
    ∙ ap (λ fs. ended (map field_line fs)) (left_is_kept never listed all all stands)

-- more lines behind those that stand
grown : (front : List ℕ) (lines more : List (List ℕ)) (before after : List ℕ)
    → before ≡ front ++ ended lines → after ≡ before ++ ended more
    → after ≡ front ++ ended (lines ++ more)
grown front lines more before after stand put =
    put ∙ ap (λ b. b ++ ended more) stand ∙ append_assoc front (ended lines) (ended more)
    ∙ ap (λ t. front ++ t) (sym (ended-append lines more))

-- the bytes behind the request line, the host, the fields that go on and the framing
pub request_joined : (head : Head) (to : Going) (method : List ℕ) (r0 r1 r2 r3 r4 : List ℕ)
    → method ≡ head.method
    → r1 ≡ r0 ++ ended (request_line method to.target.now ∷ [])
    → r2 ≡ r1 ++ ended (line_of (codes "Host") to.host.now ∷ [])
    → r3 ≡ r2 ++ ended (map field_line (kept_but never_kept head.fields))
    → r4 ≡ r3 ++ ended (framing_lines to.framing)
    → r4
    ≡ r0
    ++ ended (
    request_line head.method to.target.now
    ∷ line_of (codes "Host") to.host.now
    ∷ map field_line (kept_but never_kept head.fields)
    ++ framing_lines to.framing
    )
request_joined head to method r0 r1 r2 r3 r4 m e1 e2 e3 e4 =
    let q = request_line head.method to.target.now in
    let h = line_of (codes "Host") to.host.now in
    let ks = map field_line (kept_but never_kept head.fields) in
    let g1 : r1 ≡ r0 ++ ended (q ∷ []) =
    e1 ∙ ap (λ t. r0 ++ ended (request_line t to.target.now ∷ [])) m in
    let g2 : r2 ≡ r0 ++ ended (q ∷ h ∷ []) = grown r0 (q ∷ []) (h ∷ []) r1 r2 g1 e2 in
    let g3 : r3 ≡ r0 ++ ended (q ∷ h ∷ ks) = grown r0 (q ∷ h ∷ []) ks r2 r3 g2 e3 in
    grown r0 (q ∷ h ∷ ks) (framing_lines to.framing) r3 r4 g3 e4

regrouped : (v s c : List ℕ) (ts rs es : List (List ℕ))
    → ((((v ∷ ts) ++ s ∷ []) ++ c ∷ []) ++ rs) ++ es ≡ v ∷ ts ++ s ∷ c ∷ rs ++ es
regrouped v s c ts rs es = simp append_assoc

-- the bytes behind the router's own fields
pub own_joined : (to : Going) (minor : ℕ) (said : List ℕ) (r0 r1 r2 r3 r4 r5 r6 : List ℕ)
    → said ≡ via minor
    → r1 ≡ r0 ++ ended (line_of (codes "Via") said ∷ [])
    → r2 ≡ r1 ++ ended (table_lines (rules_of to.local.now))
    → r3 ≡ r2 ++ ended (line_of (codes "l5d-dst-service") (canon_path to.service.now) ∷ [])
    → r4 ≡ r3 ++ ended (line_of (codes "l5d-dst-client") to.client.now ∷ [])
    → r5 ≡ r4 ++ ended (residual_lines to.residual.now)
    → r6 ≡ r5 ++ ended (closing_lines to.closes)
    → r6
    ≡ r0
    ++ ended (
    line_of (codes "Via") (via minor)
    ∷ table_lines (rules_of to.local.now)
    ++ line_of (codes "l5d-dst-service") (canon_path to.service.now)
    ∷ line_of (codes "l5d-dst-client") to.client.now
    ∷ residual_lines to.residual.now
    ++ closing_lines to.closes
    )
own_joined to minor said r0 r1 r2 r3 r4 r5 r6 w e1 e2 e3 e4 e5 e6 =
    let v = line_of (codes "Via") (via minor) in
    let ts = table_lines (rules_of to.local.now) in
    let s = line_of (codes "l5d-dst-service") (canon_path to.service.now) in
    let c = line_of (codes "l5d-dst-client") to.client.now in
    let rs = residual_lines to.residual.now in
    let es = closing_lines to.closes in
    let l3 = (v ∷ ts) ++ s ∷ [] in
    let l4 = l3 ++ c ∷ [] in
    let g1 : r1 ≡ r0 ++ ended (v ∷ []) =
    e1 ∙ ap (λ t. r0 ++ ended (line_of (codes "Via") t ∷ [])) w in
    let g2 : r2 ≡ r0 ++ ended (v ∷ ts) = grown r0 (v ∷ []) ts r1 r2 g1 e2 in
    let g3 : r3 ≡ r0 ++ ended l3 = grown r0 (v ∷ ts) (s ∷ []) r2 r3 g2 e3 in
    let g4 : r4 ≡ r0 ++ ended l4 = grown r0 l3 (c ∷ []) r3 r4 g3 e4 in
    let g5 : r5 ≡ r0 ++ ended (l4 ++ rs) = grown r0 l4 rs r4 r5 g4 e5 in
    grown r0 (l4 ++ rs) es r5 r6 g5 e6 ∙ ap (λ ls. r0 ++ ended ls) (regrouped v s c ts rs es)

behind_sent : (sent : List (List ℕ)) (v s c : List ℕ) (ts rs es : List (List ℕ))
    → sent ++ (v ∷ ts ++ s ∷ c ∷ rs ++ es) ≡ sent ++ v ∷ ts ++ s ∷ c ∷ rs ++ es
behind_sent sent v s c ts rs es = simp append_assoc

-- the bytes behind both and the empty line are the head
pub head_joined : (head : Head) (to : Going) (r0 r1 r2 r3 : List ℕ)
    → r1
    ≡ r0
    ++ ended (
    request_line head.method to.target.now
    ∷ line_of (codes "Host") to.host.now
    ∷ map field_line (kept_but never_kept head.fields)
    ++ framing_lines to.framing
    )
    → r2
    ≡ r1
    ++ ended (
    line_of (codes "Via") (via head.version)
    ∷ table_lines (rules_of to.local.now)
    ++ line_of (codes "l5d-dst-service") (canon_path to.service.now)
    ∷ line_of (codes "l5d-dst-client") to.client.now
    ∷ residual_lines to.residual.now
    ++ closing_lines to.closes
    )
    → r3 ≡ r2 ++ crlf_bytes
    → r3 ≡ r0 ++ forwarded head to
unfolding forwarded
head_joined head to r0 r1 r2 r3 e1 e2 e3 =
    let q = request_line head.method to.target.now in
    let h = line_of (codes "Host") to.host.now in
    let v = line_of (codes "Via") (via head.version) in
    let s = line_of (codes "l5d-dst-service") (canon_path to.service.now) in
    let c = line_of (codes "l5d-dst-client") to.client.now in
    let sent = q ∷ h ∷ map field_line (kept_but never_kept head.fields)
    ++ framing_lines to.framing in
    let ts = table_lines (rules_of to.local.now) in
    let rs = residual_lines to.residual.now in
    let es = closing_lines to.closes in
    e3
    ∙ ap (λ b. b ++ crlf_bytes)
    (grown r0 sent (v ∷ ts ++ s ∷ c ∷ rs ++ es) r1 r2 e1 e2
    ∙ ap (λ ls. r0 ++ ended ls) (behind_sent sent v s c ts rs es))
    ∙ append_assoc r0 (ended (lines head to)) crlf_bytes

back_joined : (q v : List ℕ) (ks fs cs : List (List ℕ)) (r0 r1 r2 r3 r4 r5 r6 : List ℕ)
    → r1 ≡ r0 ++ ended (q ∷ [])
    → r2 ≡ r1 ++ ended ks
    → r3 ≡ r2 ++ ended fs
    → r4 ≡ r3 ++ ended (v ∷ [])
    → r5 ≡ r4 ++ ended cs
    → r6 ≡ r5 ++ crlf_bytes
    → r6 ≡ r0 ++ (ended (q ∷ ks ++ fs ++ v ∷ cs) ++ crlf_bytes)
back_joined q v ks fs cs r0 r1 r2 r3 r4 r5 r6 e1 e2 e3 e4 e5 e6 =
    let g2 : r2 ≡ r0 ++ ended (q ∷ ks) = grown r0 (q ∷ []) ks r1 r2 e1 e2 in
    let g3 : r3 ≡ r0 ++ ended ((q ∷ ks) ++ fs) = grown r0 (q ∷ ks) fs r2 r3 g2 e3 in
    let g4 : r4 ≡ r0 ++ ended (((q ∷ ks) ++ fs) ++ v ∷ []) =
    grown r0 ((q ∷ ks) ++ fs) (v ∷ []) r3 r4 g3 e4 in
    let g5 : r5 ≡ r0 ++ ended ((((q ∷ ks) ++ fs) ++ v ∷ []) ++ cs) =
    grown r0 (((q ∷ ks) ++ fs) ++ v ∷ []) cs r4 r5 g4 e5 in
    e6 ∙ ap (λ b. b ++ crlf_bytes)
    (g5 ∙ ap (λ ls. r0 ++ ended ls) (append_assoc ((q ∷ ks) ++ fs) (v ∷ []) cs))
    ∙ append_assoc r0 (ended (q ∷ ks ++ fs ++ v ∷ cs)) crlf_bytes

pub returned_joined : (head : ReplyHead) (framing : Framing) (chunked closing : Bool)
    (said reason : List ℕ) (r0 r1 r2 r3 r4 r5 r6 : List ℕ)
    → reason ≡ head.reason
    → said ≡ via head.version
    → r1 ≡ r0 ++ ended (status_line head.status reason ∷ [])
    → r2 ≡ r1 ++ ended (map field_line (kept_but never_back head.fields))
    → r3 ≡ r2 ++ ended (back_framing_lines head framing chunked)
    → r4 ≡ r3 ++ ended (line_of (codes "Via") said ∷ [])
    → r5 ≡ r4 ++ ended (closing_lines closing)
    → r6 ≡ r5 ++ crlf_bytes
    → r6 ≡ r0 ++ returned head framing chunked closing
unfolding returned
returned_joined head framing chunked closing said reason r0 r1 r2 r3 r4 r5 r6 p v e1 e2 e3 e4 e5
    e6 =
    back_joined (status_line head.status head.reason) (line_of (codes "Via") (via head.version))
    (map field_line (kept_but never_back head.fields))
    (back_framing_lines head framing chunked) (closing_lines closing) r0 r1 r2 r3 r4 r5 r6
    (e1 ∙ ap (λ t. r0 ++ ended (status_line head.status t ∷ [])) p) e2 e3
    (e4 ∙ ap (λ t. r3 ++ ended (line_of (codes "Via") t ∷ [])) v) e5 e6
