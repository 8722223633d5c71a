-- The lines of a head, added one by one.
use Rattle.std.proofs.Common.{◌≡◌, ℕ, Bool, List, [], ◌∷◌, ◌++◌, codes, append_assoc, append-nil}
use Rattle.httparse.specs.Ascii.{crlf_bytes}
use Rattle.http_wire.specs.Lines.{ended, line_of}
use Rattle.own_reply.specs.declared.error.OwnError.{OwnError}
use Rattle.own_reply.specs.Reply.{text_of, connection_of, head_of, length_line, status_line}

-- the same bytes, grouped as they are added and as the definition has them
regrouped : (before status type err len connection end : List ℕ)
    → (((((before ++ ((status ++ end) ++ [])) ++ ((type ++ end) ++ [])) ++ ((err ++ end) ++ []))
    ++ ((len ++ end) ++ [])) ++ connection) ++ end
    ≡ before
    ++ (((status ++ end) ++ ((type ++ end) ++ ((err ++ end) ++ ((len ++ end) ++ connection))))
    ++ end)
regrouped before status type err len connection end = simp (append_assoc, append-nil)

-- the bytes after each line are the bytes before them and the head
pub head_joined : (err : OwnError) (closing : Bool) (r0 r1 r2 r3 r4 r5 r6 text : List ℕ)
    → text ≡ text_of err
    → r1 ≡ r0 ++ ended (status_line err ∷ [])
    → r2 ≡ r1 ++ ended (line_of (codes "Content-Type") (codes "text/plain") ∷ [])
    → r3 ≡ r2 ++ ended (line_of (codes "l5d-err") text ∷ [])
    → r4 ≡ r3 ++ ended (length_line err ∷ [])
    → r5 ≡ r4 ++ ended (connection_of closing)
    → r6 ≡ r5 ++ crlf_bytes
    → r6 ≡ r0 ++ head_of err closing
unfolding head_of
head_joined err closing r0 r1 r2 r3 r4 r5 r6 text t e1 e2 e3 e4 e5 e6 =
    rw (e6, e5, e4, e3, e2, e1, t)
    (regrouped r0 (status_line err) (line_of (codes "Content-Type") (codes "text/plain"))
    (line_of (codes "l5d-err") (text_of err)) (length_line err)
    (ended (connection_of closing)) crlf_bytes)
