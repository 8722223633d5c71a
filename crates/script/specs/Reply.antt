-- The replies to a script's lines, as texts.
use Rattle.std.specs.Prelude.{ℕ, List, [], ◌∷◌, ◌++◌, codes, length}
use Rattle.std.specs.List.{flat_map}
use Rattle.std.specs.Fmt.{decimal}
use Rattle.text_parts.specs.Words.{spaced}
use Rattle.name_tree.specs.Path.{Labels, canon_path}
use Rattle.dtab_table.specs.Rules.{Rule}
use Rattle.dtab_table.specs.TableCanon.{canon_table}
use Rattle.addr_book.specs.declared.addr.Weighted.{Weighted}
use Rattle.addr_book.specs.Addr.{addr_text}
use Rattle.choose_core.specs.declared.mark.Mark.{Mark}
use Rattle.machine.specs.declared.chosen.Why.{Why}
use Rattle.machine.specs.declared.chosen.Why.TheVariants as why
use Rattle.machine.specs.Values.{ReplyValue, version, exists_at, too_many_names, versions_spent}
use Rattle.machine.specs.Values.{missing, stale_at, deleted, set_to, book_full, too_many_services}
use Rattle.machine.specs.Values.{dropped, marked_as, not_kept, history_spent, table, namespaces}
use Rattle.machine.specs.Values.{addrs, counts, services, viewed, ChosenValue, picked}
use Rattle.machine.specs.Values.{not_picked}
use Rattle.delegate_view.specs.View.{view_of}

-- what a line is answered
pub data SaidValue : Type 0 where
  -- a table was set
  done : SaidValue
  -- the reply to a change or a look
  replied : ReplyValue → SaidValue
  -- the answer to a pick
  chosen : ChosenValue → SaidValue

-- a word and a number behind it
abbrev pub with_number : List ℕ → ℕ → List ℕ
with_number word n = word ++ 32 ∷ [] ++ decimal n

-- a name and its number, for each thing that is counted
abbrev pub counts_text : ℕ → ℕ → ℕ → ℕ → List ℕ
counts_text changes marks spaces served =
    with_number (with_number
    (with_number (with_number (codes "changes") changes ++ codes " marks") marks
    ++ codes " namespaces") spaces ++ codes " services") served

-- the text of a reply
abbrev pub reply_text : ReplyValue → List ℕ
reply_text (version n) = with_number (codes "version") n
reply_text (exists_at n) = with_number (codes "exists") n
reply_text too_many_names = codes "too-many-names"
reply_text versions_spent = codes "versions-spent"
reply_text missing = codes "missing"
reply_text (stale_at n) = with_number (codes "stale") n
reply_text deleted = codes "deleted"
reply_text (set_to n) = with_number (codes "ok") n
reply_text (book_full n) = with_number (codes "book-full") n
reply_text too_many_services = codes "too-many-services"
reply_text dropped = codes "dropped"
reply_text (marked_as mark) = with_number (with_number (codes "mark") mark.count) mark.until
reply_text not_kept = codes "not-kept"
reply_text history_spent = codes "history-spent"
reply_text (table n rules) =
    with_number (codes "version") n ++ codes " dtab" ++ spaced (canon_table rules)
reply_text (namespaces names) = codes "names" ++ flat_map (λ name. 32 ∷ name) names
reply_text (addrs list) = codes "addrs" ++ flat_map (λ item. 32 ∷ addr_text item.addr) list
reply_text (counts changes marks spaces served) = counts_text changes marks spaces served
reply_text (services changes marks spaces tables_written served) =
    counts_text changes marks spaces (length served)
reply_text (viewed ending items) = view_of ending items

-- why there is no replica, in a word
abbrev pub why_word : Why → List ℕ
why_word why.Neg = codes "negative"
why_word why.Fail = codes "failing"
why_word why.Empty = codes "empty"
why_word why.TooDeep = codes "too-deep"
why_word why.TooWide = codes "too-wide"

-- the address that is picked, the path that named it, and the rest; or why there is none
abbrev pub pick_text : ChosenValue → List ℕ
pick_text (picked addr client residual) =
    addr_text addr ++ 32 ∷ [] ++ canon_path client ++ 32 ∷ [] ++ canon_path residual
pick_text (not_picked w) = why_word w

abbrev pub said_text : SaidValue → List ℕ
said_text done = codes "ok"
said_text (replied reply) = reply_text reply
said_text (chosen c) = pick_text c
