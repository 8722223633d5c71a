-- How the replies of a router's state are told over HTTP.
use Rattle.std.specs.Prelude.{ℕ, Bool, true, false, List, codes, length, None, Some}
use Rattle.dtab_table.specs.Rules.{Rule}
use Rattle.dtab_table.specs.TableCanon.{canon_table}
use Rattle.delegate_view.specs.View.{view_of}
use Rattle.machine.specs.Values.{ReplyValue, version, exists_at, too_many_names, versions_spent}
use Rattle.machine.specs.Values.{missing, stale_at, deleted, set_to, book_full, too_many_services}
use Rattle.machine.specs.Values.{dropped, marked_as, not_kept, history_spent, table, namespaces}
use Rattle.machine.specs.Values.{addrs, counts, services, viewed}
use Rattle.api_wire.specs.declared.response.Media.TheVariants as media
use Rattle.api_wire.specs.Response.{ResponseValue, empty, filled, plain}
use Rattle.api_wire.specs.Texts.{addrs_text, counts_text, names_text, table_text}

-- a table, as its canonical text where the client takes that, and else as JSON
abbrev pub table_response : Bool → ℕ → List Rule → ResponseValue
table_response true n rules = filled 200 (Some n) media.Dtab (canon_table rules)
table_response false n rules = filled 200 (Some n) media.Json (table_text rules)

-- The replies to changes and looks: what was done has no body, what was refused says why in a word,
-- with the version that stands where that is why
abbrev pub response_to : Bool → ReplyValue → ResponseValue
response_to as_dtab (version n) = empty 204 (Some n)
response_to as_dtab (exists_at n) = plain 409 (Some n) (codes "exists")
response_to as_dtab too_many_names = plain 507 None (codes "too-many-names")
response_to as_dtab versions_spent = plain 507 None (codes "versions-spent")
response_to as_dtab missing = plain 404 None (codes "missing")
response_to as_dtab (stale_at n) = plain 412 (Some n) (codes "stale")
response_to as_dtab deleted = empty 204 None
response_to as_dtab (set_to n) = empty 204 None
response_to as_dtab (book_full n) = plain 507 None (codes "book-full")
response_to as_dtab too_many_services =
    plain 507 None (codes "too-many-services")
response_to as_dtab dropped = empty 204 None
response_to as_dtab (marked_as mark) = empty 204 None
response_to as_dtab not_kept = plain 404 None (codes "not-kept")
response_to as_dtab history_spent = plain 507 None (codes "history-spent")
response_to as_dtab (table n rules) = table_response as_dtab n rules
response_to as_dtab (namespaces names) = filled 200 None media.Json (names_text names)
response_to as_dtab (addrs items) = filled 200 None media.Plain (addrs_text items)
response_to as_dtab (counts changes marks spaces served) =
    filled 200 None media.Json (counts_text changes marks spaces served)
response_to as_dtab (services changes marks spaces written served) =
    filled 200 None media.Json (counts_text changes marks spaces (length served))
response_to as_dtab (viewed ending items) =
    filled 200 None media.Json (view_of ending items)
