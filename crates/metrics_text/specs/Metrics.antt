-- All metrics of a router, in the text format.
use Rattle.std.specs.Prelude.{ℕ, ◌+◌, ◌/◌, ◌%◌, ◌==◌, if◌then◌else◌, List, [], ◌∷◌, ◌++◌, codes}
use Rattle.std.specs.Prelude.{sum}
use Rattle.std.specs.Fmt.{decimal}
use Rattle.std.specs.List.{flat_map}
use Rattle.own_reply.specs.declared.error.OwnError.{OwnError}
use Rattle.own_reply.specs.declared.error.OwnError.TheVariants as own
use Rattle.own_reply.specs.Reply.{text_of}
use Rattle.metrics_text.specs.declared.class.Classes.{Classes}
use Rattle.metrics_text.specs.declared.counts.Counts.{Counts}
use Rattle.metrics_text.specs.declared.counts.OwnReplies.{OwnReplies}
use Rattle.metrics_text.specs.declared.duration.Durations.{Durations}
use Rattle.metrics_text.specs.declared.format.Kind.TheVariants.{Counter, Gauge, Histogram}
use Rattle.metrics_text.specs.declared.service.Figure.{Figure}
use Rattle.metrics_text.specs.declared.service.Figure.TheVariants.{Addresses, Alive}
use Rattle.metrics_text.specs.declared.service.ServiceCounts.{ServiceCounts}
use Rattle.metrics_text.specs.Format.{head_lines, labelled_line, single_text, value_line}

-- ---- numbers alone

-- what the router holds
unfoldable pub state_text : Counts → List ℕ
state_text c =
    single_text (codes "linker_changes_total") Counter
    (codes "Changes of tables, services and marks that were accepted.") c.changes
    ++ single_text (codes "linker_tables_written_total") Counter
    (codes "Tables that were created or put.") c.tables_written
    ++ single_text (codes "linker_marks") Gauge
    (codes "Addresses with failures that count against them.") c.marks
    ++ single_text (codes "linker_namespaces") Gauge
    (codes "Namespaces.") c.namespaces
    ++ single_text (codes "linker_services") Gauge
    (codes "Services.") c.services

-- how replicas were tried
unfoldable pub tries_text : Counts → List ℕ
tries_text c =
    single_text (codes "linker_tries_total") Counter
    (codes "Tries of replicas.") c.tries
    ++ single_text (codes "linker_failures_reported_total") Counter
    (codes "Failures of replicas that were reported.") c.failures

-- the connections of clients
unfoldable pub connections_text : Counts → List ℕ
connections_text c =
    single_text (codes "linker_connections_accepted_total") Counter
    (codes "Connections of clients that were accepted.") c.accepted
    ++ single_text (codes "linker_connections_open") Gauge
    (codes "Connections of clients that are open.") c.open
    ++ single_text (codes "linker_connections_waiting") Gauge
    (codes "Connections of clients that wait for their next request.") c.waiting

-- the bytes of bodies
unfoldable pub bytes_text : Counts → List ℕ
bytes_text c =
    single_text (codes "linker_request_body_bytes_total") Counter
    (codes "Bytes of requests' bodies that went on to replicas.") c.request_bytes
    ++ single_text (codes "linker_reply_body_bytes_total") Counter
    (codes "Bytes of replies' bodies that went back to clients.") c.reply_bytes

-- the asks for a replica, and the delegations that are kept
unfoldable pub delegations_text : Counts → List ℕ
delegations_text c =
    single_text (codes "linker_delegation_hits_total") Counter
    (codes "Asks for which a delegation was kept.") c.hits
    ++ single_text (codes "linker_delegation_misses_total") Counter
    (codes "Asks for which no delegation was kept.") c.misses
    ++ single_text (codes "linker_delegations_kept") Gauge
    (codes "Delegations that are kept.") c.kept

-- the lines of the access log
unfoldable pub log_text : Counts → List ℕ
log_text c =
    single_text (codes "linker_access_log_lines_total") Counter
    (codes "Lines that were written to the access log.") c.log_lines
    ++ single_text (codes "linker_access_log_lost_lines_total") Counter
    (codes "Lines that could not be written to the access log.") c.lost_lines

-- ---- requests

-- those of a class
abbrev pub class_line : List ℕ → ℕ → List ℕ
class_line class requests =
    labelled_line (codes "linker_requests_total") (codes "class") class requests

-- requests by the classes of their replies; `none` is no reply
unfoldable pub requests_text : Classes → List ℕ
requests_text r =
    head_lines (codes "linker_requests_total") Counter
    (codes "Requests that ended, by the class of their reply's status.")
    ++ class_line (codes "2xx") r.success
    ++ class_line (codes "3xx") r.redirection
    ++ class_line (codes "4xx") r.client_error
    ++ class_line (codes "5xx") r.server_error
    ++ class_line (codes "other") r.other
    ++ class_line (codes "none") r.no_reply

-- the router's own replies with a word
abbrev pub own_line : OwnError → ℕ → List ℕ
own_line reason replies =
    labelled_line (codes "linker_own_replies_total") (codes "reason") (text_of reason) replies

-- those that refuse a request by its head
unfoldable pub own_head : OwnReplies → List ℕ
own_head r =
    own_line own.Version r.version
    ++ own_line own.BadHead r.bad_head
    ++ own_line own.HeadTooLarge r.head_too_large
    ++ own_line own.Connect r.connect
    ++ own_line own.Target r.target

-- those that refuse a request by its framing, its host or its body
unfoldable pub own_framing : OwnReplies → List ℕ
own_framing r =
    own_line own.Length r.length
    ++ own_line own.Coding r.coding
    ++ own_line own.TooLong r.too_long
    ++ own_line own.Host r.host
    ++ own_line own.Body r.body

-- those that refuse a request by its name, or since that is bound to nothing
unfoldable pub own_name : OwnReplies → List ℕ
own_name r =
    own_line own.Unidentified r.unidentified
    ++ own_line own.Dtab r.dtab
    ++ own_line own.Negative r.negative
    ++ own_line own.Failing r.failing
    ++ own_line own.Empty r.empty

-- those where no replica is found, or it fails
unfoldable pub own_replica : OwnReplies → List ℕ
own_replica r =
    own_line own.TooDeep r.too_deep
    ++ own_line own.TooWide r.too_wide
    ++ own_line own.Dial r.dial
    ++ own_line own.Upstream r.upstream

-- the router's own replies, by their words
unfoldable pub own_text : OwnReplies → List ℕ
own_text r =
    head_lines (codes "linker_own_replies_total") Counter
    (codes "Replies of the router's own, by their word.")
    ++ own_head r ++ own_framing r ++ own_name r ++ own_replica r

-- ---- how long they took

-- the bounds of the buckets in seconds, by their places; the last one has none
abbrev pub bound_at : ℕ → List ℕ
bound_at at =
    if at == 0 then codes "0.001"
    else (if at == 1 then codes "0.002"
    else (if at == 2 then codes "0.005"
    else (if at == 3 then codes "0.01"
    else (if at == 4 then codes "0.02"
    else (if at == 5 then codes "0.05"
    else (if at == 6 then codes "0.1"
    else (if at == 7 then codes "0.2"
    else (if at == 8 then codes "0.5"
    else (if at == 9 then codes "1"
    else (if at == 10 then codes "2"
    else (if at == 11 then codes "5"
    else (if at == 12 then codes "10"
    else codes "+Inf"))))))))))))

abbrev pub bucket_line : List ℕ → ℕ → List ℕ
bucket_line bound requests =
    labelled_line (codes "linker_request_duration_seconds_bucket") (codes "le") bound requests

-- the buckets from a place on, each with the requests of those before it
abbrev pub bucket_lines : ℕ → List ℕ → ℕ → List ℕ
bucket_lines at [] before = []
bucket_lines at (n ∷ ns) before =
    bucket_line (bound_at at) (before + n) ++ bucket_lines (at + 1) ns (before + n)

-- milliseconds, in seconds with three decimals
abbrev pub seconds_text : ℕ → List ℕ
seconds_text ms =
    decimal (ms / 1000) ++ 46 ∷ (48 + ms % 1000 / 100) ∷ (48 + ms % 1000 / 10 % 10)
    ∷ (48 + ms % 1000 % 10) ∷ []

unfoldable pub durations_text : Durations → List ℕ
durations_text d =
    head_lines (codes "linker_request_duration_seconds") Histogram
    (codes "How long requests took, until the end of their reply.")
    ++ bucket_lines 0 d.buckets 0
    ++ codes "linker_request_duration_seconds_sum " ++ seconds_text d.milliseconds
    ++ codes "\nlinker_request_duration_seconds_count" ++ value_line (decimal (sum d.buckets))

-- ---- services

-- a number of a service
abbrev pub figure_of : Figure → ServiceCounts → ℕ
figure_of Addresses s = s.addresses
figure_of Alive s = s.alive

abbrev pub service_line : List ℕ → Figure → ServiceCounts → List ℕ
service_line name figure s = labelled_line name (codes "service") s.name.now (figure_of figure s)

abbrev pub service_lines : List ℕ → Figure → List ServiceCounts → List ℕ
service_lines name figure services = flat_map (service_line name figure) services

unfoldable pub services_text : List ServiceCounts → List ℕ
services_text services =
    head_lines (codes "linker_service_addresses") Gauge (codes "Addresses of a service.")
    ++ service_lines (codes "linker_service_addresses") Addresses services
    ++ head_lines (codes "linker_service_live_addresses") Gauge
    (codes "Addresses of a service that are alive.")
    ++ service_lines (codes "linker_service_live_addresses") Alive services

-- ---- all

unfoldable pub router_text : Counts → List ℕ
router_text c =
    state_text c ++ requests_text c.requests ++ own_text c.own_replies ++ tries_text c
    ++ connections_text c ++ bytes_text c ++ delegations_text c ++ log_text c

abbrev pub metrics_text : Counts → List ServiceCounts → List ℕ
metrics_text c services = router_text c ++ durations_text c.durations ++ services_text services
