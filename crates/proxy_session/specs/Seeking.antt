-- What a request seeks, or why it is refused.
use Rattle.std.specs.Prelude.{◌≡◌, ◌≢◌, ◌⊎◌, ℕ, List, codes, Option, Some, None, Result, Ok, Err}
use Rattle.name_tree.specs.Path.{Labels}
use Rattle.dtab_table.specs.Rules.{Rule as DtabRule}
use Rattle.http_wire.specs.declared.frames.Framing.{Framing}
use Rattle.http_wire.specs.declared.frames.FramingFault.{FramingFault}
use Rattle.http_wire.specs.declared.head.Head.{Head}
use Rattle.http_wire.specs.Framing.{framing_of}
use Rattle.http_wire.specs.Host.{host_of}
use Rattle.http_wire.specs.Target.{Form, IsServed, IsNotServed}
use Rattle.identifier.specs.declared.rule.Rule.{Rule}
use Rattle.identifier.specs.Naming.{identified}
use Rattle.identifier.specs.Local.{local_rules}
use Rattle.own_reply.specs.declared.error.OwnError.{OwnError}
use Rattle.own_reply.specs.declared.error.OwnError.TheVariants as own

-- what a request seeks: the path that it names, its own rules, how its body is framed, whom it
-- asks, and what stands in the request line that goes on
pub record Sought : Type 0 where
  pub path : Labels
  pub rules : List DtabRule
  pub framing : Framing
  pub host : List ℕ
  pub line : List ℕ

-- the tests of a request whose target is served, in their order: its framing, its host, its path,
-- its own table. The first that fails refuses it
abbrev pub by_table : Framing → List ℕ → List ℕ → Labels → Option (List DtabRule)
    → Result Sought OwnError
by_table framing host line path None = Err own.Dtab
by_table framing host line path (Some rules) = Ok (record {
  path = path;
  rules = rules;
  framing = framing;
  host = host;
  line = line;
})

abbrev pub by_path : Head → Framing → List ℕ → List ℕ → Option Labels → Result Sought OwnError
by_path head framing host line None = Err own.Unidentified
by_path head framing host line (Some path) =
    by_table framing host line path (local_rules head.fields)

abbrev pub by_host : Rule → Head → Framing → List ℕ → Option (List ℕ) → Result Sought OwnError
by_host rule head framing line None = Err own.Host
by_host rule head framing line (Some host) =
    by_path head framing host line (identified rule head host line)

abbrev pub by_framing : Rule → Head → Form → Result Framing FramingFault → Result Sought OwnError
by_framing rule head form (Err FramingFault.Length) = Err own.Length
by_framing rule head form (Err FramingFault.Coding) = Err own.Coding
by_framing rule head form (Ok framing) =
    by_host rule head framing form.line (host_of head.version head.fields form.authority)

abbrev pub sought_by : Rule → Head → Form → Result Sought OwnError
sought_by rule head form = by_framing rule head form (framing_of head.version head.fields)

-- the target is served, in a form by which the request is tested
pub record IsTested (rule : Rule) (head : Head) (result : Result Sought OwnError) : Type 0 where
  pub other : head.method ≢ codes "CONNECT"
  pub form : Form
  pub served : IsServed head.method head.target form
  pub tested : result ≡ sought_by rule head form

-- what a request seeks, or the first of its refusals: a tunnel, a target that is not served, and
-- those by the tests
abbrev pub Seeks : Rule → Head → Result Sought OwnError → Type 0
Seeks rule head result =
    ((head.method ≡ codes "CONNECT") × (result ≡ Err own.Connect))
    ⊎ (((head.method ≢ codes "CONNECT") × IsNotServed head.method head.target
    × (result ≡ Err own.Target))
    ⊎ IsTested rule head result)
