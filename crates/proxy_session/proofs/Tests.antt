-- The tests of a request: those of its head alone, and behind them the path that it names and its
-- own table.
use Rattle.std.proofs.Common.{◌≡◌, ◌∙◌, List, refl, sym, ap, inl, inr, Option, Some, None}
use Rattle.std.proofs.Common.{Result, Ok, Err}
use Rattle.name_tree.specs.Path.{Labels}
use Rattle.dtab_table.specs.Rules.{Rule as DtabRule}
use Rattle.http_wire.specs.declared.head.Head.{Head}
use Rattle.http_wire.specs.Target.{form_of}
use Rattle.identifier.specs.declared.fault.IdentifyFault.{IdentifyFault}
use Rattle.identifier.specs.declared.fault.IdentifyFault.TheVariants.{Unidentified, OutOfMemory}
use Rattle.identifier.specs.declared.rule.Rule.{Rule}
use Rattle.identifier.specs.Local.{local_rules}
use Rattle.identifier.specs.Naming.{Answers as Names, identified}
use Rattle.own_reply.specs.declared.error.OwnError.{OwnError}
use Rattle.own_reply.specs.declared.error.OwnError.TheVariants as own
use Rattle.own_reply.specs.declared.request.Refusal.{Refusal}
use Rattle.own_reply.specs.declared.request.Refusal.TheVariants as refusal
use Rattle.own_reply.specs.declared.request.Tested.{Tested}
use Rattle.own_reply.specs.Tests.{Answers, Passes, Refuses, connect, no_target, bad_length}
use Rattle.own_reply.specs.Tests.{bad_coding, long_length, no_host}
use Rattle.proxy_session.specs.Seeking.{Seeks, Sought, by_framing, by_host, by_path, by_table}
use Rattle.proxy_session.specs.Seeking.{sought_by}
use Rattle.proxy_session.specs.Sought.{SeeksAs}

module _ (rule : Rule) (head : Head) where
  -- a test of the head alone refuses it
  seeks_none : {err : OwnError} → Refuses None head err → Seeks rule head (Err err)
  seeks_none (connect is) = inl (is, refl)
  seeks_none (no_target other not_served) = inr (inl (other, not_served, refl))
  seeks_none (bad_length form other served framed) = inr (inr (record {
    other = other;
    form = form;
    served = served;
    tested = sym (ap (by_framing rule head form) framed);
  }))
  seeks_none (bad_coding form other served framed) = inr (inr (record {
    other = other;
    form = form;
    served = served;
    tested = sym (ap (by_framing rule head form) framed);
  }))
  seeks_none (long_length form framing other served framed longer) = absurd (cc)
  seeks_none (no_host form framing other served framed short nobody) = inr (inr (record {
    other = other;
    form = form;
    served = served;
    tested =
        sym (ap (by_framing rule head form) framed
        ∙ ap (by_host rule head framing form.line) nobody);
  }))

  pub refused_at_once : (r : Refusal) → Answers None head (Err r) → SeeksAs rule head (Err r)
  refused_at_once (refusal.Own err) is = seeks_none is
  refused_at_once refusal.OutOfMemory is = tt

  module _ (t : Tested) (passes : Passes None head t) where
    -- what is sought behind the tests of the head alone
    behind : (named : Option Labels)
        → identified rule head t.host.items t.target.line.items ≡ named
        → sought_by rule head (form_of t.target)
        ≡ by_path head t.framing t.host.items t.target.line.items named
    behind named is =
        ap (by_framing rule head (form_of t.target)) passes.framed
        ∙ ap (by_host rule head t.framing t.target.line.items) passes.named
        ∙ ap (by_path head t.framing t.host.items t.target.line.items) is

    seeks_behind : (result : Result Sought OwnError)
        → result ≡ sought_by rule head (form_of t.target) → Seeks rule head result
    seeks_behind result is = inr (inr (record {
      other = passes.other;
      form = form_of t.target;
      served = passes.served;
      tested = is;
    }))

    -- it names no path
    pub unidentified : (e : IdentifyFault) → e ≡ Unidentified
        → Names (identified rule head t.host.items t.target.line.items) (Err e)
        → Seeks rule head (Err own.Unidentified)
    unidentified Unidentified is none = seeks_behind (Err own.Unidentified) (sym (behind None none))
    unidentified OutOfMemory is none = absurd (cc)

    -- it names a path, and its own table says this
    pub named : (path : Labels) (rules : Option (List DtabRule))
        → Names (identified rule head t.host.items t.target.line.items) (Ok path)
        → local_rules head.fields ≡ rules
        → Seeks rule head (by_table t.framing t.host.items t.target.line.items path rules)
    named path rules is table =
        seeks_behind (by_table t.framing t.host.items t.target.line.items path rules)
        (sym (behind (Some path) is
        ∙ ap (by_table t.framing t.host.items t.target.line.items path) table))
