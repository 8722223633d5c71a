use Rattle.std.proofs.Common.{◌∙◌, sym, ap}
use Rattle.std.specs.Prelude.{nat_lt}
use Rattle.machine.specs.Code.{settings_of}
use Rattle.bind_cache.specs.Stored.{kept_of}
use Rattle.weave.specs.Held.{ops_of}
use Rattle.weave.proofs.Keeping.{large_no, late_no, had_no, unless_spent, below_is}
use Rattle.weave.proofs.world.World.may_keep.Goals as goal

pub returns-then-is_large : goal.returns-then-is_large
returns-then-is_large c =
    sym (large_no (settings_of c.args.self.now.settings) (ops_of c.args.self.now)
    (kept_of c.args.binding.now) (sym c.is_large.ensures ∙ c.if-is_large.true))

pub returns-then-is_late : goal.returns-then-is_late
returns-then-is_late c =
    sym (late_no (settings_of c.args.self.now.settings) (ops_of c.args.self.now)
    (kept_of c.args.binding.now) (sym c.is_large.ensures ∙ c.if-is_large.false)
    (sym c.is_late.ensures ∙ c.if-is_late.true))

pub returns-then-is_had : goal.returns-then-is_had
returns-then-is_had c =
    sym (had_no (settings_of c.args.self.now.settings) (ops_of c.args.self.now)
    (kept_of c.args.binding.now) (sym c.is_large.ensures ∙ c.if-is_large.false)
    (sym c.is_late.ensures ∙ c.if-is_late.false)
    (sym c.is_had.ensures ∙ c.if-is_had.true))

pub returns : goal.returns
returns c =
    ap (λ n. nat_lt n 18446744073709551615) c.requires.keeps
    ∙ (below_is _ _
    ∙ sym (unless_spent (settings_of c.args.self.now.settings) (ops_of c.args.self.now)
    (kept_of c.args.binding.now) (sym c.is_large.ensures ∙ c.if-is_large.false)
    (sym c.is_late.ensures ∙ c.if-is_late.false)
    (sym c.is_had.ensures ∙ c.if-is_had.false)))
