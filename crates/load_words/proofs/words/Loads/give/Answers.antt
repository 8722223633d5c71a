use Rattle.std.proofs.Common.{arith, ap, sym, ◌∙◌}
use Rattle.load_words.proofs.Keeping.{subtracts}
use Rattle.load_words.proofs.words.Loads.give.Goals as goal

pub fetch_sub-requires : goal.fetch_sub-requires
fetch_sub-requires c =
    let within = c.args.seat.now.within c.in-Some.slot c.in-Some.is in (
      ap (λ w. w.table) c.requires.seat,
      omega (arith, c.args.self.now.slots, within),
      subtracts _ _ (omega (arith, c.args.seat.now.part)) _ within _ _
          (sym c.args.seat.now.told ∙ c.in-Some.is),
    )
