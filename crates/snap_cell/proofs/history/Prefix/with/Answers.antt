use Rattle.std.proofs.Common.{sym, ◌∙◌, ap}
use Rattle.snap_cell.proofs.Adding.{adds_moves}
use Rattle.snap_cell.proofs.history.Prefix.with.Goals as goal

pub compare_exchange-found-requires : goal.compare_exchange-found-requires
compare_exchange-found-requires g c =
    let h = c.requires.head in
    let self = c.args.self.now in
    let seen = c.again-seen.ensures in
    let offer = c.plain-offer.ensures in
    let pen = c.no_pen-pen.ensures in (
      ap (λ w. w.tracked) h,
      ap (λ s. s.book) seen ∙ sym (ap (λ w. w.book) h),
      pen.0 ∙ (ap (λ s. s.book) seen ∙ sym (ap (λ w. w.book) h)),
      offer.0,
      rw (ap (λ w. w.key) h, pen.1, offer.1, offer.3, ap (λ s. s.log) seen)
          (adds_moves self.seen.log c.args.operation.now self.count (sym self.counted)),
    )
