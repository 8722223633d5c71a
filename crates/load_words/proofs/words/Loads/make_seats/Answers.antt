use Rattle.std.proofs.Common.{[], ◌∷◌, ◌++◌, arith, ap, length, length-append, ◌∙◌}
use Rattle.std.proofs.lemmas.List.Elements.{All-push, All-same}
use Rattle.atomic_table.specs.Table.{Me}
use Rattle.load_words.specs.Seats.{IsOf, IsUnused}
use Rattle.load_words.specs.declared.rule.Tally.{Tally}
use Rattle.load_words.proofs.Keeping.{joins}
use Rattle.load_words.proofs.words.Loads.make_seats.Goals as goal

pub loop-preserved : goal.loop-preserved
loop-preserved c =
    let split = c.split.ensures in
    let kept = c.loop.invariant in
    let made = c.loop.made.items in
    let seat = c.split.result in
    let pushed = c.in_ok-push.ensures.items in
    record {
      table = split.other.0 ∙ kept.table;
      bare = ap (λ (me : Me (Unit {0}) Tally). me.1) split.other.1 ∙ kept.bare;
      left = omega (
        arith,
        kept.left,
        ap (λ (me : Me (Unit {0}) Tally). me.0.parts) split.other.1,
        c.loop-test.true,
      );
      bound = ap (λ (me : Me (Unit {0}) Tally). me.0.seats) split.other.1 ∙ kept.bound;
      free = ap (λ (me : Me (Unit {0}) Tally). me.0.slot) split.other.1 ∙ kept.free;
      count = omega (arith, kept.count, ap length pushed, length-append made (seat ∷ []));
      own = All-same (IsOf c.args.self.now) c.push.new.self.items (made ++ seat ∷ []) pushed
          (All-push (IsOf c.args.self.now) made seat kept.own split.seat.0);
      unused = All-same IsUnused c.push.new.self.items (made ++ seat ∷ []) pushed
          (All-push IsUnused made seat kept.unused split.unused);
    }

pub join_seat-requires : goal.join_seat-requires
join_seat-requires c =
    let split = c.split-last.ensures in
    let kept = c.loop.invariant in (
      ap (λ w. w.table) split.seat.0,
      split.other.0 ∙ kept.table,
      ap (λ (me : Me (Unit {0}) Tally). me.1) split.other.1 ∙ kept.bare,
      omega (arith, c.args.self.now.slots),
      joins _ _ _ _ _ (omega (arith, c.split-last.result.part))
          (ap (λ (me : Me (Unit {0}) Tally). me.0.slot) split.other.1 ∙ kept.free),
    )
