use Rattle.std.proofs.Common.{◌≡◌, ◌+◌, ◌*◌, ◌≤◌, ℕ, List, [], ◌∷◌, length, drop, arith, ap, sym}
use Rattle.std.proofs.Common.{◌∙◌}
use Rattle.std.proofs.Common.{All, subst}
use Rattle.std.proofs.lemmas.List.{length-drop, length_push}
use Rattle.std.proofs.lemmas.List.Elements.{All-append}
use Rattle.atomic_table.specs.Table.{Me}
use Rattle.count_words.specs.declared.rule.Knowledge.{Knowledge}
use Rattle.count_words.specs.declared.words.CountWriter.{CountWriter}
use Rattle.count_words.specs.Seats.{AreNumbered, HasCountedNone, IsWriterOf, first_of}
use Rattle.count_words.proofs.Keeping.{none_behind, none_taken, numbered, single}
use Rattle.count_words.proofs.words.Counts.make_seats.Goals as goal

pub loop-worker-preserved : goal.loop-worker-preserved
loop-worker-preserved c =
    let was = c.loop-worker.invariant in
    let seat = c.hand_on.ensures.seat in
    let old = c.loop-worker.first.me.0 in
    let first : c.hand_on.new.seat.me.0.first ≡ old.first + 64 =
    ap (λ (m : Me (Unit {0}) Knowledge). m.0.first) seat.1 in
    let many : length c.hand_on.new.seat.me.0.counts ≡ length (drop 64 old.counts) =
    ap (λ (m : Me (Unit {0}) Knowledge). length m.0.counts) seat.1 in
    let at : c.hand_on.result.seat.me.0.first ≡ 64 * c.loop-worker.worker =
    c.hand_on.ensures.first ∙ omega arith in
    let within : c.hand_on.result.seat.me.0.first + 64 ≤ c.args.self.now.table.shared.key =
    omega (arith, at, c.requires.size, c.loop-worker-test.true) in
    let one : All (IsWriterOf c.args.self.now) (c.hand_on.result ∷ []) =
    single (IsWriterOf c.args.self.now) c.hand_on.result (c.hand_on.ensures.writes, within) in
    let counts : c.hand_on.new.seat.me.0.counts ≡ drop 64 old.counts =
    ap (λ (m : Me (Unit {0}) Knowledge). m.0.counts) seat.1 in
    let zero : All HasCountedNone (c.hand_on.result ∷ []) =
    single HasCountedNone c.hand_on.result
    (none_taken old.counts c.hand_on.result.seat.me.0.counts c.hand_on.ensures.counts was.none) in
    record {
      table = seat.0 ∙ was.table;
      bare = ap (λ (m : Me (Unit {0}) Knowledge). m.1) seat.1;
      none = none_behind old.counts c.hand_on.new.seat.me.0.counts counts was.none;
      unread = ap (λ (m : Me (Unit {0}) Knowledge). m.0.reads) seat.1 ∙ was.unread;
      from = omega (arith, first, was.from);
      left =
          omega (arith, many, length-drop 64 old.counts, was.left, c.loop-worker-test.true);
      count = ap (λ (ws : List CountWriter). length ws) c.in_ok-push.ensures.items
          ∙ omega (arith, length_push c.loop-worker.writers.items c.hand_on.result, was.count);
      own = subst (All (IsWriterOf c.args.self.now)) (sym c.in_ok-push.ensures.items)
          (All-append (IsWriterOf c.args.self.now) c.loop-worker.writers.items
          (c.hand_on.result ∷ []) was.own one);
      numbers = subst AreNumbered (sym c.in_ok-push.ensures.items)
          (numbered (λ (w : CountWriter). first_of w) c.loop-worker.writers.items c.hand_on.result
          was.numbers (at ∙ ap (λ (n : ℕ). 64 * n) (sym was.count)));
      zero = subst (All HasCountedNone) (sym c.in_ok-push.ensures.items)
          (All-append HasCountedNone c.loop-worker.writers.items (c.hand_on.result ∷ []) was.zero
          zero);
    }
