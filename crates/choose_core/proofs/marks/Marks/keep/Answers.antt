use Rattle.std.proofs.Common.{ap, ◌∙◌, rules, arith, ◌≡◌, ◌≤◌}
use Rattle.std.specs.Prelude.{filter}
use Rattle.std.specs.FinMap as fin
use Rattle.std.proofs.lemmas.Fn.{filter_same}
use Rattle.std.proofs.lemmas.List.Sums.{length-filter, count_by-le-length}
use Rattle.addr_book.specs.Book.{is_used}
use Rattle.choose_core.specs.declared.marked.Marked.{Marked}
use Rattle.choose_core.specs.Marked.{marks_of}
use Rattle.choose_core.proofs.Finding.{sorted_kept, map_kept, all_filter}
use Rattle.choose_core.proofs.marks.Marks.keep.Goals as goal

pub invariant_of-self : goal.invariant_of-self
invariant_of-self c =
    let kept : c.retain.new.self.items ≡ filter (λ m. is_used c.args.book.now.services m.addr)
    c.self.inside.items.items = filter_same _ (λ m. is_used c.args.book.now.services m.addr) _
    (λ x b g called. search rules) _ _ c.retain.ensures.filtered in
    rw (kept, c.retain.ensures.capacity) (record {
      sound = record {
        sorted = sorted_kept (is_used c.args.book.now.services) c.self.inside.items.items
            c.self.invariant.sound.sorted;
        failed = all_filter (λ m. 1 ≤ m.mark.count) (λ m. is_used c.args.book.now.services m.addr)
            c.self.inside.items.items c.self.invariant.sound.failed;
        few = omega (
          arith,
          length-filter (λ (m : Marked). is_used c.args.book.now.services m.addr)
              c.self.inside.items.items,
          count_by-le-length (λ (m : Marked). is_used c.args.book.now.services m.addr)
              c.self.inside.items.items,
          c.self.invariant.sound.few,
        );
        room = c.self.invariant.sound.room;
      };
      over = all_filter (λ m. m.mark.until ≤ c.self.inside.until)
          (λ m. is_used c.args.book.now.services m.addr) c.self.inside.items.items
          c.self.invariant.over;
    })

pub returns : goal.returns
returns c =
    let kept : c.retain.new.self.items ≡ filter (λ m. is_used c.args.book.now.services m.addr)
    c.self.inside.items.items = filter_same _ (λ m. is_used c.args.book.now.services m.addr) _
    (λ x b g called. search rules) _ _ c.retain.ensures.filtered in
    ap marks_of kept ∙ (map_kept (is_used c.args.book.now.services) c.self.inside.items.items
    c.self.invariant.sound.sorted ∙ ap (λ m. fin.retain_keys m (is_used c.args.book.now.services))
    c.self.view_is)
