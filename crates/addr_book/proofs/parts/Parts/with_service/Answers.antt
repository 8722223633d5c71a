use Rattle.std.proofs.Common.{◌≤◌, ℕ, length, arith, ap, sym, ◌∙◌, Some, subst}
use Rattle.std.specs.Prelude.{not}
use Rattle.std.specs.FinMap.{FinMap, insert, contains_key}
use Rattle.addr_book.specs.declared.fault.BookFault.TheVariants.{BookFull}
use Rattle.addr_book.specs.Parts.{contents_of}
use Rattle.addr_book.specs.Book.{after_set}
use Rattle.addr_book.specs.BookFault.{set_refusal}
use Rattle.addr_book.specs.AddrList.{addr_cmp, AreDistinct}
use Rattle.addr_book.specs.Uses.{IsSound}
use Rattle.addr_book.proofs.AddrLists.{distinct_filtered}
use Rattle.addr_book.proofs.Sound.{few_counts, used_once}
use Rattle.addr_book.proofs.SlotMaps.{newcomers_new}
use Rattle.addr_book.proofs.Setting.{few_kept, few_news, refused_full, not_refused, set_contents}
use Rattle.addr_book.proofs.Setting.{set_sound_book}
use Rattle.addr_book.proofs.parts.Parts.with_service.Goals as goal

pub moved-requires-clause-few : goal.moved-requires-clause-few
moved-requires-clause-few c = few_counts _ _ _ c.requires

pub moved-requires-clause-used : goal.moved-requires-clause-used
moved-requires-clause-used c =
    used_once c.args.self.now.services c.args.self.now.seats.slots c.args.self.now.seats.uses
    c.requires c.args.service.now c.addrs.result.now c.addrs.ensures.addrs

pub overflow_add-count : goal.overflow_add-count
overflow_add-count c =
    let few : length c.items-addrs.result.now ≤ 1024 =
    omega (arith, ap length c.items-addrs.ensures.items, c.items-addrs.ensures.rule.few) in
    omega (
      arith,
      c.len.ensures,
      c.len-2.ensures,
      c.in_ok-news.news.ok.0,
      few_kept c.args.self.now.services c.args.self.now.seats.slots c.args.self.now.seats.uses
          c.requires c.args.service.now c.addrs.result.now c.addrs.ensures.addrs
          c.in_ok-moved.moved.uses c.in_ok-moved.moved.slots c.in_ok-moved.ensures.slots
          c.items-addrs.result.now c.in_ok-moved.ensures.uses
          (sym c.has_no_room.ensures ∙ c.if-has_no_room.false) c.in_ok-news.news.items
          c.in_ok-news.ensures,
      few_news c.args.self.now.services c.args.self.now.seats.slots c.args.self.now.seats.uses
          c.requires c.args.service.now c.addrs.result.now c.addrs.ensures.addrs
          c.in_ok-moved.moved.uses c.in_ok-moved.moved.slots c.in_ok-moved.ensures.slots
          c.items-addrs.result.now c.in_ok-moved.ensures.uses
          (sym c.has_no_room.ensures ∙ c.if-has_no_room.false) c.in_ok-news.news.items
          c.in_ok-news.ensures few,
    )

pub overflow_cast-result : goal.overflow_cast-result
overflow_cast-result c =
    let few : length c.items-addrs.result.now ≤ 1024 =
    omega (arith, ap length c.items-addrs.ensures.items, c.items-addrs.ensures.rule.few) in
    omega (
      arith,
      c.len.ensures,
      c.len-2.ensures,
      c.in_ok-news.news.ok.0,
      few_kept c.args.self.now.services c.args.self.now.seats.slots c.args.self.now.seats.uses
          c.requires c.args.service.now c.addrs.result.now c.addrs.ensures.addrs
          c.in_ok-moved.moved.uses c.in_ok-moved.moved.slots c.in_ok-moved.ensures.slots
          c.items-addrs.result.now c.in_ok-moved.ensures.uses
          (sym c.has_no_room.ensures ∙ c.if-has_no_room.false) c.in_ok-news.news.items
          c.in_ok-news.ensures,
      few_news c.args.self.now.services c.args.self.now.seats.slots c.args.self.now.seats.uses
          c.requires c.args.service.now c.addrs.result.now c.addrs.ensures.addrs
          c.in_ok-moved.moved.uses c.in_ok-moved.moved.slots c.in_ok-moved.ensures.slots
          c.items-addrs.result.now c.in_ok-moved.ensures.uses
          (sym c.has_no_room.ensures ∙ c.if-has_no_room.false) c.in_ok-news.news.items
          c.in_ok-news.ensures few,
    )

pub returns-then-count-gt-MOST_SLOTS-clause-refused :
    goal.returns-then-count-gt-MOST_SLOTS-clause-refused
returns-then-count-gt-MOST_SLOTS-clause-refused c = λ _.
    ap (set_refusal (contents_of c.args.self.now) c.args.service.now)
    (sym c.items-addrs.ensures.items)
    ∙ (refused_full c.args.self.now.services c.args.self.now.seats.slots c.args.self.now.seats.uses
    c.requires c.args.service.now c.addrs.result.now c.addrs.ensures.addrs
    c.in_ok-moved.moved.uses c.in_ok-moved.moved.slots c.in_ok-moved.ensures.slots
    c.items-addrs.result.now c.in_ok-moved.ensures.uses
    (sym c.has_no_room.ensures ∙ c.if-has_no_room.false) c.in_ok-news.news.items
    c.in_ok-news.ensures
    (omega (
      arith,
      c.len.ensures,
      c.len-2.ensures,
      c.in_ok-news.news.ok.0,
      c.if-count-gt-MOST_SLOTS.true,
    ))
    ∙ ap (λ n. Some (BookFull n))
    (omega (arith, c.len.ensures, c.len-2.ensures, c.in_ok-news.news.ok.0)))

pub returns-clause-taken : goal.returns-clause-taken
returns-clause-taken c =
    ap (set_refusal (contents_of c.args.self.now) c.args.service.now)
    (sym c.items-addrs.ensures.items)
    ∙ not_refused c.args.self.now.services c.args.self.now.seats.slots c.args.self.now.seats.uses
    c.requires c.args.service.now c.addrs.result.now c.addrs.ensures.addrs
    c.in_ok-moved.moved.uses c.in_ok-moved.moved.slots c.in_ok-moved.ensures.slots
    c.items-addrs.result.now c.in_ok-moved.ensures.uses
    (sym c.has_no_room.ensures ∙ c.if-has_no_room.false) c.in_ok-news.news.items
    c.in_ok-news.ensures
    (omega (
      arith,
      c.len.ensures,
      c.len-2.ensures,
      c.in_ok-news.news.ok.0,
      c.if-count-gt-MOST_SLOTS.false,
    ))

pub returns-clause-sound : goal.returns-clause-sound
returns-clause-sound c =
    subst (λ (uses : FinMap addr_cmp ℕ).
    IsSound c.in_ok-services.services c.in_ok-seats.seats.slots uses)
    (sym c.in_ok-seats.ensures.uses)
    (set_sound_book c.args.self.now.services c.args.self.now.seats.slots c.args.self.now.seats.uses
    c.requires c.args.service.now c.addrs.result.now c.addrs.ensures.addrs
    c.in_ok-moved.moved.uses c.in_ok-moved.moved.slots c.in_ok-moved.ensures.slots
    c.items-addrs.result.now c.in_ok-moved.ensures.uses
    (sym c.has_no_room.ensures ∙ c.if-has_no_room.false) c.in_ok-news.news.items
    c.in_ok-news.ensures
    (omega (
      arith,
      c.len.ensures,
      c.len-2.ensures,
      c.in_ok-news.news.ok.0,
      c.if-count-gt-MOST_SLOTS.false,
    )) c.in_ok-services.services
    (c.in_ok-services.ensures
    ∙ (λ i. insert c.args.self.now.services c.args.service.now
    (sym c.items-addrs.ensures.items i))) c.in_ok-seats.seats.slots
    c.in_ok-seats.ensures.slots)

pub returns-clause-book : goal.returns-clause-book
returns-clause-book c =
    set_contents c.args.self.now.services c.args.self.now.seats.slots c.args.self.now.seats.uses
    c.requires c.args.service.now c.addrs.result.now c.addrs.ensures.addrs
    c.in_ok-moved.moved.uses c.in_ok-moved.moved.slots c.in_ok-moved.ensures.slots
    c.items-addrs.result.now c.in_ok-moved.ensures.uses
    (sym c.has_no_room.ensures ∙ c.if-has_no_room.false) c.in_ok-news.news.items
    c.in_ok-news.ensures
    (omega (
      arith,
      c.len.ensures,
      c.len-2.ensures,
      c.in_ok-news.news.ok.0,
      c.if-count-gt-MOST_SLOTS.false,
    )) c.in_ok-services.services
    (c.in_ok-services.ensures
    ∙ (λ i. insert c.args.self.now.services c.args.service.now
    (sym c.items-addrs.ensures.items i))) c.in_ok-seats.seats.slots
    c.in_ok-seats.ensures.slots
    ∙ ap (after_set (contents_of c.args.self.now) c.args.service.now) c.items-addrs.ensures.items

pub seated-requires-clause-distinct : goal.seated-requires-clause-distinct
seated-requires-clause-distinct c =
    subst AreDistinct (sym c.in_ok-news.ensures)
    (distinct_filtered (λ item. not (contains_key c.in_ok-moved.moved.slots item.addr))
    c.items-addrs.result.now
    (subst AreDistinct (sym c.items-addrs.ensures.items) c.items-addrs.ensures.rule.distinct))

pub seated-requires-clause-new : goal.seated-requires-clause-new
seated-requires-clause-new c =
    newcomers_new c.in_ok-moved.moved.slots c.items-addrs.result.now c.in_ok-news.news.items
    c.in_ok-news.ensures
