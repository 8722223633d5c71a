use Rattle.std.proofs.Common.{ℕ, ◌≡◌, ◌≤◌, ◌+◌, ◌-◌, List, ◌++◌, length, take, ap, sym, arith, ◌∙◌}
use Rattle.std.specs.List.{slice_range}
use Rattle.std.proofs.lemmas.List.{with_items_is}
use borrow.Rule.Slice.PartMut.{post_of}
use Rattle.http_wire.proofs.Held.{kept_before, lent_length, read_behind, same_length}
use Rattle.http_wire.proofs.room.Room.receive.Goals as goal

pub returns-in-Ok-clause-bytes : goal.returns-in-Ok-clause-bytes
returns-in-Ok-clause-bytes g c =
    let bytes = c.deref_mut.result.now in
    let within : c.args.self.now.end ≤ length bytes =
    omega (arith, c.deref_mut.ensures.len, c.args.self.now.within.1) in
    let room : c.args.self.now.end + c.args.most ≤ length bytes =
    omega (arith, c.deref_mut.ensures.len, c.requires.room) in
    let tail = post_of c.args.self.now.end
    (c.args.self.now.end + c.args.most - c.args.self.now.end) bytes in
    let all = take c.args.self.now.end bytes ++ (c.recv.new.into ++ tail) in
    let given : length c.recv.new.into ≡ c.args.most =
    c.recv.auto.into ∙ lent_length bytes c.args.self.now.end c.args.most room in
    let long : length all ≡ c.args.self.now.bytes.len =
    same_length bytes c.recv.new.into c.args.self.now.end c.args.most room given
    ∙ c.deref_mut.ensures.len in (
      take c.in-Ok.count c.recv.new.into,
      c.in-Ok.ensures.bytes.0,
      c.in-Ok.ensures.log.0 (omega (arith, given, c.requires.some)),
      sym c.in-Ok.ensures.bound.1,
      λ none. c.in-Ok.ensures.bytes.1 none (omega (arith, given, c.requires.some)),
      ap (λ (xs : List ℕ). slice_range xs c.args.self.now.at (c.args.self.now.end + c.in-Ok.count))
          (with_items_is c.args.self.now.bytes all long)
          ∙ read_behind bytes c.recv.new.into tail c.args.self.now.at c.args.self.now.end
          c.in-Ok.count c.args.self.now.within.0 within c.in-Ok.ensures.bound.0
          ∙ ap (λ (xs : List ℕ). slice_range xs c.args.self.now.at c.args.self.now.end
          ++ take c.in-Ok.count c.recv.new.into) c.deref_mut.ensures.value,
    )

pub returns-in-Err-clause-bytes : goal.returns-in-Err-clause-bytes
returns-in-Err-clause-bytes g c =
    let bytes = c.deref_mut.result.now in
    let within : c.args.self.now.end ≤ length bytes =
    omega (arith, c.deref_mut.ensures.len, c.args.self.now.within.1) in
    let room : c.args.self.now.end + c.args.most ≤ length bytes =
    omega (arith, c.deref_mut.ensures.len, c.requires.room) in
    let tail = post_of c.args.self.now.end
    (c.args.self.now.end + c.args.most - c.args.self.now.end) bytes in
    let all = take c.args.self.now.end bytes ++ (c.recv.new.into ++ tail) in
    let given : length c.recv.new.into ≡ c.args.most =
    c.recv.auto.into ∙ lent_length bytes c.args.self.now.end c.args.most room in
    let long : length all ≡ c.args.self.now.bytes.len =
    same_length bytes c.recv.new.into c.args.self.now.end c.args.most room given
    ∙ c.deref_mut.ensures.len in (
      c.in-Err.ensures.bytes,
      c.in-Err.ensures.log,
      ap (λ (xs : List ℕ). slice_range xs c.args.self.now.at c.args.self.now.end)
          (with_items_is c.args.self.now.bytes all long)
          ∙ kept_before bytes (c.recv.new.into ++ tail) c.args.self.now.at c.args.self.now.end
          c.args.self.now.within.0 within
          ∙ ap (λ (xs : List ℕ). slice_range xs c.args.self.now.at c.args.self.now.end)
          c.deref_mut.ensures.value,
    )
