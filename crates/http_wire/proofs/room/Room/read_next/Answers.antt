use Rattle.std.proofs.Common.{ℕ, ◌≡◌, ◌≤◌, ◌+◌, ◌-◌, List, ◌++◌, length, take, ap, arith, ◌∙◌}
use Rattle.std.specs.List.{slice_range}
use Rattle.std.proofs.lemmas.List.{with_items_is}
use borrow.Rule.Slice.PartMut.{post_of}
use Rattle.http_wire.proofs.Coming.{came_closing, came_quiet, came_end, came_some, end_given}
use Rattle.http_wire.proofs.Coming.{fault_given, piece_given}
use Rattle.http_wire.proofs.Held.{kept_before, lent_length, read_behind, same_length}
use Rattle.http_wire.proofs.room.Room.read_next.Goals as goal

pub returns-in-Ok-Bytes : goal.returns-in-Ok-Bytes
returns-in-Ok-Bytes g c =
    let bytes = c.deref_mut.result.now in
    let old = g.P.Peer.line c.args.peer.now in
    let new = g.P.Peer.line c.read_next.new.self in
    let within : c.args.self.now.end ≤ length bytes =
    omega (arith, c.deref_mut.ensures.len, c.args.self.now.within.1) in
    let room : c.args.self.now.end + c.args.most ≤ length bytes =
    omega (arith, c.deref_mut.ensures.len, c.requires.room) in
    let tail = post_of c.args.self.now.end
    (c.args.self.now.end + c.args.most - c.args.self.now.end) bytes in
    let all = take c.args.self.now.end bytes ++ (c.read_next.new.into ++ tail) in
    let given : length c.read_next.new.into ≡ c.args.most =
    c.read_next.auto.into ∙ lent_length bytes c.args.self.now.end c.args.most room in
    let long : length all ≡ c.args.self.now.bytes.len =
    same_length bytes c.read_next.new.into c.args.self.now.end c.args.most room given
    ∙ c.deref_mut.ensures.len in
    let count = c.in-Ok-Bytes.count in
    let read = came_some old new c.read_next.new.into c.in-Ok-Bytes.field-0 _ count
    c.in-Ok-Bytes.field-0-is c.in-Ok-Bytes.count-is c.in-Ok-Bytes.ensures in
    piece_given old new c.read_next.new.into _ _ count c.args.most read (omega (arith, given))
    (ap (λ (xs : List ℕ). slice_range xs c.args.self.now.at (c.args.self.now.end + count))
    (with_items_is c.args.self.now.bytes all long)
    ∙ read_behind bytes c.read_next.new.into tail c.args.self.now.at c.args.self.now.end count
    c.args.self.now.within.0 within read.1.bound.0
    ∙ ap (λ (xs : List ℕ). slice_range xs c.args.self.now.at c.args.self.now.end
    ++ take count c.read_next.new.into) c.deref_mut.ensures.value)

pub returns-in-Ok-End : goal.returns-in-Ok-End
returns-in-Ok-End g c =
    let bytes = c.deref_mut.result.now in
    let old = g.P.Peer.line c.args.peer.now in
    let new = g.P.Peer.line c.read_next.new.self in
    let within : c.args.self.now.end ≤ length bytes =
    omega (arith, c.deref_mut.ensures.len, c.args.self.now.within.1) in
    let room : c.args.self.now.end + c.args.most ≤ length bytes =
    omega (arith, c.deref_mut.ensures.len, c.requires.room) in
    let tail = post_of c.args.self.now.end
    (c.args.self.now.end + c.args.most - c.args.self.now.end) bytes in
    let all = take c.args.self.now.end bytes ++ (c.read_next.new.into ++ tail) in
    let given : length c.read_next.new.into ≡ c.args.most =
    c.read_next.auto.into ∙ lent_length bytes c.args.self.now.end c.args.most room in
    let long : length all ≡ c.args.self.now.bytes.len =
    same_length bytes c.read_next.new.into c.args.self.now.end c.args.most room given
    ∙ c.deref_mut.ensures.len in
    end_given old new c.read_next.new.into _ _
    (let some = c.requires.some in omega (arith, given, some))
    (came_end old new c.read_next.new.into c.in-Ok-End.field-0 c.in-Ok-End.field-0-is
    c.in-Ok-End.ensures)
    (ap (λ (xs : List ℕ). slice_range xs c.args.self.now.at c.args.self.now.end)
    (with_items_is c.args.self.now.bytes all long)
    ∙ kept_before bytes (c.read_next.new.into ++ tail) c.args.self.now.at c.args.self.now.end
    c.args.self.now.within.0 within
    ∙ ap (λ (xs : List ℕ). slice_range xs c.args.self.now.at c.args.self.now.end)
    c.deref_mut.ensures.value)

pub returns-in-Ok-Closing : goal.returns-in-Ok-Closing
returns-in-Ok-Closing g c =
    let bytes = c.deref_mut.result.now in
    let old = g.P.Peer.line c.args.peer.now in
    let new = g.P.Peer.line c.read_next.new.self in
    let within : c.args.self.now.end ≤ length bytes =
    omega (arith, c.deref_mut.ensures.len, c.args.self.now.within.1) in
    let room : c.args.self.now.end + c.args.most ≤ length bytes =
    omega (arith, c.deref_mut.ensures.len, c.requires.room) in
    let tail = post_of c.args.self.now.end
    (c.args.self.now.end + c.args.most - c.args.self.now.end) bytes in
    let all = take c.args.self.now.end bytes ++ (c.read_next.new.into ++ tail) in
    let given : length c.read_next.new.into ≡ c.args.most =
    c.read_next.auto.into ∙ lent_length bytes c.args.self.now.end c.args.most room in
    let long : length all ≡ c.args.self.now.bytes.len =
    same_length bytes c.read_next.new.into c.args.self.now.end c.args.most room given
    ∙ c.deref_mut.ensures.len in
    record {
      same = (ap (λ (xs : List ℕ). slice_range xs c.args.self.now.at c.args.self.now.end)
          (with_items_is c.args.self.now.bytes all long)
          ∙ kept_before bytes (c.read_next.new.into ++ tail) c.args.self.now.at c.args.self.now.end
          c.args.self.now.within.0 within
          ∙ ap (λ (xs : List ℕ). slice_range xs c.args.self.now.at c.args.self.now.end)
          c.deref_mut.ensures.value);
      closing = came_closing old new c.read_next.new.into c.in-Ok-Closing.field-0
          c.in-Ok-Closing.field-0-is c.in-Ok-Closing.ensures;
    }

pub returns-in-Ok-Quiet : goal.returns-in-Ok-Quiet
returns-in-Ok-Quiet g c =
    let bytes = c.deref_mut.result.now in
    let old = g.P.Peer.line c.args.peer.now in
    let new = g.P.Peer.line c.read_next.new.self in
    let within : c.args.self.now.end ≤ length bytes =
    omega (arith, c.deref_mut.ensures.len, c.args.self.now.within.1) in
    let room : c.args.self.now.end + c.args.most ≤ length bytes =
    omega (arith, c.deref_mut.ensures.len, c.requires.room) in
    let tail = post_of c.args.self.now.end
    (c.args.self.now.end + c.args.most - c.args.self.now.end) bytes in
    let all = take c.args.self.now.end bytes ++ (c.read_next.new.into ++ tail) in
    let given : length c.read_next.new.into ≡ c.args.most =
    c.read_next.auto.into ∙ lent_length bytes c.args.self.now.end c.args.most room in
    let long : length all ≡ c.args.self.now.bytes.len =
    same_length bytes c.read_next.new.into c.args.self.now.end c.args.most room given
    ∙ c.deref_mut.ensures.len in
    record {
      same = (ap (λ (xs : List ℕ). slice_range xs c.args.self.now.at c.args.self.now.end)
          (with_items_is c.args.self.now.bytes all long)
          ∙ kept_before bytes (c.read_next.new.into ++ tail) c.args.self.now.at c.args.self.now.end
          c.args.self.now.within.0 within
          ∙ ap (λ (xs : List ℕ). slice_range xs c.args.self.now.at c.args.self.now.end)
          c.deref_mut.ensures.value);
      quiet = came_quiet old new c.read_next.new.into c.in-Ok-Quiet.field-0
          c.in-Ok-Quiet.field-0-is c.in-Ok-Quiet.ensures;
    }

pub returns-in-Err : goal.returns-in-Err
returns-in-Err g c =
    let bytes = c.deref_mut.result.now in
    let old = g.P.Peer.line c.args.peer.now in
    let new = g.P.Peer.line c.read_next.new.self in
    let within : c.args.self.now.end ≤ length bytes =
    omega (arith, c.deref_mut.ensures.len, c.args.self.now.within.1) in
    let room : c.args.self.now.end + c.args.most ≤ length bytes =
    omega (arith, c.deref_mut.ensures.len, c.requires.room) in
    let tail = post_of c.args.self.now.end
    (c.args.self.now.end + c.args.most - c.args.self.now.end) bytes in
    let all = take c.args.self.now.end bytes ++ (c.read_next.new.into ++ tail) in
    let given : length c.read_next.new.into ≡ c.args.most =
    c.read_next.auto.into ∙ lent_length bytes c.args.self.now.end c.args.most room in
    let long : length all ≡ c.args.self.now.bytes.len =
    same_length bytes c.read_next.new.into c.args.self.now.end c.args.most room given
    ∙ c.deref_mut.ensures.len in
    fault_given old new c.read_next.new.into _ _ c.in-Err.failed c.in-Err.ensures
    (ap (λ (xs : List ℕ). slice_range xs c.args.self.now.at c.args.self.now.end)
    (with_items_is c.args.self.now.bytes all long)
    ∙ kept_before bytes (c.read_next.new.into ++ tail) c.args.self.now.at c.args.self.now.end
    c.args.self.now.within.0 within
    ∙ ap (λ (xs : List ℕ). slice_range xs c.args.self.now.at c.args.self.now.end)
    c.deref_mut.ensures.value)
