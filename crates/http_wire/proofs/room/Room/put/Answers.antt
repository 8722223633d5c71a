use Rattle.std.proofs.Common.{ℕ, ◌≡◌, ◌≤◌, ◌+◌, ◌-◌, List, ◌++◌, length, take, ap, arith, ◌∙◌}
use Rattle.std.specs.List.{slice_range}
use Rattle.std.proofs.lemmas.List.{with_items_is}
use borrow.Rule.Slice.PartMut.{post_of}
use Rattle.http_wire.proofs.Held.{put_behind, same_length}
use Rattle.http_wire.proofs.room.Room.put.Goals as goal

pub returns : goal.returns
returns c =
    let bytes = c.deref_mut.result.now in
    let within : c.args.self.now.end ≤ length bytes =
    omega (arith, c.deref_mut.ensures.len, c.args.self.now.within.1) in
    let room : c.args.self.now.end + length c.args.more.now ≤ length bytes =
    omega (arith, c.deref_mut.ensures.len, c.requires) in
    let tail = post_of c.args.self.now.end
    (c.args.self.now.end + length c.args.more.now - c.args.self.now.end) bytes in
    let all = take c.args.self.now.end bytes ++ (c.copy_from_slice.new.self ++ tail) in
    let long : length all ≡ c.args.self.now.bytes.len =
    same_length bytes c.copy_from_slice.new.self c.args.self.now.end (length c.args.more.now) room
    (ap length c.copy_from_slice.ensures.after) ∙ c.deref_mut.ensures.len in
    ap (λ (xs : List ℕ). slice_range xs c.args.self.now.at
    (c.args.self.now.end + length c.args.more.now)) (with_items_is c.args.self.now.bytes all long)
    ∙ (ap (λ (more : List ℕ). slice_range (take c.args.self.now.end bytes ++ (more ++ tail))
    c.args.self.now.at (c.args.self.now.end + length c.args.more.now))
    c.copy_from_slice.ensures.after
    ∙ (put_behind bytes c.args.more.now tail c.args.self.now.at c.args.self.now.end
    c.args.self.now.within.0 within
    ∙ ap (λ (xs : List ℕ). slice_range xs c.args.self.now.at c.args.self.now.end
    ++ c.args.more.now) c.deref_mut.ensures.value))
