use Rattle.std.proofs.Common.{ℕ, List, Err, ap, sym, ◌∙◌, subst}
use Rattle.addr_book.specs.Name.{IsName}
use Rattle.line_base.specs.declared.folder.Found.TheVariants.{Absent, Bytes, Longer}
use Rattle.linker_config.specs.declared.loaded.LoadFault.TheVariants.{LongFile}
use Rattle.linker_config.specs.Folder.{file_told}
use Rattle.linker_config.specs.Loading.{Adds, behind}
use Rattle.linker_config.proofs.Loads.{found_at, steps_bytes, with_name-absent, with_name-longer}
use Rattle.linker_config.proofs.Loads.{with_name-other}
use Rattle.linker_config.proofs.folder.load_name.Goals as goal

pub returns-in-Err-NotName-clause-steps : goal.returns-in-Err-NotName-clause-steps
returns-in-Err-NotName-clause-steps g c files is others =
    let other : ¬ (IsName c.args.name.now) =
    λ named. c.in-Err-NotName.ensures.not_name c.in-Err-NotName.field-0-is
    (subst IsName (sym c.as_bytes.ensures.value) named) in
    ap (behind c.args.items.now.items)
    (with_name-other files c.args.root.now c.args.name.now others other)

pub returns-in-Ok-Absent-clause-steps : goal.returns-in-Ok-Absent-clause-steps
returns-in-Ok-Absent-clause-steps g c files is others =
    let named = subst IsName c.as_bytes.ensures.value c.in-Ok.ensures.name in
    let path = c.as_str.ensures.value ∙ c.in-Ok-path_of.ensures in
    let found = rw c.in-Ok-Absent.field-0-is at c.in-Ok-Absent.ensures.found in
    ap (behind c.args.items.now.items)
    (with_name-absent files c.args.root.now c.args.name.now others 1048576 named
    (found_at (g.F.Folder.filed c.args.folder.now).files files c.as_str.result.now c.args.root.now
    c.args.name.now 1048576 Absent is path found))

pub returns-in-Ok-Longer-clause-steps : goal.returns-in-Ok-Longer-clause-steps
returns-in-Ok-Longer-clause-steps g c files is others =
    let named = subst IsName c.as_bytes.ensures.value c.in-Ok.ensures.name in
    let path = c.as_str.ensures.value ∙ c.in-Ok-path_of.ensures in
    let found = rw c.in-Ok-Longer.field-0-is at c.in-Ok-Longer.ensures.found in
    with_name-longer files c.args.root.now c.args.name.now others named
    (found_at (g.F.Folder.filed c.args.folder.now).files files c.as_str.result.now c.args.root.now
    c.args.name.now 1048576 Longer is path found)
    ∙ ap (λ (n : List ℕ). Err (LongFile n)) (sym (c.in-Ok.ensures.ok ∙ c.as_bytes.ensures.value))

pub returns-in-Ok-Bytes-clause-steps : goal.returns-in-Ok-Bytes-clause-steps
returns-in-Ok-Bytes-clause-steps g c files is =
    let named = subst IsName c.as_bytes.ensures.value c.in-Ok.ensures.name in
    let path = c.as_str.ensures.value ∙ c.in-Ok-path_of.ensures in
    let found = rw c.in-Ok-Bytes.field-0-is at c.in-Ok-Bytes.ensures.found in
    let service : List ℕ → Type 0 = λ n.
    Adds (file_told n c.as_slice.result.now) c.args.items.now.items c.add_file.new.items.items
    c.add_file.result in
    let text : List ℕ → Type 0 = λ bytes.
    Adds (file_told c.args.name.now bytes) c.args.items.now.items c.add_file.new.items.items
    c.add_file.result in
    let adds = subst text c.as_slice.ensures.value
    (subst service (c.in-Ok.ensures.ok ∙ c.as_bytes.ensures.value) c.add_file.ensures) in
    steps_bytes files c.args.root.now c.args.name.now c.in-Ok-Bytes.bytes c.args.items.now.items
    c.add_file.new.items.items c.add_file.result named
    (found_at (g.F.Folder.filed c.args.folder.now).files files c.as_str.result.now c.args.root.now
    c.args.name.now 1048576 (Bytes c.in-Ok-Bytes.bytes) is path found) adds
