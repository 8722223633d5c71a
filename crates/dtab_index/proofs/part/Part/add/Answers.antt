use Rattle.std.proofs.Common.{◌≡◌, ◌≢◌, ◌-◌, ◌++◌, ◌∷◌, [], ℕ, Option, Vec, Global, length, sym, ap}
use Rattle.std.proofs.Common.{subst, ◌∙◌, arith}
use Rattle.dtab_index.specs.Columns.{AreBlank, AreSaid, KeepSaid}
use Rattle.dtab_index.specs.Part.{placed_in}
use Rattle.dtab_index.specs.Prefix.{patterns_of}
use Rattle.dtab_index.specs.declared.part.Entry.{Entry}
use Rattle.dtab_index.proofs.Filing.{placed_failed, placed_added, kept_failed, kept_added, on_err}
use Rattle.dtab_index.proofs.part.Part.add.Goals as goal

pub put_prefix-requires-clause-blank : goal.put_prefix-requires-clause-blank
put_prefix-requires-clause-blank c =
    let last : c.len-index.result ≡ length c.args.self.now.entries.items =
    omega (arith, c.len-index.ensures, c.args.self.now.entries.ok.0) in
    let P : ℕ → Type 0 = λ n. AreBlank c.args.self.now.columns.items (1023 - n) in
    subst P (sym last) (c.requires.kept.blank (length c.args.self.now.entries.items)
    (omega arith) c.requires.room)

pub returns-in_err-put_prefix-clause-kept : goal.returns-in_err-put_prefix-clause-kept
returns-in_err-put_prefix-clause-kept c =
    let last : c.len-index.result ≡ length c.args.self.now.entries.items =
    omega (arith, c.len-index.ensures, c.args.self.now.entries.ok.0) in
    let stands : (other : ℕ) → other ≢ 1023 - length c.args.self.now.entries.items
    → KeepSaid c.args.self.now.columns.items c.put_prefix.new.columns.items other =
    λ other ne. c.put_prefix.ensures.kept other (λ e. ne (e ∙ ap (λ n. 1023 - n) last)) in
    kept_failed c.args.self.now.entries.items c.push.new.self.items c.in_ok-push.ensures.items
    c.args.self.now.columns.items c.put_prefix.new.columns.items c.requires.kept c.requires.room
    stands

pub returns-in_err-put_prefix-clause-err : goal.returns-in_err-put_prefix-clause-err
returns-in_err-put_prefix-clause-err c =
    on_err c.from_residual-in_err-put_prefix.result _
    (placed_failed c.args.self.now.entries.items c.push.new.self.items c.in_ok-push.ensures.items)

pub returns-clause-kept : goal.returns-clause-kept
returns-clause-kept c =
    let last : c.len-index.result ≡ length c.args.self.now.entries.items =
    omega (arith, c.len-index.ensures, c.args.self.now.entries.ok.0) in
    let stands : (other : ℕ) → other ≢ 1023 - length c.args.self.now.entries.items
    → KeepSaid c.args.self.now.columns.items c.put_prefix.new.columns.items other =
    λ other ne. c.put_prefix.ensures.kept other (λ e. ne (e ∙ ap (λ n. 1023 - n) last)) in
    let e : Entry = record { prefix = c.of.result; at = c.args.at } in
    let P : Vec (Option (Vec ℕ Global)) Global → Type 0 =
    λ v. AreSaid c.put_prefix.new.columns.items (patterns_of v.items) (1023 - c.len-index.result) in
    kept_added c.args.self.now.entries.items c.push.new.self.items c.in_ok-push.ensures.items
    c.args.self.now.columns.items c.put_prefix.new.columns.items c.requires.kept c.requires.room
    stands e c.len-index.result last
    (subst P (sym c.of.ensures) c.in_ok-put_prefix.ensures.said)

pub returns-clause-ok : goal.returns-clause-ok
returns-clause-ok c =
    let last : c.len-index.result ≡ length c.args.self.now.entries.items =
    omega (arith, c.len-index.ensures, c.args.self.now.entries.ok.0) in
    let e : Entry = record { prefix = c.of.result; at = c.args.at } in
    placed_added c.args.self.now.entries.items c.push.new.self.items c.in_ok-push.ensures.items e
    c.len-index.result last
    ∙ ap (λ (v : Vec (Option (Vec ℕ Global)) Global). placed_in c.args.self.now.entries.items
    ++ (patterns_of v.items, c.args.at) ∷ []) c.of.ensures
