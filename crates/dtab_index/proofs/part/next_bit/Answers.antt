use Rattle.std.proofs.Common.{ℕ, ◌^◌, ◌*◌, ◌-◌, ◌%◌, ◌<◌, refl, arith}
use lib.Bits.{bit_and}
use Rattle.std.proofs.lemmas.Nat.{and_le_l}
use Rattle.dtab_index.proofs.WordBits.{past_word, no_bit, next_is}
use Rattle.dtab_index.proofs.part.next_bit.Goals as goal

abbrev rest_of : ℕ → ℕ → ℕ
rest_of word from = bit_and word ((2 ^ 64 - 1) * 2 ^ from % 2 ^ 64)

pub returns-then-from-ge-WORD_PLACES : goal.returns-then-from-ge-WORD_PLACES
returns-then-from-ge-WORD_PLACES c =
    let small : c.args.word < 2 ^ 64 = omega arith in
    past_word c.args.word c.args.from small c.if-from-ge-WORD_PLACES.true

pub returns-then-rest-eq0 : goal.returns-then-rest-eq0
returns-then-rest-eq0 c =
    let small : c.args.word < 2 ^ 64 = omega arith in
    no_bit c.args.word c.args.from (rest_of c.args.word c.args.from) small
    c.if-from-ge-WORD_PLACES.false refl c.if-rest-eq0.true

pub returns : goal.returns
returns c =
    let small : c.args.word < 2 ^ 64 = omega arith in
    let rest : ℕ = rest_of c.args.word c.args.from in
    let some : 0 < rest = omega (arith, c.if-rest-eq0.false) in
    let fits : rest < 2 ^ 64 =
    omega (arith, small, and_le_l c.args.word ((2 ^ 64 - 1) * 2 ^ c.args.from % 2 ^ 64)) in
    next_is c.args.word c.args.from rest small c.if-from-ge-WORD_PLACES.false refl some fits
