use Rattle.std.proofs.Common.{refl, ◌∙◌, arith}
use Rattle.load_words.proofs.Keeping.{opens}
use Rattle.load_words.proofs.opening.start.Goals as goal

pub of_words-requires : goal.of_words-requires
of_words-requires c = opens _ 8192 _ (omega (arith, c.requires.1)) refl
    (c.as_slice.ensures.value ∙ c.in_ok-words.ensures.items_if_clones_equal (λ y e. e))
