-- What a scraper tells of itself.
use Rattle.std.specs.Prelude.{◌≡◌, ℕ, List, Option}
use Rattle.count_words.specs.Seats.{WordsId}
use Rattle.line_base.specs.Clocks.{Tells}
use Rattle.scrape.specs.declared.sums.Sums.{Sums}
use Rattle.scrape.specs.Sums.{AreSums, IsReading}

-- which words a scraper reads, if there are any
abbrev pub Words : Type 0
Words = Option WordsId

-- the moments to come of its clock, where it tells them, which words it reads, how many these are,
-- and what it has read of them, in order
pub record Scraping : Type 0 where
  pub moments : Option (List ℕ)
  pub words : Words
  pub size : ℕ
  pub reads : List (ℕ × ℕ)

-- its clock was asked for the moment
pub record IsMoment (old new : Scraping) (given : ℕ) : Type 0 where
  pub moment : Tells old.moments new.moments given
  pub words : new.words ≡ old.words
  pub size : new.size ≡ old.size
  pub reads : new.reads ≡ old.reads

-- each word was read once, and these are the sums of what was found
pub record SumsUp (old new : Scraping) (given : Sums) : Type 0 where
  pub moments : new.moments ≡ old.moments
  pub words : new.words ≡ old.words
  pub size : new.size ≡ old.size
  pub found : List (ℕ × ℕ)
  pub reading : IsReading old.size old.reads new.reads found
  pub sums : AreSums given.counts found
