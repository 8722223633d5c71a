-- What is handed out to the listeners of a site, one kind after another, is enough for all.
use Rattle.std.proofs.Common.{◌≡◌, ℕ, ◌+◌, ◌≤◌, ◌<◌, length, arith}
use Rattle.serving.specs.declared.bound.Bound.{Bound}
use Rattle.serving.specs.declared.site.Site.{Site}
use Rattle.serving.specs.Posts.{feed_jobs, interface_jobs, jobs_of}

pub as_many : (some given most : ℕ) → some ≡ given → most ≤ given → most ≤ some
as_many some given most same few = omega (arith, same, few)

pub at_least : (given most : ℕ) → given ≡ most → most ≤ given
at_least given most same = omega (arith, same)

pub one_behind : (some most : ℕ) → some ≡ most → some ≤ most + 1
one_behind some most same = omega (arith, same)

pub one_left : (left most given : ℕ) → left + most ≡ given → given ≡ most + 1 → left ≡ 1
one_left left most given one same = omega (arith, one, same)

pub some_there : (given most : ℕ) → given ≡ most + 1 → 0 < given
some_there given most same = omega (arith, same)

pub few_of : (some few most : ℕ) → some ≡ few → few < most → some < most
few_of some few most same less = omega (arith, same, less)

module _ {L : Type 0} (site : Site) (b : Bound L) where
  -- so many listeners there are of each kind
  abbrev AreCounted : Type 0
  AreCounted =
      (length b.server.items ≡ site.workers) × (length b.namerd.items ≡ 2)
      × (length b.admin.items ≡ 2) × (length b.feed.items ≡ feed_jobs site.feed)

  -- of what is handed out to all of them
  pub first_shared : (given : ℕ) → AreCounted → jobs_of site ≤ given
      → length b.server.items ≤ given
  first_shared given n enough = omega (arith, n.0, enough)

  pub second_shared : (given left : ℕ) → AreCounted → jobs_of site ≤ given
      → left + length b.server.items ≡ given → length b.namerd.items ≤ left
  second_shared given left n enough one = omega (arith, n.0, n.1, enough, one)

  pub third_shared : (given left less : ℕ) → AreCounted → jobs_of site ≤ given
      → left + length b.server.items ≡ given → less + length b.namerd.items ≡ left
      → length b.admin.items ≤ less
  third_shared given left less n enough one two = omega (arith, n.0, n.1, n.2, enough, one, two)

  pub fourth_shared : (given left less least : ℕ) → AreCounted → jobs_of site ≤ given
      → left + length b.server.items ≡ given → less + length b.namerd.items ≡ left
      → least + length b.admin.items ≡ less → length b.feed.items ≤ least
  fourth_shared given left less least n enough one two three =
      omega (arith, n.0, n.1, n.2, n.3, enough, one, two, three)

  pub all_shared : (given left less least rest : ℕ) → AreCounted
      → left + length b.server.items ≡ given → less + length b.namerd.items ≡ left
      → least + length b.admin.items ≡ less → rest + length b.feed.items ≡ least
      → rest + jobs_of site ≡ given
  all_shared given left less least rest n one two three four =
      omega (arith, n.0, n.1, n.2, n.3, one, two, three, four)

  -- of what is handed out to those of the interfaces
  pub first_called : (has given : ℕ) → AreCounted → has ≡ given → interface_jobs site ≤ given
      → length b.namerd.items ≤ has
  first_called has given n same enough = omega (arith, n.1, same, enough)

  pub second_called : (has given left : ℕ) → AreCounted → has ≡ given
      → interface_jobs site ≤ given → left + length b.namerd.items ≡ has
      → length b.admin.items ≤ left
  second_called has given left n same enough one = omega (arith, n.1, n.2, same, enough, one)

  pub third_called : (has given left less : ℕ) → AreCounted → has ≡ given
      → interface_jobs site ≤ given → left + length b.namerd.items ≡ has
      → less + length b.admin.items ≡ left → length b.feed.items ≤ less
  third_called has given left less n same enough one two =
      omega (arith, n.1, n.2, n.3, same, enough, one, two)

  -- and none is left
  pub none_called : (has left less last : ℕ) → AreCounted → has ≡ interface_jobs site
      → left + length b.namerd.items ≡ has → less + length b.admin.items ≡ left
      → last + length b.feed.items ≡ less → last ≡ 0
  none_called has left less last n same one two three =
      omega (arith, n.1, n.2, n.3, same, one, two, three)

  -- of the room that their jobs take
  pub first_fits : (had room : ℕ) → AreCounted → had + jobs_of site ≤ room
      → had + length b.server.items ≤ room
  first_fits had room n fit = omega (arith, n.0, fit)

  pub second_fits : (had room more now : ℕ) → AreCounted → had + jobs_of site ≤ room
      → more ≡ had + length b.server.items → now ≡ room → more + length b.namerd.items ≤ now
  second_fits had room more now n fit one kept = omega (arith, n.0, n.1, fit, one, kept)

  pub third_fits : (had room more most now : ℕ) → AreCounted → had + jobs_of site ≤ room
      → more ≡ had + length b.server.items → most ≡ more + length b.namerd.items → now ≡ room
      → most + length b.admin.items ≤ now
  third_fits had room more most now n fit one two kept =
      omega (arith, n.0, n.1, n.2, fit, one, two, kept)

  pub fourth_fits : (had room more most last now : ℕ) → AreCounted → had + jobs_of site ≤ room
      → more ≡ had + length b.server.items → most ≡ more + length b.namerd.items
      → last ≡ most + length b.admin.items → now ≡ room → last + length b.feed.items ≤ now
  fourth_fits had room more most last now n fit one two three kept =
      omega (arith, n.0, n.1, n.2, n.3, fit, one, two, three, kept)

  pub all_posted : (had more most last now : ℕ) → AreCounted → had ≡ 0
      → more ≡ had + length b.server.items → most ≡ more + length b.namerd.items
      → last ≡ most + length b.admin.items → now ≡ last + length b.feed.items
      → now ≡ jobs_of site
  all_posted had more most last now n none one two three four =
      omega (arith, n.0, n.1, n.2, n.3, none, one, two, three, four)

-- a site has some
pub some_posted : (site : Site) (some : ℕ) → some ≡ jobs_of site → 0 < some
some_posted site some same = omega (arith, same)
