-- Whether a net failed.
use Rattle.std.specs.Prelude.{◌≡◌, ℕ, ◌≤◌, Bool, true, false}
use Rattle.line_base.specs.Counts.{Rose}

-- a net's count of faults rose exactly where it is said to have failed
pub record TellsFaults (before now : ℕ) (failed : Bool) : Type 0 where
  pub later : before ≤ now
  pub rose : failed ≡ true → Rose before now
  pub kept : failed ≡ false → now ≡ before
