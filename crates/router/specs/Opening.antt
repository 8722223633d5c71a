-- A new router.
use Rattle.std.specs.Prelude.{◌≡◌, ℕ, List, [], Option, Some, None, slice_get}
use Rattle.std.specs.declared.sync.ledger.Ledger.{Ghosts as Named}
use Rattle.load_words.specs.Seats.{Words, words_of}
use Rattle.snap_cell.specs.declared.kept.Origin.{Origin}
use Rattle.snap_cell.specs.declared.reader.Reader.{Reader}
use Rattle.snap_cell.specs.Views.{seen_of, items_of, cell_of, IsThere}
use Rattle.snap_cell.specs.Writers.{cell_written, opening_written}
use Rattle.machine.specs.Values.{SettingsValue}
use Rattle.router.specs.declared.call.Call.{Call as Shown}
use Rattle.router.specs.declared.current.Current.{Current}
use Rattle.router.specs.declared.update.Update.{Update}
use Rattle.router.specs.declared.naming.Naming.{Ghosts}
use Rattle.router.specs.declared.opened.Opened.{Opened}
use Rattle.router.specs.declared.pass.Pass.{Pass}
use Rattle.router.specs.Passes.{number_in, seen_in, items_in, refusals_in, reads_in, taken_in}
use Rattle.router.specs.Passes.{slot_in}
use Rattle.router.specs.Values.{settings_in}
use Rattle.router.specs.Views.{BeganEmpty, settings_by}

-- which router it is that has no name yet: its cell, its settings, its load words, the name of its
-- ledger, and for how many passes it is
pub record Beginning : Type 0 where
  pub cell : Origin Current Update
  pub settings : SettingsValue
  pub words : Words
  pub ledger : ℕ
  pub seats : ℕ

abbrev pub beginning_of : Opened → Beginning
beginning_of o =
    record {
      cell = cell_written o.writer;
      settings = settings_in (opening_written o.writer);
      words = words_of o.loads;
      ledger = o.blank.name;
      seats = o.seats;
    }

-- a type names just this router: its cell, its settings, its words and its seats are the router's,
-- and its ledger is the router's, with a part for each seat
pub record IsNamedBy {J : Type 0} (b : Beginning) (naming : Ghosts J) (ledger : Named J) : Type 0
  where
    pub cell : Some b.cell ≡ naming.cell
    pub settings : b.settings ≡ naming.settings
    pub words : Some b.words ≡ naming.words
    pub seats : b.seats ≡ naming.seats
    pub name : b.ledger ≡ ledger.name
    pub parts : ledger.parts ≡ naming.seats

-- by what a type names this router. A caller that picks `Brand` picks these for it
abbrev pub naming_of : {J : Type 0} → Beginning → Ghosts J
naming_of b =
    record { cell = Some b.cell; settings = b.settings; words = Some b.words; seats = b.seats }

abbrev pub ledger_of : {J : Type 0} → Beginning → Named J
ledger_of b = record { name = b.ledger; parts = b.seats }

-- a reader with which a pass may begin: it is of this cell, whose value was empty at first, and has
-- seen and asked nothing
module _ {S : Type 0} where
  pub record IsReady (cell : Option (Origin Current Update)) (settings : SettingsValue)
      (r : Reader Current Update Shown S) : Type 0 where
    pub of_cell : Some (cell_of r) ≡ cell
    pub there : IsThere r
    pub empty : BeganEmpty r
    pub settings_are : settings_by r ≡ settings
    pub seen : seen_of r ≡ []
    pub items : items_of r ≡ []

module _ {J : Type 0} {g : Ghosts J} where
  -- a pass with this number that has seen and asked nothing, was never refused, and has read and
  -- holds nothing of the loads
  pub record IsNew (number : ℕ) (p : Pass J g) : Type 0 where
    pub number_is : number_in p ≡ number
    pub seen : seen_in p ≡ []
    pub items : items_in p ≡ []
    pub refusals : refusals_in p ≡ 0
    pub reads : reads_in p ≡ []
    pub taken : taken_in p ≡ []
    pub slot : slot_in p ≡ None

  -- they are numbered from 0
  abbrev pub AreNew : List (Pass J g) → Type 0
  AreNew ps = (i : ℕ) (p : Pass J g) → slice_get ps i ≡ Some p → IsNew i p
