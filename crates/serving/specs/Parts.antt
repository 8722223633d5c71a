-- What jobs are taken apart into, once they have ended.
use Rattle.std.specs.Prelude.{◌≡◌, ℕ, ◌+◌, ◌≤◌, ◌||◌, ◌++◌, Bool, List, [], Option, length, map}
use Rattle.std.specs.Prelude.{false, vec_len, vec_capacity}
use Rattle.std.specs.List.{AllZip, list_any}
use Rattle.line_base.specs.Accepts.{Listening}
use Rattle.line_base.specs.Dials.{Upstream}
use Rattle.client_stays.specs.declared.handling.Handling.{Ghosts as Handled}
use Rattle.identifier.specs.declared.rule.Rule.{Rule}
use Rattle.line_base.specs.Lines.{Line}
use Rattle.line_base.specs.Nets.{Ended, Networking, log_of}
use Rattle.retry_budget.specs.declared.tries.Tries.{Tries}
use Rattle.router.specs.declared.naming.Naming.{Ghosts}
use Rattle.workers.specs.declared.accepting.Accepting.{Accepting}
use Rattle.workers.specs.Runs.{ComesBack}
use Rattle.serving.specs.declared.parts.Apart.{Apart}
use Rattle.serving.specs.declared.parts.Part.{Part}
use Rattle.serving.specs.Hands.{LeftMore}
use Rattle.serving.specs.LeftOver.{LeftOver}
use Rattle.serving.specs.Returning.{all_ended, is_broken, with_left_over}
use Rattle.serving.specs.Jobs.{RouterJob, caller_hands, client_hands, ended_of, lacked_of}
use Rattle.serving.specs.Jobs.{pass_of, recorders_of_jobs}

-- what goes back to the net
module _ {P L D S : Type 0} (state : L → Listening P) (upstream : D → Upstream) (calls : S → ℕ)
  where
    abbrev pub ended_by : Part L D S → Ended P
    ended_by p = record {
      listener = state p.listener;
      log = log_of upstream p.dialer;
      stops = calls p.stop;
    }

    -- the waits of one of these listeners failed again and again
    abbrev pub any_broken : List (Part L D S) → Bool
    any_broken parts = list_any (λ p. is_broken (ended_by p)) parts

module _ {J L D S K A B E F : Type 0} {g : Ghosts J} where
  -- there are the parts of no job yet
  pub record IsEmpty (a : Apart J L D S K A B E F g) : Type 0 where
    pub parts : a.parts.items ≡ []
    pub passes : a.passes.items ≡ []
    pub recorders : a.recorders.items ≡ []
    pub client_hands : a.client_hands.items ≡ []
    pub caller_hands : a.caller_hands.items ≡ []
    pub lacked : a.lacked_memory ≡ false

  -- there is room for the parts of so many jobs more
  pub record HasRoom (a : Apart J L D S K A B E F g) (n : ℕ) : Type 0 where
    pub parts : vec_len a.parts + n ≤ vec_capacity a.parts
    pub passes : vec_len a.passes + n ≤ vec_capacity a.passes
    pub recorders : vec_len a.recorders + n ≤ vec_capacity a.recorders
    pub client_hands : vec_len a.client_hands + n ≤ vec_capacity a.client_hands
    pub caller_hands : vec_len a.caller_hands + n ≤ vec_capacity a.caller_hands

module _ {P J L D C K S X A B E F : Type 0} {h : Handled J} {g : Ghosts J} (state : L → Listening P)
    (upstream : D → Upstream) (calls : S → ℕ) where
  -- the parts of these jobs stand behind those that were there
  pub record TakesApart (jobs : List (RouterJob P J L D C K S X A B E F h g))
      (old new : Apart J L D S K A B E F g) : Type 0 where
    pub parts :
        map (ended_by state upstream calls) new.parts.items
        ≡ map (ended_by state upstream calls) old.parts.items
        ++ map (ended_of state upstream calls) jobs
    pub passes : new.passes.items ≡ old.passes.items ++ map pass_of jobs
    pub recorders : new.recorders.items ≡ old.recorders.items ++ recorders_of_jobs jobs
    pub clients : new.client_hands.items ≡ old.client_hands.items ++ client_hands jobs
    pub callers : new.caller_hands.items ≡ old.caller_hands.items ++ caller_hands jobs
    pub lacked : new.lacked_memory ≡ (old.lacked_memory || list_any lacked_of jobs)

module _ {P J L D C K S X A B E F : Type 0} {h : Handled J} {g : Ghosts J}
    (runs : RouterJob P J L D C K S X A B E F h g → RouterJob P J L D C K S X A B E F h g
    → Accepting
    → Type 0) (state : L → Listening P) (upstream : D → Upstream) (calls : S → ℕ) where
  -- jobs ran, and these are the parts of those that came back
  pub record ComeApart (jobs : List (RouterJob P J L D C K S X A B E F h g))
      (old new : Apart J L D S K A B E F g) : Type 0 where
    pub back : List (RouterJob P J L D C K S X A B E F h g × Accepting)
    pub ran : AllZip (ComesBack runs) jobs back
    pub apart : TakesApart state upstream calls (map (λ b. b.0) back) old new

-- There are as many parts more as there were jobs, and as many hands at either lot
module _ {P J L D C K S X A B E F : Type 0} {h : Handled J} {g : Ghosts J} where
  pub record CountsParts (jobs : List (RouterJob P J L D C K S X A B E F h g))
      (old new : Apart J L D S K A B E F g) : Type 0 where
    pub parts : length new.parts.items ≡ length old.parts.items + length jobs
    pub clients :
        length new.client_hands.items
        ≡ length old.client_hands.items + length (client_hands jobs)
    pub callers :
        length new.caller_hands.items
        ≡ length old.caller_hands.items + length (caller_hands jobs)

-- The lots were closed with these hands, which are all, and who waited still was ended at the first
-- of these listeners, which then went back to the net
module _ {P J L D S K A B E F : Type 0} {g : Ghosts J} (line_of : P → Line)
    (state : L → Listening P)
    (upstream : D → Upstream) (calls : S → ℕ) (rule : Rule) (tries : Option Tries) where
  pub record EndsAll (apart : Apart J L D S K A B E F g) (net net_after : Networking P) : Type 0
    where
      pub clients : ℕ
      pub callers : ℕ
      pub clients_left : LeftMore apart.client_hands.items clients
      pub callers_left : LeftMore apart.caller_hands.items callers
      pub over : List P
      pub count : length over ≡ clients + callers
      pub left_over : LeftOver line_of g rule tries over
      pub net_is :
          net_after
          ≡ all_ended (with_left_over over (map (ended_by state upstream calls) apart.parts.items))
          net
