-- The tests that a request passes by itself, in their order: its target, the framing of its body,
-- the length that this names, and its host.
use Rattle.std.specs.Prelude.{◌≡◌, ◌≢◌, ⊤, ℕ, nat_lt, Bool, true, false, codes, Option, Some, None}
use Rattle.std.specs.Prelude.{Result, Ok, Err}
use Rattle.http_wire.specs.declared.frames.Framing.{Framing}
use Rattle.http_wire.specs.declared.frames.FramingFault.{FramingFault}
use Rattle.http_wire.specs.declared.head.Head.{Head}
use Rattle.http_wire.specs.declared.host.HostFault.{HostFault}
use Rattle.http_wire.specs.declared.target.TargetFault.{TargetFault}
use Rattle.http_wire.specs.Framing.{framing_of}
use Rattle.http_wire.specs.Host.{host_of}
use Rattle.http_wire.specs.Target.{Form, IsNotServed, IsServed, form_of}
use Rattle.own_reply.specs.declared.error.OwnError.{OwnError}
use Rattle.own_reply.specs.declared.error.OwnError.TheVariants as own
use Rattle.own_reply.specs.declared.request.Refusal.{Refusal}
use Rattle.own_reply.specs.declared.request.Refusal.TheVariants.{Own, OutOfMemory}
use Rattle.own_reply.specs.declared.request.Tested.{Tested}

-- a body that is framed so names more bytes than this, where there is a most
abbrev pub names_longer : Option ℕ → Framing → Bool
names_longer None framing = false
names_longer (Some most) Framing.Nothing = false
names_longer (Some most) (Framing.Length n) = nat_lt most n
names_longer (Some most) Framing.Chunked = false
names_longer (Some most) Framing.ToEnd = false

-- the request passes every test, and this was read of it
pub record Passes (most : Option ℕ) (head : Head) (tested : Tested) : Type 0 where
  pub other : head.method ≢ codes "CONNECT"
  pub served : IsServed head.method head.target (form_of tested.target)
  pub framed : framing_of head.version head.fields ≡ Ok tested.framing
  pub short : names_longer most tested.framing ≡ false
  pub named : host_of head.version head.fields (form_of tested.target).authority
      ≡ Some tested.host.items

-- the first test that refuses it
pub data Refuses (most : Option ℕ) (head : Head) : OwnError → Type 0 where
  connect : head.method ≡ codes "CONNECT" → Refuses most head own.Connect
  no_target : head.method ≢ codes "CONNECT" → IsNotServed head.method head.target
      → Refuses most head own.Target
  bad_length : (form : Form) → head.method ≢ codes "CONNECT" → IsServed head.method head.target form
      → framing_of head.version head.fields ≡ Err FramingFault.Length
      → Refuses most head own.Length
  bad_coding : (form : Form) → head.method ≢ codes "CONNECT" → IsServed head.method head.target form
      → framing_of head.version head.fields ≡ Err FramingFault.Coding
      → Refuses most head own.Coding
  long_length : (form : Form) (framing : Framing) → head.method ≢ codes "CONNECT"
      → IsServed head.method head.target form → framing_of head.version head.fields ≡ Ok framing
      → names_longer most framing ≡ true → Refuses most head own.TooLong
  no_host : (form : Form) (framing : Framing) → head.method ≢ codes "CONNECT"
      → IsServed head.method head.target form → framing_of head.version head.fields ≡ Ok framing
      → names_longer most framing ≡ false
      → host_of head.version head.fields form.authority ≡ None → Refuses most head own.Host

-- what the tests of a request answer. Want of memory alone has no cause
abbrev pub Answers : Option ℕ → Head → Result Tested Refusal → Type 0
Answers most head (Ok tested) = Passes most head tested
Answers most head (Err (Own err)) = Refuses most head err
Answers most head (Err OutOfMemory) = ⊤

-- the refusal that a fault of the target, the framing or the host is
abbrev pub of_target : TargetFault → Refusal
of_target TargetFault.Connect = Own own.Connect
of_target TargetFault.NoTarget = Own own.Target
of_target TargetFault.OutOfMemory = OutOfMemory

abbrev pub of_framing : FramingFault → Refusal
of_framing FramingFault.Length = Own own.Length
of_framing FramingFault.Coding = Own own.Coding

abbrev pub of_host : HostFault → Refusal
of_host HostFault.NoHost = Own own.Host
of_host HostFault.OutOfMemory = OutOfMemory
