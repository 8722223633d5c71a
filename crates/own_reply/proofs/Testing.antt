-- How the tests of a request answer at the first fault.
use Rattle.std.proofs.Common.{◌≡◌, ◌≢◌, ℕ, false, Option, Result, Ok, Err}
use Rattle.std.specs.Prelude.{codes, IsErrAnd}
use Rattle.http_wire.specs.declared.frames.Framing.{Framing}
use Rattle.http_wire.specs.declared.frames.FramingFault.{FramingFault}
use Rattle.http_wire.specs.declared.head.Head.{Head}
use Rattle.http_wire.specs.declared.host.HostFault.{HostFault}
use Rattle.http_wire.specs.declared.target.TargetFault.{TargetFault}
use Rattle.http_wire.specs.Framing.{framing_of}
use Rattle.http_wire.specs.Host.{Gives, host_of}
use Rattle.http_wire.specs.Target.{Form, IsRefused, IsServed}
use Rattle.own_reply.specs.declared.request.Refusal.{Refusal}
use Rattle.own_reply.specs.declared.request.Tested.{Tested}
use Rattle.own_reply.specs.Tests.{Answers, bad_coding, bad_length, connect, names_longer, no_host}
use Rattle.own_reply.specs.Tests.{no_target, of_framing, of_host, of_target}

pub at_target : (most : Option ℕ) (head : Head) (fault : TargetFault)
    (result : Result Tested Refusal) → IsErrAnd result (λ r. r ≡ of_target fault)
    → IsRefused head.method head.target fault → Answers most head result
at_target most head fault (Ok t) is refused = absurd is
at_target most head TargetFault.Connect (Err r) is refused = rw is (connect refused)
at_target most head TargetFault.NoTarget (Err r) is refused =
    rw is (no_target refused.0 refused.1)
at_target most head TargetFault.OutOfMemory (Err r) is refused = rw is tt

pub at_framing : (most : Option ℕ) (head : Head) (form : Form) (fault : FramingFault)
    (result : Result Tested Refusal) → IsErrAnd result (λ r. r ≡ of_framing fault)
    → head.method ≢ codes "CONNECT" → IsServed head.method head.target form
    → framing_of head.version head.fields ≡ Err fault → Answers most head result
at_framing most head form fault (Ok t) is other served framed = absurd is
at_framing most head form FramingFault.Length (Err r) is other served framed =
    rw is (bad_length form other served framed)
at_framing most head form FramingFault.Coding (Err r) is other served framed =
    rw is (bad_coding form other served framed)

pub at_host : (most : Option ℕ) (head : Head) (form : Form) (framing : Framing) (fault : HostFault)
    (result : Result Tested Refusal) → IsErrAnd result (λ r. r ≡ of_host fault)
    → head.method ≢ codes "CONNECT" → IsServed head.method head.target form
    → framing_of head.version head.fields ≡ Ok framing → names_longer most framing ≡ false
    → Gives (host_of head.version head.fields form.authority) (Err fault)
    → Answers most head result
at_host most head form framing fault (Ok t) is other served framed short gives = absurd is
at_host most head form framing HostFault.NoHost (Err r) is other served framed short gives =
    rw is (no_host form framing other served framed short gives)
at_host most head form framing HostFault.OutOfMemory (Err r) is other served framed short gives =
    rw is tt
