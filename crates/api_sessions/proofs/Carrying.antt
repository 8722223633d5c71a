-- What was done for what was asked of the router.
use Rattle.std.proofs.Common.{◌≡◌, [], Result, Ok, Err, refl, ◌∙◌, inl, inr, subst, arith}
use Rattle.std.specs.Prelude.{IfOk, OnErr, Bool, false}
use Rattle.std.specs.declared.alloc.AllocError.{AllocError}
use Rattle.std.proofs.lemmas.List.{append-nil}
use Rattle.machine.specs.Code.{reply_value}
use Rattle.machine.specs.declared.reply.Reply.{Reply}
use Rattle.machine.specs.Values.{ChangeValue, LookValue}
use Rattle.router.specs.Changing.{IsChanged}
use Rattle.router.specs.declared.naming.Naming.{Ghosts}
use Rattle.router.specs.declared.pass.Pass.{Pass}
use Rattle.router.specs.Passes.{number_in, seen_in}
use Rattle.api_wire.specs.declared.delivery.Delivery.{Delivery}
use Rattle.api_wire.specs.declared.reply.ApiReply.{ApiReply}
use Rattle.api_wire.specs.Delivery.{IsWritten}
use Rattle.api_wire.specs.Demand.{DemandValue, answer, stop, alter, ask}
use Rattle.api_wire.specs.Response.{ResponseValue}
use Rattle.api_wire.specs.Telling.{response_to}
use Rattle.api_sessions.specs.declared.looking.Told.{Told}
use Rattle.api_sessions.specs.Answering.{IsAltered, IsAsked, IsCarriedOut, IsSaid, Leaves}
use Rattle.api_sessions.specs.Answering.{MayHaveChanged, MayHaveLooked, Waited, at_once, again}

-- what is written of a response is written of each that is the same
pub written_as : (a b : ResponseValue) (delivery : Delivery) (stops : Bool)
    (result : Result ApiReply AllocError) → a ≡ b → IfOk result (IsWritten a delivery stops)
    → IfOk result (IsWritten b delivery stops)
written_as a b delivery stops result same h =
    let P : ResponseValue → Type 0 = λ r. IfOk result (IsWritten r delivery stops) in subst P same h

module _ {J : Type 0} {g : Ghosts J} where
  pub waited_number : {old new : Pass J g} → Waited old new → number_in new ≡ number_in old
  waited_number at_once = refl
  waited_number (again w n h) = n ∙ waited_number w

  pub altered : (change : ChangeValue) (delivery : Delivery) (old new : Pass J g) (said : Reply)
      (written : Result ApiReply AllocError) → IsChanged old new change said
      → IfOk written
      (IsWritten (response_to delivery.as_dtab (reply_value said)) delivery false)
      → IfOk written (IsAltered change delivery old new)
  altered change delivery old new said (Ok reply) changed w =
      record { said = said; changed = changed; written = w }
  altered change delivery old new said (Err want) changed w = tt

  pub was_altered : (change : ChangeValue) (old new : Pass J g) (said : Reply)
      (written : Result ApiReply AllocError) → IsChanged old new change said
      → OnErr written (MayHaveChanged change old new)
  was_altered change old new said (Ok reply) changed = tt
  was_altered change old new said (Err want) changed = inr (said, changed)

  pub asked : (look : LookValue) (delivery : Delivery) (old new : Pass J g) (told : Told)
      (written : Result ApiReply AllocError) → IsSaid look old new told
      → IfOk written
      (IsWritten (response_to delivery.as_dtab (reply_value told.reply)) delivery false)
      → IfOk written (IsAsked look delivery old new)
  asked look delivery old new told (Ok reply) answered w =
      record { told = told; answered = answered; written = w }
  asked look delivery old new told (Err want) answered w = tt

  -- a look was made, whatever became of its reply
  pub was_looked : (look : LookValue) (old new : Pass J g) (told : Told)
      (written : Result ApiReply AllocError) → IsSaid look old new told
      → OnErr written (MayHaveLooked look old new)
  was_looked look old new told (Ok reply) h = tt
  was_looked look old new told (Err want) h = record {
    mid = h.mid;
    waited = h.waited;
    made = inr (h.looked.entered, h.looked.reads);
  }

  pub answered_at_once : (said : ResponseValue) (delivery : Delivery) (stops : Bool)
      (p : Pass J g) (written : Result ApiReply AllocError)
      → IfOk written (IsWritten said delivery stops)
      → IfOk written (λ reply. (p ≡ p) × IsWritten said delivery stops reply)
  answered_at_once said delivery stops p (Ok reply) w = (refl, w)
  answered_at_once said delivery stops p (Err want) w = tt

  pub same_at_err : (p : Pass J g) (written : Result ApiReply AllocError) → OnErr written (p ≡ p)
  same_at_err p (Ok reply) = tt
  same_at_err p (Err want) = refl

  -- nothing was done
  pub leaves_all : (d : DemandValue) (p : Pass J g) → Leaves d p p
  leaves_all (answer said) p = refl
  leaves_all (stop said) p = refl
  leaves_all (alter change) p =
      inl (record {
        seen = ([], append-nil (seen_in p));
        items = refl;
        refusals = omega arith;
        seat = record { reads = refl; taken = refl; slot = refl };
      })
  leaves_all (ask look) p = record { mid = p; waited = at_once; made = inl refl }

  -- what is known of a demand of the code is known of what it says
  pub done_as : (d e : DemandValue) (x y : Delivery) (old new : Pass J g)
      (result : Result ApiReply AllocError) → d ≡ e → x ≡ y
      → IfOk result (IsCarriedOut d x old new) → IfOk result (IsCarriedOut e y old new)
  done_as d e x y old new result same alike h =
      let P : DemandValue → Type 0 = λ z. IfOk result (IsCarriedOut z x old new) in
      let Q : Delivery → Type 0 = λ z. IfOk result (IsCarriedOut e z old new) in
      subst Q alike (subst P same h)

  pub left_as : (d e : DemandValue) (old new : Pass J g) (result : Result ApiReply AllocError)
      → d ≡ e → OnErr result (Leaves d old new) → OnErr result (Leaves e old new)
  left_as d e old new result same h =
      let P : DemandValue → Type 0 = λ x. OnErr result (Leaves x old new) in subst P same h
