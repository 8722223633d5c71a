-- What is decided of changes of namespaces.
use Rattle.std.proofs.Common.{◌≡◌, ℕ, List, Option, None, refl, sym, ap, subst, ◌∙◌}
use Rattle.std.specs.Prelude.{option_map}
use Rattle.dtab_table.specs.Rules.{Rule}
use Rattle.dtab_table.specs.TableCanon.{AreSoundRules}
use Rattle.ns_store.specs.declared.store.ReadyStore.{ReadyStore}
use Rattle.ns_store.specs.Contents.{Contents as Store, after_set, after_delete}
use Rattle.ns_store.specs.Refusal.{create_refusal, put_refusal, delete_refusal}
use Rattle.ns_store.specs.Store.{prepared_of}
use Rattle.machine.specs.declared.reply.Reply.TheVariants as reply
use Rattle.machine.specs.declared.part.Part.TheVariants as part
use Rattle.machine.specs.declared.decided.Decided.TheVariants.{Accepted}
use Rattle.machine.specs.Values.{StateValue, create, put, delete, version}
use Rattle.machine.specs.Sound.{AreSoundSpaces}
use Rattle.machine.specs.State.{store_reply}
use Rattle.machine.specs.Ready.{store_then}
use Rattle.machine.specs.Decided.{IsDecidedAnyhow}
use Rattle.machine.proofs.Sounds.{sound_set, sound_removed}

module _ (state : StateValue) (name : List ℕ) (ready : ReadyStore)
    (sound : AreSoundSpaces state.store.spaces) where
  module _ (rules : List Rule) (next : ℕ) (is_next : next ≡ state.store.next)
      (stored : prepared_of ready ≡ after_set state.store name rules)
      (table : AreSoundRules rules) where
    sound_stored : AreSoundSpaces (prepared_of ready).spaces
    sound_stored = subst (λ (s : Store). AreSoundSpaces s.spaces) (sym stored)
        (sound_set state.store.spaces name (record { version = state.store.next; rules = rules })
        sound table)

    pub created : create_refusal state.store name ≡ None
        → IsDecidedAnyhow state (create name rules)
        (Accepted (reply.Version next) (part.Store ready))
    created taken settings = record {
      taken = ap (option_map store_reply) taken;
      reply = ap version is_next;
      part = ap store_then stored;
      sound = sound_stored;
    }

    pub replaced : (expected : Option ℕ) → put_refusal state.store name expected ≡ None
        → IsDecidedAnyhow state (put name expected rules)
        (Accepted (reply.Version next) (part.Store ready))
    replaced expected taken settings = record {
      taken = ap (option_map store_reply) taken;
      reply = ap version is_next;
      part = ap store_then stored;
      sound = sound_stored;
    }

  pub deleted_from : (expected : Option ℕ) → prepared_of ready ≡ after_delete state.store name
      → delete_refusal state.store name expected ≡ None
      → IsDecidedAnyhow state (delete name expected) (Accepted reply.Deleted (part.Store ready))
  deleted_from expected is taken settings = record {
    taken = ap (option_map store_reply) taken;
    reply = refl;
    part = ap store_then is;
    sound = subst (λ (s : Store). AreSoundSpaces s.spaces) (sym is)
        (sound_removed state.store.spaces name sound);
  }
