-- A feed that was told is that of the router's history.
use Rattle.std.proofs.Common.{◌≡◌, ℕ, List, Option, Some, None, Result, Ok, Err, refl, sym, ap, ◌∙◌}
use Rattle.std.proofs.Common.{subst}
use Rattle.std.specs.Prelude.{IfOk, false, fold}
use Rattle.std.specs.FinMap.{get}
use Rattle.std.specs.declared.alloc.AllocError.{AllocError}
use Rattle.machine.specs.Code.{reply_value}
use Rattle.machine.specs.Looking.{look_of, space_told, table_reply}
use Rattle.machine.specs.State.{after, opening}
use Rattle.machine.specs.Values.{ChangeValue, ReplyValue, SettingsValue, StateValue, get_table}
use Rattle.ns_store.specs.Contents.{Space}
use Rattle.router_log.specs.Operation.{Operation, place_of}
use Rattle.router_log.specs.Value.{value_of}
use Rattle.router.specs.declared.naming.Naming.{Ghosts}
use Rattle.router.specs.declared.pass.Pass.{Pass}
use Rattle.router.specs.Passes.{seen_in}
use Rattle.api_wire.specs.declared.delivery.Delivery.{Delivery}
use Rattle.api_wire.specs.declared.reply.ApiReply.{ApiReply}
use Rattle.api_wire.specs.Delivery.{IsWritten}
use Rattle.follow_feed.specs.Feeds.{changes_in, feed_of, run_of}
use Rattle.follow_feed.specs.Texts.{feed_response}
use Rattle.follow_feed.proofs.Histories.{all_changes, state_is}
use Rattle.api_sessions.specs.declared.looking.Told.{Told}
use Rattle.api_sessions.specs.Answering.{IsSaid, IsShown, TellsFeed}

table_shown : (o : Option Space) → space_told (table_reply o) ≡ o
table_shown None = refl
table_shown (Some s) = refl

-- what a look at a namespace says is the feed at its place of the router's history
feed_is : (settings : SettingsValue) (ops : List Operation) (run place : ℕ) (space : List ℕ)
    (said : ReplyValue)
    → place ≡ place_of ops → said ≡ look_of settings (value_of settings ops).state (get_table space)
    → space_told said ≡ (feed_of (run_of run settings ops) (place_of ops) space).table
feed_is settings ops run place space said at is =
    let shown : space_told said ≡ get (value_of settings ops).state.store.spaces space =
    ap space_told is ∙ table_shown (get (value_of settings ops).state.store.spaces space) in
    let stands : get (value_of settings ops).state.store.spaces space
    ≡ get (fold (after settings) opening (changes_in ops)).store.spaces space =
    ap (λ (s : StateValue). get s.store.spaces space) (state_is settings ops) in
    (shown ∙ stands)
    ∙ ap (λ (cs : List ChangeValue). get (fold (after settings) opening cs).store.spaces space)
    (sym (all_changes ops))

module _ {J : Type 0} {g : Ghosts J} where
  pub shows_told : (run : ℕ) (space : List ℕ) (delivery : Delivery) (old new : Pass J g)
      (told : Told) (written : Result ApiReply AllocError)
      → IsSaid (get_table space) old new told → IfOk written (TellsFeed run told delivery)
      → IfOk written (IsShown run space delivery old new)
  shows_told run space delivery old new told (Err want) h w = tt
  shows_told run space delivery old new told (Ok reply) h w =
      let ops = seen_in new in
      let table = feed_is g.settings ops run told.place space (reply_value told.reply)
      h.looked.at_place h.looked.answered in
      let at : IsWritten (feed_response
      (record { run = run; place = place_of ops; table = space_told (reply_value told.reply) }))
      delivery false reply =
      subst (λ n. IsWritten
      (feed_response (record { run = run; place = n; table = space_told (reply_value told.reply) }))
      delivery false reply)
      h.looked.at_place w in
      record {
        mid = h.mid;
        waited = h.waited;
        entered = h.looked.entered;
        reads = h.looked.reads;
        written =
            subst (λ (t : Option Space). IsWritten
            (feed_response (record { run = run; place = place_of ops; table = t })) delivery
            false reply)
            table at;
      }
