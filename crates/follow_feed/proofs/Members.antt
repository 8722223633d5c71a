-- The feeds that JSON texts stand for.
use Rattle.std.proofs.Common.{◌≡◌, ℕ, List, Some, None, Result, sym, ap, subst}
use Rattle.std.specs.Prelude.{option_and_then}
use Rattle.serde_json.specs.Data.{Data}
use Rattle.api_wire.specs.Json.{json_of}
use Rattle.follow_feed.specs.declared.feed.Feed.{Feed}
use Rattle.follow_feed.specs.declared.polling.PollEnd.{PollEnd}
use Rattle.follow_feed.specs.Reading.{Reads, feed_in, feed_of_data}

pub reads_known : (text : List ℕ) (d : Data) (result : Result Feed PollEnd)
    → Some d ≡ json_of text → Reads (feed_of_data d) result → Reads (feed_in text) result
unfolding feed_in
reads_known text d result is h =
    subst (λ o. Reads (option_and_then feed_of_data o) result) is h

pub none_known : (text : List ℕ) → None ≡ json_of text → feed_in text ≡ None
unfolding feed_in
none_known text is = sym (ap (option_and_then feed_of_data) is)
