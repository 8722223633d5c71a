-- To which class of status and to which bucket of durations an exchange counts.
use Rattle.std.specs.Prelude.{ℕ, ◌&&◌, nat_le, nat_lt, if◌then◌else◌, List, [], ◌∷◌, count_by}
use Rattle.std.specs.Prelude.{Option, Some, None}
use Rattle.metrics_text.specs.declared.class.Class.{Class}
use Rattle.metrics_text.specs.declared.class.Class.TheVariants.{Success, Redirection, ClientError}
use Rattle.metrics_text.specs.declared.class.Class.TheVariants.{ServerError, Other, NoReply}

-- the class of a status code is its first digit's (RFC 9110 section 15)
abbrev pub class_of_status : ℕ → Class
class_of_status status =
    if nat_le 200 status && nat_le status 299 then Success
    else (if nat_le 300 status && nat_le status 399 then Redirection
    else (if nat_le 400 status && nat_le status 499 then ClientError
    else (if nat_le 500 status && nat_le status 599 then ServerError
    else Other)))

abbrev pub class_of : Option ℕ → Class
class_of None = NoReply
class_of (Some status) = class_of_status status

-- the bounds of the buckets, in milliseconds
abbrev pub bounds : List ℕ
bounds = 1 ∷ 2 ∷ 5 ∷ 10 ∷ 20 ∷ 50 ∷ 100 ∷ 200 ∷ 500 ∷ 1000 ∷ 2000 ∷ 5000 ∷ 10000 ∷ []

-- the bounds that a duration passes come before its bucket
unfoldable pub bucket_of : ℕ → ℕ
bucket_of milliseconds = count_by (λ bound. nat_lt bound milliseconds) bounds
