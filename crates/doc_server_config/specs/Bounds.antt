-- The table `listen` of a configuration, a TOML 1.1 document. Its keys and bounds are this project's choice.
use Rattle.std.specs.Prelude.{List, ℕ, ℤ, pos, negsuc, [], ◌∷◌, ◌&&◌, nat_le, codes, Option, Some, None, option_and_then, Result, Ok, Err}
use Rattle.std.specs.Prelude.{if◌then◌else◌}
use Rattle.toml.specs.Data.{Data, Members, get_member, as_integer, as_table}
use Rattle.doc_server_config.specs.declared.bounds.Bounds.{Bounds}
use Rattle.doc_server_config.specs.declared.listening.ListeningError.{ListeningError}
use Rattle.doc_server_config.specs.declared.listening.ListeningError.TheVariants.{BadListen, BadConnections, BadIdleSeconds, BadMediaBytes, BadStrangerSeconds, BadRequestSeconds, BadFollowMillis}
use Rattle.doc_server_config.specs.Keys.{has_only}

-- a number from 1 to a bound
abbrev pub within : ℕ → ℤ → Option ℕ
within most (pos n) = if nat_le 1 n && nat_le n most then Some n else None
within most (negsuc n) = None

-- how many connections stand at most: what the key holds, where that is an integer from 1 to 65,535; without the key 1,024
abbrev pub connections_at : Option Data → Option ℕ
connections_at None = Some 1024
connections_at (Some value) = option_and_then (within 65535) (as_integer value)

-- seconds: the same from 1 to 86,400
abbrev pub seconds_at : ℕ → Option Data → Option ℕ
seconds_at missing None = Some missing
seconds_at missing (Some value) = option_and_then (within 86400) (as_integer value)

-- after how many seconds without a byte a connection ends; without the key 30
abbrev pub idle_seconds_at : Option Data → Option ℕ
idle_seconds_at = seconds_at 30

-- after how many seconds one ends on which nothing was answered but what whoever asks is given; without the key 5
abbrev pub stranger_seconds_at : Option Data → Option ℕ
stranger_seconds_at = seconds_at 5

-- after how many seconds one ends whose request isn't whole; without the key 60
abbrev pub request_seconds_at : Option Data → Option ℕ
request_seconds_at = seconds_at 60

-- how many bytes the media of folders have together at most: the same from 1 to 1 GiB; without the key 64 MiB
abbrev pub media_bytes_at : Option Data → Option ℕ
media_bytes_at None = Some 67108864
media_bytes_at (Some value) = option_and_then (within 1073741824) (as_integer value)

-- how many milliseconds a server that follows another waits at most before it looks: the same from 1 to 10,000; without the key 20
abbrev pub follow_millis_at : Option Data → Option ℕ
follow_millis_at None = Some 20
follow_millis_at (Some value) = option_and_then (within 10000) (as_integer value)

-- bounds of these parts, the first of which comes first where several are bad
abbrev pub bounds_with : Option ℕ → Option ℕ → Option ℕ → Option ℕ → Option ℕ → Option ℕ → Result Bounds ListeningError
bounds_with None idle media stranger request follow = Err BadConnections
bounds_with (Some connections) None media stranger request follow = Err BadIdleSeconds
bounds_with (Some connections) (Some idle) None stranger request follow = Err BadMediaBytes
bounds_with (Some connections) (Some idle) (Some media) None request follow = Err BadStrangerSeconds
bounds_with (Some connections) (Some idle) (Some media) (Some stranger) None follow = Err BadRequestSeconds
bounds_with (Some connections) (Some idle) (Some media) (Some stranger) (Some request) None = Err BadFollowMillis
bounds_with (Some connections) (Some idle) (Some media) (Some stranger) (Some request) (Some follow) =
    Ok (record {
      connections = connections;
      idle_seconds = idle;
      media_bytes = media;
      stranger_seconds = stranger;
      request_seconds = request;
      follow_millis = follow;
    })

-- the keys of the table
abbrev pub bounds_keys : List (List ℕ)
bounds_keys =
    codes "connections" ∷ codes "idle_seconds" ∷ codes "media_bytes" ∷ codes "stranger_seconds" ∷ codes "request_seconds"
    ∷ codes "follow_millis" ∷ []

-- the bounds that a table is, which has these keys alone
abbrev pub bounds_of : Members → Result Bounds ListeningError
bounds_of table =
    if has_only bounds_keys table
    then bounds_with (connections_at (get_member (codes "connections") table))
    (idle_seconds_at (get_member (codes "idle_seconds") table)) (media_bytes_at (get_member (codes "media_bytes") table))
    (stranger_seconds_at (get_member (codes "stranger_seconds") table)) (request_seconds_at (get_member (codes "request_seconds") table))
    (follow_millis_at (get_member (codes "follow_millis") table))
    else Err BadListen

-- the bounds of what should be a table
abbrev pub bounds_of_table : Option Members → Result Bounds ListeningError
bounds_of_table None = Err BadListen
bounds_of_table (Some table) = bounds_of table

-- the bounds of what the key `listen` holds; without the key all is as without those of the table
abbrev pub bounds_at : Option Data → Result Bounds ListeningError
bounds_at None =
    Ok (record {
      connections = 1024;
      idle_seconds = 30;
      media_bytes = 67108864;
      stranger_seconds = 5;
      request_seconds = 60;
      follow_millis = 20;
    })
bounds_at (Some value) = bounds_of_table (as_table value)

-- the bounds of a document
abbrev pub bounds_in : Members → Result Bounds ListeningError
bounds_in document = bounds_at (get_member (codes "listen") document)
