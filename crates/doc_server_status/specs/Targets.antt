-- Targets at the door.
use Rattle.std.specs.Prelude.{ℕ, Bool, ◌||◌, List, Option, Some, None, bytes_eq, codes, if◌then◌else◌}
use Rattle.doc_server_status.specs.declared.wanted.Wanted.{Wanted}
use Rattle.doc_server_status.specs.Cuts.{cut_at}
use Rattle.doc_server_status.specs.Queries.{nothing_wanted, wanted_in}

abbrev pub is_health : List ℕ → Bool
is_health target = bytes_eq target (codes "/health")

abbrev pub is_metrics : List ℕ → Bool
is_metrics target = bytes_eq target (codes "/metrics")

abbrev pub path_of : List ℕ → Option (List ℕ × List ℕ) → List ℕ
path_of target None = target
path_of target (Some halves) = halves.0

-- the path of a target, which ends where its query begins (RFC 9112, section 3.2.1)
unfoldable pub path_in : List ℕ → List ℕ
path_in target = path_of target (cut_at 63 target)

-- the journal's records, whatever the query says
abbrev pub is_record : List ℕ → Bool
is_record target = bytes_eq (path_in target) (codes "/record")

-- whether there is something at a target
abbrev pub is_place : List ℕ → Bool
is_place target = is_health target || is_metrics target || is_record target

abbrev pub wanted_behind : Option (List ℕ × List ℕ) → Option Wanted
wanted_behind None = Some nothing_wanted
wanted_behind (Some halves) = wanted_in halves.1

-- what a target wants of the records: nothing, or what its query says
unfoldable pub wanted_at : List ℕ → Option Wanted
wanted_at target = if is_record target then wanted_behind (cut_at 63 target) else None
