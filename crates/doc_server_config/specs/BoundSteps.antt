-- The steps of reading the table `listen`.
use Rattle.std.specs.Prelude.{ℕ, Option, Some, None, option_and_then}
use Rattle.toml.specs.Data.{Data, as_integer}
use Rattle.doc_server_config.specs.Bounds.{within}

-- the number of a key: what it holds, where that is an integer from 1 to a bound; without the key the number missing
abbrev pub number_at : ℕ → ℕ → Option Data → Option ℕ
number_at most missing None = Some missing
number_at most missing (Some value) = option_and_then (within most) (as_integer value)
