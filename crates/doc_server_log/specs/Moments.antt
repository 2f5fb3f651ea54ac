-- Moments as texts (RFC 3339, section 5.6).
use Rattle.std.specs.Prelude.{ℕ, ◌-◌, ◌/◌, ◌%◌, List, ◌++◌, codes, decimal, length, replicate}
use Rattle.doc_server_log.specs.declared.date.Date.{Date}
use Rattle.doc_server_log.specs.Dates.{date_of}

-- a number with zeros in front of it, where it has fewer digits
unfoldable pub zero_padded : ℕ → ℕ → List ℕ
zero_padded width number = replicate (width - length (decimal number)) 48 ++ decimal number

-- the year, the month and the day
abbrev pub full_date : Date → List ℕ
full_date date = zero_padded 4 date.year ++ codes "-" ++ zero_padded 2 date.month ++ codes "-" ++ zero_padded 2 date.day

-- the time of a day, in seconds of it
abbrev pub time_of_day : ℕ → List ℕ
time_of_day seconds =
    zero_padded 2 (seconds / 3600) ++ codes ":" ++ zero_padded 2 (seconds / 60 % 60) ++ codes ":" ++ zero_padded 2 (seconds % 60)

-- the microseconds of a second, in UTC
abbrev pub fraction : ℕ → List ℕ
fraction micros = codes "." ++ zero_padded 6 micros ++ codes "Z"

-- The moment so many microseconds behind the beginning of 1970, in UTC. Each day has 86,400 seconds: leap seconds aren't counted, as POSIX
-- has it.
unfoldable pub rfc3339 : ℕ → List ℕ
rfc3339 micros =
    full_date (date_of (micros / 1000000 / 86400)) ++ codes "T" ++ time_of_day (micros / 1000000 % 86400)
    ++ fraction (micros % 1000000)

-- the microseconds from the beginning of 1970 to that of 10000
abbrev pub end_of_9999 : ℕ
end_of_9999 = 253402300800000000
