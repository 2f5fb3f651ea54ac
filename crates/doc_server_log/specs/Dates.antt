-- Dates of the Gregorian calendar by the count of days, also before it was in use (ISO 8601, proleptic).
use Rattle.std.specs.Prelude.{ℕ, ◌+◌, ◌-◌, ◌*◌, ◌/◌, ◌%◌, min, nat_lt, if◌then◌else◌}
use Rattle.doc_server_log.specs.declared.date.Date.{Date}
use Rattle.doc_server_log.specs.declared.date.MarchDay.{MarchDay}

-- The day so many days behind 1 March of the year 0, in years that begin on 1 March, so that a leap day is the last of its year. 400
-- years have 146,097 days: four centuries of 36,524, and one more at the end of the last. A century has 25 times four years of 1,461 days,
-- but for the last day; four years have four times 365, and one more at the end of the last.
unfoldable pub march_day : ℕ → MarchDay
march_day days =
    let in_cycle = days % 146097 in
    let century = min (in_cycle / 36524) 3 in
    let in_century = in_cycle - 36524 * century in
    let fours = in_century / 1461 in
    let in_fours = in_century - 1461 * fours in
    let year = min (in_fours / 365) 3 in
    record {
      year = 400 * (days / 146097) + 100 * century + 4 * fours + year;
      day = in_fours - 365 * year;
    }

-- its date: from March on months have 31, 30, 31, 30 and 31 days, twice, and then as many as are left, so five of them have 153
unfoldable pub date_in : MarchDay → Date
date_in march =
    let month = (5 * march.day + 2) / 153 in
    record {
      year = if nat_lt month 10 then march.year else march.year + 1;
      month = if nat_lt month 10 then month + 3 else month - 9;
      day = march.day - (153 * month + 2) / 5 + 1;
    }

-- the date so many days behind 1 January 1970
abbrev pub date_of : ℕ → Date
date_of days = date_in (march_day (days + 719468))
