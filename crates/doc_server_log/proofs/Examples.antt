-- Worked examples: dates, moments, names and lines.
use Rattle.std.proofs.Common.{◌≡◌, [], ◌*◌, ◌+◌, true, false, codes, replicate, refl}
use Rattle.std.specs.Fmt.{digits}
use Rattle.percent_encoding.specs.AsciiSet.{should_percent_encode}
use Rattle.percent_encoding.specs.Percent.{percent_encode, percent_encode_byte}
use Rattle.doc_server_log.specs.Dates.{date_in, march_day}
use Rattle.doc_server_log.specs.Moments.{rfc3339, zero_padded}
use Rattle.doc_server_names.specs.Names.{is_name}

-- one name to unfold where an example computes
unfoldable computing : Unit {0}
unfolding digits march_day date_in zero_padded rfc3339 is_name percent_encode percent_encode_byte should_percent_encode
computing = tt

-- ---- moments, by `date -u -d @N +%FT%T`

the_beginning : rfc3339 (0 * 1000000) ≡ codes "1970-01-01T00:00:00.000000Z"
unfolding computing
the_beginning = refl

a_second_later : rfc3339 (1 * 1000000) ≡ codes "1970-01-01T00:00:01.000000Z"
unfolding computing
a_second_later = refl

the_end_of_a_day : rfc3339 (86399 * 1000000) ≡ codes "1970-01-01T23:59:59.000000Z"
unfolding computing
the_end_of_a_day = refl

new_years_eve : rfc3339 (946684799 * 1000000) ≡ codes "1999-12-31T23:59:59.000000Z"
unfolding computing
new_years_eve = refl

two_thousand : rfc3339 (946684800 * 1000000) ≡ codes "2000-01-01T00:00:00.000000Z"
unfolding computing
two_thousand = refl

leap_day_of_2000 : rfc3339 (951782400 * 1000000) ≡ codes "2000-02-29T00:00:00.000000Z"
unfolding computing
leap_day_of_2000 = refl

behind_the_leap_day_of_2000 : rfc3339 (951868800 * 1000000) ≡ codes "2000-03-01T00:00:00.000000Z"
unfolding computing
behind_the_leap_day_of_2000 = refl

leap_day_of_2024 : rfc3339 (1709164800 * 1000000) ≡ codes "2024-02-29T00:00:00.000000Z"
unfolding computing
leap_day_of_2024 = refl

last_second_of_a_leap_day : rfc3339 (1709251199 * 1000000) ≡ codes "2024-02-29T23:59:59.000000Z"
unfolding computing
last_second_of_a_leap_day = refl

behind_the_leap_day_of_2024 : rfc3339 (1709251200 * 1000000) ≡ codes "2024-03-01T00:00:00.000000Z"
unfolding computing
behind_the_leap_day_of_2024 = refl

end_of_february_2023 : rfc3339 (1677628799 * 1000000) ≡ codes "2023-02-28T23:59:59.000000Z"
unfolding computing
end_of_february_2023 = refl

first_of_march_2023 : rfc3339 (1677628800 * 1000000) ≡ codes "2023-03-01T00:00:00.000000Z"
unfolding computing
first_of_march_2023 = refl

no_leap_day_in_2100 : rfc3339 (4107542399 * 1000000) ≡ codes "2100-02-28T23:59:59.000000Z"
unfolding computing
no_leap_day_in_2100 = refl

first_of_march_2100 : rfc3339 (4107542400 * 1000000) ≡ codes "2100-03-01T00:00:00.000000Z"
unfolding computing
first_of_march_2100 = refl

thirty_two_bits : rfc3339 (2147483648 * 1000000) ≡ codes "2038-01-19T03:14:08.000000Z"
unfolding computing
thirty_two_bits = refl

sixty_first_second : rfc3339 (1483228800 * 1000000) ≡ codes "2017-01-01T00:00:00.000000Z"
unfolding computing
sixty_first_second = refl

the_last_year : rfc3339 (253402300799 * 1000000) ≡ codes "9999-12-31T23:59:59.000000Z"
unfolding computing
the_last_year = refl

leap_day_of_2400 : rfc3339 (13574563200 * 1000000) ≡ codes "2400-02-29T00:00:00.000000Z"
unfolding computing
leap_day_of_2400 = refl

microseconds : rfc3339 (1795735060 * 1000000 + 123456) ≡ codes "2026-11-26T23:17:40.123456Z"
unfolding computing
microseconds = refl

one_microsecond : rfc3339 1 ≡ codes "1970-01-01T00:00:00.000001Z"
unfolding computing
one_microsecond = refl

-- ---- names

a_name : is_name (codes "ann") ≡ true
unfolding computing
a_name = refl

an_address : is_name (codes "j.doe-2_x@example.org") ≡ true
unfolding computing
an_address = refl

no_name : is_name [] ≡ false
unfolding computing
no_name = refl

a_capital : is_name (codes "Ann") ≡ false
unfolding computing
a_capital = refl

a_space : is_name (codes "an n") ≡ false
unfolding computing
a_space = refl

a_quote : is_name (codes "an\"") ≡ false
unfolding computing
a_quote = refl

thirty_two_bytes : is_name (replicate 32 97) ≡ true
unfolding computing
thirty_two_bytes = refl

thirty_three_bytes : is_name (replicate 33 97) ≡ false
unfolding computing
thirty_three_bytes = refl
