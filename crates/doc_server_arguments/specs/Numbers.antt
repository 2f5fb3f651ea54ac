-- Numbers, as arguments write them.
use Rattle.std.specs.Prelude.{ℕ, List, length, Bool, not, ◌&&◌, ◌==◌, ◌^◌, nat_le, nat_lt, Option, Some, None, option_and_then, if◌then◌else◌}
use Rattle.std.specs.Char.{is_ascii_digit}
use Rattle.std.specs.List.{list_all}
use Rattle.std.specs.Str.Parse.{digits_value}

-- decimal digits, one or more
abbrev pub are_digits : List ℕ → Bool
are_digits word = not (length word == 0) && list_all is_ascii_digit word

-- the number of decimal digits, where it is below a limit; leading zeros don't count
abbrev pub number_below : ℕ → List ℕ → Option ℕ
number_below limit word = if are_digits word && nat_lt (digits_value 10 word) limit then Some (digits_value 10 word) else None

-- a number of a u32
abbrev pub count_of : List ℕ → Option ℕ
count_of word = number_below (2 ^ 32) word

-- seconds from one look to the next: 1 to 3,600
abbrev pub is_pause : ℕ → Bool
is_pause seconds = nat_le 1 seconds && nat_le seconds 3600

abbrev pub pause_of : List ℕ → Option ℕ
pause_of word = option_and_then (λ seconds. if is_pause seconds then Some seconds else None) (count_of word)

-- a number of a u16, as a port is
abbrev pub port_of : List ℕ → Option ℕ
port_of word = number_below (2 ^ 16) word
