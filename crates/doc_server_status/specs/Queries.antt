-- What a query asks of the journal. All of this is this project's choice.
use Rattle.std.specs.Prelude.{ℕ, ◌^◌, Bool, ◌&&◌, List, Option, Some, None, bytes_eq, codes, if◌then◌else◌, length, nat_le, nat_lt}
use Rattle.std.specs.Char.{is_ascii_digit}
use Rattle.std.specs.List.{list_all}
use Rattle.std.specs.Option.{option_map}
use Rattle.std.specs.Str.Parse.{digits_value}
use Rattle.doc_server_status.specs.declared.wanted.Part.{Part}
use Rattle.doc_server_status.specs.declared.wanted.Part.TheVariants.{Least, Of}
use Rattle.doc_server_status.specs.declared.wanted.Wanted.{Wanted}
use Rattle.doc_server_status.specs.Cuts.{cut_at}
use Rattle.doc_server_status.specs.Identities.{identity_in}

-- 1 to 20 decimal digits
abbrev pub is_number : List ℕ → Bool
is_number text = nat_le 1 (length text) && nat_le (length text) 20 && list_all is_ascii_digit text

-- the number that they write, where it fits in 64 bits
unfoldable pub number_in : List ℕ → Option ℕ
number_in text = if is_number text && nat_lt (digits_value 10 text) (2 ^ 64) then Some (digits_value 10 text) else None

-- `least` with a number, or `of` with an identity
abbrev pub part_by : List ℕ → List ℕ → Option Part
part_by key value =
    if bytes_eq key (codes "least") then option_map (λ number. Least number) (number_in value)
    else (if bytes_eq key (codes "of") then option_map (λ identity. Of identity) (identity_in value) else None)

abbrev pub part_of : Option (List ℕ × List ℕ) → Option Part
part_of None = None
part_of (Some halves) = part_by halves.0 halves.1

-- a part is a key, `=` and a value
unfoldable pub part_in : List ℕ → Option Part
part_in text = part_of (cut_at 61 text)

abbrev pub nothing_wanted : Wanted
nothing_wanted = record { least = 0; identity = None }

-- what one part wants
abbrev pub wanted_by : Part → Wanted
wanted_by (Least number) = record nothing_wanted { least = number }
wanted_by (Of identity) = record nothing_wanted { identity = Some identity }

-- what two want, whose keys differ
abbrev pub wanted_by_both : Part → Part → Option Wanted
wanted_by_both (Least number) (Of identity) = Some (record { least = number; identity = Some identity })
wanted_by_both (Of identity) (Least number) = Some (record { least = number; identity = Some identity })
wanted_by_both (Least number) (Least again) = None
wanted_by_both (Of identity) (Of again) = None

abbrev pub wanted_by_two : Option Part → Option Part → Option Wanted
wanted_by_two (Some first) (Some second) = wanted_by_both first second
wanted_by_two (Some first) None = None
wanted_by_two None second = None

abbrev pub wanted_of : List ℕ → Option (List ℕ × List ℕ) → Option Wanted
wanted_of query None = option_map wanted_by (part_in query)
wanted_of query (Some halves) = wanted_by_two (part_in halves.0) (part_in halves.1)

-- a query is a part, or two with `&` between
unfoldable pub wanted_in : List ℕ → Option Wanted
wanted_in query = wanted_of query (cut_at 38 query)
