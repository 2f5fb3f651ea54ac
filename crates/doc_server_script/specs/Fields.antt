-- The fields of a line. All of this is this project's choice.
use Rattle.std.specs.Prelude.{ℕ, ◌^◌, List, [], length, Bool, true, false, not, ◌&&◌, ◌==◌, nat_lt, bytes_eq, codes, Option, Some, None}
use Rattle.std.specs.Prelude.{option_and_then, if◌then◌else◌}
use Rattle.std.specs.Char.{is_ascii_digit}
use Rattle.std.specs.List.{list_all, position_or_len, before_first, after_first}
use Rattle.std.specs.Result.{result_ok}
use Rattle.std.specs.Str.{is_utf8}
use Rattle.std.specs.Str.Parse.{digits_value}
use Rattle.doc_page_parts.specs.Paths.{path_of}
use Rattle.doc_store_readers.specs.Groups.{groups_of}
use Rattle.doc_hub_events.specs.declared.event.ConnId.{ConnId}
use Rattle.doc_server_script.specs.Escapes.{unescaped}

abbrev pub is_space : ℕ → Bool
is_space b = b == 32

-- the field before the first space, and all that follows the space
abbrev pub cut : List ℕ → Option (List ℕ × List ℕ)
cut text =
    if nat_lt (position_or_len is_space text) (length text) then Some (before_first is_space text, after_first is_space text)
    else None

-- decimal digits, one or more
abbrev pub are_digits : List ℕ → Bool
are_digits field = not (length field == 0) && list_all is_ascii_digit field

-- the connection of a number below 2^64; leading zeros don't count
abbrev pub connection_of : List ℕ → Option ConnId
connection_of field =
    if are_digits field && nat_lt (digits_value 10 field) (2 ^ 64) then Some (record { 0 = digits_value 10 field }) else None

-- bytes that are UTF-8
abbrev pub as_text : List ℕ → Option (List ℕ)
as_text bytes = if is_utf8 bytes then Some bytes else None

-- the text that a field stands for
abbrev pub text_of : List ℕ → Option (List ℕ)
text_of field = option_and_then as_text (unescaped field)

-- the path that a text is
abbrev pub as_path : List ℕ → Option (List ℕ)
as_path text = result_ok (path_of text)

-- the path that a field stands for
abbrev pub path_in : List ℕ → Option (List ℕ)
path_in field = option_and_then as_path (text_of field)

-- the groups that a field names, joined by commas; `-` alone names none
abbrev pub groups_in : List ℕ → Option (List (List ℕ))
groups_in field = if bytes_eq field (codes "-") then Some [] else result_ok (groups_of field)

-- whether a reader is an owner
abbrev pub owner_in : List ℕ → Option Bool
owner_in field =
    if bytes_eq field (codes "owner") then Some true
    else (if bytes_eq field (codes "plain") then Some false else None)
