-- A head's fields by name.
use Rattle.std.specs.Prelude.{ℕ, ◌==◌, ◌||◌, ◌&&◌, Bool, List, Option, map, find, count_by, codes, nat_le, if◌then◌else◌}
use Rattle.std.specs.List.{list_any, slice_split}
use Rattle.std.specs.Option.{option_map}
use Rattle.std.specs.Str.{str_eq_ignore_ascii_case}
use Rattle.doc_http_bodies.specs.Fields.{Fields, is_named}
use Rattle.httparse.specs.Grammar.{RequestHead, trim_ows}
use Rattle.httparse.specs.Spans.{name_and_value}

-- a head's fields, each value without the spaces and tabs around it (RFC 9112, section 5.1)
abbrev pub fields_of : RequestHead → Fields
fields_of head = map name_and_value head.fields

-- how many fields have the name
abbrev pub count_named : List ℕ → Fields → ℕ
count_named name fields = count_by (is_named name) fields

-- the value of the first field of the name
abbrev pub value_named : List ℕ → Fields → Option (List ℕ)
value_named name fields = option_map (λ field. field.1) (find (is_named name) fields)

-- one Host field, or at most one in HTTP/1.0 (RFC 9112, section 3.2), and at most one Authorization field (this project's choice)
abbrev pub has_good_counts : ℕ → Fields → Bool
has_good_counts minor fields =
    nat_le (count_named (codes "authorization") fields) 1
    && (if minor == 0 then nat_le (count_named (codes "host") fields) 1 else count_named (codes "host") fields == 1)

-- whether a part of a list is the connection option `close`, compared without case (RFC 9110, section 7.6.1)
abbrev pub is_close : List ℕ → Bool
is_close part = str_eq_ignore_ascii_case (trim_ows part) (codes "close")

-- whether the list, of parts between commas (RFC 9110, section 5.6.1), has `close`
abbrev pub lists_close : List ℕ → Bool
lists_close value = list_any is_close (slice_split (λ b. b == 44) value)

-- whether the connection ends after the reply: in HTTP/1.0, or where a Connection field lists `close` (RFC 9112, section 9.3)
abbrev pub asks_close : ℕ → Fields → Bool
asks_close minor fields =
    minor == 0 || list_any (λ field. is_named (codes "connection") field && lists_close field.1) fields
