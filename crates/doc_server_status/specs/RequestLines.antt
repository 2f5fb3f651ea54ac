-- Request lines (RFC 9112, section 3).
use Rattle.std.specs.Prelude.{ℕ, Bool, not, ◌&&◌, ◌||◌, ◌==◌, List, Option, Some, None, bytes_eq, codes, if◌then◌else◌, length, nat_le}
use Rattle.std.specs.Char.{is_ascii_alphanumeric, is_ascii_graphic}
use Rattle.std.specs.List.{list_all, list_any}
use Rattle.doc_server_status.specs.declared.request_line.RequestLine.{RequestLine}
use Rattle.doc_server_status.specs.Cuts.{cut_at}

-- a character of a token (RFC 9110, section 5.6.2)
abbrev pub is_token_byte : ℕ → Bool
is_token_byte b = is_ascii_alphanumeric b || list_any (λ c. c == b) (codes "!#$%&'*+-.^_`|~")

-- a method is a token
abbrev pub is_method : List ℕ → Bool
is_method text = not (length text == 0) && list_all is_token_byte text

-- a character of a target: printable ASCII without the space
abbrev pub is_target_byte : ℕ → Bool
is_target_byte b = is_ascii_graphic b

abbrev pub is_target : List ℕ → Bool
is_target text = not (length text == 0) && list_all is_target_byte text

abbrev pub is_version : List ℕ → Bool
is_version text = bytes_eq text (codes "HTTP/1.1") || bytes_eq text (codes "HTTP/1.0")

-- what is asked for, and by which method
pub record Asked : Type 0 where
  pub method : List ℕ
  pub target : List ℕ

abbrev pub asked_by : List ℕ → Option (List ℕ × List ℕ) → Option Asked
asked_by method None = None
asked_by method (Some parts) =
    if is_method method && is_target parts.0 && is_version parts.1 then Some (record { method = method; target = parts.0 }) else None

abbrev pub asked_of : Option (List ℕ × List ℕ) → Option Asked
asked_of None = None
asked_of (Some parts) = asked_by parts.0 (cut_at 32 parts.1)

-- what a line without its end asks for: method, target and version, with a space between, 1,024 bytes in all at most
unfoldable pub asked_in : List ℕ → Option Asked
asked_in line = if nat_le (length line) 1024 then asked_of (cut_at 32 line) else None

abbrev pub line_of : RequestLine → Asked
line_of line = record { method = line.method.now; target = line.target.now }
