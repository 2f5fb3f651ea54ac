-- Autolinks (CommonMark 0.31.2, section 6.5): what may stand between '<' and '>'.
use Rattle.std.specs.Prelude.{ℕ, nat_le, Bool, not, ◌&&◌, ◌||◌, ◌==◌, length, codes}
use Rattle.std.specs.Char.{is_ascii_alphabetic, is_ascii_alphanumeric, is_ascii_control}
use Rattle.doc_rules.specs.Characters.{Text, one_of, first_or, last_or}
use Rattle.doc_rules.specs.Parsers.{Parser, one, is, many, ◌then◌, some, at_most, repeated, passing}

-- ---- addresses of the web

-- a letter, a digit, '+', '.' or '-'
unfoldable pub is_scheme_char : ℕ → Bool
is_scheme_char c = is_ascii_alphanumeric c || one_of (codes "+.-") c

-- a letter, then letters, digits, '+', '.' and '-': 2 to 32 characters
unfoldable pub scheme : Parser
scheme = one is_ascii_alphabetic then one is_scheme_char then at_most 30 (one is_scheme_char)

-- a scheme, ':', then anything but ASCII controls, spaces, '<' and '>'
unfoldable pub uri : Parser
uri = scheme then is 58 then many (λ c. not (is_ascii_control c || one_of (codes " <>") c))

-- ---- addresses of mail

-- what may stand before the '@'
unfoldable pub is_local_char : ℕ → Bool
is_local_char c = is_ascii_alphanumeric c || one_of (codes ".!#$%&'*+/=?^_`{|}~-") c

-- a letter, a digit or '-'
unfoldable pub is_domain_char : ℕ → Bool
is_domain_char c = is_ascii_alphanumeric c || (c == 45)

-- 1 to 63 characters, of which neither the first nor the last is a '-'
unfoldable pub is_domain_part : Text → Bool
is_domain_part part = is_ascii_alphanumeric (first_or 0 part) && (is_ascii_alphanumeric (last_or 0 part) && nat_le (length part) 63)

-- one part of what stands behind the '@'
unfoldable pub domain_part : Parser
domain_part = passing is_domain_part (many is_domain_char)

-- an address of mail
unfoldable pub mail : Parser
mail = some is_local_char then is 64 then domain_part then repeated (is 46 then domain_part)
