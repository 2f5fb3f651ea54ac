-- Entity tags (RFC 9110, section 8.8.3).
use Rattle.std.specs.Prelude.{ℕ, List, [], ◌∷◌, drop, Bool, false, not, ◌&&◌, ◌||◌, ◌==◌, nat_le, bytes_eq, codes, if◌then◌else◌, refl}
use Rattle.std.specs.Coded.{Coded, code_by, coded×, coded_list, coded_ℕ, coded_bool}
use Rattle.std.specs.List.{starts_with, prefix_len}
use Rattle.doc_http_conditions.specs.declared.comparison.Comparison.{Comparison}
use Rattle.doc_http_conditions.specs.declared.comparison.Comparison.TheVariants.{Strong, Weak}

-- an entity tag: whether it is a weak one, and its opaque tag, with the quotes
pub record EntityTag : Type 0 where
  pub weak : Bool
  pub opaque : List ℕ

abbrev pub entity_tag_code : Coded EntityTag
entity_tag_code =
    code_by (Bool × List ℕ) (coded× coded_bool (coded_list coded_ℕ))
    (λ t. (t.weak, t.opaque)) (λ t. record { weak = t.0; opaque = t.1 }) (λ _. refl)

-- ---- how they are written

-- etagc = %x21 / %x23-7E / obs-text, which is %x80-FF: neither a quote, nor a space or a control character
abbrev pub is_tag_byte : ℕ → Bool
is_tag_byte b = b == 0x21 || (nat_le 0x23 b && nat_le b 0x7E) || nat_le 0x80 b

-- opaque-tag = DQUOTE *etagc DQUOTE: a quote, bytes of a tag, and behind them a quote that is the last byte
abbrev pub is_opaque_tag : List ℕ → Bool
is_opaque_tag [] = false
is_opaque_tag (b ∷ rest) = b == 34 && bytes_eq (drop (prefix_len is_tag_byte rest) rest) (codes "\"")

-- weak = %s"W/": in capitals
abbrev pub is_weak : List ℕ → Bool
is_weak text = starts_with ◌==◌ text (codes "W/")

-- the text behind `W/`, where it begins so
abbrev pub opaque_part : List ℕ → List ℕ
opaque_part text = if is_weak text then drop 2 text else text

-- entity-tag = [ weak ] opaque-tag
abbrev pub is_entity_tag : List ℕ → Bool
is_entity_tag text = is_opaque_tag (opaque_part text)

-- the entity tag that a text writes
abbrev pub entity_tag : List ℕ → EntityTag
entity_tag text = record { weak = is_weak text; opaque = opaque_part text }

-- ---- how they are compared (section 8.8.3.2)

-- two are the same strongly where neither is weak and their opaque tags are the same, byte by byte; weakly
-- where their opaque tags are
abbrev pub is_same : Comparison → EntityTag → EntityTag → Bool
is_same Strong tag other = not tag.weak && not other.weak && bytes_eq tag.opaque other.opaque
is_same Weak tag other = bytes_eq tag.opaque other.opaque

-- the strong tag of this opaque tag
abbrev pub strong_tag : List ℕ → EntityTag
strong_tag opaque = record { weak = false; opaque = opaque }
