-- The components of a reference (RFC 3986, section 3 and appendix B).
use Rattle.std.specs.Prelude.{ℕ, List, [], ◌∷◌, drop, Bool, not, ◌&&◌, ◌==◌, Option, Some, None, option_and_then, if◌then◌else◌}
use Rattle.std.specs.List.{before_first, position_or_len, list_any}
use Rattle.std.specs.Option.{option_copied}
use Rattle.doc_page_parts.specs.Pages.{is_empty}
use Rattle.doc_page_parts.specs.Paths.{segments}
use Rattle.doc_resolve.specs.declared.reference.Reference.{Reference}

-- the five components (section 3). The path is the list of its segments, between slashes: an empty path is one empty segment, and `/a`
-- is an empty one and `a`
pub record Uri : Type 0 where
  pub scheme : Option (List ℕ)
  pub authority : Option (List ℕ)
  pub path : List (List ℕ)
  pub query : Option (List ℕ)
  pub fragment : Option (List ℕ)

-- what stands before the first such byte, or all of it
abbrev pub before : ℕ → List ℕ → List ℕ
before c text = before_first (λ b. b == c) text

-- what follows the first such byte, where there is one
abbrev pub behind : ℕ → List ℕ → Option (List ℕ)
behind c [] = None
behind c (b ∷ rest) = if b == c then Some rest else behind c rest

-- a scheme by the expression of appendix B, `[^:/?#]+`, where `:`, `?` and `#` don't stand in it already
abbrev pub is_scheme : List ℕ → Bool
is_scheme text = not (is_empty text) && not (list_any (λ b. b == 47) text)

-- the scheme, of what stands before the first `:` and what follows it (section 3.1)
abbrev pub scheme_by : List ℕ → Option (List ℕ) → Option (List ℕ)
scheme_by scheme None = None
scheme_by scheme (Some rest) = if is_scheme scheme then Some scheme else None

-- the text behind the scheme and its `:`, or all of it
abbrev pub behind_scheme_by : List ℕ → List ℕ → Option (List ℕ) → List ℕ
behind_scheme_by text scheme None = text
behind_scheme_by text scheme (Some rest) = if is_scheme scheme then rest else text

abbrev pub behind_scheme : List ℕ → List ℕ
behind_scheme text = behind_scheme_by text (before 58 text) (behind 58 text)

-- what follows a `/` at the front, where one stands there
abbrev pub behind_slash : List ℕ → Option (List ℕ)
behind_slash [] = None
behind_slash (b ∷ rest) = if b == 47 then Some rest else None

-- what follows `//` at the front, where that stands there: the authority, and the path from its first `/` on (section 3.2)
abbrev pub behind_slashes : List ℕ → Option (List ℕ)
behind_slashes text = option_and_then behind_slash (behind_slash text)

-- where the authority ends
abbrev pub authority_len : List ℕ → ℕ
authority_len rest = position_or_len (λ b. b == 47) rest

abbrev pub authority_by : Option (List ℕ) → Option (List ℕ)
authority_by None = None
authority_by (Some rest) = Some (before 47 rest)

abbrev pub path_by : List ℕ → Option (List ℕ) → List ℕ
path_by text None = text
path_by text (Some rest) = drop (authority_len rest) rest

-- the scheme, the authority and the path of a text without query and fragment
abbrev pub with_hierarchy : List ℕ → Option (List ℕ) → Option (List ℕ) → Uri
with_hierarchy text query fragment =
    let rest = behind_scheme text in
    record {
      scheme = scheme_by (before 58 text) (behind 58 text);
      authority = authority_by (behind_slashes rest);
      path = segments (path_by rest (behind_slashes rest));
      query = query;
      fragment = fragment;
    }

-- appendix B, from its end: `(#(.*))?`, `(\?([^#]*))?`, `([^?#]*)`, `(//([^/?#]*))?`, `(([^:/?#]+):)?`
unfoldable pub reference : List ℕ → Uri
reference text =
    let rest = before 35 text in
    with_hierarchy (before 63 rest) (behind 63 rest) (behind 35 text)

-- a reference's components, as texts
abbrev pub uri_of : Reference → Uri
uri_of r = record {
  scheme = option_copied r.scheme;
  authority = option_copied r.authority;
  path = segments r.path.now;
  query = option_copied r.query;
  fragment = option_copied r.fragment;
}
