-- The target of a request (RFC 9112, section 3.2), and what it asks for.
use Rattle.std.specs.Prelude.{ℕ, List, [], ◌∷◌, take, drop, Bool, ◌==◌, ◌||◌, bytes_eq, codes, Option, Some, None}
use Rattle.std.specs.Prelude.{option_and_then, option_map, if◌then◌else◌}
use Rattle.std.specs.List.{position_or_len, before_first}
use Rattle.std.specs.Option.{option_or}
use Rattle.std.specs.Str.{str_eq_ignore_ascii_case}
use Rattle.doc_http_targets.specs.declared.route.Route as code
use Rattle.doc_http_targets.specs.declared.route.Route.TheVariants as routes

-- `/`, `?` or `#`, which ends an authority (RFC 3986, section 3.2)
abbrev pub ends_authority : ℕ → Bool
ends_authority b = b == 47 || b == 63 || b == 35

-- what follows the authority that a text begins with (RFC 3986, section 3.2)
abbrev pub after_authority : List ℕ → List ℕ
after_authority text = drop (position_or_len ends_authority text) text

-- what follows `http://`, which is read without case (RFC 3986, section 3.1; RFC 9110, section 4.2.1)
abbrev pub after_http : List ℕ → Option (List ℕ)
after_http target =
    if str_eq_ignore_ascii_case (take 7 target) (codes "http://") then Some (drop 7 target) else None

-- the text with `/` before it, where it has none there (RFC 9112, section 3.2.1)
abbrev pub with_slash : List ℕ → List ℕ
with_slash [] = codes "/"
with_slash (b ∷ rest) = if b == 47 then b ∷ rest else 47 ∷ b ∷ rest

-- the text, where it begins with `/`
abbrev pub if_rooted : List ℕ → Option (List ℕ)
if_rooted [] = None
if_rooted (b ∷ rest) = if b == 47 then Some (b ∷ rest) else None

-- the origin form of a target of which `after_http` is known
abbrev pub origin_form_by : List ℕ → Option (List ℕ) → Option (List ℕ)
origin_form_by target None = if_rooted target
origin_form_by target (Some rest) = Some (with_slash (after_authority rest))

-- the origin form of a target (RFC 9112, section 3.2.1), or of one in absolute form (section 3.2.2); a target in any other form has none
unfoldable pub origin_form : List ℕ → Option (List ℕ)
origin_form target = origin_form_by target (after_http target)

-- the absolute path of an origin form: what stands before its query (RFC 9112, section 3.2.1)
abbrev pub path_part : List ℕ → List ℕ
path_part target = before_first (λ b. b == 63) target

-- what follows the prefix, where the text has it
abbrev pub after : List ℕ → List ℕ → Option (List ℕ)
after [] text = Some text
after (x ∷ prefix) [] = None
after (x ∷ prefix) (b ∷ text) = if x == b then after prefix text else None

-- the text, where it isn't empty
abbrev pub if_not_empty : Option (List ℕ) → Option (List ℕ)
if_not_empty None = None
if_not_empty (Some []) = None
if_not_empty (Some (b ∷ rest)) = Some (b ∷ rest)

-- the rest of a path behind a front, which isn't empty
abbrev pub rest_behind : List ℕ → List ℕ → Option (List ℕ)
rest_behind front path = if_not_empty (after front path)

-- what a target asks for: a page, the pages with links to one, the list of pages, those with some words, or the broken links
pub data Route : Type 0 where
  Page : List ℕ → Route
  Backlinks : List ℕ → Route
  Contents : Route
  Search : Route
  Broken : Route

-- the same as the code has it
abbrev pub route_shown : code.Route → Route
route_shown (routes.Page rest) = Page rest.now
route_shown (routes.Backlinks rest) = Backlinks rest.now
route_shown routes.Contents = Contents
route_shown routes.Search = Search
route_shown routes.Broken = Broken

-- a route at one path alone
abbrev pub at_path : List ℕ → Route → List ℕ → Option Route
at_path name route path = if bytes_eq name path then Some route else None

-- what a path asks for: `/page/REST`, `/backlinks/REST`, `/contents`, `/search`, `/broken` and no other (this project's choice)
abbrev pub route_at : List ℕ → Option Route
route_at path =
    option_or (option_map Backlinks (rest_behind (codes "/backlinks/") path))
    (option_or (at_path (codes "/broken") Broken path)
    (option_or (at_path (codes "/contents") Contents path)
    (option_or (option_map Page (rest_behind (codes "/page/") path))
    (at_path (codes "/search") Search path))))

-- what a target asks for, by the part before its `?`
unfoldable pub route_of : List ℕ → Option Route
route_of target = option_and_then (λ form. route_at (path_part form)) (origin_form target)
