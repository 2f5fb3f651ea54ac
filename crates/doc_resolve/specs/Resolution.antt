-- How a reference is resolved on a base (RFC 3986, section 5).
use Rattle.std.specs.Prelude.{ℕ, List, [], ◌∷◌, ◌++◌, map, Bool, false, ◌&&◌, codes, Option, Some, None, is_some, if◌then◌else◌}
use Rattle.std.specs.List.{join_with_byte}
use Rattle.std.specs.Option.{option_copied}
use Rattle.doc_page_parts.specs.Pages.{is_empty}
use Rattle.doc_resolve.specs.DotSegments.{but_last, without_dots}
use Rattle.doc_resolve.specs.References.{Uri}
use Rattle.doc_resolve.specs.declared.resolved.Resolved.{Resolved}

-- the empty path
abbrev pub is_no_path : List (List ℕ) → Bool
is_no_path [] = false
is_no_path (s ∷ []) = is_empty s
is_no_path (s ∷ t ∷ rest) = false

-- the path begins with `/`
abbrev pub is_rooted : List (List ℕ) → Bool
is_rooted [] = false
is_rooted (s ∷ []) = false
is_rooted (s ∷ t ∷ rest) = is_empty s

-- section 5.2.3: the base's path to its last `/`, or `/` where the base has an authority and no path
abbrev pub folder : Option (List ℕ) → List (List ℕ) → List (List ℕ)
folder authority base = if is_some authority && is_no_path base then [] ∷ [] else but_last base

abbrev pub merge : Option (List ℕ) → List (List ℕ) → List (List ℕ) → List (List ℕ)
merge authority base path = folder authority base ++ path

-- section 5.2.2: the path, where the reference has neither scheme nor authority
abbrev pub path_on : Option (List ℕ) → List (List ℕ) → List (List ℕ) → List (List ℕ)
path_on authority base path =
    if is_no_path path then base
    else (if is_rooted path then without_dots path else without_dots (merge authority base path))

abbrev pub or_base : Option (List ℕ) → Option (List ℕ) → Option (List ℕ)
or_base None base = base
or_base (Some query) base = Some query

-- section 5.2.2: the query, likewise; that of the base stays only with its path
abbrev pub query_on : Option (List ℕ) → List (List ℕ) → Option (List ℕ) → Option (List ℕ)
query_on base path query = if is_no_path path then or_base query base else query

-- section 5.2.2, where the reference has neither scheme nor authority
abbrev pub on_base : Uri → Uri → Uri
on_base base r = record {
  scheme = base.scheme;
  authority = base.authority;
  path = path_on base.authority base.path r.path;
  query = query_on base.query r.path r.query;
  fragment = r.fragment;
}

-- section 5.2.2, where it has one of them: its own components with this scheme
abbrev pub on_its_own : Option (List ℕ) → Uri → Uri
on_its_own scheme r = record {
  scheme = scheme;
  authority = r.authority;
  path = without_dots r.path;
  query = r.query;
  fragment = r.fragment;
}

-- section 5.2.2, strict, by the reference's scheme and authority
abbrev pub resolve_by : Uri → Uri → Option (List ℕ) → Option (List ℕ) → Uri
resolve_by base r (Some scheme) authority = on_its_own (Some scheme) r
resolve_by base r None (Some authority) = on_its_own base.scheme r
resolve_by base r None None = on_base base r

-- the reference, resolved on the base (section 5.2.2)
unfoldable pub resolve : Uri → Uri → Uri
resolve base r = resolve_by base r r.scheme r.authority

-- a component between its marks, where it is there
abbrev pub part : List ℕ → Option (List ℕ) → List ℕ → List ℕ
part front None back = []
part front (Some text) back = front ++ text ++ back

-- section 5.3
unfoldable pub recomposed : Uri → List ℕ
recomposed u =
    part [] u.scheme (codes ":") ++ part (codes "//") u.authority [] ++ join_with_byte 47 u.path
    ++ part (codes "?") u.query [] ++ part (codes "#") u.fragment []

-- a resolved reference's components, as texts
abbrev pub uri_of_resolved : Resolved → Uri
uri_of_resolved r = record {
  scheme = option_copied r.scheme;
  authority = option_copied r.authority;
  path = map (λ s. s.now) r.path.items;
  query = option_copied r.query;
  fragment = option_copied r.fragment;
}
