-- What the target of a request for people asks for. Which routes there are is this project's choice.
use Rattle.std.specs.Prelude.{ℕ, List, [], ◌∷◌, Bool, false, ◌==◌, bytes_eq, codes, Option, Some, None, option_map, if◌then◌else◌}
use Rattle.std.specs.Option.{option_or}
use Rattle.doc_http_targets.specs.Targets.{Route, after_authority, after_http, if_rooted, path_part, rest_behind, route_of, route_shown}
use Rattle.doc_http_targets.specs.declared.people_route.PeopleRoute as code
use Rattle.doc_http_targets.specs.declared.people_route.PeopleRoute.TheVariants as people_routes

-- the path of what stands behind an authority: `/` where that has none (RFC 9112, section 3.2.1)
abbrev pub path_behind : List ℕ → Option (List ℕ)
path_behind [] = Some (codes "/")
path_behind (b ∷ rest) =
    if b == 47 then Some (path_part (b ∷ rest)) else (if b == 63 then Some (codes "/") else None)

-- the path of a target of which `after_http` is known
abbrev pub target_path_by : List ℕ → Option (List ℕ) → Option (List ℕ)
target_path_by target None = option_map path_part (if_rooted target)
target_path_by target (Some rest) = path_behind (after_authority rest)

-- the path of a target in origin form, or in absolute form (RFC 9112, sections 3.2.1 and 3.2.2)
unfoldable pub target_path : List ℕ → Option (List ℕ)
target_path target = target_path_by target (after_http target)

-- what a target asks for: the front, a way to sign in, the contents of a folder, or what other requests may ask for too
pub data PeopleRoute : Type 0 where
  Front : PeopleRoute
  SignIn : PeopleRoute
  Folder : List ℕ → PeopleRoute
  Plain : Route → PeopleRoute

-- the same as the code has it
abbrev pub people_route_shown : code.PeopleRoute → PeopleRoute
people_route_shown people_routes.Front = Front
people_route_shown people_routes.SignIn = SignIn
people_route_shown (people_routes.Folder rest) = Folder rest.now
people_route_shown (people_routes.Plain route) = Plain (route_shown route)

-- what a path asks for that only people's requests may: `/`, `/sign-in` and `/contents/REST`
abbrev pub for_people_at : List ℕ → Option PeopleRoute
for_people_at path =
    if bytes_eq path (codes "/") then Some Front
    else (if bytes_eq path (codes "/sign-in") then Some SignIn
    else option_map Folder (rest_behind (codes "/contents/") path))

-- the same of a target that may have no path
abbrev pub for_people_in : Option (List ℕ) → Option PeopleRoute
for_people_in None = None
for_people_in (Some path) = for_people_at path

-- what the target of a people's request asks for
abbrev pub people_route_of : List ℕ → Option PeopleRoute
people_route_of target = option_or (for_people_in (target_path target)) (option_map Plain (route_of target))

-- the style sheet stands at a path
abbrev pub is_style_sheet_at : Option (List ℕ) → Bool
is_style_sheet_at None = false
is_style_sheet_at (Some path) = bytes_eq path (codes "/style.css")

-- the target asks for the style sheet
abbrev pub is_style_sheet : List ℕ → Bool
is_style_sheet target = is_style_sheet_at (target_path target)
