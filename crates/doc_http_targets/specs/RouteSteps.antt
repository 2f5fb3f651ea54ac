-- The routes of the hub, as the router holds them.
use Rattle.std.specs.Prelude.{◌≡◌, ℕ, List, [], ◌∷◌, ◌++◌, Option, Some, None, Result, Ok, Err, option_map, codes}
use Rattle.matchit.specs.Route.{Scan}
use Rattle.matchit.specs.Rows.{RowsOf, catch_all_token}
use Rattle.matchit.specs.Router.{RouteOf, nearest}
use Rattle.matchit.specs.Seek.{first}
use Rattle.matchit.specs.declared.error.InsertError.{InsertError}
use Rattle.doc_http_targets.specs.Targets.{Route}
use Rattle.doc_http_targets.specs.Targets as targets
use Rattle.doc_http_targets.specs.TargetSteps.{rest_of}
use Rattle.doc_http_targets.specs.declared.routes.Place.{Place}
use Rattle.doc_http_targets.specs.declared.routes.Place.TheVariants as places

-- one route: its pattern, its text, the places of its parameters' names in that text, and what it leads to
abbrev pub route : List ℕ → List ℕ → List (ℕ × ℕ) → Place → List ℕ × RouteOf Place
route pattern text names place =
    (pattern, record { pattern = pattern; text = text; names = names; value = place })

-- the routes, in the router's order (this project's choice)
abbrev pub route_table : RowsOf (RouteOf Place)
route_table =
    route (codes "/backlinks/" ++ catch_all_token ∷ []) (codes "/backlinks/{*rest}") ((13, 17) ∷ []) places.Backlinks
    ∷ route (codes "/broken") (codes "/broken") [] places.Broken
    ∷ route (codes "/contents") (codes "/contents") [] places.Contents
    ∷ route (codes "/page/" ++ catch_all_token ∷ []) (codes "/page/{*rest}") ((8, 12) ∷ []) places.Page
    ∷ route (codes "/search") (codes "/search") [] places.Search
    ∷ []

-- what the router finds at a path
abbrev pub place_of : List ℕ → Option Place
place_of path = option_map (λ found. found.value) (first route_table path)

-- what a place asks for at a path
abbrev pub leads_to : Place → List ℕ → Option Route
leads_to places.Page path = option_map targets.Page (rest_of path)
leads_to places.Backlinks path = option_map targets.Backlinks (rest_of path)
leads_to places.Contents path = Some targets.Contents
leads_to places.Search path = Some targets.Search
leads_to places.Broken path = Some targets.Broken

-- a route as it was read conflicts with none of these
abbrev pub CanStand : Result Scan InsertError → RowsOf (RouteOf Place) → Type 0
CanStand (Ok scan) rows = nearest scan.pattern rows ≡ None
CanStand (Err e) rows = ⊥
