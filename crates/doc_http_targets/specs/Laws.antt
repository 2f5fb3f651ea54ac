-- Laws of routes: no target asks for two things.
use Rattle.std.specs.Prelude.{◌≡◌, ℕ, List, Some, None}
use Rattle.doc_http_targets.specs.EditTargets.{EditRoute, edit_route_of}
use Rattle.doc_http_targets.specs.PeopleTargets.{PeopleRoute, for_people_in, target_path}
use Rattle.doc_http_targets.specs.Targets.{route_of}

-- what concerns the source of a page is none of the routes of all requests
abbrev pub EditRoutesAreNoOthers : Type 0
EditRoutesAreNoOthers = (target : List ℕ) (route : EditRoute) → edit_route_of target ≡ Some route → route_of target ≡ None

-- nor is it one that only people's requests may ask for
abbrev pub EditRoutesAreNotForPeople : Type 0
EditRoutesAreNotForPeople =
    (target : List ℕ) (route : EditRoute) → edit_route_of target ≡ Some route → for_people_in (target_path target) ≡ None

-- what only people's requests may ask for is none of the routes of all requests
abbrev pub RoutesForPeopleAreNoOthers : Type 0
RoutesForPeopleAreNoOthers =
    (target : List ℕ) (route : PeopleRoute) → for_people_in (target_path target) ≡ Some route → route_of target ≡ None
