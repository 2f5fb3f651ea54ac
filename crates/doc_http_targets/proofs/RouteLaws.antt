-- Laws of routes: no target asks for two things.
use Rattle.std.proofs.Common.{◌≡◌, ◌∙◌, ℕ, ◌==◌, true, false, cond, List, [], ◌∷◌, ◌++◌, Option, Some, None, option_and_then, option_map}
use Rattle.std.proofs.Common.{Bool, codes, refl, sym, ap, subst}
use Rattle.std.specs.Option.{option_or}
use Rattle.std.specs.Str.{bytes_eq}
use Rattle.std.proofs.lemmas.Slice.Eq.{bytes_eq-Decides}
use Rattle.doc_http_targets.proofs.Fronts.{after-append}
use Rattle.doc_http_targets.proofs.OriginParts.{route_of-part}
use Rattle.doc_http_targets.specs.EditTargets.{EditRoute, edit_at, edit_in, edit_route_of}
use Rattle.doc_http_targets.specs.EditTargets as edits
use Rattle.doc_http_targets.specs.Laws.{EditRoutesAreNoOthers, EditRoutesAreNotForPeople, RoutesForPeopleAreNoOthers}
use Rattle.doc_http_targets.specs.PeopleTargets.{PeopleRoute, for_people_at, for_people_in, path_behind, target_path, target_path_by}
use Rattle.doc_http_targets.specs.PeopleTargets as people
use Rattle.doc_http_targets.specs.TargetSteps.{origin_part, origin_part_by}
use Rattle.doc_http_targets.specs.Targets.{after, after_authority, after_http, if_not_empty, if_rooted, path_part, route_at, route_of}

-- ---- routes go by paths

rooted : (form : Option (List ℕ)) → option_and_then (λ form. route_at (path_part form)) form
    ≡ option_and_then route_at (option_map path_part form)
rooted None = refl
rooted (Some form) = refl

behind_authority : (text : List ℕ) → option_and_then (λ form. route_at (path_part form)) (if_rooted text)
    ≡ option_and_then route_at (path_behind text)
behind_authority [] = refl
behind_authority (b ∷ rest) =
    elim (b == 47) as (λ v. option_and_then (λ form. route_at (path_part form)) (cond v (Some (b ∷ rest)) None)
    ≡ option_and_then route_at (cond v (Some (path_part (b ∷ rest))) (cond (b == 63) (Some (codes "/")) None))) [
      | true ↦ refl
      | false ↦ elim (b == 63) as (λ v. None ≡ option_and_then route_at (cond v (Some (codes "/")) None)) [ true ↦ refl | false ↦ refl ]
    ]

by_scheme : (target : List ℕ) (known : Option (List ℕ)) → option_and_then (λ form. route_at (path_part form)) (origin_part_by target known)
    ≡ option_and_then route_at (target_path_by target known)
by_scheme target None = rooted (if_rooted target)
by_scheme target (Some rest) = behind_authority (after_authority rest)

-- what a target asks for is what its path does
pub route_of-path : (target : List ℕ) → route_of target ≡ option_and_then route_at (target_path target)
unfolding origin_part target_path
route_of-path target = route_of-part target ∙ by_scheme target (after_http target)

-- ---- what holds where there is a route

module _ {R : Type 0} (P : Type 0) where
  -- the claim holds, or there is no route
  abbrev Where : Option R → Type 0
  Where None = Unit {0}
  Where (Some route) = P

  either : (a b : Option R) → Where a → Where b → Where (option_or a b)
  either None b first second = second
  either (Some route) b first second = first

  there : (o : Option R) (route : R) → Where o → o ≡ Some route → P
  there None route holds is = cc
  there (Some other) route holds is = holds

module _ {R : Type 0} (P : List ℕ → Type 0) (path front : List ℕ) (route : List ℕ → R) (all : (rest : List ℕ) → P (front ++ rest)) where
  -- what holds of each path with a front holds where there is a route behind it
  behind : (o : Option (List ℕ)) → after front path ≡ o → Where (P path) (option_map route o)
  behind None is = tt
  behind (Some rest) is = subst P (sym (after-append front path rest is)) (all rest)

  behind_more : (o : Option (List ℕ)) → after front path ≡ o → Where (P path) (option_map route (if_not_empty o))
  behind_more None is = tt
  behind_more (Some []) is = tt
  behind_more (Some (b ∷ rest)) is = subst P (sym (after-append front path (b ∷ rest) is)) (all (b ∷ rest))

-- ---- what concerns the source of a page

-- a path that asks for nothing else
abbrev IsNoOther : List ℕ → Type 0
IsNoOther path = (route_at path ≡ None) × (for_people_at path ≡ None)

edits_apart : (path : List ℕ) → Where (IsNoOther path) (edit_at path)
edits_apart path =
    let P = IsNoOther path in
    either P _ _ (behind_more IsNoOther path (codes "/source/") edits.Source (λ rest. (refl, refl)) _ refl)
    (either P _ _ (behind_more IsNoOther path (codes "/groups/") edits.Groups (λ rest. (refl, refl)) _ refl)
    (either P _ _ (behind_more IsNoOther path (codes "/move/") edits.Move (λ rest. (refl, refl)) _ refl)
    (either P _ _ (behind IsNoOther path (codes "/edit/") edits.Edit (λ rest. (refl, refl)) _ refl)
    (behind_more IsNoOther path (codes "/preview/") edits.Preview (λ rest. (refl, refl)) _ refl))))

edits_apart_in : (path : Option (List ℕ)) (route : EditRoute) → edit_in path ≡ Some route
    → (option_and_then route_at path ≡ None) × (for_people_in path ≡ None)
edits_apart_in None route is = (refl, refl)
edits_apart_in (Some path) route is = there (IsNoOther path) (edit_at path) route (edits_apart path) is

pub edit_routes_are_no_others : EditRoutesAreNoOthers
edit_routes_are_no_others target route is = route_of-path target ∙ (edits_apart_in (target_path target) route is).0

pub edit_routes_are_not_for_people : EditRoutesAreNotForPeople
edit_routes_are_not_for_people target route is = (edits_apart_in (target_path target) route is).1

-- ---- what people's requests alone may ask for

-- a route at one path
named : (path name : List ℕ) (route : PeopleRoute) (other : Option PeopleRoute) → route_at name ≡ None
    → Where (route_at path ≡ None) other → Where (route_at path ≡ None) (cond (bytes_eq path name) (Some route) other)
named path name route other none holds = by (bytes_eq path name) refl
  where
    by : (b : Bool) → bytes_eq path name ≡ b → Where (route_at path ≡ None) (cond b (Some route) other)
    by true is = ap route_at ((bytes_eq-Decides path name).0 is) ∙ none
    by false is = holds

people_apart : (path : List ℕ) → Where (route_at path ≡ None) (for_people_at path)
people_apart path =
    named path (codes "/") people.Front _ refl
    (named path (codes "/sign-in") people.SignIn _ refl
    (behind_more (λ path. route_at path ≡ None) path (codes "/contents/") people.Folder (λ rest. refl) _ refl))

people_apart_in : (path : Option (List ℕ)) (route : PeopleRoute) → for_people_in path ≡ Some route → option_and_then route_at path ≡ None
people_apart_in None route is = refl
people_apart_in (Some path) route is = there (route_at path ≡ None) (for_people_at path) route (people_apart path) is

pub routes_for_people_are_no_others : RoutesForPeopleAreNoOthers
routes_for_people_are_no_others target route is = route_of-path target ∙ people_apart_in (target_path target) route is
