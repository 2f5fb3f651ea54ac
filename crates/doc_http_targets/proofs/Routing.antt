-- What the router finds, in closed form.
use Rattle.std.proofs.Common.{◌≡◌, ℕ, zero, suc, ◌-◌, ◌==◌, ◌&&◌, not, Bool, true, false, cond, List, [], ◌∷◌, ◌++◌, length, Option, Some}
use Rattle.std.proofs.Common.{None, Result, Ok, Err, option_map, codes, refl, sym, ap, ◌∙◌, subst, inl, inr}
use Rattle.std.specs.Bool.{⊤}
use Rattle.std.specs.Option.{option_or}
use Rattle.std.specs.Str.{bytes_eq}
use Rattle.std.proofs.lemmas.Bool.{and_parts, cases_eq, false_from_ne_true, not-true}
use Rattle.std.proofs.lemmas.Bool.Decides.{Decides-eqb}
use Rattle.matchit.specs.Route.{Scan}
use Rattle.matchit.specs.Router.{RouteOf, InsertsRead}
use Rattle.matchit.specs.Rows.{RowsOf, catch_all_token, param_token}
use Rattle.matchit.specs.Seek.{seek, step, or_else, param_step, has_slash}
use Rattle.matchit.specs.declared.error.InsertError.{InsertError}
use Rattle.matchit.specs.declared.error.InsertError.TheVariants.{Conflict, InvalidParam, InvalidParamSegment, InvalidCatchAll, OutOfMemory}
use Rattle.doc_http_targets.proofs.Fronts.{after-append}
use Rattle.doc_http_targets.specs.RouteSteps.{CanStand, leads_to, place_of, route_table}
use Rattle.doc_http_targets.specs.Targets.{Route, after, at_path, if_not_empty, route_at}
use Rattle.doc_http_targets.specs.Targets as targets
use Rattle.doc_http_targets.specs.declared.routes.Place.{Place}
use Rattle.doc_http_targets.specs.declared.routes.Place.TheVariants.{Page, Backlinks, Contents, Search, Broken}

-- no byte of the text stands for a parameter or a catch-all
abbrev pub is_literal : List ℕ → Bool
is_literal [] = true
is_literal (b ∷ text) = (not (b == param_token) && not (b == catch_all_token)) && is_literal text

module _ {K : Type 0} where
  -- no route goes on after a parameter
  no_param : (path : List ℕ) → (param_step {K = K} [] path).1 ≡ []
  unfolding param_step
  no_param path = elim (has_slash path) as (λ b. (cond {A = ℕ × RowsOf K} b (0, []) (length path, [])).1 ≡ [])
      [ true ↦ refl | false ↦ refl ]

  -- with no routes nothing is found
  no_rows : (skip : ℕ) (path : List ℕ) → seek {K = K} skip [] path ≡ None
  unfolding seek
  no_rows skip [] = refl
  no_rows (suc skip) (b ∷ path) = no_rows skip path
  no_rows zero (b ∷ path) =
      rw (no_rows zero path, no_param (b ∷ path), no_rows ((param_step {K = K} [] (b ∷ path)).0 - 1) path) refl

  or_none : (o : Option K) → or_else o None ≡ o
  or_none None = refl
  or_none (Some k) = refl

  -- routes that go on with bytes alone are stepped by the path's byte
  by_byte : (rows : RowsOf K) (b : ℕ) (path : List ℕ) → step param_token rows ≡ [] → step catch_all_token rows ≡ []
      → seek 0 rows (b ∷ path) ≡ seek 0 (step b rows) path
  unfolding seek
  by_byte rows b path p c = rw (p, c, no_param (b ∷ path), no_rows ((param_step {K = K} [] (b ∷ path)).0 - 1) path)
      (or_none (seek 0 (step b rows) path))

  -- what a route answers after its front
  abbrev pub on_after : List ℕ → K → Option (List ℕ) → Option K
  on_after tail key None = None
  on_after tail key (Some rest) = seek 0 ((tail, key) ∷ []) rest

  -- one route that begins with a text
  one_route : (front tail : List ℕ) (key : K) (path : List ℕ) → is_literal front ≡ true
      → seek 0 ((front ++ tail, key) ∷ []) path ≡ on_after tail key (after front path)
  unfolding seek
  one_route [] tail key path h = refl
  one_route (x ∷ front) tail key [] h = refl
  one_route (x ∷ front) tail key (b ∷ path) h =
      let parts = and_parts (not (x == param_token) && not (x == catch_all_token)) (is_literal front) h in
      let tokens = and_parts (not (x == param_token)) (not (x == catch_all_token)) parts.0 in
      let rows : RowsOf K = ((x ∷ front) ++ tail, key) ∷ [] in
      by_byte rows b path (ap (λ v. cond v ((front ++ tail, key) ∷ []) []) (not-true (x == param_token) tokens.0))
      (ap (λ v. cond v ((front ++ tail, key) ∷ []) []) (not-true (x == catch_all_token) tokens.1))
      ∙ elim (x == b) as (λ v. seek 0 (cond v ((front ++ tail, key) ∷ []) []) path ≡ on_after tail key (cond v (after front path) None))
      [ true ↦ one_route front tail key path parts.1 | false ↦ no_rows 0 path ]

  at_end : (key : K) (b : ℕ) (rest : List ℕ) → seek 0 (([], key) ∷ []) (b ∷ rest) ≡ None
  at_end key b rest = by_byte (([], key) ∷ []) b rest refl refl ∙ no_rows 0 rest

  at_any : (key : K) (rest : List ℕ) → or_else (seek 0 (([], key) ∷ []) rest) (Some key) ≡ Some key
  unfolding seek
  at_any key [] = refl
  at_any key (b ∷ rest) = ap (λ o. or_else o (Some key)) (at_end key b rest)

  -- a catch-all takes each rest that isn't empty
  at_rest : (key : K) (b : ℕ) (rest : List ℕ) → seek 0 ((catch_all_token ∷ [], key) ∷ []) (b ∷ rest) ≡ Some key
  unfolding seek
  at_rest key b rest =
      rw (no_param (b ∷ rest), no_rows ((param_step {K = K} [] (b ∷ rest)).0 - 1) rest)
      (elim (catch_all_token == b) as (λ v. or_else (seek 0 (cond v (([], key) ∷ []) []) rest) (Some key) ≡ Some key)
      [ true ↦ at_any key rest | false ↦ ap (λ o. or_else o (Some key)) (no_rows 0 rest) ])

-- ---- the five routes

-- two numbers that differ, as a test
unequal : {a b : ℕ} → (a ≡ b → ⊥) → (a == b) ≡ false
unequal {a} {b} n = false_from_ne_true (a == b) (λ e. n ((Decides-eqb a b).0 e))

abbrev value_of : Option (RouteOf Place) → Option Place
value_of o = option_map (λ found. found.value) o

-- the place of a route with a rest, by what follows its front, and of one without
abbrev pub on_rest : Place → Option (List ℕ) → Option Place
on_rest place None = None
on_rest place (Some []) = None
on_rest place (Some (b ∷ rest)) = Some place

abbrev pub on_end : Place → Option (List ℕ) → Option Place
on_end place None = None
on_end place (Some []) = Some place
on_end place (Some (b ∷ rest)) = None

-- the place that the path has
abbrev pub place_at : List ℕ → Option Place
place_at path =
    or_else (on_rest Backlinks (after (codes "/backlinks/") path))
    (or_else (on_end Broken (after (codes "/broken") path))
    (or_else (on_end Contents (after (codes "/contents") path))
    (or_else (on_rest Page (after (codes "/page/") path))
    (on_end Search (after (codes "/search") path)))))

go_rest : (key : RouteOf Place) (o : Option (List ℕ)) → value_of (on_after (catch_all_token ∷ []) key o) ≡ on_rest key.value o
unfolding seek
go_rest key None = refl
go_rest key (Some []) = refl
go_rest key (Some (b ∷ rest)) = ap value_of (at_rest key b rest)

go_end : (key : RouteOf Place) (o : Option (List ℕ)) → value_of (on_after [] key o) ≡ on_end key.value o
unfolding seek
go_end key None = refl
go_end key (Some []) = refl
go_end key (Some (b ∷ rest)) = ap value_of (at_end key b rest)

-- what one route answers, with a rest and without
rest_row : (front : List ℕ) (key : RouteOf Place) (path : List ℕ) → is_literal front ≡ true
    → value_of (seek 0 ((front ++ catch_all_token ∷ [], key) ∷ []) path) ≡ on_rest key.value (after front path)
rest_row front key path h = ap value_of (one_route front (catch_all_token ∷ []) key path h) ∙ go_rest key (after front path)

end_row : (front : List ℕ) (key : RouteOf Place) (path : List ℕ) → is_literal front ≡ true
    → value_of (seek 0 ((front ++ [], key) ∷ []) path) ≡ on_end key.value (after front path)
end_row front key path h = ap value_of (one_route front [] key path h) ∙ go_end key (after front path)

none_or : (o : Option Place) → o ≡ or_else o None
none_or None = refl
none_or (Some place) = refl

module _ (linked broken : RouteOf Place) where
  abbrev behind_b : RowsOf (RouteOf Place)
  behind_b = (codes "acklinks/" ++ catch_all_token ∷ [], linked) ∷ (codes "roken", broken) ∷ []

  abbrev named_b : List ℕ → Option Place
  named_b path = or_else (on_rest linked.value (after (codes "acklinks/") path)) (on_end broken.value (after (codes "roken") path))

  -- behind the `b` of two routes
  two : (path : List ℕ) → value_of (seek 0 behind_b path) ≡ named_b path
  unfolding seek
  two [] = refl
  two (b ∷ path) =
      ap value_of (by_byte behind_b b path refl refl)
      ∙ elim (cases_eq 97 b) [
        | inl e ↦ subst (λ x. value_of (seek 0 (step x behind_b) path) ≡ named_b (x ∷ path)) e
            (rest_row (codes "cklinks/") linked path refl ∙ none_or _)
        | inr n ↦ elim (cases_eq 114 b) [
          | inl e ↦ subst (λ x. value_of (seek 0 (step x behind_b) path) ≡ named_b (x ∷ path)) e
              (end_row (codes "oken") broken path refl)
          | inr m ↦ rw (unequal n, unequal m) (ap value_of (no_rows 0 path))
        ]
      ]

abbrev slash_rows : RowsOf (RouteOf Place)
slash_rows = step 47 route_table

abbrev behind_slash : List ℕ → Option Place
behind_slash path =
    or_else (on_rest Backlinks (after (codes "backlinks/") path))
    (or_else (on_end Broken (after (codes "broken") path))
    (or_else (on_end Contents (after (codes "contents") path))
    (or_else (on_rest Page (after (codes "page/") path))
    (on_end Search (after (codes "search") path)))))

-- one more test of the place where none answered
or_two : (x y : Option Place) → or_else x y ≡ or_else x (or_else y None)
or_two None None = refl
or_two None (Some place) = refl
or_two (Some place) y = refl

slash : (path : List ℕ) → value_of (seek 0 slash_rows path) ≡ behind_slash path
unfolding seek
slash [] = refl
slash (b ∷ path) =
    let P : ℕ → Type 0 = λ x. value_of (seek 0 (step x slash_rows) path) ≡ behind_slash (x ∷ path) in
    ap value_of (by_byte slash_rows b path refl refl)
    ∙ elim (cases_eq 98 b) [
      | inl e ↦ subst P e (two _ _ path ∙ or_two _ _)
      | inr nb ↦ elim (cases_eq 99 b) [
        | inl e ↦ subst P e (end_row (codes "ontents") _ path refl ∙ none_or _)
        | inr nc ↦ elim (cases_eq 112 b) [
          | inl e ↦ subst P e (rest_row (codes "age/") _ path refl ∙ none_or _)
          | inr np ↦ elim (cases_eq 115 b) [
            | inl e ↦ subst P e (end_row (codes "earch") _ path refl)
            | inr ns ↦ rw (unequal nb, unequal nc, unequal np, unequal ns) (ap value_of (no_rows 0 path))
          ]
        ]
      ]
    ]

-- the router finds the place that the path has
place_of-closed : (path : List ℕ) → place_of path ≡ place_at path
unfolding seek
place_of-closed [] = refl
place_of-closed (b ∷ path) =
    let P : ℕ → Type 0 = λ x. value_of (seek 0 (step x route_table) path) ≡ place_at (x ∷ path) in
    ap value_of (by_byte route_table b path refl refl)
    ∙ elim (cases_eq 47 b) [
      | inl e ↦ subst P e (slash path)
      | inr n ↦ rw (unequal n) (ap value_of (no_rows 0 path))
    ]

-- ---- what the places ask for

-- what a place asks for is this route
abbrev Fits : List ℕ → Option Place → Option Route → Type 0
Fits path None None = ⊤
Fits path None (Some route) = ⊥
Fits path (Some place) None = ⊥
Fits path (Some place) (Some route) = leads_to place path ≡ Some route

or-fits : (path : List ℕ) (x y : Option Place) (a b : Option Route) → Fits path x a → Fits path y b
    → Fits path (or_else x y) (option_or a b)
or-fits path None y None b first second = second
or-fits path None y (Some route) b first second = absurd first
or-fits path (Some place) y None b first second = absurd first
or-fits path (Some place) y (Some route) b first second = first

rest-fits : (front : List ℕ) (place : Place) (route : List ℕ → Route) (path : List ℕ) (o : Option (List ℕ))
    → ((rest : List ℕ) → leads_to place (front ++ rest) ≡ Some (route rest)) → after front path ≡ o
    → Fits path (on_rest place o) (option_map route (if_not_empty o))
rest-fits front place route path None leads e = tt
rest-fits front place route path (Some []) leads e = tt
rest-fits front place route path (Some (b ∷ rest)) leads e =
    subst (λ text. leads_to place text ≡ Some (route (b ∷ rest))) (sym (after-append front path (b ∷ rest) e)) (leads (b ∷ rest))

end-fits : (name text path : List ℕ) (place : Place) (route : Route) → leads_to place path ≡ Some route
    → Fits path (on_end place (after name text)) (at_path name route text)
end-fits [] [] path place route leads = leads
end-fits [] (b ∷ text) path place route leads = tt
end-fits (x ∷ name) [] path place route leads = tt
end-fits (x ∷ name) (b ∷ text) path place route leads =
    elim (x == b) as (λ v. Fits path (on_end place (cond v (after name text) None)) (cond (v && bytes_eq name text) (Some route) None))
    [ true ↦ end-fits name text path place route leads | false ↦ tt ]

routes-fit : (path : List ℕ) → Fits path (place_at path) (route_at path)
routes-fit path =
    or-fits path _ _ _ _ (rest-fits (codes "/backlinks/") Backlinks targets.Backlinks path _ (λ rest. refl) refl)
    (or-fits path _ _ _ _ (end-fits (codes "/broken") path path Broken targets.Broken refl)
    (or-fits path _ _ _ _ (end-fits (codes "/contents") path path Contents targets.Contents refl)
    (or-fits path _ _ _ _ (rest-fits (codes "/page/") Page targets.Page path _ (λ rest. refl) refl)
    (end-fits (codes "/search") path path Search targets.Search refl))))

by_place : (path : List ℕ) (place : Place) (o : Option Route) → Fits path (Some place) o → leads_to place path ≡ o
by_place path place None fits = absurd fits
by_place path place (Some route) fits = fits

by_none : (path : List ℕ) (o : Option Route) → Fits path None o → o ≡ None
by_none path None fits = refl
by_none path (Some route) fits = absurd fits

-- where the router finds a place, that is what the path asks for
pub routed : (path : List ℕ) (place : Place) → place_of path ≡ Some place → leads_to place path ≡ route_at path
routed path place found =
    by_place path place (route_at path)
    (subst (λ o. Fits path o (route_at path)) (sym (place_of-closed path) ∙ found) (routes-fit path))

-- where the router finds nothing, the path has no route
pub unrouted : (path : List ℕ) → place_of path ≡ None → route_at path ≡ None
unrouted path missing =
    by_none path (route_at path)
    (subst (λ o. Fits path o (route_at path)) (sym (place_of-closed path) ∙ missing) (routes-fit path))

-- where nothing conflicts, a route is refused for want of memory alone
pub refused-fitting : (scan : Result Scan InsertError) (place : Place) (old new : RowsOf (RouteOf Place)) (e : InsertError)
    → CanStand scan old → InsertsRead scan place old new (Err e) → e ≡ OutOfMemory
refused-fitting (Ok scan) place old new (Conflict with) stands h = absurd (cc (stands, h.1.1))
refused-fitting (Ok scan) place old new OutOfMemory stands h = refl
refused-fitting (Ok scan) place old new InvalidParam stands h = absurd h.1
refused-fitting (Ok scan) place old new InvalidParamSegment stands h = absurd h.1
refused-fitting (Ok scan) place old new InvalidCatchAll stands h = absurd h.1
refused-fitting (Err fault) place old new e stands h = absurd stands
