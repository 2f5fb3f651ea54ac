-- The marks of paths, one path after the other, and what is found by them.
use Rattle.std.proofs.Common.{◌≡◌, ℕ, List, [], ◌∷◌, ◌++◌, Bool, true, false, ◌||◌, ◌+◌, ◌<◌, length, take, get_or, cond, bytes_eq, is_some, refl, ap, sym}
use Rattle.std.proofs.Common.{◌∙◌, subst}
use Rattle.std.specs.Prelude.{Option, Some, None}
use Rattle.std.specs.Cmp.Lexicographic.{slice_cmp}
use Rattle.std.specs.FinMap as map
use Rattle.std.specs.List.{find}
use Rattle.std.specs.Option.{option_or}
use Rattle.std.specs.Ordering.{nat_cmp}
use Rattle.std.proofs.lemmas.List.{map-append, take_more}
use Rattle.std.proofs.lemmas.List.Folds.{list_any-append}
use Rattle.doc_server_config.specs.declared.folder_pages.FolderMedium.{FolderMedium}
use Rattle.doc_server_config.specs.declared.page_row.PageRow.{PageRow}
use Rattle.doc_store_readers.specs.Maps.{TextMap}
use Rattle.doc_store_readers.proofs.KeySteps.{bytes_eq_is, get_set, same_from, same_key}
use Rattle.doc_server_config.specs.Overlaps.{first_overlap, is_among, is_twice, media_paths, paths_of}
use Rattle.doc_server_config.specs.OverlapSteps.{AreMarks, is_again, mark_of}

one_mark : (b : Bool) → cond (b || false) (Some (cond b false false)) None ≡ cond b (Some false) None
one_mark true = refl
one_mark false = refl

either : (m : Bool) → (m || true) ≡ true
either true = refl
either false = refl

itself : (m : Bool) → (m || false) ≡ m
itself true = refl
itself false = refl

mark_step : (a b m t n u : Bool) → n ≡ (m || b) → cond n (Some u) None ≡ cond b (Some m) (cond m (Some t) None)
    → cond (a || n) (Some (cond a n u)) None ≡ cond b (Some (a || m)) (cond (a || m) (Some (cond a m t)) None)
mark_step true true m t n u is rest = ap Some (is ∙ either m)
mark_step true false m t n u is rest = ap Some (is ∙ itself m)
mark_step false b m t n u is rest = rest

-- one path more
mark_more : (paths : List (List ℕ)) (last path : List ℕ)
    → mark_of (paths ++ last ∷ []) path ≡ cond (bytes_eq path last) (Some (is_among paths path)) (mark_of paths path)
mark_more [] last path = one_mark (bytes_eq path last)
mark_more (first ∷ paths) last path =
    mark_step (bytes_eq path first) (bytes_eq path last) (is_among paths path) (is_twice paths path) (is_among (paths ++ last ∷ []) path)
    (is_twice (paths ++ last ∷ []) path)
    (list_any-append (bytes_eq path) paths (last ∷ []) ∙ ap (λ b. is_among paths path || b) (itself (bytes_eq path last)))
    (mark_more paths last path)

stands : (b t : Bool) → is_some (cond b (Some t) None) ≡ b
stands true t = refl
stands false t = refl

twice_is_among : (paths : List (List ℕ)) (path : List ℕ) → cond (is_among paths path) (is_twice paths path) false ≡ is_twice paths path
twice_is_among [] path = refl
twice_is_among (first ∷ paths) path =
    by (bytes_eq path first) (is_among paths path) (is_twice paths path) (twice_is_among paths path)
  where
    by : (a m t : Bool) → cond m t false ≡ t → cond (a || m) (cond a m t) false ≡ cond a m t
    by true m t is = refl
    by false m t is = is

again : (b t : Bool) → is_again (cond b (Some t) None) ≡ cond b t false
again true t = refl
again false t = refl

-- a map has the paths that it has marks of
pub is_there : (paths : List (List ℕ)) (marks : TextMap Bool) → AreMarks paths marks → (path : List ℕ)
    → map.contains_key marks path ≡ is_among paths path
is_there paths marks are path = ap is_some (are path) ∙ stands (is_among paths path) (is_twice paths path)

pub no_marks : AreMarks [] map.empty
no_marks path = map.get-empty (slice_cmp nat_cmp) path

-- and tells which of them came again
pub came_again : (paths : List (List ℕ)) (marks : TextMap Bool) → AreMarks paths marks → (path : List ℕ)
    → is_again (map.get marks path) ≡ is_twice paths path
came_again paths marks are path =
    ap is_again (are path) ∙ (again (is_among paths path) (is_twice paths path) ∙ twice_is_among paths path)

pub marks_more : (paths : List (List ℕ)) (last : List ℕ) (old new : TextMap Bool) → AreMarks paths old
    → new ≡ map.insert old last (map.contains_key old last) → AreMarks (paths ++ last ∷ []) new
marks_more paths last old new are is path =
    ap (λ marks. map.get marks path) is
    ∙ (get_set old last (map.contains_key old last) path
    ∙ (by (same_key path last) refl ∙ (ap (λ b. cond b (Some (is_among paths path)) (mark_of paths path)) (sym (bytes_eq_is path last))
    ∙ sym (mark_more paths last path))))
  where
    by : (b : Bool) → same_key path last ≡ b
        → cond b (Some (map.contains_key old last)) (map.get old path) ≡ cond b (Some (is_among paths path)) (mark_of paths path)
    by true same = ap Some (is_there paths old are last ∙ ap (is_among paths) (sym (same_from path last same)))
    by false same = are path

-- ---- what is found

found_alike : (f g : List ℕ → Bool) (paths : List (List ℕ)) → ((path : List ℕ) → f path ≡ g path) → find f paths ≡ find g paths
found_alike f g [] alike = refl
found_alike f g (path ∷ paths) alike =
    ap (λ b. cond b (Some path) (find f paths)) (alike path) ∙ ap (cond (g path) (Some path)) (found_alike f g paths alike)

pub first_there : (rows others : List (List ℕ)) (marks : TextMap Bool) (path : List ℕ) → AreMarks others marks
    → Some path ≡ find (map.contains_key marks) rows → Some path ≡ first_overlap rows others
first_there rows others marks path are is =
    ap (λ found. option_or found (find (is_twice others) others))
    (is ∙ found_alike (map.contains_key marks) (is_among others) rows (is_there others marks are))

pub first_behind : (rows others : List (List ℕ)) (marks : TextMap Bool) (found : Option (List ℕ)) → AreMarks others marks
    → None ≡ find (map.contains_key marks) rows → found ≡ find (λ path. is_again (map.get marks path)) others
    → found ≡ first_overlap rows others
first_behind rows others marks found are none is =
    is
    ∙ (found_alike (λ path. is_again (map.get marks path)) (is_twice others) others (came_again others marks are)
    ∙ ap (λ first. option_or first (find (is_twice others) others))
    (none ∙ found_alike (map.contains_key marks) (is_among others) rows (is_there others marks are)))

-- ---- one page more

pub page_marked : (pages : List PageRow) (n : ℕ) (page : PageRow) (path : List ℕ) (old new : TextMap Bool) → n < length pages
    → page ≡ get_or pages n page → path ≡ page.path → AreMarks (paths_of (take n pages)) old
    → new ≡ map.insert old path (map.contains_key old path) → AreMarks (paths_of (take (n + 1) pages)) new
page_marked pages n page path old new low at same are is =
    subst (λ paths. AreMarks paths new)
    (sym (ap paths_of (take_more pages n page low ∙ ap (λ one. take n pages ++ one ∷ []) (sym at))
    ∙ map-append (λ one. one.path) (take n pages) (page ∷ [])
    ∙ ap (λ last. paths_of (take n pages) ++ last ∷ []) (sym same)))
    (marks_more (paths_of (take n pages)) path old new are is)

pub medium_marked : (media : List FolderMedium) (n : ℕ) (medium : FolderMedium) (path : List ℕ) (old new : TextMap Bool) → n < length media
    → medium ≡ get_or media n medium → path ≡ medium.path → AreMarks (media_paths (take n media)) old
    → new ≡ map.insert old path (map.contains_key old path) → AreMarks (media_paths (take (n + 1) media)) new
medium_marked media n medium path old new low at same are is =
    subst (λ paths. AreMarks paths new)
    (sym (ap media_paths (take_more media n medium low ∙ ap (λ one. take n media ++ one ∷ []) (sym at))
    ∙ map-append (λ one. one.path) (take n media) (medium ∷ [])
    ∙ ap (λ last. media_paths (take n media) ++ last ∷ []) (sym same)))
    (marks_more (media_paths (take n media)) path old new are is)
