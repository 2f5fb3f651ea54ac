-- Broken links page by page, from the front.
use Rattle.std.proofs.Common.{◌≡◌, ◌≢◌, ℕ, ◌+◌, ◌-◌, ◌<◌, ◌≤◌, List, [], ◌∷◌, ◌++◌, Bool, true, false, codes, length, get_or, take, drop, cond, decimal, zero}
use Rattle.std.proofs.Common.{suc, sym, ap, ◌∙◌, arith, refl, length-drop}
use Rattle.std.specs.Prelude.{Some, None, nat_lt, option_map, slice_get}
use Rattle.std.specs.List.{flat_map, prefix_len}
use Rattle.std.proofs.Math.Numerals.{one-add}
use Rattle.std.proofs.lemmas.Bool.Decides.{nat_tests}
use Rattle.std.proofs.lemmas.List.{drop_all, drop_more, flat_map_more, take_all, take_more}
use Rattle.doc_page_parts.proofs.Texts.{bytes_eq_itself, bytes_eq_true}
use Rattle.doc_links_pages.specs.declared.answers.Broken.{Broken}
use Rattle.doc_media.specs.Media.{Beside}
use Rattle.doc_store_readers.specs.Sites.{View}
use Rattle.doc_people.specs.BrokenLinks.{Group, broken_group, broken_head, by_source, more_row, onto_group, table_or_note}
use Rattle.doc_people.specs.Views.{Renders}
use Rattle.doc_people.specs.declared.settings.Offers.{Offers}
use Rattle.doc_people_lists.specs.Fronts.{is_of}

-- the links of the first page, and those behind them
after_first : (x y : Broken) (ys : List Broken) → by_source (y ∷ ys)
    ≡ (y.source, y ∷ take (prefix_len (is_of y.source) ys) ys) ∷ by_source (drop (prefix_len (is_of y.source) ys) ys)
    → (same : Bool) → is_of x.source y ≡ same
    → cond same
    ((y.source, x ∷ y ∷ take (prefix_len (is_of y.source) ys) ys) ∷ by_source (drop (prefix_len (is_of y.source) ys) ys))
    ((x.source, x ∷ []) ∷ (y.source, y ∷ take (prefix_len (is_of y.source) ys) ys) ∷ by_source (drop (prefix_len (is_of y.source) ys) ys))
    ≡ (x.source, x ∷ take (cond same (1 + prefix_len (is_of x.source) ys) 0) (y ∷ ys))
    ∷ by_source (drop (cond same (1 + prefix_len (is_of x.source) ys) 0) (y ∷ ys))
after_first x y ys split true is =
    let e : y.source ≡ x.source = bytes_eq_true y.source x.source is in
    ap (λ (source : List ℕ). (source, x ∷ y ∷ take (prefix_len (is_of source) ys) ys)
    ∷ by_source (drop (prefix_len (is_of source) ys) ys)) e
    ∙ ap (λ n. (x.source, x ∷ take n (y ∷ ys)) ∷ by_source (drop n (y ∷ ys))) (sym (one-add (prefix_len (is_of x.source) ys)))
after_first x y ys split false is = ap (λ groups. (x.source, x ∷ []) ∷ groups) (sym split)

first_group : (x : Broken) (xs : List Broken)
    → by_source (x ∷ xs) ≡ (x.source, x ∷ take (prefix_len (is_of x.source) xs) xs) ∷ by_source (drop (prefix_len (is_of x.source) xs) xs)
first_group x [] = refl
first_group x (y ∷ ys) =
    ap (onto_group x) (first_group y ys) ∙ after_first x y ys (first_group y ys) (is_of x.source y) refl

-- ---- groups, one after another

-- a text that begins with so many links of its first page
pub next_group : (links : List Broken) (x : Broken) (n : ℕ) → slice_get links 0 ≡ Some x → n ≡ prefix_len (is_of x.source) links
    → by_source links ≡ (x.source, take n links) ∷ by_source (drop n links)
next_group [] x n front counted = cc
next_group (y ∷ ys) x n front counted =
    let same : y ≡ x = cc front in
    let at_front : prefix_len (is_of y.source) (y ∷ ys) ≡ suc (prefix_len (is_of y.source) ys) =
    ap (λ b. cond b (1 + prefix_len (is_of y.source) ys) 0) (bytes_eq_itself y.source) ∙ one-add (prefix_len (is_of y.source) ys) in
    let count : n ≡ suc (prefix_len (is_of y.source) ys) =
    counted ∙ ap (λ (z : Broken). prefix_len (is_of z.source) (y ∷ ys)) (sym same) ∙ at_front in
    first_group y ys
    ∙ ap (λ k. (y.source, take k (y ∷ ys)) ∷ by_source (drop k (y ∷ ys))) (sym count)
    ∙ ap (λ (z : Broken). (z.source, take n (y ∷ ys)) ∷ by_source (drop n (y ∷ ys))) same

-- one more group is taken
one_more : {X : Type 0} (all : List X) (k : ℕ) (x : X) (xs : List X) → drop k all ≡ x ∷ xs
    → (take (k + 1) all ≡ take k all ++ x ∷ []) × (drop (k + 1) all ≡ xs)
one_more all k x xs is =
    let within : k < length all = omega (arith, length-drop k all, ap length is) in
    let cut = drop_more all k x within in
    let here : get_or all k x ≡ x = cc (cut, is) in
    let rest : drop (k + 1) all ≡ xs = cc (cut, is) in
    (take_more all k x within ∙ ap (λ y. take k all ++ y ∷ []) here, rest)

groups_more : (html : Group → List ℕ) (all : List Group) (k : ℕ) (group : Group) (behind : List Group) (old out new : List ℕ)
    → drop k all ≡ group ∷ behind → out ≡ old ++ flat_map html (take k all) → new ≡ out ++ html group
    → (new ≡ old ++ flat_map html (take (k + 1) all)) × (behind ≡ drop (k + 1) all)
groups_more html all k group behind old out new is so_far written =
    let step = one_more all k group behind is in (
      written ∙ ap (λ t. t ++ html group) so_far ∙ flat_map_more html old (take k all) group
          ∙ ap (λ groups. old ++ flat_map html groups) (sym step.0),
      sym step.1,
    )

-- none is left
no_more : {X : Type 0} (all : List X) (k n : ℕ) → drop k all ≡ [] → k ≤ n → (take k all ≡ take n all) × ([] ≡ drop n all)
no_more all k n is le =
    let few : length all ≤ k = omega (arith, length-drop k all, ap length is) in
    (take_all k all few ∙ sym (take_all n all (omega arith)), sym (drop_all n all (omega arith)))

-- the first page of what is left is written
pub group_written : (html : Group → List ℕ) (all : List Group) (k : ℕ) (rest front behind : List Broken) (x : Broken) (n : ℕ)
    (source named old out new : List ℕ)
    → by_source rest ≡ drop k all → slice_get rest 0 ≡ Some x → source ≡ x.source → n ≡ prefix_len (is_of source) rest
    → front ≡ take n rest → behind ≡ drop n rest → named ≡ x.source → out ≡ old ++ flat_map html (take k all)
    → new ≡ out ++ html (named, front)
    → (new ≡ old ++ flat_map html (take (k + 1) all)) × (by_source behind ≡ drop (k + 1) all)
group_written html all k rest front behind x n source named old out new left is source_is counted front_is behind_is named_is so_far
    written =
    let group = next_group rest x n is (counted ∙ ap (λ s. prefix_len (is_of s) rest) source_is) in
    let step = groups_more html all k (x.source, take n rest) (by_source (drop n rest)) old out new (sym left ∙ group) so_far
    (written ∙ ap (λ s. out ++ html (s, front)) named_is ∙ ap (λ ls. out ++ html (x.source, ls)) front_is) in
    (step.0, ap by_source behind_is ∙ step.1)

-- nothing is left
pub none_left : (all : List Group) (k : ℕ) (rest : List Broken) → slice_get rest 0 ≡ None → by_source rest ≡ drop k all → k ≤ 50
    → (take k all ≡ take 50 all) × (by_source rest ≡ drop 50 all)
none_left all k [] none left le = no_more all k 50 (sym left) le
none_left all k (x ∷ xs) none left le = cc

-- ---- the table, and the page behind it

pub some_groups : (render : Renders) (offers : Offers) (view : View) (media : Beside) (note : List ℕ) (links : List Broken)
    → length links ≢ 0 → table_or_note render offers view media note (take 50 (by_source links))
    ≡ broken_head ++ flat_map (broken_group render offers view media) (take 50 (by_source links)) ++ codes "</table>\n"
some_groups render offers view media note [] some = absurd (some refl)
some_groups render offers view media note (x ∷ xs) some =
    let is = first_group x xs in
    let group : Group = (x.source, x ∷ take (prefix_len (is_of x.source) xs) xs) in
    let behind : List Group = by_source (drop (prefix_len (is_of x.source) xs) xs) in
    ap (λ groups. table_or_note render offers view media note (take 50 groups)) is
    ∙ ap (λ groups. broken_head ++ flat_map (broken_group render offers view media) (take 50 groups) ++ codes "</table>\n") (sym is)

front_source : (links : List Broken)
    → option_map (λ (link : Broken). link.source) (slice_get links 0)
    ≡ option_map (λ (group : Group). group.0) (slice_get (by_source links) 0)
front_source [] = refl
front_source (x ∷ xs) = sym (ap (λ groups. option_map (λ (group : Group). group.0) (slice_get groups 0)) (first_group x xs))

front_behind : {X : Type 0} (n : ℕ) (xs : List X) → slice_get (drop n xs) 0 ≡ slice_get xs n
front_behind zero xs = refl
front_behind (suc n) [] = refl
front_behind (suc n) (x ∷ xs) = front_behind n xs

pub next_page : (links left : List Broken) → by_source left ≡ drop 50 (by_source links)
    → option_map (λ (link : Broken). link.source) (slice_get left 0)
    ≡ option_map (λ (group : Group). group.0) (slice_get (by_source links) 50)
next_page links left is =
    front_source left ∙ ap (λ groups. option_map (λ (group : Group). group.0) (slice_get groups 0)) is
    ∙ ap (option_map (λ (group : Group). group.0)) (front_behind 50 (by_source links))

-- ---- how many links are left out

pub more_told : (links : List Broken) (old new : List ℕ) → 50 < length links
    → new ≡ old ++ (codes "<tr><td colspan=\"3\">and " ++ decimal (length links - 50) ++ codes " more</td></tr>\n")
    → new ≡ old ++ more_row links
more_told links old new more written =
    let many : nat_lt 50 (length links) ≡ true = grind (arith, nat_tests, more) in
    written ∙ ap (λ b. old ++ cond b (codes "<tr><td colspan=\"3\">and " ++ decimal (length links - 50) ++ codes " more</td></tr>\n") [])
    (sym many)
