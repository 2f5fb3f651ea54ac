-- Which headings of a page are listed beside it.
use Rattle.std.proofs.Common.{◌≡◌, List, [], ◌∷◌, ◌++◌, Bool, true, false, not, ◌&&◌, ◌||◌, map, take, codes, cond, sym, ap, ◌∙◌, refl}
use Rattle.std.proofs.Common.{ℕ}
use Rattle.std.specs.Prelude.{Option, Some, None, filter, nat_le}
use Rattle.std.specs.Borrow.{Bor}
use Rattle.std.specs.List.{flat_map, list_any}
use Rattle.std.specs.Iterator.{Yields}
use Rattle.std.proofs.lemmas.Bool.{true≢false}
use Rattle.std.proofs.lemmas.Iterator.{YieldsList}
use Rattle.std.proofs.lemmas.Iterator.Consumers.{YieldsList-end}
use Rattle.std.proofs.lemmas.List.{append-nil, flat_map_more, map-append}
use Rattle.doc_page_parts.specs.Pages.{is_empty}
use Rattle.doc_page_parts.specs.declared.rendered.Heading.{Heading}
use Rattle.doc_people.specs.Folders.{first_text}
use Rattle.doc_people.specs.Limits.{level_limit}
use Rattle.doc_people.specs.Lines.{listed}
use Rattle.doc_people.specs.Pages.{behind_title, has_text, heading_by, heading_item, heading_line, is_main, listed_headings, on_this_page}
use Rattle.doc_people_pages.specs.Listed.{is_listed}

-- ---- filters

-- whether one passes
none_at : {X : Type 0} (x : X) (kept : List X) (v w : Bool) → is_empty kept ≡ not w → is_empty (cond v (x ∷ kept) kept) ≡ not (v || w)
none_at x kept true w same = refl
none_at x kept false w same = same

any_passes : {X : Type 0} (p : X → Bool) (xs : List X) → is_empty (filter p xs) ≡ not (list_any p xs)
any_passes p [] = refl
any_passes p (x ∷ xs) = none_at x (filter p xs) (p x) (list_any p xs) (any_passes p xs)

-- two filters, one behind the other
picked : {X : Type 0} (x : X) (inner outer : List X) (w v : Bool) → inner ≡ outer
    → cond v (cond w (x ∷ inner) inner) inner ≡ cond (w && v) (x ∷ outer) outer
picked x inner outer true true same = ap (λ xs. x ∷ xs) same
picked x inner outer true false same = same
picked x inner outer false true same = same
picked x inner outer false false same = same

filtered_at : {X : Type 0} (p : X → Bool) (x : X) (xs : List X) (v : Bool)
    → filter p (cond v (x ∷ xs) xs) ≡ cond v (cond (p x) (x ∷ filter p xs) (filter p xs)) (filter p xs)
filtered_at p x xs true = refl
filtered_at p x xs false = refl

both : {X : Type 0} (p q : X → Bool) (xs : List X) → filter p (filter q xs) ≡ filter (λ x. p x && q x) xs
both p q [] = refl
both p q (x ∷ xs) =
    filtered_at p x (filter q xs) (q x)
    ∙ picked x (filter p (filter q xs)) (filter (λ y. p y && q y) xs) (p x) (q x) (both p q xs)

-- ---- the list

listed_are : (headings behind : List Heading) → filter has_text behind ≡ behind_title (filter has_text headings)
    → listed_headings headings ≡ take 100 (filter is_listed behind)
listed_are headings behind same =
    ap (λ hs. take 100 (filter (λ heading. nat_le heading.level level_limit) hs)) (sym same)
    ∙ ap (take 100) (both (λ (heading : Heading). nat_le heading.level level_limit) has_text behind)

-- nothing where none is listed
nothing : (headings : List Heading) → is_empty headings ≡ true → on_this_page (take 100 headings) ≡ []
nothing [] none = refl
nothing (heading ∷ rest) none = absurd (true≢false (sym none))

pub none_listed : (headings behind : List Heading) (any : Bool) → filter has_text behind ≡ behind_title (filter has_text headings)
    → any ≡ list_any is_listed behind → any ≡ false → on_this_page (listed_headings headings) ≡ []
none_listed headings behind any same tested held =
    ap on_this_page (listed_are headings behind same)
    ∙ nothing (filter is_listed behind) (any_passes is_listed behind ∙ ap not (sym tested ∙ held))

-- and else all that are
some : (headings : List Heading) → is_empty headings ≡ false
    → on_this_page (take 100 headings) ≡ codes "<h2>On this page</h2>\n" ++ listed (flat_map heading_item (take 100 headings))
some [] any = absurd (true≢false any)
some (heading ∷ rest) any = refl

pub some_listed : (headings behind : List Heading) (any : Bool) → filter has_text behind ≡ behind_title (filter has_text headings)
    → any ≡ list_any is_listed behind → any ≡ true
    → on_this_page (listed_headings headings)
    ≡ codes "<h2>On this page</h2>\n" ++ listed (flat_map heading_item (take 100 (filter is_listed behind)))
some_listed headings behind any same tested held =
    ap on_this_page (listed_are headings behind same)
    ∙ some (filter is_listed behind) (any_passes is_listed behind ∙ ap not (sym tested ∙ held))

-- ---- what is written

pub nothing_told : (old text : List ℕ) → text ≡ [] → old ≡ old ++ text
nothing_told old text none = sym (ap (λ t. old ++ t) none ∙ append-nil old)

-- one more heading is written
pub heading_more : (old out new : List ℕ) (ys : List (Bor Heading)) (y : Bor Heading)
    → out ≡ old ++ flat_map heading_item (map (λ h. h.now) ys) → new ≡ out ++ heading_item y.now
    → new ≡ old ++ flat_map heading_item (map (λ h. h.now) (ys ++ y ∷ []))
heading_more old out new ys y so_far written =
    written ∙ ap (λ t. t ++ heading_item y.now) so_far
    ∙ flat_map_more heading_item old (map (λ h. h.now) ys) y.now
    ∙ ap (λ hs. old ++ flat_map heading_item hs) (sym (map-append (λ (h : Bor Heading). h.now) ys (y ∷ [])))

-- the heading of level 1 that the page hasn't itself
pub no_line : (path : List ℕ) (headings : List Heading) (main : Bool) → main ≡ list_any is_main headings → main ≡ true
    → heading_line path headings ≡ []
no_line path headings main tested held = ap (λ b. cond b [] (heading_by path (first_text headings))) (sym tested ∙ held)

-- where none has a text
pub path_line : (path : List ℕ) (headings : List Heading) (main : Bool) (text : Option (List ℕ)) → main ≡ list_any is_main headings
    → main ≡ false → text ≡ first_text headings → text ≡ None → heading_line path headings ≡ heading_by path None
path_line path headings main text tested held first none =
    ap (λ b. cond b [] (heading_by path (first_text headings))) (sym tested ∙ held) ∙ ap (heading_by path) (sym first ∙ none)

-- and where one has
pub heard_line : (path words : List ℕ) (headings : List Heading) (main : Bool) (text : Option (List ℕ)) → main ≡ list_any is_main headings
    → main ≡ false → text ≡ first_text headings → text ≡ Some words → heading_line path headings ≡ heading_by [] (Some words)
heard_line path words headings main text tested held first some =
    ap (λ b. cond b [] (heading_by path (first_text headings))) (sym tested ∙ held) ∙ ap (heading_by path) (sym first ∙ some)

-- all that an iterator gave are all that it had
pub all_given : {S A B : Type 0} {steps : S → Option A → S → Type 0} {v : A → B} {s : S} {all : List B} (xs : List A) (t : S)
    → Yields steps s xs t → (r : Option A) (u : S) → r ≡ None → steps t r u → YieldsList steps v s all → map v xs ≡ all
all_given xs t yielded r u none step gives = (YieldsList-end gives xs t yielded r u none step).0
