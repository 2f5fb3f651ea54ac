-- Steps of the proofs on the segments of paths.
use Rattle.std.proofs.Common.{◌≡◌, ℕ, suc, ◌+◌, ◌-◌, ◌<◌, ◌==◌, ◌&&◌, true, false, Bool, cond, get_or, take, List, [], ◌∷◌, ◌++◌, length}
use Rattle.std.proofs.Common.{map, Option, Some, None, refl, sym, ap, ◌∙◌, arith, Bor}
use Rattle.std.specs.Prelude.{is_some, IsSome, ◌↔◌}
use Rattle.std.specs.List.{onto_first}
use Rattle.std.specs.Option.{option_to_list}
use Rattle.std.proofs.lemmas.Bool.{cond-false, cond-true, and_parts}
use Rattle.std.proofs.lemmas.Bool.Decides.{nat_tests}
use Rattle.std.proofs.lemmas.List.{append-nil, map-append, take_more, take_all, length-map, get_or-map}
use Rattle.std.proofs.lemmas.List.Splits.{length-slice_split}
use Rattle.doc_page_parts.specs.Pages.{is_empty}
use Rattle.doc_page_parts.specs.Paths.{segments}
use Rattle.doc_resolve.specs.DotSegments.{is_dots, but_last, back, put_out, put_all, ends_in_dots, without_dots}
use Rattle.doc_resolve.specs.Resolution.{is_no_path, folder}

-- what slices point to
abbrev pub texts : List (Bor (List ℕ)) → List (List ℕ)
texts slices = map (λ s. s.now) slices

but_last-push : (xs : List (List ℕ)) (x : List ℕ) → but_last (xs ++ x ∷ []) ≡ xs
but_last-push [] x = refl
but_last-push (y ∷ []) x = refl
but_last-push (y ∷ z ∷ xs) x = ap (λ rest. y ∷ rest) (but_last-push (z ∷ xs) x)

-- the last slice is taken away
pub popped : (xs ys : List (Bor (List ℕ))) (r : Option (Bor (List ℕ))) (n : ℕ) → n ≡ length xs → xs ≡ ys ++ option_to_list r
    → IsSome r ↔ (0 < n) → texts ys ≡ but_last (texts xs)
popped [] ys None n len is some = sym (ap texts (is ∙ append-nil ys))
popped (x ∷ xs) ys None n len is some = let none : IsSome {T = Bor (List ℕ)} None = some.1 (omega arith) in absurd (cc)
popped xs ys (Some y) n len is some =
    sym (ap (λ t. but_last (texts t)) is ∙ ap but_last (map-append (λ s. s.now) ys (y ∷ [])) ∙ but_last-push (texts ys) y.now)

back-is : (xs : List (List ℕ)) → (length xs ≡ 1 → ⊥) → back xs ≡ but_last xs
back-is [] many = refl
back-is (x ∷ []) many = absurd (many refl)
back-is (x ∷ y ∷ xs) many = refl

-- taken back from the output, where that isn't its only segment
pub popped_back : (xs ys : List (Bor (List ℕ))) (r : Option (Bor (List ℕ))) (n : ℕ) → n ≡ length xs → (n ≡ 1 → ⊥)
    → xs ≡ ys ++ option_to_list r → IsSome r ↔ (0 < n) → texts ys ≡ back (texts xs)
popped_back xs ys r n len many is some =
    popped xs ys r n len is some
    ∙ sym (back-is (texts xs) (λ e. many (len ∙ sym (length_texts xs) ∙ e)))
  where
    length_texts : (zs : List (Bor (List ℕ))) → length (texts zs) ≡ length zs
    length_texts [] = refl
    length_texts (z ∷ zs) = let e = length_texts zs in omega arith

-- the last segment decides
pub ends_in_dots-last : (front : List (List ℕ)) (x : List ℕ) → ends_in_dots (front ++ x ∷ []) ≡ is_dots x
ends_in_dots-last [] x = refl
ends_in_dots-last (y ∷ []) x = refl
ends_in_dots-last (y ∷ z ∷ front) x = ends_in_dots-last (z ∷ front) x

-- one segment more is put out
pub put_all-more : (out xs : List (List ℕ)) (x : List ℕ) → put_all out (xs ++ x ∷ []) ≡ put_out (put_all out xs) x
unfolding put_all
put_all-more out [] x = refl
put_all-more out (y ∷ xs) x = put_all-more (put_out out y) xs x

-- and all of them, behind others
pub put_all-append : (out xs ys : List (List ℕ)) → put_all out (xs ++ ys) ≡ put_all (put_all out xs) ys
unfolding put_all
put_all-append out [] ys = refl
put_all-append out (x ∷ xs) ys = put_all-append (put_out out x) xs ys

-- the last segments decide
pub ends_in_dots-append : (xs ys : List (List ℕ)) → 0 < length ys → ends_in_dots (xs ++ ys) ≡ ends_in_dots ys
ends_in_dots-append xs [] some = absurd (omega arith)
ends_in_dots-append [] (y ∷ ys) some = refl
ends_in_dots-append (x ∷ []) (y ∷ ys) some = refl
ends_in_dots-append (x ∷ z ∷ xs) (y ∷ ys) some = ends_in_dots-append (z ∷ xs) (y ∷ ys) some

pub put_all-none : (out : List (List ℕ)) → put_all out [] ≡ out
unfolding put_all
put_all-none out = refl

is_no_path-more : (parts : List (List ℕ)) → 0 < length parts → is_no_path ([] ∷ parts) ≡ false
is_no_path-more [] some = absurd (omega arith)
is_no_path-more (s ∷ parts) some = refl

is_no_path-onto : (b : ℕ) (parts : List (List ℕ)) → is_no_path (onto_first b parts) ≡ false
is_no_path-onto b [] = refl
is_no_path-onto b (s ∷ []) = refl
is_no_path-onto b (s ∷ t ∷ parts) = refl

-- a text is the empty path where it has no byte
pub is_no_path-segments : (text : List ℕ) → (length text == 0) ≡ is_no_path (segments text)
is_no_path-segments [] = refl
is_no_path-segments (b ∷ rest) =
    let some : (length (b ∷ rest) == 0) ≡ false = grind (arith, nat_tests) in
    let parts = length-slice_split (λ c. c == 47) rest in
    some
    ∙ sym (elim (b == 47) as (λ v. is_no_path (cond v ([] ∷ segments rest) (onto_first b (segments rest))) ≡ false) [
      | true ↦ is_no_path-more (segments rest) (omega arith)
      | false ↦ is_no_path-onto b (segments rest)
    ])

-- the one empty segment of an empty path
pub no_path-is : (xs : List (List ℕ)) → is_no_path xs ≡ true → xs ≡ [] ∷ []
no_path-is [] e = absurd (cc)
no_path-is ([] ∷ []) e = refl
no_path-is ((b ∷ s) ∷ []) e = absurd (cc)
no_path-is (s ∷ t ∷ xs) e = absurd (cc)

-- all segments but the last one
but_last-taken : (xs : List (Bor (List ℕ))) → texts (take (length xs - 1) xs) ≡ but_last (texts xs)
but_last-taken [] = refl
but_last-taken (x ∷ []) = refl
but_last-taken (x ∷ y ∷ xs) =
    let count : length (x ∷ y ∷ xs) - 1 ≡ suc (length (y ∷ xs) - 1) = omega arith in
    ap (λ n. texts (take n (x ∷ y ∷ xs))) count ∙ ap (λ rest. x.now ∷ rest) (but_last-taken (y ∷ xs))

pub folder-goes : (authority : Option (List ℕ)) (base : List (Bor (List ℕ))) (n : ℕ) → (is_some authority && is_no_path (texts base))
    ≡ false
    → n ≡ length base - 1 → texts (take n base) ≡ folder authority (texts base)
folder-goes authority base n goes is =
    ap (λ m. texts (take m base)) is
    ∙ but_last-taken base
    ∙ sym (cond-false (is_some authority && is_no_path (texts base)) ([] ∷ []) (but_last (texts base)) goes)

pub folder-stays : (authority : Option (List ℕ)) (base : List (Bor (List ℕ))) (n : ℕ) → (is_some authority && is_no_path (texts base))
    ≡ true
    → n ≡ length base → texts (take n base) ≡ folder authority (texts base)
folder-stays authority base n stays is =
    ap texts (take_all n base (omega arith))
    ∙ no_path-is (texts base) ((and_parts (is_some authority) (is_no_path (texts base)) stays).1)
    ∙ sym (cond-true (is_some authority && is_no_path (texts base)) ([] ∷ []) (but_last (texts base)) stays)

-- the segments of a path are put out one by one
pub put_out-turn : (path : List (Bor (List ℕ))) (i : ℕ) (from out new : List (List ℕ)) (d : Bor (List ℕ)) → i < length path
    → out ≡ put_all from (texts (take i path)) → new ≡ put_out out (get_or path i d).now → new ≡ put_all from (texts (take (i + 1) path))
put_out-turn path i from out new d within known is =
    let segment = get_or path i d in
    is
    ∙ ap (λ o. put_out o segment.now) known
    ∙ sym (ap (λ p. put_all from (texts p)) (take_more path i d within)
    ∙ ap (put_all from) (map-append (λ s. s.now) (take i path) (segment ∷ [])) ∙ put_all-more from (texts (take i path)) segment.now)

-- one more of those that are put out
pub put_out-next : (done : List (Bor (List ℕ))) (s : Bor (List ℕ)) (from out new : List (List ℕ)) → out ≡ put_all from (texts done)
    → new ≡ put_out out s.now → new ≡ put_all from (texts (done ++ s ∷ []))
put_out-next done s from out new known is =
    is
    ∙ ap (λ o. put_out o s.now) known
    ∙ sym (ap (put_all from) (map-append (λ t. t.now) done (s ∷ [])) ∙ put_all-more from (texts done) s.now)

pub ends_in_dots-next : (done : List (Bor (List ℕ))) (s : Bor (List ℕ)) → ends_in_dots (texts (done ++ s ∷ [])) ≡ is_dots s.now
ends_in_dots-next done s = ap ends_in_dots (map-append (λ t. t.now) done (s ∷ [])) ∙ ends_in_dots-last (texts done) s.now

-- the segments of a path behind others are put out
abbrev PutOut : List (List ℕ) → List ℕ → List (List ℕ) → List (List ℕ) → List (List ℕ) → Type 0
PutOut front path none some all = (none ≡ []) × (some ≡ put_all none front) × (all ≡ put_all some (segments path))

put_all-both : (front : List (List ℕ)) (path : List ℕ) (none some all : List (List ℕ)) → PutOut front path none some all
    → all ≡ put_all [] (front ++ segments path)
put_all-both front path none some all is =
    is.2 ∙ ap (λ out. put_all out (segments path)) (is.1 ∙ ap (λ out. put_all out front) is.0)
    ∙ sym (put_all-append [] front (segments path))

ends_in_dots-both : (front : List (List ℕ)) (path : List ℕ) → ends_in_dots (front ++ segments path) ≡ ends_in_dots (segments path)
ends_in_dots-both front path =
    let some = length-slice_split (λ c. c == 47) path in
    ends_in_dots-append front (segments path) (omega arith)

abbrev ended : List (List ℕ) → Bool → List (List ℕ)
ended out dots = out ++ cond dots ([] ∷ []) []

-- no dot segment ends the path
pub without_dots-kept : (front : List (List ℕ)) (path : List ℕ) (none some all : List (List ℕ)) → PutOut front path none some all
    → ends_in_dots (segments path) ≡ false → all ≡ without_dots (front ++ segments path)
unfolding without_dots
without_dots-kept front path none some all is dots =
    put_all-both front path none some all is
    ∙ sym (append-nil (put_all [] (front ++ segments path)))
    ∙ sym (ap (ended (put_all [] (front ++ segments path))) (ends_in_dots-both front path ∙ dots))

-- one does
pub without_dots-ended : (front : List (List ℕ)) (path : List ℕ) (none some all new : List (List ℕ)) → PutOut front path none some all
    → ends_in_dots (segments path) ≡ true → new ≡ all ++ [] ∷ [] → new ≡ without_dots (front ++ segments path)
unfolding without_dots
without_dots-ended front path none some all new is dots pushed =
    pushed
    ∙ ap (λ out. out ++ [] ∷ []) (put_all-both front path none some all is)
    ∙ sym (ap (ended (put_all [] (front ++ segments path))) (ends_in_dots-both front path ∙ dots))

-- what a slice points to, by its place
pub text_at : (slices : List (Bor (List ℕ))) (i : ℕ) (d : Bor (List ℕ)) → i < length slices
    → (i < length (texts slices)) × ((get_or slices i d).now ≡ get_or (texts slices) i (get_or slices i d).now)
text_at slices i d within =
    let len = length-map slices (λ (s : Bor (List ℕ)). s.now) in
    (omega arith, sym (get_or-map (λ s. s.now) slices i d _ within))

pub is_empty-length : (text : List ℕ) → (length text == 0) ≡ is_empty text
is_empty-length [] = refl
is_empty-length (b ∷ text) = grind (arith, nat_tests)
