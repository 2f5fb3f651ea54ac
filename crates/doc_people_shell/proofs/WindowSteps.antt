-- What is shown of a list is shown of its ends too, if they have one entry more.
use Rattle.std.proofs.Common.{◌≡◌, ℕ, ◌+◌, ◌-◌, List, [], ◌∷◌, ◌++◌, length, take, drop, false, refl, ap, ◌∙◌, arith, min}
use Rattle.std.specs.Prelude.{nat_lt, not, ◌||◌, if◌then◌else◌}
use Rattle.std.proofs.lemmas.Bool.Decides.{nat_tests}
use Rattle.std.proofs.lemmas.List.{drop-drop, length-drop, length-take, take-take, take_min}
use Rattle.doc_people.specs.Navigation.{is_before, last_ones}
use Rattle.doc_people_shell.specs.Windows.{is_more, keys_from, shown_of}

-- ---- of the last ones one more

last_of_more : {X : Type 0} (n : ℕ) (xs : List X) → last_ones n (last_ones (n + 1) xs) ≡ last_ones n xs
last_of_more n xs =
    let k = length xs - (n + 1) in
    let long = length-drop k xs in
    let place : k + (length (drop k xs) - n) ≡ length xs - n = omega (arith, long) in
    drop-drop (length (drop k xs) - n) k xs ∙ ap (λ m. drop m xs) place

length_of_last : {X : Type 0} (n : ℕ) (xs : List X) → length (last_ones n xs) ≡ min n (length xs)
length_of_last n xs = omega (arith, length-drop (length xs - n) xs)

-- ---- more than so many

same_test : (n a b : ℕ) → a ≡ min (n + 1) b → nat_lt n a ≡ nat_lt n b
same_test n a b e = grind (arith, nat_tests)

more_of_last : {X : Type 0} (n : ℕ) (xs : List X) → nat_lt n (length (last_ones (n + 1) xs)) ≡ nat_lt n (length xs)
more_of_last n xs = same_test n _ (length xs) (length_of_last (n + 1) xs)

more_of_first : {X : Type 0} (n : ℕ) (xs : List X) → nat_lt n (length (take (n + 1) xs)) ≡ nat_lt n (length xs)
more_of_first n xs = same_test n _ (length xs) (length-take (n + 1) xs)

-- ---- what is shown, and whether that is all

pub shown_of_ends : (before from b f : List (List ℕ)) → b ≡ last_ones 31 before → f ≡ take 61 from → shown_of b f ≡ shown_of before from
shown_of_ends before from b f last first =
    ap (λ l. last_ones 30 l ++ take 60 f) last ∙ ap (λ l. last_ones 30 (last_ones 31 before) ++ take 60 l) first
    ∙ ap (λ l. l ++ take 60 (take 61 from)) (last_of_more 30 before)
    ∙ ap (λ l. last_ones 30 before ++ l) (take-take 60 61 from (omega arith))

pub more_of_ends : (before from b f : List (List ℕ)) → b ≡ last_ones 31 before → f ≡ take 61 from → is_more b f ≡ is_more before from
more_of_ends before from b f last first =
    ap (λ l. nat_lt 30 (length l) || nat_lt 60 (length f)) last
    ∙ ap (λ l. nat_lt 30 (length (last_ones 31 before)) || nat_lt 60 (length l)) first
    ∙ ap (λ t. t || nat_lt 60 (length (take 61 from))) (more_of_last 30 before)
    ∙ ap (λ t. nat_lt 30 (length before) || t) (more_of_first 60 from)

-- ---- from the empty text on

not_before_start : (key : List ℕ) → is_before key [] ≡ false
not_before_start [] = refl
not_before_start (b ∷ key) = refl

pub all_from_start : (keys : List (List ℕ)) → keys_from [] keys ≡ keys
all_from_start [] = refl
all_from_start (key ∷ keys) =
    ap (λ t. if not t then key ∷ keys_from [] keys else keys_from [] keys) (not_before_start key)
    ∙ ap (λ l. key ∷ l) (all_from_start keys)

-- the first ones of a list that is read
pub first_ones : {X : Type 0} (got xs : List X) (n : ℕ) → n ≡ min (length got) 60 → got ≡ xs → take n got ≡ take 60 xs
first_ones got xs n count same =
    let place : n ≡ min 60 (length got) = omega (arith, count) in
    ap (λ m. take m got) place ∙ take_min 60 got ∙ ap (take 60) same
