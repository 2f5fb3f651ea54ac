-- The best of texts, one text after another.
use Rattle.std.proofs.Common.{◌≡◌, ℕ, ◌+◌, ◌-◌, ◌<◌, ◌≤◌, List, [], ◌∷◌, ◌++◌, Bool, true, false, cond, if◌then◌else◌, refl, ap, sym, ◌∙◌, arith}
use Rattle.std.proofs.Common.{append-nil, append_assoc, drop, get_or, length, take, filter}
use Rattle.std.specs.Prelude.{nat_lt}
use Rattle.std.proofs.lemmas.Bool.{le-leb, le-ltb, lt-leb, lt-ltb}
use Rattle.std.proofs.lemmas.List.{drop_all, drop_more, take_all, take_more}
use Rattle.std.proofs.lemmas.List.Sums.{fold_push}
use Rattle.doc_people.specs.Snippets.{best_text, met_in, within}
use Rattle.doc_people.specs.declared.term.Term.{Term}
use Rattle.doc_people_search.specs.Reading.{is_read, least_of}

-- ---- the texts that are read

here : (texts : List (List ℕ)) (i : ℕ) (text : List ℕ) → i < length texts → text ≡ get_or texts i text
    → drop i texts ≡ text ∷ drop (i + 1) texts
here texts i text low is = drop_more texts i text low ∙ ap (λ t. t ∷ drop (i + 1) texts) (sym is)

one_taken : (texts : List (List ℕ)) (i : ℕ) (text : List ℕ) → i < length texts → text ≡ get_or texts i text
    → take (i + 1) texts ≡ take i texts ++ text ∷ []
one_taken texts i text low is = take_more texts i text low ∙ ap (λ t. take i texts ++ t ∷ []) (sym is)

pub more_room : (whole texts : List (List ℕ)) (i room left : ℕ) (text : List ℕ) → i < length texts → text ≡ get_or texts i text
    → whole ≡ take i texts ++ within room (drop i texts) → length text ≤ room → left ≡ room - length text
    → whole ≡ take (i + 1) texts ++ within left (drop (i + 1) texts)
more_room whole texts i room left text low is so_far fits e =
    so_far ∙ ap (λ ts. take i texts ++ within room ts) (here texts i text low is)
    ∙ ap (λ b. take i texts ++ (if b then text ∷ within (room - length text) (drop (i + 1) texts) else [])) (le-leb (length text) room fits)
    ∙ ap (λ r. take i texts ++ text ∷ within r (drop (i + 1) texts)) (sym e)
    ∙ sym (append_assoc (take i texts) (text ∷ []) (within left (drop (i + 1) texts)))
    ∙ ap (λ ts. ts ++ within left (drop (i + 1) texts)) (sym (one_taken texts i text low is))

pub no_room : (whole texts : List (List ℕ)) (i room : ℕ) (text : List ℕ) → i < length texts → text ≡ get_or texts i text
    → whole ≡ take i texts ++ within room (drop i texts) → room < length text → take i texts ≡ whole
no_room whole texts i room text low is so_far long =
    sym (so_far ∙ ap (λ ts. take i texts ++ within room ts) (here texts i text low is)
    ∙ ap (λ b. take i texts ++ (if b then text ∷ within (room - length text) (drop (i + 1) texts) else [])) (lt-leb (length text) room long)
    ∙ append-nil (take i texts))

pub room_for_all : (whole texts : List (List ℕ)) (i room : ℕ) → length texts ≤ i
    → whole ≡ take i texts ++ within room (drop i texts) → texts ≡ whole
room_for_all whole texts i room end so_far =
    sym (so_far ∙ ap (λ ts. take i texts ++ within room ts) (drop_all i texts end) ∙ append-nil (take i texts) ∙ take_all i texts end)

-- ---- the best of them

filter_push : (p : List ℕ → Bool) (xs : List (List ℕ)) (x : List ℕ) (b : Bool) → p x ≡ b
    → filter p (xs ++ x ∷ []) ≡ filter p xs ++ (if b then x ∷ [] else [])
filter_push p [] x b e = ap (λ t. if t then x ∷ [] else []) e
filter_push p (y ∷ xs) x b e = by (p y) (filter_push p xs x b e)
  where
    by : (t : Bool) → filter p (xs ++ x ∷ []) ≡ filter p xs ++ (if b then x ∷ [] else [])
        → cond t (y ∷ filter p (xs ++ x ∷ [])) (filter p (xs ++ x ∷ []))
        ≡ cond t (y ∷ filter p xs) (filter p xs) ++ (if b then x ∷ [] else [])
    by true ih = ap (λ r. y ∷ r) ih
    by false ih = ih

-- the texts that pass, of one more
passing : (p : List ℕ → Bool) (texts : List (List ℕ)) (i : ℕ) (text : List ℕ) (b : Bool) → i < length texts → text ≡ get_or texts i text
    → p text ≡ b → filter p (take (i + 1) texts) ≡ filter p (take i texts) ++ (if b then text ∷ [] else [])
passing p texts i text b low is e = ap (filter p) (one_taken texts i text low is) ∙ filter_push p (take i texts) text b e

pub passed_by : (p : List ℕ → Bool) (texts : List (List ℕ)) (i : ℕ) (text : List ℕ) (test : Bool) → i < length texts
    → text ≡ get_or texts i text → test ≡ p text → test ≡ false → filter p (take (i + 1) texts) ≡ filter p (take i texts)
passed_by p texts i text test low is e off = passing p texts i text false low is (sym e ∙ off) ∙ append-nil (filter p (take i texts))

pub passed : (p : List ℕ → Bool) (texts : List (List ℕ)) (i : ℕ) (text : List ℕ) (test : Bool) → i < length texts
    → text ≡ get_or texts i text → test ≡ p text → test ≡ true → filter p (take (i + 1) texts) ≡ filter p (take i texts) ++ text ∷ []
passed p texts i text test low is e on = passing p texts i text true low is (sym e ∙ on)

-- the best with one more text is that one or the one before
best_with : (terms : List Term) (x : List ℕ) (xs : List (List ℕ)) (text : List ℕ)
    → best_text terms ((x ∷ xs) ++ text ∷ [])
    ≡ (if nat_lt (met_in terms (best_text terms (x ∷ xs))) (met_in terms text) then text else best_text terms (x ∷ xs))
best_with terms x xs text = fold_push (λ b y. cond (nat_lt (met_in terms b) (met_in terms y)) y b) x xs text

one_more_is : (terms : List Term) (x : List ℕ) (xs : List (List ℕ)) (text : List ℕ)
    → least_of terms ((x ∷ xs) ++ text ∷ []) ≡ met_in terms (best_text terms ((x ∷ xs) ++ text ∷ [])) + 1
one_more_is terms x xs text = refl

pub better : (terms : List Term) (xs : List (List ℕ)) (text : List ℕ) (met : ℕ) → met ≡ met_in terms text → least_of terms xs ≤ met
    → text ≡ best_text terms (xs ++ text ∷ [])
better terms [] text met is enough = refl
better terms (x ∷ xs) text met is enough =
    let more : met_in terms (best_text terms (x ∷ xs)) < met_in terms text = omega arith in
    sym (best_with terms x xs text ∙ ap (λ b. if b then text else best_text terms (x ∷ xs)) (lt-ltb _ _ more))

pub better_least : (terms : List Term) (xs : List (List ℕ)) (text : List ℕ) (met : ℕ) → met ≡ met_in terms text → least_of terms xs ≤ met
    → met + 1 ≡ least_of terms (xs ++ text ∷ [])
better_least terms [] text met is enough = ap (λ n. n + 1) is
better_least terms (x ∷ xs) text met is enough =
    ap (λ n. n + 1) (is ∙ ap (met_in terms) (better terms (x ∷ xs) text met is enough))

pub no_better : (terms : List Term) (xs : List (List ℕ)) (text : List ℕ) (met : ℕ) → met ≡ met_in terms text → met < least_of terms xs
    → best_text terms xs ≡ best_text terms (xs ++ text ∷ [])
no_better terms [] text met is less = absurd (omega arith)
no_better terms (x ∷ xs) text met is less =
    let fewer : met_in terms text ≤ met_in terms (best_text terms (x ∷ xs)) = omega arith in
    sym (best_with terms x xs text ∙ ap (λ b. if b then text else best_text terms (x ∷ xs)) (le-ltb _ _ fewer))

pub same_least : (terms : List Term) (xs : List (List ℕ)) (text : List ℕ) (met : ℕ) → met ≡ met_in terms text → met < least_of terms xs
    → least_of terms xs ≡ least_of terms (xs ++ text ∷ [])
same_least terms [] text met is less = absurd (omega arith)
same_least terms (x ∷ xs) text met is less = ap (λ t. met_in terms t + 1) (no_better terms (x ∷ xs) text met is less)

-- ---- one text more

pub kept : (terms : List Term) (title : List ℕ) (items : List (List ℕ)) (i : ℕ) (item text best : List ℕ) (test : Bool) (least met : ℕ)
    → i < length items → item ≡ get_or items i item → text ≡ item → test ≡ is_read title text → test ≡ true → met ≡ met_in terms text
    → best ≡ best_text terms (filter (is_read title) (take i items)) → least ≡ least_of terms (filter (is_read title) (take i items))
    → met < least
    → (best ≡ best_text terms (filter (is_read title) (take (i + 1) items)))
    × (least ≡ least_of terms (filter (is_read title) (take (i + 1) items)))
kept terms title items i item text best test least met low is same e on m best_is least_is less =
    let all : filter (is_read title) (take (i + 1) items) ≡ filter (is_read title) (take i items) ++ item ∷ [] =
    passed (is_read title) items i item test low is (e ∙ ap (is_read title) same) on in
    let fewer : met < least_of terms (filter (is_read title) (take i items)) = omega arith in (
      best_is ∙ no_better terms (filter (is_read title) (take i items)) item met (m ∙ ap (met_in terms) same) fewer
          ∙ ap (best_text terms) (sym all),
      least_is ∙ same_least terms (filter (is_read title) (take i items)) item met (m ∙ ap (met_in terms) same) fewer
          ∙ ap (least_of terms) (sym all),
    )

pub replaced : (terms : List Term) (title : List ℕ) (items : List (List ℕ)) (i : ℕ) (item text : List ℕ) (test : Bool) (least met : ℕ)
    → i < length items → item ≡ get_or items i item → text ≡ item → test ≡ is_read title text → test ≡ true → met ≡ met_in terms text
    → least ≡ least_of terms (filter (is_read title) (take i items)) → least ≤ met
    → (text ≡ best_text terms (filter (is_read title) (take (i + 1) items)))
    × (met + 1 ≡ least_of terms (filter (is_read title) (take (i + 1) items)))
replaced terms title items i item text test least met low is same e on m least_is enough =
    let all : filter (is_read title) (take (i + 1) items) ≡ filter (is_read title) (take i items) ++ item ∷ [] =
    passed (is_read title) items i item test low is (e ∙ ap (is_read title) same) on in
    let more : least_of terms (filter (is_read title) (take i items)) ≤ met = omega arith in (
      same ∙ better terms (filter (is_read title) (take i items)) item met (m ∙ ap (met_in terms) same) more
          ∙ ap (best_text terms) (sym all),
      better_least terms (filter (is_read title) (take i items)) item met (m ∙ ap (met_in terms) same) more ∙ ap (least_of terms) (sym all),
    )
