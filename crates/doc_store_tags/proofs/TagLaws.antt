-- A page can be read off the bytes that its tag is the digest of.
use Rattle.std.proofs.Common.{◌≡◌, ℕ, List, [], ◌∷◌, true, false, ◌==◌, refl, sym, ap, ◌∙◌, arith, All}
use Rattle.std.specs.List.{list_all, slice_split, join_with_byte}
use Rattle.std.proofs.lemmas.Bool.Decides.{nat_tests}
use Rattle.std.proofs.lemmas.List.Elements.{All-nil, All-cons, All-append}
use Rattle.std.proofs.lemmas.List.Splits.{slice_split_none, slice_split_at, join_with_byte-slice_split}
use Rattle.doc_page_parts.proofs.Bools.{and_first, and_second, clash}
use Rattle.doc_store_readers.specs.Groups.{IsGroups, is_group, is_group_byte, has_good_length}
use Rattle.doc_store_readers.specs.Pages.{Page}
use Rattle.doc_store_tags.specs.Tags.{names_text, tagged}

-- a byte that is in no name of a group
pub record IsNoGroupByte (cut : ℕ) : Type 0 where
  pub differs : (b : ℕ) → is_group_byte b ≡ true → (b == cut) ≡ false

pub comma_in_no_name : IsNoGroupByte 44
comma_in_no_name = record { differs = λ b e. grind (arith, nat_tests) }

pub line_feed_in_no_name : IsNoGroupByte 10
line_feed_in_no_name = record { differs = λ b e. grind (arith, nat_tests) }

-- a name has none of these bytes
in_no_name : (cut : ℕ) → IsNoGroupByte cut → (name : List ℕ) → list_all is_group_byte name ≡ true → All (λ b. (b == cut) ≡ false) name
in_no_name cut only [] good = All-nil (λ b. (b == cut) ≡ false)
in_no_name cut only (b ∷ bs) good =
    All-cons (λ c. (c == cut) ≡ false) b bs (only.differs b (and_first (is_group_byte b) (list_all is_group_byte bs) good))
    (in_no_name cut only bs (and_second (is_group_byte b) (list_all is_group_byte bs) good))

in_no_group : (cut : ℕ) → IsNoGroupByte cut → (name : List ℕ) → is_group name ≡ true → All (λ b. (b == cut) ≡ false) name
in_no_group cut only name good =
    in_no_name cut only name (and_second (has_good_length name) (list_all is_group_byte name) good)

-- joined names, cut at the commas, are the names
split_joined : (name : List ℕ) (names : List (List ℕ)) → list_all is_group (name ∷ names) ≡ true
    → slice_split (λ b. b == 44) (names_text (name ∷ names)) ≡ name ∷ names
split_joined name [] good =
    slice_split_none (λ b. b == 44) name (in_no_group 44 comma_in_no_name name (and_first (is_group name) true good))
split_joined name (other ∷ names) good =
    slice_split_at (λ b. b == 44) name 44 (names_text (other ∷ names))
    (in_no_group 44 comma_in_no_name name (and_first (is_group name) (list_all is_group (other ∷ names)) good)) refl
    ∙ ap (λ l. name ∷ l) (split_joined other names (and_second (is_group name) (list_all is_group (other ∷ names)) good))

abbrev first_of : List (List ℕ) → List ℕ
first_of [] = []
first_of (x ∷ xs) = x

abbrev rest_of : List (List ℕ) → List (List ℕ)
rest_of [] = []
rest_of (x ∷ xs) = xs

-- a name is not empty
some_name : (name : List ℕ) (names : List (List ℕ)) → list_all is_group (name ∷ names) ≡ true → [] ≡ names_text (name ∷ names) → ⊥
some_name name names good same =
    let empty : [] ≡ name = ap (λ text. first_of (slice_split (λ b. b == 44) text)) same ∙ ap first_of (split_joined name names good) in
    clash (is_group []) (ap is_group empty ∙ and_first (is_group name) (list_all is_group names) good) refl

pub names_apart : (names others : List (List ℕ)) → list_all is_group names ≡ true → list_all is_group others ≡ true
    → names_text names ≡ names_text others → names ≡ others
names_apart [] [] good fine same = refl
names_apart [] (other ∷ others) good fine same = absurd (some_name other others fine same)
names_apart (name ∷ names) [] good fine same = absurd (some_name name names good (sym same))
names_apart (name ∷ names) (other ∷ others) good fine same =
    sym (split_joined name names good) ∙ ap (slice_split (λ b. b == 44)) same ∙ split_joined other others fine

-- joined names have no LF
no_line_feed : (names : List (List ℕ)) → list_all is_group names ≡ true → All (λ b. (b == 10) ≡ false) (names_text names)
no_line_feed [] good = All-nil (λ b. (b == 10) ≡ false)
no_line_feed (name ∷ []) good = in_no_group 10 line_feed_in_no_name name (and_first (is_group name) true good)
no_line_feed (name ∷ other ∷ names) good =
    All-append (λ b. (b == 10) ≡ false) name (44 ∷ names_text (other ∷ names))
    (in_no_group 10 line_feed_in_no_name name (and_first (is_group name) (list_all is_group (other ∷ names)) good))
    (All-cons (λ b. (b == 10) ≡ false) 44 (names_text (other ∷ names)) refl
    (no_line_feed (other ∷ names) (and_second (is_group name) (list_all is_group (other ∷ names)) good)))

page_of : List (List ℕ) → List ℕ → Page
page_of groups text = record { groups = groups; text = text }

pub pages_apart : (page other : Page) → IsGroups page.groups → IsGroups other.groups → tagged page ≡ tagged other → page ≡ other
unfolding tagged page_of
pages_apart page other good fine same =
    let cut : names_text page.groups ∷ slice_split (λ b. b == 10) page.text
    ≡ names_text other.groups ∷ slice_split (λ b. b == 10) other.text
    = sym (slice_split_at (λ b. b == 10) (names_text page.groups) 10 page.text (no_line_feed page.groups good.good) refl)
    ∙ ap (slice_split (λ b. b == 10)) same
    ∙ slice_split_at (λ b. b == 10) (names_text other.groups) 10 other.text (no_line_feed other.groups fine.good) refl in
    let groups : page.groups ≡ other.groups = names_apart page.groups other.groups good.good fine.good (ap first_of cut) in
    let text : page.text ≡ other.text = sym (join_with_byte-slice_split 10 page.text) ∙ ap (λ l. join_with_byte 10 (rest_of l)) cut
    ∙ join_with_byte-slice_split 10 other.text in
    ap (λ g. page_of g page.text) groups ∙ ap (page_of other.groups) text
