-- Dot segments removed letter by letter, as RFC 3986 states it in section 5.2.4, beside the removal segment by segment of DotSegments:
-- both give the same on these paths.
use Rattle.std.proofs.Common.{◌≡◌, ◌==◌, ℕ, zero, suc, List, [], ◌∷◌, ◌++◌, length, take, drop, codes, refl}
use Rattle.std.specs.Prelude.{Option, Some, None, bytes_eq, if◌then◌else◌}
use Rattle.std.specs.List.{position_or_len, list_any, join_with_byte}
use Rattle.doc_page_parts.specs.Paths.{segments}
use Rattle.doc_resolve.specs.DotSegments.{put_all, without_dots}

-- what follows the prefix, where the text has it
abbrev after : List ℕ → List ℕ → Option (List ℕ)
after [] text = Some text
after (x ∷ prefix) [] = None
after (x ∷ prefix) (b ∷ text) = if x == b then after prefix text else None

-- the first of two steps where it applies, or else the second
abbrev or_else : Option (List ℕ) → (List ℕ → List ℕ) → (Unit {0} → List ℕ) → List ℕ
or_else None step others = others tt
or_else (Some rest) step others = step rest

-- nothing, where the text is the whole
abbrev whole : List ℕ → List ℕ → Option (List ℕ)
whole all text = if bytes_eq all text then Some [] else None

-- the output without its last segment and the `/` before it
abbrev cut : List ℕ → List ℕ
cut [] = []
cut (b ∷ out) = if list_any (λ c. c == 47) out then b ∷ cut out else []

-- how long the first segment is, with the `/` before it
abbrev first_len : List ℕ → ℕ
first_len [] = 0
first_len (b ∷ input) = suc (position_or_len (λ c. c == 47) input)

-- the loop of section 5.2.4, so many turns of it: the steps 2A, 2B, 2C, 2D and 2E
abbrev turns : ℕ → List ℕ → List ℕ → List ℕ
turns zero out input = out
turns (suc n) out [] = out
turns (suc n) out (b ∷ rest) =
    let input = b ∷ rest in
    or_else (after (codes "../") input) (turns n out) (λ _.
    or_else (after (codes "./") input) (turns n out) (λ _.
    or_else (after (codes "/./") input) (λ r. turns n out (47 ∷ r)) (λ _.
    or_else (whole (codes "/.") input) (λ _. turns n out (codes "/")) (λ _.
    or_else (after (codes "/../") input) (λ r. turns n (cut out) (47 ∷ r)) (λ _.
    or_else (whole (codes "/..") input) (λ _. turns n (cut out) (codes "/")) (λ _.
    or_else (whole (codes ".") input) (turns n out) (λ _.
    or_else (whole (codes "..") input) (turns n out) (λ _.
    turns n (out ++ take (first_len input) input) (drop (first_len input) input)))))))))

abbrev by_letters : List ℕ → List ℕ
by_letters path = turns (suc (length path)) [] path

abbrev by_segments : List ℕ → List ℕ
by_segments path = join_with_byte 47 (without_dots (segments path))

-- the first two are those of section 5.2.4
letters_1 : by_letters (codes "/a/b/c/./../../g") ≡ codes "/a/g"
letters_1 = refl

segments_1 : by_segments (codes "/a/b/c/./../../g") ≡ codes "/a/g"
unfolding put_all without_dots
segments_1 = refl

letters_2 : by_letters (codes "mid/content=5/../6") ≡ codes "mid/6"
letters_2 = refl

segments_2 : by_segments (codes "mid/content=5/../6") ≡ codes "mid/6"
unfolding put_all without_dots
segments_2 = refl

letters_3 : by_letters (codes "a/../b") ≡ codes "/b"
letters_3 = refl

segments_3 : by_segments (codes "a/../b") ≡ codes "/b"
unfolding put_all without_dots
segments_3 = refl

letters_4 : by_letters (codes "a/..") ≡ codes "/"
letters_4 = refl

segments_4 : by_segments (codes "a/..") ≡ codes "/"
unfolding put_all without_dots
segments_4 = refl

letters_5 : by_letters (codes "../../a/../b") ≡ codes "/b"
letters_5 = refl

segments_5 : by_segments (codes "../../a/../b") ≡ codes "/b"
unfolding put_all without_dots
segments_5 = refl

letters_6 : by_letters (codes "./a") ≡ codes "a"
letters_6 = refl

segments_6 : by_segments (codes "./a") ≡ codes "a"
unfolding put_all without_dots
segments_6 = refl

letters_7 : by_letters (codes ".") ≡ []
letters_7 = refl

segments_7 : by_segments (codes ".") ≡ []
unfolding put_all without_dots
segments_7 = refl

letters_8 : by_letters (codes "..") ≡ []
letters_8 = refl

segments_8 : by_segments (codes "..") ≡ []
unfolding put_all without_dots
segments_8 = refl

letters_9 : by_letters (codes "../..") ≡ []
letters_9 = refl

segments_9 : by_segments (codes "../..") ≡ []
unfolding put_all without_dots
segments_9 = refl

letters_10 : by_letters [] ≡ []
letters_10 = refl

segments_10 : by_segments [] ≡ []
unfolding put_all without_dots
segments_10 = refl

letters_11 : by_letters (codes "/..//.a") ≡ codes "//.a"
letters_11 = refl

segments_11 : by_segments (codes "/..//.a") ≡ codes "//.a"
unfolding put_all without_dots
segments_11 = refl

letters_12 : by_letters (codes "/..////..//.") ≡ codes "////"
letters_12 = refl

segments_12 : by_segments (codes "/..////..//.") ≡ codes "////"
unfolding put_all without_dots
segments_12 = refl

letters_13 : by_letters (codes "a/b/../../../c") ≡ codes "/c"
letters_13 = refl

segments_13 : by_segments (codes "a/b/../../../c") ≡ codes "/c"
unfolding put_all without_dots
segments_13 = refl

letters_14 : by_letters (codes ".//a") ≡ codes "/a"
letters_14 = refl

segments_14 : by_segments (codes ".//a") ≡ codes "/a"
unfolding put_all without_dots
segments_14 = refl

letters_15 : by_letters (codes "..//../a") ≡ codes "/a"
letters_15 = refl

segments_15 : by_segments (codes "..//../a") ≡ codes "/a"
unfolding put_all without_dots
segments_15 = refl

letters_16 : by_letters (codes "/a//../b") ≡ codes "/a/b"
letters_16 = refl

segments_16 : by_segments (codes "/a//../b") ≡ codes "/a/b"
unfolding put_all without_dots
segments_16 = refl

letters_17 : by_letters (codes "a/./") ≡ codes "a/"
letters_17 = refl

segments_17 : by_segments (codes "a/./") ≡ codes "a/"
unfolding put_all without_dots
segments_17 = refl

letters_18 : by_letters (codes "/.") ≡ codes "/"
letters_18 = refl

segments_18 : by_segments (codes "/.") ≡ codes "/"
unfolding put_all without_dots
segments_18 = refl

letters_19 : by_letters (codes "...//....") ≡ codes "...//...."
letters_19 = refl

segments_19 : by_segments (codes "...//....") ≡ codes "...//...."
unfolding put_all without_dots
segments_19 = refl

letters_20 : by_letters (codes "//./..//./...//..") ≡ codes "//.../"
letters_20 = refl

segments_20 : by_segments (codes "//./..//./...//..") ≡ codes "//.../"
unfolding put_all without_dots
segments_20 = refl
