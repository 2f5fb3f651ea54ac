-- Texts without certain bytes at their ends.
use Rattle.std.proofs.Common.{◌≡◌, ℕ, ◌+◌, ◌-◌, ◌<◌, ◌≤◌, List, length, get_or, take, drop, Bool, true, ap, sym, ◌∙◌, arith, inl, inr}
use Rattle.std.proofs.Common.{subst}
use Rattle.std.specs.Prelude.{reverse, slice_range}
use Rattle.std.specs.List.{prefix_len, suffix_len}
use Rattle.std.specs.Str.{IsUtf8, IsCharBoundary}
use Rattle.std.proofs.lemmas.Bool.{cases_lt}
use Rattle.std.proofs.lemmas.Bool.Decides.{nat_tests}
use Rattle.std.proofs.lemmas.List.{get_or-reverse}
use Rattle.std.proofs.lemmas.List.Sums.{prefix_len_passes, prefix_len-le-length, suffix_len-le-length}
use Rattle.std.proofs.lemmas.Str.{IsCharBoundary-after_ascii, IsCharBoundary-before_ascii, IsCharBoundary-start, IsCharBoundary-end}
use Rattle.doc_page_parts.specs.Lines.{is_ending, is_space_or_tab, without_ending, stripped}

-- a test that only ASCII bytes pass
pub record IsAsciiTest (test : ℕ → Bool) : Type 0 where
  pub ascii : (b : ℕ) → test b ≡ true → b < 128

pub endings_are_ascii : IsAsciiTest is_ending
endings_are_ascii = record { ascii = λ b e. grind (arith, nat_tests) }

pub blanks_are_ascii : IsAsciiTest is_space_or_tab
blanks_are_ascii = record { ascii = λ b e. grind (arith, nat_tests) }

-- a text may be cut after the bytes at its start that pass, and before those at its end
pub cut_start : {test : ℕ → Bool} → IsAsciiTest test → (bs : List ℕ) (n : ℕ) → IsUtf8 bs → n ≡ prefix_len test bs → IsCharBoundary bs n
cut_start {test = test} only bs n utf8 e =
    elim (cases_lt 0 n) [
      | inl more ↦
          let fits : n ≤ length bs = omega (arith, prefix_len-le-length test bs) in
          let last : test (get_or bs (n - 1) 0) ≡ true = prefix_len_passes test bs (n - 1) 0 (omega arith) in
          let place : n ≡ (n - 1) + 1 = omega arith in
          let P : ℕ → Type 0 = λ m. IsCharBoundary bs m in
          subst P (sym place) (IsCharBoundary-after_ascii bs (n - 1) utf8 (omega arith) (only.ascii _ last))
      | inr none ↦
          let place : 0 ≡ n = omega arith in
          let P : ℕ → Type 0 = λ m. IsCharBoundary bs m in
          subst P place (IsCharBoundary-start bs utf8)
    ]

pub cut_end : {test : ℕ → Bool} → IsAsciiTest test → (bs : List ℕ) (n : ℕ) → n ≡ suffix_len test bs → IsCharBoundary bs (length bs - n)
cut_end {test = test} only bs n e =
    elim (cases_lt 0 n) [
      | inl more ↦
          let fits : n ≤ length bs = omega (arith, suffix_len-le-length test bs) in
          let last : test (get_or (reverse bs) (n - 1) 0) ≡ true = prefix_len_passes test (reverse bs) (n - 1) 0 (omega arith) in
          let same : get_or (reverse bs) (n - 1) 0 ≡ get_or bs (length bs - 1 - (n - 1)) 0 = get_or-reverse bs (n - 1) 0 (omega arith) in
          let place : length bs - 1 - (n - 1) ≡ length bs - n = omega arith in
          IsCharBoundary-before_ascii bs (length bs - n) (omega arith)
          (only.ascii _ (ap (λ k. test (get_or bs k 0)) (sym place) ∙ ap test (sym same) ∙ last))
      | inr none ↦
          let place : length bs ≡ length bs - n = omega arith in
          let P : ℕ → Type 0 = λ m. IsCharBoundary bs m in
          subst P place (IsCharBoundary-end bs)
    ]

front_is : (bs out : List ℕ) (m n : ℕ) → n ≡ m → out ≡ slice_range bs 0 (length bs - n) → out ≡ take (length bs - m) bs
front_is bs out m n e range =
    let whole : (length bs - n) - 0 ≡ length bs - m = omega arith in
    range ∙ ap (λ k. take k bs) whole

pub without_ending_is : (line out : List ℕ) (n : ℕ) → n ≡ suffix_len is_ending line → out ≡ slice_range line 0 (length line - n)
    → out ≡ without_ending line
unfolding without_ending
without_ending_is line out n e range = front_is line out _ n e range

pub stripped_is : (text rest out : List ℕ) (m n : ℕ) → m ≡ prefix_len is_space_or_tab text → rest ≡ drop m text
    → n ≡ suffix_len is_space_or_tab rest → out ≡ slice_range rest 0 (length rest - n) → out ≡ stripped text
unfolding stripped
stripped_is text rest out m n start cut e range =
    front_is rest out _ n e range
    ∙ ap (λ (r : List ℕ). take (length r - suffix_len is_space_or_tab r) r) (cut ∙ ap (λ k. drop k text) start)
