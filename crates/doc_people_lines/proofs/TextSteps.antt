-- Places cut behind their last `/`.
use Rattle.std.proofs.Common.{◌≡◌, ℕ, ◌+◌, ◌-◌, ◌<◌, ◌≤◌, List, length, get_or, take, Bool, false, ap, sym, ◌∙◌, arith, inl, inr, subst}
use Rattle.std.specs.Prelude.{not, reverse}
use Rattle.std.specs.List.{suffix_len}
use Rattle.std.specs.Str.{IsUtf8, IsCharBoundary}
use Rattle.std.proofs.lemmas.Bool.{cases_lt, eqb-true, not-false}
use Rattle.std.proofs.lemmas.List.{get_or-reverse, get_or-take, length-reverse, length-take}
use Rattle.std.proofs.lemmas.List.Sums.{prefix_len_stops}
use Rattle.std.proofs.Math.Seq.{take-length}
use Rattle.std.proofs.lemmas.Str.{IsCharBoundary-after_ascii, IsCharBoundary-start}
use Rattle.doc_people.specs.Folders.{is_slash}

-- a byte that ends no segment
abbrev pub goes_on : ℕ → Bool
goes_on b = not (is_slash b)

-- where the folder at the start of a text ends
abbrev pub folder_end : List ℕ → ℕ
folder_end bs = length bs - suffix_len goes_on bs

-- a `/` stands before that place
slash_before : (bs : List ℕ) → 0 < folder_end bs → get_or bs (folder_end bs - 1) 0 ≡ 47
slash_before bs some =
    let k = suffix_len goes_on bs in
    let within : k < length bs = omega arith in
    let stops : goes_on (get_or (reverse bs) k 0) ≡ false = prefix_len_stops goes_on (reverse bs) 0 (omega (arith, length-reverse bs)) in
    let same : get_or (reverse bs) k 0 ≡ get_or bs (length bs - 1 - k) 0 = get_or-reverse bs k 0 within in
    let place : folder_end bs - 1 ≡ length bs - 1 - k = omega arith in
    ap (λ n. get_or bs n 0) place ∙ sym same ∙ eqb-true _ 47 (not-false _ stops)

-- a text may be cut where the folder ends at the start of a part of it
pub cut_behind : (bs ds : List ℕ) (m n : ℕ) → IsUtf8 bs → ds ≡ take m bs → m ≤ length bs → n ≡ folder_end ds → IsCharBoundary bs n
cut_behind bs ds m n utf8 front fits e =
    elim (cases_lt 0 n) [
      | inl more ↦
          let long : length ds ≡ m = ap length front ∙ (omega (arith, length-take m bs)) in
          let some : 0 < folder_end ds = omega (arith, e) in
          let last : get_or ds (folder_end ds - 1) 0 ≡ 47 = slash_before ds some in
          let there : get_or bs (n - 1) 0 ≡ 47 =
          sym (get_or-take m bs (n - 1) 0 (omega (arith, e, long))) ∙ ap (λ l. get_or l (n - 1) 0) (sym front)
          ∙ ap (λ k. get_or ds (k - 1) 0) e ∙ last in
          let place : n ≡ (n - 1) + 1 = omega arith in
          let P : ℕ → Type 0 = λ k. IsCharBoundary bs k in
          subst P (sym place) (IsCharBoundary-after_ascii bs (n - 1) utf8 (omega (arith, e, long)) (omega (arith, there)))
      | inr none ↦
          let place : 0 ≡ n = omega arith in
          let P : ℕ → Type 0 = λ k. IsCharBoundary bs k in
          subst P place (IsCharBoundary-start bs utf8)
    ]

-- the whole of it
pub cut_behind_whole : (bs ds : List ℕ) (n : ℕ) → IsUtf8 bs → ds ≡ bs → n ≡ folder_end ds → IsCharBoundary bs n
cut_behind_whole bs ds n utf8 same e = cut_behind bs ds (length bs) n utf8 (same ∙ sym (take-length bs)) (omega arith) e
