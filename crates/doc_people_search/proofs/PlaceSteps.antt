-- Where snippets begin and end.
use Rattle.std.proofs.Common.{◌≡◌, ℕ, ◌+◌, ◌-◌, ◌<◌, ◌≤◌, List, [], ◌∷◌, ◌++◌, Bool, true, false, cond, if◌then◌else◌, ap, sym, ◌∙◌, arith}
use Rattle.std.proofs.Common.{add-zero, chars, drop, length, length-append, length-take, not, take}
use Rattle.std.specs.List.{list_any, prefix_len, suffix_len}
use Rattle.std.specs.Str.{IsUtf8}
use Rattle.std.proofs.lemmas.Bool.{le-leb, lt-leb}
use Rattle.std.proofs.lemmas.List.{reverse-append}
use Rattle.std.proofs.lemmas.List.Sums.{prefix_len-le-length}
use Rattle.doc_rules.specs.Characters.{is_white}
use Rattle.doc_people.specs.Snippets.{end_after, end_among, start_before}
use Rattle.doc_people_search.proofs.PartSteps.{chars_fit}

-- ---- where it begins

pub lead_is_short : (n : ℕ) (lead rest : List ℕ) → n ≡ prefix_len (λ c. not (is_white c)) lead → lead ≡ take 60 rest → n ≤ 60
lead_is_short n lead rest is front =
    let all : prefix_len (λ c. not (is_white c)) lead ≤ length lead = prefix_len-le-length (λ c. not (is_white c)) lead in
    let few : length lead ≡ length (take 60 rest) = ap length front in
    omega (arith, length-take 60 rest)

pub starts_at_front : (at : ℕ) (cs : List ℕ) → at ≤ 60 → 0 ≡ start_before at cs
starts_at_front at cs near =
    sym (ap (λ b. if b then 0 else at - 60 + prefix_len (λ c. not (is_white c)) (take 60 (drop (at - 60 - 1) cs))) (le-leb at 60 near))

pub starts_later : (at n : ℕ) (cs rest lead : List ℕ) → 60 < at → rest ≡ drop (at - 60 - 1) cs → lead ≡ take 60 rest
    → n ≡ prefix_len (λ c. not (is_white c)) lead → at - 60 + n ≡ start_before at cs
starts_later at n cs rest lead far r l is =
    ap (λ k. at - 60 + k) (is ∙ ap (prefix_len (λ c. not (is_white c))) (l ∙ ap (take 60) r))
    ∙ sym (ap (λ b. if b then 0 else at - 60 + prefix_len (λ c. not (is_white c)) (take 60 (drop (at - 60 - 1) cs))) (lt-leb at 60 far))

-- ---- where it ends

pub ends_with_text : (start count : ℕ) (cs : List ℕ) → count ≡ length cs → count - start ≤ 200 → count ≡ end_after start cs
ends_with_text start count cs is near =
    let short : length cs ≤ start + 200 = omega arith in
    is ∙ sym (ap (λ b. if b then length cs else end_among start (take 200 (drop (start + 1) cs))) (le-leb (length cs) (start + 200) short))

pub ends_before : (start count end : ℕ) (cs rest following : List ℕ) → count ≡ length cs → 200 < count - start
    → rest ≡ drop (start + 1) cs → following ≡ take 200 rest → end ≡ end_among start following → end ≡ end_after start cs
ends_before start count end cs rest following is far r f e =
    let long : start + 200 < length cs = omega arith in
    e ∙ ap (end_among start) (f ∙ ap (take 200) r)
    ∙ sym (ap (λ b. if b then length cs else end_among start (take 200 (drop (start + 1) cs))) (lt-leb (length cs) (start + 200) long))

pub ends_at_space : (start end behind : ℕ) (following : List ℕ) (any : Bool) → any ≡ list_any is_white following → any ≡ true
    → behind ≡ suffix_len (λ c. not (is_white c)) following → end ≡ start + 200 - behind → end ≡ end_among start following
ends_at_space start end behind following any is on b e =
    e ∙ ap (λ k. start + 200 - k) b
    ∙ sym (ap (λ t. if t then start + 200 - suffix_len (λ c. not (is_white c)) following else start + 200) (sym is ∙ on))

pub ends_at_limit : (start : ℕ) (following : List ℕ) (any : Bool) → any ≡ list_any is_white following → any ≡ false
    → start + 200 ≡ end_among start following
ends_at_limit start following any is off =
    sym (ap (λ t. if t then start + 200 - suffix_len (λ c. not (is_white c)) following else start + 200) (sym is ∙ off))

-- ---- the last word of a text

suffix_push : (cs : List ℕ) (c : ℕ)
    → suffix_len (λ c. not (is_white c)) (cs ++ c ∷ []) ≡ cond (not (is_white c)) (1 + suffix_len (λ c. not (is_white c)) cs) 0
suffix_push cs c = ap (prefix_len (λ c. not (is_white c))) (reverse-append cs (c ∷ []))

pub last_stops : (count c : ℕ) (text front rest : List ℕ) (white : Bool)
    → suffix_len (λ c. not (is_white c)) text ≡ count + suffix_len (λ c. not (is_white c)) front → front ≡ rest ++ c ∷ []
    → white ≡ is_white c → white ≡ true → count ≡ suffix_len (λ c. not (is_white c)) text
last_stops count c text front rest white same is w on =
    sym (same ∙ ap (λ f. count + suffix_len (λ c. not (is_white c)) f) is ∙ ap (λ n. count + n) (suffix_push rest c)
    ∙ ap (λ b. count + cond (not b) (1 + suffix_len (λ c. not (is_white c)) rest) 0) (sym w ∙ on) ∙ add-zero count)

pub last_ends : (count : ℕ) (text front : List ℕ)
    → suffix_len (λ c. not (is_white c)) text ≡ count + suffix_len (λ c. not (is_white c)) front → front ≡ []
    → count ≡ suffix_len (λ c. not (is_white c)) text
last_ends count text front same none =
    sym (same ∙ ap (λ f. count + suffix_len (λ c. not (is_white c)) f) none ∙ add-zero count)

pub last_goes_on : (count c : ℕ) (text front rest : List ℕ) (white : Bool)
    → suffix_len (λ c. not (is_white c)) text ≡ count + suffix_len (λ c. not (is_white c)) front → front ≡ rest ++ c ∷ []
    → white ≡ is_white c → white ≡ false
    → suffix_len (λ c. not (is_white c)) text ≡ (count + 1) + suffix_len (λ c. not (is_white c)) rest
last_goes_on count c text front rest white same is w off =
    same ∙ ap (λ f. count + suffix_len (λ c. not (is_white c)) f) is ∙ ap (λ n. count + n) (suffix_push rest c)
    ∙ ap (λ b. count + cond (not b) (1 + suffix_len (λ c. not (is_white c)) rest) 0) (sym w ∙ off)
    ∙ omega arith

pub word_fits : (count c : ℕ) (bytes front rest : List ℕ) → IsUtf8 bytes → count + length front ≡ length (chars bytes)
    → front ≡ rest ++ c ∷ [] → count + 1 ≤ length bytes
word_fits count c bytes front rest u read is =
    let bound : length (chars bytes) ≤ length bytes = chars_fit bytes u in
    let more : length front ≡ length rest + 1 = ap length is ∙ length-append rest (c ∷ []) in
    omega arith
