-- Plain runs, and the words of the texts that they begin.
use Rattle.std.proofs.Common.{◌≡◌, ℕ, ◌+◌, ◌<◌, ◌≤◌, List, [], ◌∷◌, ◌++◌, Bool, true, false, not, ◌&&◌, ◌||◌, ◌==◌, if◌then◌else◌, refl, ap, ap₂, sym, subst, ◌∙◌, arith}
use Rattle.std.proofs.Common.{append-nil, append_assoc, chars, drop, eqb-true, get_or, length, inl, inr, length-append, take, IsAscii}
use Rattle.std.specs.Borrow.{Bor}
use Rattle.std.specs.Prelude.{IfSome, Option, None, Some, map as mapped, nat_le}
use Rattle.std.specs.Char.{is_ascii, is_ascii_alphanumeric, is_ascii_digit, is_ascii_lowercase, to_ascii_lowercase}
use Rattle.std.specs.Int.{is_in_range}
use Rattle.std.specs.List.{list_all}
use Rattle.std.proofs.lemmas.Bool.{agree_below_at, cases_lt, leb-true, ltb-true}
use Rattle.std.proofs.lemmas.List.{drop_more, take-append-drop}
use Rattle.std.proofs.lemmas.Str.{chars-append, chars-IsAscii, chars-nil, IsUtf8-from_ascii}
use Rattle.std.proofs.lemmas.Str.Ascii.{IsAscii-cons, IsAscii-nil}
use Rattle.doc_page_parts.proofs.Bools.{and_first, and_second, clash}
use Rattle.doc_words_search.specs.Words.{folded, is_word_char, words_of}
use Rattle.doc_words_search.specs.WordSteps.{IsRun, is_plain, own_word, word_if, words_after}
use Rattle.doc_words_search.proofs.AsciiSteps.{ascii_folded, ascii_word_char}
use Rattle.doc_words_search.proofs.RunSteps.{from_start}

-- plain characters are of ASCII
in_ascii : (c : ℕ) → is_plain c ≡ true → c < 128
in_ascii c plain = by (is_ascii_lowercase c) refl plain
  where
    below : (low high : ℕ) → is_in_range low high c ≡ true → high < 128 → c < 128
    below low high e bound =
        let within : c ≤ high = leb-true c high (and_second (nat_le low c) (nat_le c high) e) in omega (arith, within, bound)

    by : (b : Bool) → is_ascii_lowercase c ≡ b → (b || is_ascii_digit c) ≡ true → c < 128
    by true e h = below 97 122 e (omega arith)
    by false e h = below 48 57 h (omega arith)

-- they stand in words
stands : (c : ℕ) → is_plain c ≡ true → is_word_char c ≡ true
stands c plain =
    let ascii : is_ascii c ≡ true = ascii_test c (in_ascii c plain) in
    sym (ascii_word_char c ascii)
    ∙ subst (λ b. (not b || is_ascii_alphanumeric c) ≡ true) plain
    (agree_below_at (λ k. not (is_plain k) || is_ascii_alphanumeric k) (λ _. true) 128 c refl (in_ascii c plain))
  where
    ascii_test : (c : ℕ) → c < 128 → is_ascii c ≡ true
    ascii_test c low = agree_below_at is_ascii (λ _. true) 128 c refl low

-- and are small
small : (c : ℕ) → is_plain c ≡ true → to_ascii_lowercase c ≡ c
small c plain =
    eqb-true (to_ascii_lowercase c) c
    (subst (λ b. (not b || (to_ascii_lowercase c == c)) ≡ true) plain
    (agree_below_at (λ k. not (is_plain k) || (to_ascii_lowercase k == k)) (λ _. true) 128 c refl (in_ascii c plain)))

all_ascii : (run : List ℕ) → list_all is_plain run ≡ true → IsAscii run
all_ascii [] plain = IsAscii-nil
all_ascii (c ∷ run) plain =
    IsAscii-cons c run (in_ascii c (and_first (is_plain c) (list_all is_plain run) plain))
    (all_ascii run (and_second (is_plain c) (list_all is_plain run) plain))

all_stand : (run : List ℕ) → list_all is_plain run ≡ true → list_all is_word_char run ≡ true
all_stand [] plain = refl
all_stand (c ∷ run) plain =
    ap₂ (λ a b. a && b) (stands c (and_first (is_plain c) (list_all is_plain run) plain))
    (all_stand run (and_second (is_plain c) (list_all is_plain run) plain))

all_small : (run : List ℕ) → list_all is_plain run ≡ true → mapped to_ascii_lowercase run ≡ run
all_small [] plain = refl
all_small (c ∷ run) plain =
    ap₂ (λ a b. a ∷ b) (small c (and_first (is_plain c) (list_all is_plain run) plain))
    (all_small run (and_second (is_plain c) (list_all is_plain run) plain))

-- a plain run is its own word
pub own : (run : List ℕ) → list_all is_plain run ≡ true → word_if run ≡ own_word run
own [] plain = refl
own (c ∷ run) plain =
    let ascii : IsAscii (c ∷ run) = all_ascii (c ∷ run) plain in
    ap (λ w. w ∷ []) (ap folded (sym (chars-IsAscii (c ∷ run) ascii)) ∙ sym (ascii_folded (c ∷ run) ascii) ∙ all_small (c ∷ run) plain)

-- characters of words go onto the run
passes : (r run rest : List ℕ) → list_all is_word_char run ≡ true → words_after r (run ++ rest) ≡ words_after (r ++ run) rest
passes r [] rest e = ap (λ x. words_after x rest) (sym (append-nil r))
passes r (c ∷ run) rest e =
    ap (λ b. if b then words_after (r ++ c ∷ []) (run ++ rest) else word_if r ++ words_after [] (run ++ rest))
    (and_first (is_word_char c) (list_all is_word_char run) e)
    ∙ passes (r ++ c ∷ []) run rest (and_second (is_word_char c) (list_all is_word_char run) e)
    ∙ ap (λ x. words_after x rest) (append_assoc r (c ∷ []) run)

pub no_words : words_of [] ≡ []
no_words = sym (from_start []) ∙ ap (words_after []) chars-nil

-- a text that is a run
pub at_end : (text : List ℕ) → IsRun text → words_of text ≡ word_if text ++ words_of []
at_end text run =
    sym (from_start text) ∙ ap (words_after []) (chars-IsAscii text run.0 ∙ sym (append-nil text))
    ∙ passes [] text [] run.1 ∙ sym (ap (λ ws. word_if text ++ ws) no_words ∙ append-nil (word_if text))

-- the byte behind a run
abbrev ends_word : ℕ → Bool
ends_word b = is_ascii b && not (is_ascii_alphanumeric b)

gap_ascii : (b : ℕ) → ends_word b ≡ true → IsAscii (b ∷ [])
gap_ascii b e = IsAscii-cons b [] (ltb-true b 128 (and_first (is_ascii b) (not (is_ascii_alphanumeric b)) e)) IsAscii-nil

gap_ends : (b : ℕ) → ends_word b ≡ true → is_word_char b ≡ false
gap_ends b e =
    sym (ascii_word_char b (and_first (is_ascii b) (not (is_ascii_alphanumeric b)) e))
    ∙ other (is_ascii_alphanumeric b) (and_second (is_ascii b) (not (is_ascii_alphanumeric b)) e)
  where
    other : (t : Bool) → not t ≡ true → t ≡ false
    other true h = sym h
    other false h = refl

-- the characters of a text that such a run and byte begin
pub parted : (text : List ℕ) (end : ℕ) → end < length text → IsRun (take end text) → ends_word (get_or text end 0) ≡ true
    → chars text ≡ take end text ++ get_or text end 0 ∷ chars (drop (end + 1) text)
parted text end low run gap =
    let one : IsAscii (get_or text end 0 ∷ []) = gap_ascii (get_or text end 0) gap in
    ap chars (sym (take-append-drop end text) ∙ ap (λ t. take end text ++ t) (drop_more text end 0 low))
    ∙ chars-append (take end text) (get_or text end 0 ∷ drop (end + 1) text) (IsUtf8-from_ascii (take end text) run.0)
    ∙ ap₂ (λ a b. a ++ b) (chars-IsAscii (take end text) run.0)
    (chars-append (get_or text end 0 ∷ []) (drop (end + 1) text) (IsUtf8-from_ascii (get_or text end 0 ∷ []) one)
    ∙ ap (λ a. a ++ chars (drop (end + 1) text)) (chars-IsAscii (get_or text end 0 ∷ []) one))

pub at_gap : (text : List ℕ) (end : ℕ) → end < length text → IsRun (take end text) → ends_word (get_or text end 0) ≡ true
    → words_of text ≡ word_if (take end text) ++ words_of (drop (end + 1) text)
at_gap text end low run gap =
    let b : ℕ = get_or text end 0 in
    let rest : List ℕ = chars (drop (end + 1) text) in
    sym (from_start text) ∙ ap (words_after []) (parted text end low run gap)
    ∙ passes [] (take end text) (b ∷ rest) run.1
    ∙ ap (λ t. if t then words_after (take end text ++ b ∷ []) rest else word_if (take end text) ++ words_after [] rest) (gap_ends b gap)
    ∙ ap (λ ws. word_if (take end text) ++ ws) (from_start (drop (end + 1) text))

pub fewer : (text : List ℕ) (end : ℕ) → end < length text → IsRun (take end text) → ends_word (get_or text end 0) ≡ true
    → length (chars (drop (end + 1) text)) < length (chars text)
fewer text end low run gap =
    let all : length (chars text) ≡ length (take end text) + length (get_or text end 0 ∷ chars (drop (end + 1) text)) =
    ap length (parted text end low run gap) ∙ length-append (take end text) (get_or text end 0 ∷ chars (drop (end + 1) text)) in
    omega arith

-- where a run ends at a byte that ends words
pub record EndsAt (text : List ℕ) (end : ℕ) : Type 0 where
  pub low : end < length text
  pub run : IsRun (take end text)
  pub gap : ends_word (get_or text end 0) ≡ true

pub ends_at : (bytes text : List ℕ) (end : ℕ) (test : Bool) → bytes ≡ text → end ≤ length text → (end ≡ length bytes → ⊥)
    → IsRun (take end text) → test ≡ ends_word (get_or bytes end 0) → test ≡ true → EndsAt text end
ends_at bytes text end test same within other run is holds = record {
  low = less end (length text) within (λ e. other (e ∙ ap length (sym same)));
  run = run;
  gap = subst (λ t. ends_word (get_or t end 0) ≡ true) same (sym is ∙ holds);
}
  where
    less : (m n : ℕ) → m ≤ n → (m ≡ n → ⊥) → m < n
    less m n le ne = elim (cases_lt m n) [
      | inl low ↦ low
      | inr rest ↦ absurd (ne (omega (arith, le, rest)))
    ]

pub gap_low : (text : List ℕ) (end : ℕ) → EndsAt text end → get_or text end 0 < 128
gap_low text end at =
    ltb-true (get_or text end 0) 128 (and_first (is_ascii (get_or text end 0)) (not (is_ascii_alphanumeric (get_or text end 0))) at.gap)

-- past ASCII there are no letters of it
no_letter : (c : ℕ) → 128 ≤ c → is_ascii_alphanumeric c ≡ false
no_letter c high = by (is_in_range 48 57 c) refl (is_in_range 65 90 c) refl (is_in_range 97 122 c) refl
  where
    past : (low top : ℕ) → top < 128 → is_in_range low top c ≡ true → ⊥
    past low top below e =
        let within : c ≤ top = leb-true c top (and_second (nat_le low c) (nat_le c top) e) in omega (arith, within, below, high)

    by : (x : Bool) → is_in_range 48 57 c ≡ x → (y : Bool) → is_in_range 65 90 c ≡ y → (z : Bool) → is_in_range 97 122 c ≡ z
        → ((x || y) || z) ≡ false
    by true e y f z g = absurd (past 48 57 (omega arith) e)
    by false e true f z g = absurd (past 65 90 (omega arith) f)
    by false e false f true g = absurd (past 97 122 (omega arith) g)
    by false e false f false g = refl

-- letters and digits of ASCII are a run
pub letters_run : (run : List ℕ) → list_all is_ascii_alphanumeric run ≡ true → IsRun run
letters_run [] all = (IsAscii-nil, refl)
letters_run (c ∷ run) all =
    let letter : is_ascii_alphanumeric c ≡ true = and_first (is_ascii_alphanumeric c) (list_all is_ascii_alphanumeric run) all in
    let more : IsRun run = letters_run run (and_second (is_ascii_alphanumeric c) (list_all is_ascii_alphanumeric run) all) in
    let low : c < 128 = letter_ascii c letter in (
      IsAscii-cons c run low more.0,
      ap₂ (λ a b. a && b) (sym (ascii_word_char c (agree_below_at is_ascii (λ _. true) 128 c refl low)) ∙ letter) more.1,
    )
  where
    letter_ascii : (c : ℕ) → is_ascii_alphanumeric c ≡ true → c < 128
    letter_ascii c letter = elim (cases_lt c 128) [
      | inl low ↦ low
      | inr rest ↦ absurd (clash (is_ascii_alphanumeric c) letter (no_letter c rest))
    ]

-- a plain run is one
pub plain_run : (run : List ℕ) → list_all is_plain run ≡ true → IsRun run
plain_run run plain = (all_ascii run plain, all_stand run plain)

-- the word of a plain run
pub own_words : (found : Option (Bor (List ℕ) × Bor (List ℕ))) (text front : List ℕ) → list_all is_plain front ≡ true
    → IfSome found (λ run. run.0.now ≡ front) → IfSome found (λ run. words_of text ≡ word_if run.0.now ++ words_of run.1.now)
    → IfSome found (λ run. words_of text ≡ own_word run.0.now ++ words_of run.1.now)
own_words None text front plain is words = tt
own_words (Some run) text front plain is words =
    words ∙ ap (λ w. w ++ words_of run.1.now) (ap word_if is ∙ own front plain ∙ ap own_word (sym is))
