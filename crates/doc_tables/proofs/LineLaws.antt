-- The first line of a text, and the last one, from where a search for a LF stops.
use Rattle.std.proofs.Common.{◌≡◌, ◌∙◌, ℕ, ◌+◌, ◌-◌, ◌≤◌, Bool, true, false, not, ◌==◌, List, [], ◌∷◌, ◌++◌, append-nil, length}
use Rattle.std.proofs.Common.{take, drop, get_or, chars, refl, ap, sym, subst, arith, Option, Some, None}
use Rattle.std.specs.Prelude.{slice_index}
use Rattle.std.specs.List.{list_all}
use Rattle.std.specs.Str.{IsUtf8, IsCharBoundary}
use Rattle.std.proofs.lemmas.Bool.{and_parts}
use Rattle.std.proofs.lemmas.Bool.Decides.{nat_tests}
use Rattle.std.proofs.lemmas.List.{append_cancel_right, take-append-drop, drop_more, get_or-drop, length-drop}
use Rattle.std.proofs.lemmas.List.Sums.{list_all-from_AllPass}
use Rattle.std.proofs.lemmas.Grind.{get_or_default_zero}
use Rattle.std.proofs.lemmas.Str.{IsCharBoundary-before_ascii, IsCharBoundary-after_ascii, IsUtf8-take, IsUtf8-drop, chars-append}
use Rattle.std.proofs.lemmas.Str.{encode_ascii, encodes-chars, chars_past_char}
use Rattle.memchr.specs.Find.{Passes, Nowhere, NoneBefore, NoneAfter, is_byte}
use Rattle.doc_rules.specs.Characters.{Text}
use Rattle.doc_rules.specs.Lines.{onto_first}
use Rattle.doc_rules.specs.Parsers.{is}
use Rattle.doc_rules.specs.Rests.{IsRest}
use Rattle.doc_rules.specs.Tables.{text_lines}
use Rattle.doc_lines.proofs.ByteSearch.{IsMissedBefore, outside, stops_at, stops_nowhere}
use Rattle.doc_lines.specs.RestSteps.{IsAsciiClass, IsCutBefore}
use Rattle.doc_blocks_starts.specs.Tables.{lines_in}
use Rattle.doc_tables.specs.LineSteps.{last_of, last_line}
use Rattle.doc_tables.proofs.TableLaws.{lines_join}

-- the class of LF alone
abbrev pub is_feed : ℕ → Bool
is_feed c = c == 10

-- no LF stands in a text
abbrev pub HasNoFeed : Text → Type 0
HasNoFeed text = list_all (λ c. not (is_feed c)) text ≡ true

feeds_are_ascii : IsAsciiClass is_feed
feeds_are_ascii c e = grind (arith, nat_tests)

-- ---- one line

is_not : (b : Bool) → not b ≡ true → b ≡ false
is_not true e = absurd cc
is_not false e = refl

lines_by : Bool → ℕ → Text → List Text
lines_by b c rest = elim b [ true ↦ [] ∷ text_lines rest | false ↦ onto_first c (text_lines rest) ]

lines_at : (c : ℕ) (rest : Text) (b : Bool) → (c == 10) ≡ b → text_lines (c ∷ rest) ≡ lines_by b c rest
unfolding text_lines lines_by
lines_at c rest b e = ap (λ (x : Bool). lines_by x c rest) e

-- a text without LFs is one line
pub one_line : (text : Text) → HasNoFeed text → text_lines text ≡ text ∷ []
unfolding text_lines lines_by onto_first
one_line [] e = refl
one_line (c ∷ rest) e =
    let parts = and_parts (not (c == 10)) (list_all (λ d. not (is_feed d)) rest) e in
    lines_at c rest false (is_not (c == 10) parts.0) ∙ ap (onto_first c) (one_line rest parts.1)

-- ---- the first line

first_behind : (line end : Text) (rest : Option Text) → HasNoFeed line → (b : Bool) (c : ℕ) (more : Text) → end ≡ c ∷ more → (c == 10) ≡ b
    → b ≡ true → rest ≡ elim b [ true ↦ Some more | false ↦ None ] → text_lines (line ++ end) ≡ line ∷ lines_in rest
first_behind line end rest none true c more e f g h =
    let feed : c ≡ 10 = grind (arith, nat_tests) in
    ap (λ (t : Text). text_lines (line ++ t)) (e ∙ ap (λ (n : ℕ). n ∷ more) feed)
    ∙ lines_join line more
    ∙ ap (λ (l : List Text). l ++ text_lines more) (one_line line none)
    ∙ ap (λ (o : Option Text). line ∷ lines_in o) (sym h)
first_behind line end rest none false c more e f g h = absurd cc

first_at : (line end : Text) (rest : Option Text) → HasNoFeed line → IsCutBefore is_feed (line ++ end) end → rest ≡ is 10 end
    → text_lines (line ++ end) ≡ line ∷ lines_in rest
first_at line [] rest none cut h =
    ap text_lines (append-nil line) ∙ one_line line none ∙ ap (λ (o : Option Text). line ∷ lines_in o) (sym h)
first_at line (c ∷ more) rest none cut h = first_behind line (c ∷ more) rest none (c == 10) c more refl refl cut.stop h

pub first_line_is : (text line end : Text) (rest : Option Text) → IsCutBefore is_feed text end → text ≡ line ++ end → rest ≡ is 10 end
    → text_lines text ≡ line ∷ lines_in rest
first_line_is text line end rest cut e h =
    let same : cut.front ≡ line = append_cancel_right cut.front line end (sym cut.split ∙ e) in
    let none : HasNoFeed line = subst HasNoFeed same cut.outside in
    ap text_lines e ∙ first_at line end rest none (subst (λ (t : Text). IsCutBefore is_feed t end) e cut) h

pub rest_of_cut : (text end : Text) → IsCutBefore is_feed text end → IsRest end text
rest_of_cut text end cut = record { front = cut.front; split = cut.split }

-- ---- where a search from the front stops

is_false : (b : Bool) → ¬ (b ≡ true) → b ≡ false
is_false true h = absurd (h refl)
is_false false h = refl

abbrev IsFeed : List ℕ → ℕ → Type 0
IsFeed text = Passes (is_byte 10) text

missed_before : (text : List ℕ) (n : ℕ) → Nowhere (IsFeed text) 0 n → IsMissedBefore is_feed text n
missed_before text n h k less = is_false (is_byte 10 (slice_index text k)) (h k (omega arith) less)

pub feed_found : (text searched : List ℕ) (n : ℕ) → searched ≡ text
    → NoneBefore (IsFeed searched) 0 (length searched) n × IsFeed searched n → NoneBefore (IsFeed text) 0 (length text) n × IsFeed text n
feed_found text searched n e h = subst (λ (t : List ℕ). NoneBefore (IsFeed t) 0 (length t) n × IsFeed t n) e h

pub feed_at_boundary : (text : List ℕ) (n : ℕ) → NoneBefore (IsFeed text) 0 (length text) n × IsFeed text n → IsCharBoundary text n
feed_at_boundary text n h = IsCharBoundary-before_ascii text n h.0.high (feeds_are_ascii (slice_index text n) h.1)

pub cut_at_feed : (text rest : List ℕ) (n : ℕ) → IsUtf8 text → NoneBefore (IsFeed text) 0 (length text) n × IsFeed text n
    → rest ≡ drop n text → IsCutBefore is_feed (chars text) (chars rest)
cut_at_feed text rest n utf8 h e = stops_at is_feed feeds_are_ascii text rest n utf8 h.0.high (missed_before text n h.0.before) h.1 e

pub cut_nowhere : (text searched : List ℕ) → searched ≡ text → IsUtf8 text → Nowhere (IsFeed searched) 0 (length searched)
    → IsCutBefore is_feed (chars text) (chars [])
cut_nowhere text searched e utf8 h =
    let none : Nowhere (IsFeed text) 0 (length text) = subst (λ (t : List ℕ). Nowhere (IsFeed t) 0 (length t)) e h in
    stops_nowhere is_feed feeds_are_ascii text (length text) utf8 (omega arith) (missed_before text (length text) none)

-- ---- the last line

last_is : (lines : List Text) (line : Text) → last_of (lines ++ line ∷ []) ≡ line
unfolding last_of
last_is [] line = refl
last_is (first ∷ []) line = refl
last_is (first ∷ next ∷ more) line = last_is (next ∷ more) line

last_behind : (front line : Text) → HasNoFeed line → last_line (front ++ 10 ∷ line) ≡ line
last_behind front line none =
    ap last_of (lines_join front line ∙ ap (λ (l : List Text). text_lines front ++ l) (one_line line none))
    ∙ last_is (text_lines front) line

only_line : (text : Text) → HasNoFeed text → last_line text ≡ text
only_line text none = ap last_of (one_line text none) ∙ last_is [] text

pub last_found : (text searched : List ℕ) (n : ℕ) → searched ≡ text
    → NoneAfter (IsFeed searched) 0 (length searched) n × IsFeed searched n → NoneAfter (IsFeed text) 0 (length text) n × IsFeed text n
last_found text searched n e h = subst (λ (t : List ℕ). NoneAfter (IsFeed t) 0 (length t) n × IsFeed t n) e h

pub behind_feed : (text : List ℕ) (n : ℕ) → IsUtf8 text → NoneAfter (IsFeed text) 0 (length text) n × IsFeed text n
    → IsCharBoundary text (n + 1)
behind_feed text n utf8 h = IsCharBoundary-after_ascii text n utf8 h.0.high (feeds_are_ascii (slice_index text n) h.1)

bytes_behind : (text : List ℕ) (n : ℕ) → Nowhere (IsFeed text) n (length text) → n ≤ length text
    → list_all (λ b. not (is_feed b)) (drop n text) ≡ true
bytes_behind text n none within =
    list_all-from_AllPass (λ b. not (is_feed b)) (drop n text) (λ k d less.
    let size : length (drop n text) ≡ length text - n = length-drop n text in
    let here : get_or (drop n text) k d ≡ get_or text (n + k) 0 = get_or-drop n text k d
    ∙ get_or_default_zero text (n + k) d (omega arith) in
    ap (λ b. not (is_feed b)) here ∙ ap not (is_false (is_byte 10 (slice_index text (n + k))) (none (n + k) (omega arith) (omega arith))))

chars_behind : (text : List ℕ) (n : ℕ) → IsUtf8 text → IsCharBoundary text n → Nowhere (IsFeed text) n (length text) → n ≤ length text
    → HasNoFeed (chars (drop n text))
chars_behind text n utf8 at none within =
    outside is_feed feeds_are_ascii (chars (drop n text))
    (ap (list_all (λ b. not (is_feed b))) (encodes-chars (drop n text) (IsUtf8-drop text n utf8 at)) ∙ bytes_behind text n none within)

pub last_line_is : (text line : List ℕ) (n : ℕ) → IsUtf8 text → NoneAfter (IsFeed text) 0 (length text) n × IsFeed text n
    → line ≡ drop (n + 1) text → chars line ≡ last_line (chars text)
last_line_is text line n utf8 h e =
    let feed : slice_index text n ≡ 10 = grind (arith, nat_tests, h.1) in
    let at : IsCharBoundary text n = IsCharBoundary-before_ascii text n h.0.high (feeds_are_ascii (slice_index text n) h.1) in
    let utf8_rest : IsUtf8 (drop n text) = IsUtf8-drop text n utf8 at in
    let spelt : chars (drop n text) ≡ 10 ∷ chars (drop (n + 1) text) =
    chars_past_char (drop n text) (drop (n + 1) text) 10 utf8_rest
    (drop_more text n 0 h.0.high ∙ ap (λ (b : ℕ). b ∷ drop (n + 1) text) feed
    ∙ ap (λ (f : List ℕ). f ++ drop (n + 1) text) (sym (encode_ascii 10 (omega arith)))) in
    let whole : chars text ≡ chars (take n text) ++ 10 ∷ chars (drop (n + 1) text) =
    ap chars (sym (take-append-drop n text)) ∙ chars-append (take n text) (drop n text) (IsUtf8-take text n utf8 at)
    ∙ ap (λ (t : Text). chars (take n text) ++ t) spelt in
    ap chars e
    ∙ sym (ap last_line whole
    ∙ last_behind (chars (take n text)) (chars (drop (n + 1) text))
    (chars_behind text (n + 1) utf8 (behind_feed text n utf8 h) h.0.after (omega (arith, h.0.high))))

pub whole_line_is : (text searched : List ℕ) → searched ≡ text → IsUtf8 text → Nowhere (IsFeed searched) 0 (length searched)
    → chars text ≡ last_line (chars text)
whole_line_is text searched e utf8 h =
    let none : Nowhere (IsFeed text) 0 (length text) = subst (λ (t : List ℕ). Nowhere (IsFeed t) 0 (length t)) e h in
    let bytes : list_all (λ b. not (is_feed b)) text ≡ true = bytes_behind text 0 none (omega arith) in
    sym (only_line (chars text) (outside is_feed feeds_are_ascii (chars text)
    (ap (list_all (λ b. not (is_feed b))) (encodes-chars text utf8) ∙ bytes)))
