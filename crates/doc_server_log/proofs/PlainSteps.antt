-- Texts of printable characters; those without quotes and backslashes are written as they are inside strings.
use Rattle.std.proofs.Common.{◌≡◌, ℕ, zero, suc, ◌+◌, ◌-◌, ◌/◌, ◌%◌, ◌<◌, ◌⊎◌, ⊎_elim, Bool, true, false, not, ◌&&◌, ◌||◌, ◌==◌, List, [], ◌∷◌, ◌++◌, length, take, replicate, codes, decimal, refl, ap, subst, ◌∙◌, arith}
use Rattle.std.specs.Prelude.{IsTrue}
use Rattle.std.specs.List.{AllPass, list_all}
use Rattle.std.specs.Char.{is_ascii_uppercase}
use Rattle.std.specs.Fmt.{digit_glyph, digits, digits_onto}
use Rattle.std.proofs.lemmas.Bool.{cond-false, cond_both, not-true}
use Rattle.std.proofs.lemmas.Bool.Decides.{nat_tests}
use Rattle.std.proofs.lemmas.List.Elements.{All-nil, All-cons, All-head, All-tail, All-append, All-weaker}
use Rattle.std.proofs.lemmas.List.Sums.{AllPass-from_list_all}
use Rattle.percent_encoding.specs.AsciiSet.{should_percent_encode}
use Rattle.percent_encoding.specs.Percent.{percent_encode, percent_encode_byte}
use Rattle.percent_encoding.proofs.AsciiSetLemmas.{ascii_from_kept}
use Rattle.percent_encoding.proofs.PercentLemmas.{All-percent_encode, All-percent_encode_byte, IsEscapeByte}
use Rattle.doc_server_log.specs.declared.date.Date.{Date}
use Rattle.doc_server_log.specs.declared.reader.Reader.{Reader}
use Rattle.doc_server_log.specs.declared.reader.Reader.TheVariants.{Named, Row, Nobody}
use Rattle.doc_server_log.specs.declared.request_line.TheConstants.{HIDDEN}
use Rattle.doc_server_log.specs.Dates.{date_of}
use Rattle.doc_server_log.specs.JsonLines.{escaped, escaped_byte, is_printable}
use Rattle.doc_server_log.specs.Moments.{fraction, full_date, rfc3339, time_of_day, zero_padded}
use Rattle.doc_server_names.specs.Names.{is_name, is_name_byte}
use Rattle.doc_server_log.specs.Readers.{IsNamed, shown_reader}
use Rattle.doc_server_log.specs.RequestLines.{before_query, is_rooted, is_shown, shown_method, shown_path, shown_target}

-- printable, and neither a quote nor a backslash
abbrev pub is_plain : ℕ → Bool
is_plain b = is_printable b && not ((b == 34) || (b == 92))

abbrev pub Plain : List ℕ → Type 0
Plain text = AllPass is_plain text

abbrev pub Printable : List ℕ → Type 0
Printable text = AllPass is_printable text

left : (x y : Bool) → (x && y) ≡ true → x ≡ true
left true y h = refl
left false y h = h

right : (x y : Bool) → (x && y) ≡ true → y ≡ true
right true y h = h
right false y h = cc

pub printable_from_plain : (text : List ℕ) → Plain text → Printable text
printable_from_plain text plain = All-weaker (λ b. is_plain b ≡ true) (λ b. is_printable b ≡ true)
    (λ b h. left (is_printable b) (not ((b == 34) || (b == 92))) h) text plain

both_plain : (a b : List ℕ) → Plain a → Plain b → Plain (a ++ b)
both_plain a b first second = All-append (λ x. is_plain x ≡ true) a b first second

pub both_printable : (a b : List ℕ) → Printable a → Printable b → Printable (a ++ b)
both_printable a b first second = All-append (λ x. is_printable x ≡ true) a b first second

literal : (text : List ℕ) → list_all is_plain text ≡ true → Plain text
literal text h = AllPass-from_list_all is_plain text h

pub printable_literal : (text : List ℕ) → list_all is_printable text ≡ true → Printable text
printable_literal text h = AllPass-from_list_all is_printable text h

-- ---- inside strings

written_as_it_is : (b : ℕ) → is_plain b ≡ true → escaped_byte b ≡ b ∷ []
written_as_it_is b h =
    cond-false _ _ _ (not-true ((b == 34) || (b == 92)) (right (is_printable b) (not ((b == 34) || (b == 92))) h))

pub nothing_escaped : (text : List ℕ) → Plain text → escaped text ≡ text
unfolding escaped
nothing_escaped [] plain = refl
nothing_escaped (b ∷ text) plain =
    ap (λ front. front ++ escaped text) (written_as_it_is b (All-head (λ x. is_plain x ≡ true) b text plain))
    ∙ ap (λ rest. b ∷ rest) (nothing_escaped text (All-tail (λ x. is_plain x ≡ true) b text plain))

escaped_byte_printable : (b : ℕ) → is_printable b ≡ true → Printable (escaped_byte b)
escaped_byte_printable b h = cond_both ((b == 34) || (b == 92)) (92 ∷ b ∷ []) (b ∷ []) Printable
    (λ _. All-cons (λ x. is_printable x ≡ true) 92 (b ∷ []) refl
    (All-cons (λ x. is_printable x ≡ true) b [] h (All-nil (λ x. is_printable x ≡ true))))
    (λ _. All-cons (λ x. is_printable x ≡ true) b [] h (All-nil (λ x. is_printable x ≡ true)))

pub escaped_printable : (text : List ℕ) → Printable text → Printable (escaped text)
unfolding escaped
escaped_printable [] h = All-nil (λ x. is_printable x ≡ true)
escaped_printable (b ∷ text) h = both_printable (escaped_byte b) (escaped text)
    (escaped_byte_printable b (All-head (λ x. is_printable x ≡ true) b text h))
    (escaped_printable text (All-tail (λ x. is_printable x ≡ true) b text h))

-- ---- numbers

-- what holds of each number below a bound, tried
below_all : (ℕ → Bool) → ℕ → Bool
below_all p zero = true
below_all p (suc n) = p n && below_all p n

last_or_below : (b n : ℕ) → b < suc n → (n ≡ b) ⊎ (b < n)
last_or_below b n small = grind arith

below_all-at : (p : ℕ → Bool) (n b : ℕ) → below_all p n ≡ true → b < n → p b ≡ true
unfolding below_all
below_all-at p zero b h small = absurd (omega arith)
below_all-at p (suc n) b h small = ⊎_elim
    (λ same. subst (λ (x : ℕ). p x ≡ true) same (left (p n) (below_all p n) h))
    (λ less. below_all-at p n b (right (p n) (below_all p n) h) less)
    (last_or_below b n small)

glyphs_tried : below_all (λ x. is_plain (digit_glyph false x)) 10 ≡ true
unfolding below_all
glyphs_tried = refl

glyph_plain : (d : ℕ) → d < 10 → is_plain (digit_glyph false d) ≡ true
glyph_plain d small = below_all-at (λ x. is_plain (digit_glyph false x)) 10 d glyphs_tried small

digits_plain : (k n : ℕ) (end : List ℕ) → Plain end → Plain (digits_onto k 10 false n end)
digits_plain zero n end h = h
digits_plain (suc k) n end h =
    let glyph = All-cons (λ x. is_plain x ≡ true) (digit_glyph false (n % 10)) end (glyph_plain (n % 10) (omega arith)) h in
    cond_both (n / 10 == 0) (digit_glyph false (n % 10) ∷ end) (digits_onto k 10 false (n / 10) (digit_glyph false (n % 10) ∷ end)) Plain
    (λ _. glyph) (λ _. digits_plain k (n / 10) (digit_glyph false (n % 10) ∷ end) glyph)

pub decimal_plain : (n : ℕ) → Plain (decimal n)
unfolding digits
decimal_plain n = digits_plain 64 n [] (All-nil (λ x. is_plain x ≡ true))

zeros_plain : (n : ℕ) → Plain (replicate n 48)
zeros_plain zero = All-nil (λ x. is_plain x ≡ true)
zeros_plain (suc n) = All-cons (λ x. is_plain x ≡ true) 48 (replicate n 48) refl (zeros_plain n)

padded_plain : (width n : ℕ) → Plain (zero_padded width n)
unfolding zero_padded
padded_plain width n =
    both_plain (replicate (width - length (decimal n)) 48) (decimal n) (zeros_plain (width - length (decimal n))) (decimal_plain n)

-- ---- moments

three_plain : (a b c : List ℕ) (mark : ℕ) → is_plain mark ≡ true → Plain a → Plain b → Plain c
    → Plain (a ++ (mark ∷ []) ++ b ++ (mark ∷ []) ++ c)
three_plain a b c mark good first second third =
    let one = All-cons (λ x. is_plain x ≡ true) mark [] good (All-nil (λ x. is_plain x ≡ true)) in
    both_plain (a ++ (mark ∷ []) ++ b ++ (mark ∷ [])) c
    (both_plain (a ++ (mark ∷ []) ++ b) (mark ∷ []) (both_plain (a ++ (mark ∷ [])) b (both_plain a (mark ∷ []) first one) second) one) third

date_plain : (date : Date) → Plain (full_date date)
date_plain date = three_plain (zero_padded 4 date.year) (zero_padded 2 date.month) (zero_padded 2 date.day) 45 refl
    (padded_plain 4 date.year) (padded_plain 2 date.month) (padded_plain 2 date.day)

time_plain : (seconds : ℕ) → Plain (time_of_day seconds)
time_plain seconds = three_plain (zero_padded 2 (seconds / 3600)) (zero_padded 2 (seconds / 60 % 60)) (zero_padded 2 (seconds % 60)) 58 refl
    (padded_plain 2 (seconds / 3600)) (padded_plain 2 (seconds / 60 % 60)) (padded_plain 2 (seconds % 60))

fraction_plain : (micros : ℕ) → Plain (fraction micros)
fraction_plain micros = both_plain (codes "." ++ zero_padded 6 micros) (codes "Z")
    (both_plain (codes ".") (zero_padded 6 micros) (literal (codes ".") refl) (padded_plain 6 micros)) (literal (codes "Z") refl)

pub moment_plain : (micros : ℕ) → Plain (rfc3339 micros)
unfolding rfc3339
moment_plain micros =
    let date = date_of (micros / 1000000 / 86400) in
    let time = time_of_day (micros / 1000000 % 86400) in
    both_plain (full_date date ++ codes "T" ++ time) (fraction (micros % 1000000))
    (both_plain (full_date date ++ codes "T") time (both_plain (full_date date) (codes "T") (date_plain date) (literal (codes "T") refl))
    (time_plain (micros / 1000000 % 86400)))
    (fraction_plain (micros % 1000000))

-- ---- names and methods

name_byte_plain : (b : ℕ) → is_name_byte b ≡ true → is_plain b ≡ true
name_byte_plain b h = grind (arith, nat_tests)

name_plain : (text : List ℕ) → IsTrue (is_name text) → Plain text
unfolding is_name
name_plain text h =
    let bytes = right _ _ (right _ _ h) in
    All-weaker (λ b. is_name_byte b ≡ true) (λ b. is_plain b ≡ true) name_byte_plain text (AllPass-from_list_all is_name_byte text bytes)

pub reader_plain : (reader : Reader) → IsNamed reader → Plain (shown_reader reader)
reader_plain (Named name) good = name_plain name.now good
reader_plain (Row row) good = both_plain (codes "reader-") (decimal row) (literal (codes "reader-") refl) (decimal_plain row)
reader_plain Nobody good = literal (codes "-") refl

capital_plain : (b : ℕ) → is_ascii_uppercase b ≡ true → is_plain b ≡ true
capital_plain b h = grind (arith, nat_tests)

pub method_plain : (method : List ℕ) → Plain (shown_method method)
method_plain method = cond_both (is_shown method) method (codes "-") Plain
    (λ shown. All-weaker (λ b. is_ascii_uppercase b ≡ true) (λ b. is_plain b ≡ true) capital_plain method
    (AllPass-from_list_all is_ascii_uppercase method (right _ _ (right _ _ shown))))
    (λ _. literal (codes "-") refl)

-- ---- targets

escape_byte_plain : (b : ℕ) → IsEscapeByte b → is_plain b ≡ true
escape_byte_plain b h = grind (arith, nat_tests)

pub hidden_plain : (b : ℕ) → Plain (percent_encode_byte b)
hidden_plain b = All-weaker IsEscapeByte (λ x. is_plain x ≡ true) escape_byte_plain (percent_encode_byte b) (All-percent_encode_byte b)

-- each byte of ASCII that isn't written by its number is printable
abbrev is_hidden_or_printable : ℕ → Bool
is_hidden_or_printable b = should_percent_encode HIDDEN b || is_printable b

all_tried : below_all is_hidden_or_printable 128 ≡ true
unfolding below_all should_percent_encode
all_tried = refl

kept_printable : (b : ℕ) → should_percent_encode HIDDEN b ≡ false → is_printable b ≡ true
kept_printable b kept =
    let either = below_all-at is_hidden_or_printable 128 b all_tried (ascii_from_kept HIDDEN b kept) in
    rw kept at either

path_printable : (path : List ℕ) → Printable (shown_path path)
path_printable path = both_printable (percent_encode HIDDEN (take 1000 path)) _
    (All-percent_encode (λ b. is_printable b ≡ true) HIDDEN (take 1000 path) kept_printable
    (λ b h. left _ _ (escape_byte_plain b h)))
    (cond_both _ [] (codes "...") Printable (λ _. All-nil (λ x. is_printable x ≡ true)) (λ _. printable_literal (codes "...") refl))

pub target_printable : (target : List ℕ) → Printable (shown_target target)
target_printable target = cond_both (is_rooted (before_query target)) (shown_path (before_query target)) (codes "-") Printable
    (λ _. path_printable (before_query target)) (λ _. printable_literal (codes "-") refl)
