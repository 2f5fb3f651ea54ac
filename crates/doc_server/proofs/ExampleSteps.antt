-- Reading examples: texts character by character and line by line.
use Rattle.std.proofs.Common.{◌≡◌, ℕ, ◌+◌, ◌≤◌, List, [], ◌∷◌, ◌++◌, ◌<◌, ◌==◌, length, map, Bool, true, false, refl, sym, ap}
use Rattle.std.proofs.Common.{subst, ◌∙◌, append-nil, arith}
use Rattle.std.specs.Prelude.{Option, Some, None, chars, encode_utf8, encode_utf8_all}
use Rattle.std.proofs.lemmas.Iterator.{YieldsList}
use Rattle.std.proofs.lemmas.List.{append_assoc}
use Rattle.std.proofs.lemmas.List.Splits.{length-slice_split}
use Rattle.std.proofs.lemmas.List.Sums.{count_by-le-length}
use Rattle.std.specs.Io.KnownBytes.{Appends, Keeps}
use Rattle.std.proofs.KnownBytes.{Appends-nil, Appends-trans, Appends-kept}
use Rattle.doc_server.specs.Examples.{Example, Place, Between, tab_or, meant, lines, onto, example_before, place_after, examples_from}
use Rattle.doc_server.specs.Examples.{examples_of, passes, one_more, example_line, lines_from, count_from, no_examples, count_of}
use Rattle.doc_server.specs.ExampleSteps.{line_before, count_after, HasRoom, IsAt}
use Rattle.doc_server_streams.specs.OutputSteps.{StopsAt}
use Rattle.doc_server_streams.proofs.Prefixes.{front_is_prefix, prefix_behind, stops_behind}
use Rattle.doc_server_streams.specs.Streams.{AppendsPrefix}
use Rattle.doc_server.specs.declared.count.Count.{Count}
use Rattle.doc_server_streams.specs.declared.fault.Fault.{Fault}
use Rattle.doc_server_streams.specs.declared.fault.Fault.TheVariants as faults

-- a step of an iterator takes the first of the items that it yields
pub next_item : {S A B : Type 0} (steps : S → Option A → S → Type 0) (v : A → B) (s t : S) (x : A) (items : List B)
    → YieldsList steps v s items → steps s (Some x) t
    → (rest : List B) × (items ≡ v x ∷ rest) × YieldsList steps v t rest
next_item steps v s t x [] yields step = absurd (yields.runs x t step)
next_item steps v s t x (y ∷ items) yields step =
    let next = yields.runs.1 x t step in
    (items, ap (λ z. z ∷ items) (sym next.0), record { runs = next.1 })

-- where an iterator ends, it yields nothing
pub no_item : {S A B : Type 0} (steps : S → Option A → S → Type 0) (v : A → B) (s t : S) (items : List B) → YieldsList steps v s items
    → steps s None t → items ≡ []
no_item steps v s t [] yields step = refl
no_item steps v s t (y ∷ items) yields step = absurd (yields.runs.0 t step)

-- a character more was written
pub char_pushed : (whole before after : List ℕ) (c : ℕ) (items rest : List ℕ) → whole ≡ before ++ encode_utf8_all (map tab_or items)
    → items ≡ c ∷ rest → after ≡ before ++ encode_utf8 (tab_or c)
    → whole ≡ after ++ encode_utf8_all (map tab_or rest)
char_pushed whole before after c items rest is first pushed =
    is ∙ ap (λ l. before ++ encode_utf8_all (map tab_or l)) first
    ∙ sym (append_assoc before (encode_utf8 (tab_or c)) (encode_utf8_all (map tab_or rest)))
    ∙ ap (λ l. l ++ encode_utf8_all (map tab_or rest)) (sym pushed)

-- all were, and a LF
pub line_pushed : (old before after line items : List ℕ)
    → old ++ encode_utf8_all (map tab_or (chars line)) ≡ before ++ encode_utf8_all (map tab_or items) → items ≡ []
    → after ≡ before ++ 10 ∷ []
    → after ≡ old ++ meant line
unfolding meant
line_pushed old before after line items is none pushed =
    pushed ∙ ap (λ l. l ++ 10 ∷ []) (sym (is ∙ ap (λ l. before ++ encode_utf8_all (map tab_or l)) none ∙ append-nil before))
    ∙ append_assoc old (encode_utf8_all (map tab_or (chars line))) (10 ∷ [])

-- ---- lines

lines_onto : (count : Count) (found : Option Example) (more : List Example)
    → lines_from count (onto found more) ≡ line_before count found ++ lines_from (count_after count found) more
unfolding lines_from
lines_onto count None more = refl
lines_onto count (Some example) more = refl

count_onto : (count : Count) (found : Option Example) (more : List Example)
    → count_from count (onto found more) ≡ count_from (count_after count found) more
unfolding count_from
count_onto count None more = refl
count_onto count (Some example) more = refl

one_more_is : (count : Count) (passed : Bool) → (one_more count passed).passed + (one_more count passed).failed
    ≡ count.passed + count.failed + 1
one_more_is count true = omega arith
one_more_is count false = omega arith

at_most_one : (count : Count) (found : Option Example) → (count_after count found).passed + (count_after count found).failed
    ≤ count.passed + count.failed + 1
at_most_one count None = omega arith
at_most_one count (Some example) = omega (arith, one_more_is count (passes example))

from_line : (place : Place) (line : List ℕ) (rest : List (List ℕ))
    → examples_from place (line ∷ rest) ≡ onto (example_before place line) (examples_from (place_after place line) rest)
unfolding examples_from
from_line place line rest = refl

-- before the first line
pub at_first : (text : List ℕ) (old : Option (List ℕ)) (place : Place) → place ≡ Between → IsAt text old place no_examples old (lines text)
unfolding examples_of
at_first text old place is = subst (λ p. IsAt text old p no_examples old (lines text)) (sym is) (
  [],
  Appends-nil old,
  refl,
  refl,
  omega (arith, length-slice_split (λ b. b == 10) text, count_by-le-length (λ b. b == 10) text),
)

-- a line more was read
pub at_next : (text : List ℕ) (old mid new : Option (List ℕ)) (place after : Place) (count more : Count) (line : List ℕ)
    (items rest : List (List ℕ)) → IsAt text old place count mid items → items ≡ line ∷ rest
    → Appends mid new (line_before count (example_before place line)) → more ≡ count_after count (example_before place line)
    → after ≡ place_after place line → IsAt text old after more new rest
at_next text old mid new place after count more line items rest (sent, grew, said, number, bound) first grows counted is =
    let found = example_before place line in
    let ahead = ap (examples_from place) first ∙ from_line place line rest ∙ ap (λ p. onto found (examples_from p rest)) (sym is) in (
      sent ++ line_before count found,
      Appends-trans old mid new sent (line_before count found) grew grows,
      said ∙ ap (λ es. sent ++ lines_from count es) ahead ∙ ap (λ l. sent ++ l) (lines_onto count found (examples_from after rest))
          ∙ sym (append_assoc sent (line_before count found) (lines_from (count_after count found) (examples_from after rest)))
          ∙ ap (λ k. (sent ++ line_before count found) ++ lines_from k (examples_from after rest)) (sym counted),
      number ∙ ap (count_from count) ahead ∙ count_onto count found (examples_from after rest)
          ∙ ap (λ k. count_from k (examples_from after rest)) (sym counted),
      omega (arith, bound, ap length first, at_most_one count found, ap (λ k. k.passed) counted, ap (λ k. k.failed) counted),
    )

-- there is a number for one example more
pub room_at : (text : List ℕ) (old mid : Option (List ℕ)) (place : Place) (count : Count) (line : List ℕ) (items rest : List (List ℕ))
    → length text < 0xFFFF_FFFF_FFFF_FFFF → IsAt text old place count mid items → items ≡ line ∷ rest
    → HasRoom count
room_at text old mid place count line items rest short (sent, grew, said, number, bound) first = omega
    (arith, bound, short, ap length first)

-- a line stopped
pub stops_at : (text : List ℕ) (old mid new : Option (List ℕ)) (place : Place) (count : Count) (line : List ℕ) (items rest : List (List ℕ))
    (fault : Fault) → IsAt text old place count mid items → items ≡ line ∷ rest
    → StopsAt mid new (line_before count (example_before place line)) fault
    → StopsAt old new (lines_from no_examples (examples_of text)) fault
stops_at text old mid new place count line items rest fault (sent, grew, said, number, bound) first stops =
    let found = example_before place line in
    let after = place_after place line in
    let is = said ∙ ap (λ es. sent ++ lines_from count es) (ap (examples_from place) first ∙ from_line place line rest)
    ∙ ap (λ l. sent ++ l) (lines_onto count found (examples_from after rest)) in
    stops_behind old mid new _ sent (line_before count found) (lines_from (count_after count found) (examples_from after rest)) fault is
    grew stops

-- behind the last line
pub all_sent : (text : List ℕ) (old new : Option (List ℕ)) (place : Place) (count : Count) (items : List (List ℕ))
    → IsAt text old place count new items → items ≡ [] → Appends old new (lines_from no_examples (examples_of text))
unfolding examples_from lines_from
all_sent text old new place count items (sent, grew, said, number, bound) none =
    subst (Appends old new) (sym (said ∙ ap (λ l. sent ++ lines_from count (examples_from place l)) none ∙ append-nil sent)) grew

pub all_counted : (text : List ℕ) (old new : Option (List ℕ)) (place : Place) (count : Count) (items : List (List ℕ))
    → IsAt text old place count new items → items ≡ [] → count ≡ count_of text
unfolding examples_from count_from
all_counted text old new place count items (sent, grew, said, number, bound) none = sym (number
    ∙ ap (λ l. count_from count (examples_from place l)) none)

-- the line of the example that ended was sent
pub ended_sent : (old new : Option (List ℕ)) (count : Count) (found : Option Example) (example : Example) → found ≡ Some example
    → Appends old new (example_line count (passes example))
    → AppendsPrefix old new (line_before count found)
ended_sent old new count found example is grows =
    front_is_prefix old new (line_before count found) (line_before count (Some example)) [] (ap (line_before count) is
    ∙ sym (append-nil (line_before count (Some example)))) grows

-- ---- the whole report

pub examples_stopped : (old new : Option (List ℕ)) (lines more : List ℕ) (fault : Fault) → StopsAt old new lines fault
    → StopsAt old new (lines ++ more) fault
examples_stopped old new lines more fault stops = stops_behind old old new (lines ++ more) [] lines more fault refl (Appends-nil old) stops

-- no memory for the last line
pub count_unmade : (old new : Option (List ℕ)) (lines more : List ℕ) (fault : Fault) → fault ≡ faults.Memory → Appends old new lines
    → StopsAt old new (lines ++ more) fault
count_unmade old new lines more fault is grows = subst (StopsAt old new (lines ++ more)) (sym is)
    (front_is_prefix old new (lines ++ more) lines more refl grows)

-- the last line was cut off
pub count_cut : (old mid new : Option (List ℕ)) (lines more sent : List ℕ) (fault : Fault) → fault ≡ faults.CannotWrite → sent ≡ more
    → Appends old mid lines → AppendsPrefix mid new sent → StopsAt old new (lines ++ more) fault
count_cut old mid new lines more sent fault is same grew grows =
    subst (StopsAt old new (lines ++ more)) (sym is) (prefix_behind old mid new (lines ++ more) lines more []
    (ap (λ l. lines ++ l) (sym (append-nil more))) grew (subst (AppendsPrefix mid new) same grows))

-- all was sent, and then not flushed
pub report_unflushed : (old mid next new : Option (List ℕ)) (lines more sent : List ℕ) (fault : Fault) → fault ≡ faults.CannotWrite
    → sent ≡ more → Appends old mid lines → Appends mid next sent → Keeps next new
    → StopsAt old new (lines ++ more) fault
report_unflushed old mid next new lines more sent fault is same grew grows kept =
    let whole = Appends-kept old next new (lines ++ more) (Appends-trans old mid next lines more grew
    (subst (Appends mid next) same grows)) kept in
    subst (StopsAt old new (lines ++ more)) (sym is) (front_is_prefix old new (lines ++ more) (lines ++ more) []
    (sym (append-nil (lines ++ more))) whole)
