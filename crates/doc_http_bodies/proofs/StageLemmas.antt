-- What a stage of reading an encoded body comes to.
use Rattle.std.proofs.Common.{◌≡◌, ℕ, ◌+◌, ◌-◌, ◌<◌, ◌≤◌, ◌==◌, Bool, true, false, List, [], ◌++◌, length, take, drop, refl, ap, sym, ◌∙◌}
use Rattle.std.proofs.Common.{subst, arith, nat_eq, length-drop, drop-drop}
use Rattle.std.specs.Prelude.{Option, Some, None, nat_le, nat_lt, if◌then◌else◌}
use Rattle.std.specs.List.{starts_with}
use Rattle.std.proofs.lemmas.Bool.{ltb-false, le-ltb, lt-ltb, leb-false}
use Rattle.std.proofs.lemmas.List.{append_assoc, append-nil, length-take, take_all}
use Rattle.doc_http_bodies.specs.declared.extent.Extent.TheVariants.{More, Fault, Whole}
use Rattle.doc_http_bodies.specs.declared.fault.Fault.TheVariants as faults
use Rattle.doc_http_bodies.specs.declared.size_line.SizeLine.{SizeLine}
use Rattle.doc_http_bodies.specs.declared.size_line.SizeLine.TheVariants.{Unfinished, Malformed, Size}
use Rattle.doc_http_bodies.specs.declared.stage.Stage.{Stage}
use Rattle.doc_http_bodies.specs.declared.stage.Stage.TheVariants.{Line, Data, Trailer}
use Rattle.doc_http_bodies.specs.declared.stage.Step.TheVariants.{On, Waiting, Ended}
use Rattle.doc_http_bodies.specs.Framings.{body_limit}
use Rattle.doc_http_bodies.specs.Chunks.{size_of, line_by, line_in, size_line, trailer_len, trailed, after_data, after_size, after_line}
use Rattle.doc_http_bodies.specs.Chunks.{extent_from, extent_of}
use Rattle.doc_http_bodies.specs.Places.{line_end, blank_line, place_of, behind, IsSearched}
use Rattle.doc_http_bodies.specs.KnowledgeSteps.{IsInside, LeadsOn, Knows}
use Rattle.doc_http_bodies.specs.StageSteps.{IsStep, step_behind_line}
use Rattle.doc_http_bodies.proofs.PlaceLemmas.{Grows, longer, take_grows, drop_grows, starts_same, behind_none, searched_more}
use Rattle.doc_http_bodies.proofs.PlaceLemmas.{searched_none}
use Rattle.doc_http_bodies.proofs.ExtentLemmas.{LineFits, LineStays, line_fits, line_grows, one_line}

-- ---- with more bytes

inside_more : (m n : ℕ) (stage : Stage) → m ≤ n → IsInside m stage → IsInside n stage
inside_more m n (Line start searched total) le h = (omega (arith, h.0), h.1)
inside_more m n (Data start size total) le h = (omega (arith, h.0), h.1, h.2)
inside_more m n (Trailer start searched total) le h = (omega (arith, h.0), h.1)

pub knows_grows : (stage : Stage) (x y : List ℕ) → Grows x y → Knows stage x → Knows stage y
knows_grows stage x y (m, e) known = (
  inside_more (length x) (length y) stage (longer x y (m, e)) known.0,
  λ more. subst (λ z. LeadsOn stage z)
      (sym (ap (λ z. z ++ more) e ∙ append_assoc x m more)) (known.1 (m ++ more)),
)

-- what is known of the bytes themselves
leads_now : (stage : Stage) (x : List ℕ) → Knows stage x → LeadsOn stage x
leads_now stage x known = subst (λ z. LeadsOn stage z) (append-nil x) (known.1 [])

-- the text behind a place, with more bytes
behind_grows : (at : ℕ) (x more : List ℕ) → at ≤ length x → Grows (drop at x) (drop at (x ++ more))
behind_grows at x more le = drop_grows at x (x ++ more) le (more, refl)

-- ---- at a size line

-- what is asked of the search for a size line
pub searched_line : (start searched total : ℕ) (window : List ℕ) → Knows (Line start searched total) window
    → IsSearched line_end searched (take 256 (drop start window))
searched_line start searched total window known = (leads_now (Line start searched total) window known).1

unfinished_by : (len : ℕ) (size : Option ℕ) → line_by len size ≡ Unfinished → ⊥
unfinished_by len None h = cc
unfinished_by len (Some size) h = cc

unfinished_in : (front : List ℕ) (o : Option ℕ) → line_in front o ≡ Unfinished → (o ≡ None) × (length front < 256)
unfinished_in front (Some len) h = absurd (unfinished_by len (size_of (take len front)) h)
unfinished_in front None h = (refl, by_test (nat_le 256 (length front)) refl h)
  where
    by_test : (t : Bool) → nat_le 256 (length front) ≡ t → (if t then Malformed else Unfinished) ≡ Unfinished → length front < 256
    by_test true e is = absurd cc
    by_test false e is = leb-false _ _ e

line_searched : (text later : List ℕ) → Grows text later → size_line text ≡ Unfinished
    → IsSearched line_end (length text - 1) (take 256 later)
line_searched text later grows unfinished =
    let seen = unfinished_in (take 256 text) (place_of line_end (take 256 text)) unfinished in
    let short : length text < 256 = omega (arith, seen.1, length-take 256 text) in
    let front = take_grows 256 text later grows in
    let whole : take 256 text ≡ text = take_all 256 text (omega arith) in
    let found : IsSearched line_end (length text - 1) (take 256 text ++ front.0) = searched_more line_end (take 256 text) front.0
    (length text - 1) seen.0 (omega (arith, ap length whole)) (omega (arith, ap length whole)) in
    subst (λ z. IsSearched line_end (length text - 1) z) (sym front.1) found

pub line_waits : (start searched total : ℕ) (window : List ℕ) → Knows (Line start searched total) window
    → size_line (drop start window) ≡ Unfinished
    → IsStep window (Line start searched total) (Waiting (Line start (length (drop start window) - 1) total))
line_waits start searched total window known unfinished = (
  (
    known.0,
    λ more. (
      (known.1 more).0,
      line_searched (drop start window) (drop start (window ++ more))
          (behind_grows start window more known.0.0) unfinished,
    ),
  ),
  (leads_now (Line start searched total) window known).0 ∙ one_line start total (drop start window)
      ∙ ap (λ found. after_line (λ u s t. extent_from u s t) start total (drop start window) found) unfinished,
)

pub line_breaks : (start searched total : ℕ) (window : List ℕ) → Knows (Line start searched total) window
    → size_line (drop start window) ≡ Malformed
    → extent_of window ≡ Fault faults.Malformed
line_breaks start searched total window known malformed =
    (leads_now (Line start searched total) window known).0 ∙ one_line start total (drop start window)
    ∙ ap (λ found. after_line (λ u s t. extent_from u s t) start total (drop start window) found) malformed

line_same : (len size : ℕ) (x y : List ℕ) → Grows x y → size_line x ≡ Size len size → size_line y ≡ Size len size
line_same len size x y grows is =
    let P : SizeLine → Type 0 = λ found. LineStays found (size_line y) in
    subst P is (line_grows x y grows)

-- behind a size line, whatever follows
led_to : (start searched total len size : ℕ) (window more : List ℕ) → Knows (Line start searched total) window
    → size_line (drop start window) ≡ Size len size
    → extent_of (window ++ more) ≡ after_size (λ u s t. extent_from u s t) (start + len) total size (drop (start + len) (window ++ more))
led_to start searched total len size window more known is =
    let text : List ℕ = drop start (window ++ more) in
    let line : size_line text ≡ Size len size = line_same len size (drop start window) text (behind_grows start window more known.0.0) is in
    (known.1 more).0 ∙ one_line start total text ∙ ap (λ found. after_line (λ u s t. extent_from u s t) start total text found) line
    ∙ ap (λ rest. after_size (λ u s t. extent_from u s t) (start + len) total size rest) (drop-drop len start (window ++ more))

pub line_leads : (start searched total len size : ℕ) (window : List ℕ) → Knows (Line start searched total) window
    → size_line (drop start window) ≡ Size len size
    → IsStep window (Line start searched total) (step_behind_line (start + len) size total)
line_leads start searched total len size window known is =
    let fits : LineFits (length (drop start window)) (Size len size) = subst (λ found. LineFits (length (drop start window)) found) is
    (line_fits (drop start window)) in
    by_test (omega (arith, fits.0)) (omega (arith, fits.1, length-drop start window, known.0.0)) (size == 0) refl
    (nat_lt body_limit (total + size)) refl
    (λ more. led_to start searched total len size window more known is)
    (led_to start searched total len size window [] known is)
  where
    next : ℕ
    next = start + len

    by_test : start < next → next ≤ length window → (t : Bool) → (size == 0) ≡ t → (u : Bool) → nat_lt body_limit (total + size) ≡ u
        → ((more : List ℕ) → extent_of (window ++ more)
        ≡ (if t then trailed next total (trailer_len (drop next (window ++ more))) else
        (if u then Fault faults.TooLarge else after_data (λ u s t. extent_from u s t) next (total + size) size
        (drop next (window ++ more)))))
        → extent_of (window ++ []) ≡ (if t then trailed next total (trailer_len (drop next (window ++ []))) else
        (if u then Fault faults.TooLarge else after_data (λ u s t. extent_from u s t) next (total + size) size (drop next (window ++ []))))
        → IsStep window (Line start searched total) (if t then On (Trailer next 0 total) else
        (if u then Ended (Fault faults.TooLarge) else On (Data next size (total + size))))
    by_test less inside true e u f leads now = (
      (
        (inside, known.0.1),
        λ more.
            (leads more, searched_none blank_line (drop next (window ++ more))),
      ),
      less,
    )
    by_test less inside false e true f leads now = ap extent_of (sym (append-nil window)) ∙ now
    by_test less inside false e false f leads now = (((inside, omega arith, ltb-false _ _ f), leads), less)

-- ---- at a chunk's data

pub data_waits : (start size total : ℕ) (window : List ℕ) → Knows (Data start size total) window → length (drop start window) < size + 2
    → IsStep window (Data start size total) (Waiting (Data start size total))
data_waits start size total window known short =
    let test : nat_lt (length (drop start window)) (size + 2) ≡ true = lt-ltb _ _ short in (
      known,
      leads_now (Data start size total) window known
          ∙ ap (λ t. if t then More else (if starts_with nat_eq (drop size (drop start window)) line_end then extent_from
          (start + (size + 2)) total (drop (size + 2) (drop start window)) else Fault faults.Malformed)) test,
    )

-- the two bytes behind the data stand
judged : (start size total : ℕ) (text : List ℕ) (t : Bool) → size + 2 ≤ length text → starts_with nat_eq (drop size text) line_end ≡ t
    → after_data (λ u s t. extent_from u s t) start total size text
    ≡ (if t then extent_from (start + (size + 2)) total (drop (size + 2) text) else Fault faults.Malformed)
judged start size total text t enough is =
    let test : nat_lt (length text) (size + 2) ≡ false = le-ltb _ _ enough in
    rw (test, is) refl

pub data_break : (start size total : ℕ) (window : List ℕ) → Knows (Data start size total) window → size + 2 ≤ length (drop start window)
    → starts_with nat_eq (drop size (drop start window)) line_end ≡ false → extent_of window ≡ Fault faults.Malformed
data_break start size total window known enough miss =
    leads_now (Data start size total) window known ∙ judged start size total (drop start window) false enough miss

pub data_lead : (start size total : ℕ) (window : List ℕ) → Knows (Data start size total) window → size + 2 ≤ length (drop start window)
    → starts_with nat_eq (drop size (drop start window)) line_end ≡ true
    → IsStep window (Data start size total) (On (Line (start + (size + 2)) 0 total))
data_lead start size total window known enough hit = (
  (
    (omega (arith, length-drop start window, known.0.0), known.0.2),
    λ more.
        (led more, searched_none line_end (take 256 (drop (start + (size + 2)) (window ++ more)))),
  ),
  omega arith,
)
  where
    led : (more : List ℕ) → extent_of (window ++ more) ≡ extent_from (start + (size + 2)) total (drop (start + (size + 2)) (window ++ more))
    led more =
        let text : List ℕ = drop start (window ++ more) in
        let grows = behind_grows start window more known.0.0 in
        let long : size + 2 ≤ length text = omega (arith, longer (drop start window) text grows) in
        let ends : starts_with nat_eq (drop size text) line_end ≡ true = starts_same line_end (drop size (drop start window))
        (drop size text) (omega (arith, length-drop size (drop start window)))
        (drop_grows size (drop start window) text (omega arith) grows) ∙ hit in
        known.1 more ∙ judged start size total text true long ends
        ∙ ap (λ rest. extent_from (start + (size + 2)) total rest) (drop-drop (size + 2) start (window ++ more))

-- ---- at the trailer

pub searched_trailer : (start searched total : ℕ) (window : List ℕ) → Knows (Trailer start searched total) window
    → IsSearched blank_line searched (drop start window)
searched_trailer start searched total window known = (leads_now (Trailer start searched total) window known).1

pub trailer_ends : (start searched total len : ℕ) (window : List ℕ) → Knows (Trailer start searched total) window
    → trailer_len (drop start window) ≡ Some len
    → extent_of window ≡ Whole (start + len) total
trailer_ends start searched total len window known is =
    (leads_now (Trailer start searched total) window known).0 ∙ ap (trailed start total) is

no_trailer : (text : List ℕ) → trailer_len text ≡ None → place_of blank_line text ≡ None
no_trailer text none = by_test (starts_with nat_eq text line_end) none
  where
    by_test : (t : Bool) → (if t then Some 2 else behind 4 (place_of blank_line text)) ≡ None → place_of blank_line text ≡ None
    by_test true e = absurd cc
    by_test false e = behind_none 4 (place_of blank_line text) e

pub trailer_waits : (start searched total : ℕ) (window : List ℕ) → Knows (Trailer start searched total) window
    → trailer_len (drop start window) ≡ None
    → IsStep window (Trailer start searched total) (Waiting (Trailer start (length (drop start window) - 3) total))
trailer_waits start searched total window known none = (
  (known.0, λ more. ((known.1 more).0, further more)),
  (leads_now (Trailer start searched total) window known).0
      ∙ ap (trailed start total) none,
)
  where
    further : (more : List ℕ) → IsSearched blank_line (length (drop start window) - 3) (drop start (window ++ more))
    further more =
        let grows = behind_grows start window more known.0.0 in
        let found : IsSearched blank_line (length (drop start window) - 3) (drop start window ++ grows.0) = searched_more blank_line
        (drop start window) grows.0 (length (drop start window) - 3) (no_trailer (drop start window) none) (omega arith) (omega arith)
        in
        subst (λ z. IsSearched blank_line (length (drop start window) - 3) z) (sym grows.1) found

-- ---- from the first byte on

pub knows_first : (bytes : List ℕ) → Knows (Line 0 0 0) bytes
unfolding body_limit
knows_first bytes = ((omega arith, omega arith), λ more. (refl, searched_none line_end (take 256 (bytes ++ more))))

-- the two bytes behind the data, as they were looked at
pub begins_so : (start size : ℕ) (window text rest : List ℕ) (t : Bool) → text ≡ drop start window → rest ≡ drop size text
    → t ≡ starts_with nat_eq rest line_end
    → starts_with nat_eq (drop size (drop start window)) line_end ≡ t
begins_so start size window text rest t text_is rest_is value = sym (value
    ∙ ap (λ z. starts_with nat_eq z line_end) (rest_is ∙ ap (drop size) text_is))
