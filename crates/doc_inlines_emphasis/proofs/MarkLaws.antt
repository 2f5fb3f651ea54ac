-- Marks that grow, and the places among them.
use Rattle.std.proofs.Common.{◌≡◌, ℕ, zero, suc, ◌+◌, ◌-◌, ◌<◌, ◌≤◌, Bool, true, false, ◌==◌, List, [], ◌∷◌, ◌++◌, length, get_or, set}
use Rattle.std.proofs.Common.{take, drop, map, replicate, refl, ap, ap₂, sym, ◌∙◌, subst, arith, append_assoc, length-append}
use Rattle.std.proofs.Common.{get_or-set_other, length-set, chars}
use Rattle.std.specs.Prelude.{flat_map}
use Rattle.std.specs.Str.{IsUtf8, IsAscii}
use Rattle.std.proofs.lemmas.List.{append-nil, map-append, get_or_append_left, get_or-append_right, length-map, length-replicate, map-set}
use Rattle.std.proofs.lemmas.List.{take-append-le, drop-append-le, take-map, get_or-take, drop-take}
use Rattle.std.proofs.Math.ListN.{drop_of_length-le}
use Rattle.std.proofs.lemmas.Str.{encodes-chars, encodes-IsAscii, chars-IsAscii}
use Rattle.doc_rules.specs.Characters as rules
use Rattle.doc_rules.specs.Inlines.{Literal}
use Rattle.doc_inlines_emphasis.specs.Marks.{Placed, AreDelimiters, ArePlaced}
use Rattle.doc_inlines_emphasis.specs.Marks as delimiters
use Rattle.doc_inlines_emphasis.proofs.Stretches.{Agree, placed_order, placed_same, placed_until}
use Rattle.doc_inlines_emphasis.proofs.Growing.{placed_run}
use Rattle.doc_inlines_marks.specs.declared.mark_ref.MarkRef.{MarkRef}
use Rattle.doc_inlines_marks.specs.declared.mark_ref.MarkRef.TheVariants.{Text, Code, Soft, Hard, Raw, Reference, Start, End}
use Rattle.doc_inlines_marks.specs.Slices.{slice_in, is_cut, IsCut, AreCut}
use Rattle.doc_inlines_marks.specs.Views.{inlines_in}
use Rattle.doc_inlines_emphasis.specs.declared.delimiter.Delimiter.{Delimiter}
use Rattle.doc_inlines_emphasis.specs.declared.delimiter.Delimiter.TheVariants.{Star, Underscore, Tilde, TwoTildes}
use Rattle.doc_inlines_emphasis.specs.declared.run.Run.{Run}
use Rattle.doc_inlines_emphasis.specs.declared.marks.Place.{Place}
use Rattle.doc_inlines_emphasis.specs.RunSteps.{delimiter, char_of, length_by, placed_shown, all_placed}
use Rattle.doc_inlines_emphasis.specs.Views.{marks_shown, StandsApart}
use Rattle.doc_inlines_emphasis.specs.Texts.{IsRunText, IsTextOf, AreEach, AddsEach, fresh_run}

-- ---- texts of one character each

text_shows : (c : ℕ) (mark : MarkRef) → IsTextOf c mark → inlines_in mark ≡ Literal c ∷ []
unfolding inlines_in
text_shows c (Text text) h = ap (map Literal) h
text_shows c (Code text) h = absurd h
text_shows c Soft h = absurd h
text_shows c Hard h = absurd h
text_shows c (Raw text) h = absurd h
text_shows c (Reference reference) h = absurd h
text_shows c (Start span) h = absurd h
text_shows c (End span) h = absurd h

text_slice : (c : ℕ) (mark : MarkRef) → IsTextOf c mark → slice_in mark ≡ (c ∷ []) ∷ []
unfolding slice_in
text_slice c (Text text) h = ap (λ t. t ∷ []) h
text_slice c (Code text) h = absurd h
text_slice c Soft h = absurd h
text_slice c Hard h = absurd h
text_slice c (Raw text) h = absurd h
text_slice c (Reference reference) h = absurd h
text_slice c (Start span) h = absurd h
text_slice c (End span) h = absurd h

text_cut : (c : ℕ) (mark : MarkRef) → IsTextOf c mark → IsCut mark
unfolding is_cut
text_cut c (Text text) h = ap is_cut h
text_cut c (Code text) h = absurd h
text_cut c Soft h = absurd h
text_cut c Hard h = absurd h
text_cut c (Raw text) h = absurd h
text_cut c (Reference reference) h = absurd h
text_cut c (Start span) h = absurd h
text_cut c (End span) h = absurd h

-- what such texts stand for
pub each_shown : (added : List MarkRef) (text : rules.Text) → AreEach added text → marks_shown added ≡ map (λ c. Literal c ∷ []) text
each_shown [] [] h = refl
each_shown [] (c ∷ text) h = absurd h
each_shown (mark ∷ added) [] h = absurd h
each_shown (mark ∷ added) (c ∷ text) h = ap₂ (λ x xs. x ∷ xs) (text_shows c mark h.0) (each_shown added text h.1)

-- their slices
pub each_slices : (added : List MarkRef) (text : rules.Text) → AreEach added text → flat_map slice_in added ≡ map (λ c. c ∷ []) text
each_slices [] [] h = refl
each_slices [] (c ∷ text) h = absurd h
each_slices (mark ∷ added) [] h = absurd h
each_slices (mark ∷ added) (c ∷ text) h = ap₂ (λ x xs. x ++ xs) (text_slice c mark h.0) (each_slices added text h.1)

pub each_cut : (added : List MarkRef) (text : rules.Text) → AreEach added text → AreCut added
each_cut [] [] h = tt
each_cut [] (c ∷ text) h = absurd h
each_cut (mark ∷ added) [] h = absurd h
each_cut (mark ∷ added) (c ∷ text) h = (text_cut c mark h.0, each_cut added text h.1)

pub each_long : (added : List MarkRef) (text : rules.Text) → AreEach added text → length added ≡ length text
each_long added text h = sym (length-map added inlines_in) ∙ (ap length (each_shown added text h) ∙ length-map text (λ c. Literal c ∷ []))

-- one more
each_more : (added : List MarkRef) (n c : ℕ) (mark : MarkRef) → AreEach added (replicate n c) → IsTextOf c mark
    → AreEach (added ++ (mark ∷ [])) (replicate (suc n) c)
each_more [] zero c mark h g = (g, tt)
each_more [] (suc n) c mark h g = absurd h
each_more (x ∷ added) zero c mark h g = absurd h
each_more (x ∷ added) (suc n) c mark h g = (h.0, each_more added n c mark h.1 g)

pub adds_none : (marks : List MarkRef) (c : ℕ) → AddsEach marks marks (replicate 0 c)
adds_none marks c = record { added = []; each = tt; behind = sym (append-nil marks) }

pub adds_more : (old new last : List MarkRef) (n m c : ℕ) (mark : MarkRef) → AddsEach old new (replicate n c) → last ≡ new ++ (mark ∷ [])
    → IsTextOf c mark → suc n ≡ m → AddsEach old last (replicate m c)
adds_more old new last n m c mark h e g k =
    subst (λ j. AddsEach old last (replicate j c)) k
    (record {
      added = h.added ++ (mark ∷ []);
      each = each_more h.added n c mark h.each g;
      behind = e ∙ (ap (λ t. t ++ (mark ∷ [])) h.behind ∙ append_assoc old h.added (mark ∷ []));
    })

-- ---- marks behind all

pub agree_more : (items added : List MarkRef) (a b : ℕ) → b ≤ length items → Agree (marks_shown items) (marks_shown (items ++ added)) a b
agree_more items added a b h i low high =
    let long : length (marks_shown items) ≡ length items = length-map items inlines_in in
    sym (ap (λ t. get_or t i []) (map-append inlines_in items added)
    ∙ get_or_append_left (marks_shown items) (marks_shown added) [] i (omega arith))

more_length : (items added : List MarkRef) → length items ≤ length (items ++ added)
more_length items added = let e : length (items ++ added) ≡ length items + length added = length-append items added in omega arith

pub placed_more : (items added : List MarkRef) (a : ℕ) (runs : List Placed) → ArePlaced (marks_shown items) a (length items) runs →
    ArePlaced (marks_shown (items ++ added)) a (length (items ++ added)) runs
placed_more items added a runs h =
    placed_until (marks_shown (items ++ added)) a (length items) (length (items ++ added)) runs
    (placed_same (marks_shown items) (marks_shown (items ++ added)) a (length items) runs h
    (agree_more items added a (length items) (omega arith))) (more_length items added)

-- a place stays one
pub place_more : (items added : List MarkRef) (runs : List Placed) (place : Place) → StandsApart items runs place
    → StandsApart (items ++ added) runs place
place_more items added runs place h =
    let long : length items ≤ length (items ++ added) = more_length items added in
    let fits : place.marks ≤ length items = h.marks in
    record {
      marks = omega arith;
      runs_fit = h.runs_fit;
      before = placed_same (marks_shown items) (marks_shown (items ++ added)) 0 place.marks (take place.runs runs) h.before
          (agree_more items added 0 place.marks h.marks);
      behind = placed_more items added place.marks (drop place.runs runs) h.behind;
    }

-- ---- a run behind all

each_at : (added : List MarkRef) (n c j : ℕ) → AreEach added (replicate n c) → j < n → get_or (marks_shown added) j [] ≡ Literal c ∷ []
each_at [] zero c j h l = absurd (omega arith)
each_at [] (suc n) c j h l = absurd h
each_at (mark ∷ added) zero c j h l = absurd h
each_at (mark ∷ added) (suc n) c zero h l = text_shows c mark h.0
each_at (mark ∷ added) (suc n) c (suc j) h l = each_at added n c j h.1 (omega arith)

pub run_delimiters : (items added : List MarkRef) (p : Placed) → AreEach added (replicate p.run.left p.run.char) → p.first ≡ length items
    → AreDelimiters (marks_shown (items ++ added)) p
run_delimiters items added p h e i low high =
    let long : length (marks_shown items) ≡ length items = length-map items inlines_in in
    ap (λ t. get_or t i []) (map-append inlines_in items added)
    ∙ (get_or-append_right (marks_shown items) (marks_shown added) (length items) i [] long (omega arith)
    ∙ each_at added p.run.left p.run.char (i - length items) h (omega arith))

-- the runs from a place on, with one more
pub run_behind : (items added : List MarkRef) (a : ℕ) (runs : List Placed) (p : Placed)
    → ArePlaced (marks_shown items) a (length items) runs
    → AreEach added (replicate p.run.left p.run.char) →
    p.first ≡ length items → 1 ≤ p.run.left → ArePlaced (marks_shown (items ++ added)) a (length (items ++ added)) (runs ++ (p ∷ []))
run_behind items added a runs p h each e some =
    let long : length (items ++ added) ≡ length items + length added = length-append items added in
    let size : length added ≡ p.run.left = each_long added (replicate p.run.left p.run.char) each
    ∙ length-replicate p.run.left p.run.char in
    let end : p.first + p.run.left ≡ length (items ++ added) = omega arith in
    subst (λ b. ArePlaced (marks_shown (items ++ added)) a b (runs ++ (p ∷ []))) end
    (placed_run (marks_shown items) (marks_shown (items ++ added)) a (length items) runs p h
    (agree_more items added a (length items) (omega arith)) e some (run_delimiters items added p each e))

pub place_run : (items added : List MarkRef) (runs : List Placed) (p : Placed) (place : Place) → StandsApart items runs place
    → AreEach added (replicate p.run.left p.run.char) →
    p.first ≡ length items → 1 ≤ p.run.left → StandsApart (items ++ added) (runs ++ (p ∷ [])) place
place_run items added runs p place h each e some =
    let long : length items ≤ length (items ++ added) = more_length items added in
    let fits : place.marks ≤ length items = h.marks in
    let many : length (runs ++ (p ∷ [])) ≡ length runs + length (p ∷ []) = length-append runs (p ∷ []) in
    let few : place.runs ≤ length runs = h.runs_fit in
    record {
      marks = omega arith;
      runs_fit = omega arith;
      before =
          subst (λ t. ArePlaced (marks_shown (items ++ added)) 0 place.marks t) (sym (take-append-le place.runs runs (p ∷ []) h.runs_fit))
          (placed_same (marks_shown items) (marks_shown (items ++ added)) 0 place.marks (take place.runs runs) h.before
          (agree_more items added 0 place.marks h.marks));
      behind =
          subst (λ t. ArePlaced (marks_shown (items ++ added)) place.marks (length (items ++ added)) t)
          (sym (drop-append-le place.runs runs (p ∷ []) h.runs_fit))
          (run_behind items added place.marks (drop place.runs runs) p h.behind each e some);
    }

-- ---- a mark set behind all runs

agree_set : (items : List MarkRef) (at : ℕ) (mark : MarkRef) (a b : ℕ) → b ≤ at
    → Agree (marks_shown items) (marks_shown (set items at mark)) a b
agree_set items at mark a b h i low high =
    sym (ap (λ t. get_or t i []) (map-set inlines_in items at mark)
    ∙ get_or-set_other (marks_shown items) at i (inlines_in mark) [] (omega arith))

pub placed_set : (items : List MarkRef) (at : ℕ) (mark : MarkRef) (runs : List Placed) → ArePlaced (marks_shown items) 0 at runs
    → at < length items →
    ArePlaced (marks_shown (set items at mark)) 0 (length (set items at mark)) runs
placed_set items at mark runs h l =
    let long : length (set items at mark) ≡ length items = length-set items at mark in
    placed_until (marks_shown (set items at mark)) 0 at (length (set items at mark)) runs
    (placed_same (marks_shown items) (marks_shown (set items at mark)) 0 at runs h (agree_set items at mark 0 at (omega arith)))
    (omega arith)

-- ---- parts of runs

pub placed_from : (marks : delimiters.Marks) (a b c : ℕ) (runs : List Placed) → ArePlaced marks a b runs → c ≤ a → ArePlaced marks c b runs
placed_from marks a b c [] h l = omega arith
placed_from marks a b c (x ∷ xs) h l = let f : a ≤ x.first = h.0 in (omega arith, h.1, h.2, h.3)

pub placed_take : (marks : delimiters.Marks) (a b n : ℕ) (runs : List Placed) → ArePlaced marks a b runs → ArePlaced marks a b (take n runs)
placed_take marks a b zero runs h = placed_order marks a b runs h
placed_take marks a b (suc n) [] h = h
placed_take marks a b (suc n) (x ∷ xs) h = (h.0, h.1, h.2, placed_take marks (x.first + x.run.left) b n xs h.3)

pub placed_drop : (marks : delimiters.Marks) (a b n : ℕ) (runs : List Placed) → ArePlaced marks a b runs → ArePlaced marks a b (drop n runs)
placed_drop marks a b zero runs h = h
placed_drop marks a b (suc n) [] h = h
placed_drop marks a b (suc n) (x ∷ xs) h =
    let f : a ≤ x.first = h.0 in
    placed_from marks (x.first + x.run.left) b a (drop n xs) (placed_drop marks (x.first + x.run.left) b n xs h.3) (omega arith)

-- from the one place on, and up to the other
pub placed_both : (marks : delimiters.Marks) (a b c d : ℕ) (runs : List Placed) → ArePlaced marks a b runs → ArePlaced marks c d runs
    → a ≤ d → ArePlaced marks a d runs
placed_both marks a b c d [] h g l = l
placed_both marks a b c d (x ∷ xs) h g l = (h.0, h.1, h.2, g.3)

-- marks that agree where the runs stand
placed_alike : (marks next : delimiters.Marks) (a b c d : ℕ) (runs : List Placed) → ArePlaced marks a b runs → ArePlaced marks c d runs
    → Agree marks next c d → ArePlaced next a b runs
placed_alike marks next a b c d [] h g e = h
placed_alike marks next a b c d (x ∷ xs) h g e =
    let f : c ≤ x.first = g.0 in
    let l : x.first + x.run.left ≤ d = placed_order marks (x.first + x.run.left) d xs g.3 in (
      h.0,
      h.1,
      (λ i low high. sym (e i (omega arith) (omega arith)) ∙ h.2 i low high),
      placed_alike marks next (x.first + x.run.left) b (x.first + x.run.left) d xs h.3 g.3 (λ i low high. e i (omega arith) high),
    )

pub place_set : (items : List MarkRef) (at : ℕ) (mark : MarkRef) (runs : List Placed) (place : Place)
    → ArePlaced (marks_shown items) 0 at runs
    → StandsApart items runs place →
    StandsApart (set items at mark) runs place
place_set items at mark runs place h g =
    let long : length (set items at mark) ≡ length items = length-set items at mark in
    let fits : place.marks ≤ length items = g.marks in
    record {
      marks = omega arith;
      runs_fit = g.runs_fit;
      before =
          placed_alike (marks_shown items) (marks_shown (set items at mark)) 0 place.marks 0 at (take place.runs runs) g.before
          (placed_take (marks_shown items) 0 at place.runs runs h) (agree_set items at mark 0 at (omega arith));
      behind =
          subst (λ b. ArePlaced (marks_shown (set items at mark)) place.marks b (drop place.runs runs)) (sym long)
          (placed_alike (marks_shown items) (marks_shown (set items at mark)) place.marks (length items) 0 at (drop place.runs runs)
          g.behind (placed_drop (marks_shown items) 0 at place.runs runs h) (agree_set items at mark 0 at (omega arith)));
    }

-- ---- between two places

-- the runs between two places stand between them
pub middle_placed : (items : List MarkRef) (runs : List Placed) (from place : Place) → StandsApart items runs from
    → StandsApart items runs place → place.marks ≤ from.marks → place.runs ≤ from.runs →
    ArePlaced (marks_shown items) place.marks from.marks (drop place.runs (take from.runs runs))
middle_placed items runs from place g h low few =
    let split : place.runs + (from.runs - place.runs) ≡ from.runs = omega arith in
    let middle : drop place.runs (take from.runs runs) ≡ take (from.runs - place.runs) (drop place.runs runs) =
    ap (λ k. drop place.runs (take k runs)) (sym split) ∙ drop-take place.runs (from.runs - place.runs) runs in
    let on : ArePlaced (marks_shown items) place.marks (length items) (drop place.runs (take from.runs runs)) =
    subst (λ t. ArePlaced (marks_shown items) place.marks (length items) t) (sym middle)
    (placed_take (marks_shown items) place.marks (length items) (from.runs - place.runs) (drop place.runs runs) h.behind) in
    placed_both (marks_shown items) place.marks (length items) 0 from.marks (drop place.runs (take from.runs runs)) on
    (placed_drop (marks_shown items) 0 from.marks place.runs (take from.runs runs) g.before) low

pub agree_front : (items next : List MarkRef) (n : ℕ) → take n next ≡ take n items → Agree (marks_shown items) (marks_shown next) 0 n
agree_front items next n e i low high =
    sym (get_or-take n (marks_shown items) i [] high)
    ∙ (ap (λ t. get_or t i []) (take-map inlines_in n items ∙ (ap marks_shown (sym e) ∙ sym (take-map inlines_in n next)))
    ∙ get_or-take n (marks_shown next) i [] high)

-- ---- the place behind all

pub place_behind : (items : List MarkRef) (runs : List Placed) (place : Place) → ArePlaced (marks_shown items) 0 (length items) runs
    → place.marks ≡ length items → place.runs ≡ length runs → StandsApart items runs place
place_behind items runs place h e f =
    record {
      marks = omega arith;
      runs_fit = omega arith;
      before = subst (λ b. ArePlaced (marks_shown items) 0 b (take place.runs runs)) (sym e)
          (placed_take (marks_shown items) 0 (length items) place.runs runs h);
      behind = subst (λ t. ArePlaced (marks_shown items) place.marks (length items) t) (sym (drop_of_length-le runs (omega arith)))
          (omega arith);
    }

-- ---- the text of a run

small : (own : Delimiter) → delimiter own < 128
small Star = omega arith
small Underscore = omega arith
small Tilde = omega arith
small TwoTildes = omega arith

all_ascii : (n c : ℕ) → c < 128 → IsAscii (replicate n c)
all_ascii zero c h i = omega arith
all_ascii (suc n) c h zero = h
all_ascii (suc n) c h (suc i) = all_ascii n c h i

run_bytes : (own : Delimiter) (bytes : List ℕ) → IsUtf8 bytes → IsRunText own (chars bytes) → chars bytes ≡ bytes
run_bytes own bytes u h = sym (encodes-IsAscii (chars bytes) (subst IsAscii (sym h.is)
    (all_ascii (suc h.more) (delimiter own) (small own)))) ∙ encodes-chars bytes u

-- its bytes are its characters
run_long : (own : Delimiter) (bytes : List ℕ) → IsUtf8 bytes → (h : IsRunText own (chars bytes)) → length bytes ≡ suc h.more
run_long own bytes u h = ap length (sym (run_bytes own bytes u h) ∙ h.is) ∙ length-replicate (suc h.more) (delimiter own)

pub run_some : (own : Delimiter) (bytes : List ℕ) → IsUtf8 bytes → IsRunText own (chars bytes) → 0 < length bytes
run_some own bytes u h = let long : length bytes ≡ suc h.more = run_long own bytes u h in omega arith

run_text : (own : Delimiter) (bytes : List ℕ) → IsUtf8 bytes → IsRunText own (chars bytes)
    → chars bytes ≡ replicate (length bytes) (delimiter own)
run_text own bytes u h = h.is ∙ ap (λ n. replicate n (delimiter own)) (sym (run_long own bytes u h))

run_fits : (own : Delimiter) (bytes : List ℕ) → IsUtf8 bytes → IsRunText own (chars bytes) → length_by own (length bytes) ≡ length bytes
run_fits own bytes u h = subst (λ n. length_by own n ≡ n) (sym (run_long own bytes u h)) h.fits

-- a run that is known otherwise is the same
pub run_known : (n m c d : ℕ) → replicate (suc m) d ≡ replicate n c → (n ≡ suc m) × (c ≡ d)
run_known n m c d e = (long, by n e)
  where
    long : n ≡ suc m
    long = sym (length-replicate n c) ∙ (ap length (sym e) ∙ length-replicate (suc m) d)

    by : (k : ℕ) → replicate (suc m) d ≡ replicate k c → c ≡ d
    by zero f = absurd cc
    by (suc k) f = sym (ap (λ t. get_or t 0 0) f)

pub one_char : (c : ℕ) → c < 128 → chars (c ∷ []) ≡ c ∷ []
one_char c h = chars-IsAscii (c ∷ []) (all_ascii 1 c h)

-- ---- the marks and the run of a text

pub adds_text : (items next : List MarkRef) (own : Delimiter) (text : List ℕ) → IsUtf8 text → IsRunText own (chars text)
    → AddsEach items next (replicate (length text) (delimiter own)) →
    AddsEach items next (chars text)
adds_text items next own text u h a = subst (λ t. AddsEach items next t) (sym (run_text own text u h)) a

-- the run that the code makes
abbrev pub run_made : ℕ → List ℕ → Delimiter → Bool → Bool → Run
run_made first text own opens closes = record {
  first = first;
  left = length text;
  length = length text;
  delimiter = own;
  opens = opens;
  closes = closes;
}

pub runs_text : (runs left : List Run) (first size : ℕ) (own : Delimiter) (text : List ℕ) (opens closes : Bool) → IsUtf8 text
    → IsRunText own (chars text) → first ≡ size →
    left ≡ runs ++ (run_made first text own opens closes ∷ []) → (n c : ℕ) → chars text ≡ replicate (suc n) c
    → all_placed left ≡ all_placed runs ++ (fresh_run size c (suc n) opens closes ∷ [])
runs_text runs left first size own text opens closes u h f g n c k =
    let d : ℕ = delimiter own in
    let known : (length text ≡ suc n) × (d ≡ c) = run_known (length text) n d c (sym k ∙ run_text own text u h) in
    let full : placed_shown (run_made first text own opens closes) ≡ fresh_run first d (length text) opens closes =
    ap (λ m. made first d (length text) m) (run_fits own text u h) in
    let one : placed_shown (run_made first text own opens closes) ≡ fresh_run size c (suc n) opens closes =
    full ∙ (ap (λ x. fresh_run x d (length text) opens closes) f ∙ ap₂ (λ x y. fresh_run size x y opens closes) known.1 known.0) in
    ap all_placed g ∙ (map-append placed_shown runs (run_made first text own opens closes ∷ [])
    ∙ ap (λ p. all_placed runs ++ (p ∷ [])) one)
  where
    made : ℕ → ℕ → ℕ → ℕ → Placed
    made at char left whole = record {
      first = at;
      run = record { char = char; left = left; length = whole; opens = opens; closes = closes };
    }

pub sound_run : (items next : List MarkRef) (runs left : List Run) (x : Run)
    → ArePlaced (marks_shown items) 0 (length items) (all_placed runs) → AddsEach items next (replicate x.left (char_of x)) →
    left ≡ runs ++ (x ∷ []) → x.first ≡ length items → 1 ≤ x.left → ArePlaced (marks_shown next) 0 (length next) (all_placed left)
sound_run items next runs left x h a e f some =
    subst (λ t. ArePlaced (marks_shown t) 0 (length t) (all_placed left)) (sym a.behind)
    (subst (λ t. ArePlaced (marks_shown (items ++ a.added)) 0 (length (items ++ a.added)) t)
    (sym (ap all_placed e ∙ map-append placed_shown runs (x ∷ [])))
    (run_behind items a.added 0 (all_placed runs) (placed_shown x) h a.each f some))

pub places_run : (items next : List MarkRef) (runs left : List Run) (x : Run) (place : Place) → StandsApart items (all_placed runs) place
    → AddsEach items next (replicate x.left (char_of x)) →
    left ≡ runs ++ (x ∷ []) → x.first ≡ length items → 1 ≤ x.left → StandsApart next (all_placed left) place
places_run items next runs left x place h a e f some =
    subst (λ t. StandsApart t (all_placed left) place) (sym a.behind)
    (subst (λ t. StandsApart (items ++ a.added) t place) (sym (ap all_placed e ∙ map-append placed_shown runs (x ∷ [])))
    (place_run items a.added (all_placed runs) (placed_shown x) place h a.each f some))
