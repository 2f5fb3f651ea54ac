-- Emphasis in place makes the emphasis of what is seen in the marks.
use Rattle.std.proofs.Common.{◌≡◌, ◌≢◌, ◌⊎◌, inl, inr, ℕ, zero, suc, ◌+◌, ◌-◌, ◌<◌, ◌≤◌, Bool, true, false, List, [], ◌∷◌, ◌++◌, length}
use Rattle.std.proofs.Common.{get_or, set, refl, ap, sym, ◌∙◌, subst, Option, Some, None, arith, get_or-set_other, get_or-set_same}
use Rattle.std.proofs.Common.{length-set}
use Rattle.std.specs.Prelude.{nat_lt, nat_le, ◌==◌, ◌&&◌}
use Rattle.std.proofs.lemmas.Bool.{ltb-true, ltb-false}
use Rattle.doc_rules.specs.Inlines.{Inline, Start, End, Run}
use Rattle.doc_rules.specs.Emphasis.{matches, strength, span_of}
use Rattle.doc_inlines_emphasis.specs.OnePass.{passed, passed_once}
use Rattle.doc_inlines_emphasis.specs.Marks.{Marks, Placed, stretch, seen, ArePlaced, IsPaired, joined}
use Rattle.doc_inlines_emphasis.specs.InPlace.{StackOpener, nearest_placed, paired, Closing, pair_in_place, close_in_place, in_place}
use Rattle.doc_inlines_emphasis.specs.InPlace.{InPlaceSuffices}
use Rattle.doc_inlines_emphasis.proofs.Quiet.{SameText}
use Rattle.doc_inlines_emphasis.proofs.OnePassLaws.{one_pass_suffices, strong_counts}
use Rattle.doc_inlines_emphasis.proofs.Stretches.{placed_order, placed_front, placed_at, AllMiss}
use Rattle.doc_inlines_emphasis.specs.PassSteps.{OneOrTwo, Walks, Closes}
use Rattle.doc_inlines_emphasis.proofs.Pairs.{strength_fits}
use Rattle.doc_inlines_emphasis.proofs.Walks.{walks_first, closes_first, closes_pair, walks_next, walks_last}

-- ---- a pair of marks

abbrev a_start : ℕ → ℕ → List Inline
a_start c n = Start (span_of c n) ∷ []

abbrev an_end : ℕ → ℕ → List Inline
an_end c n = End (span_of c n) ∷ []

paired_length : (marks : Marks) (s t c n : ℕ) → length (paired marks s t c n) ≡ length marks
unfolding paired
paired_length marks s t c n = at (n == 2)
  where
    ends : Marks
    ends = set (set marks s (a_start c n)) t (an_end c n)

    same : length ends ≡ length marks
    same = length-set (set marks s (a_start c n)) t (an_end c n) ∙ length-set marks s (a_start c n)

    at : (m : Bool) → length (elim m as (λ _. Marks) [ true ↦ set (set ends (suc s) []) (suc t) [] | false ↦ ends ]) ≡ length marks
    at true = length-set (set ends (suc s) []) (suc t) [] ∙ (length-set ends (suc s) [] ∙ same)
    at false = same

paired_one : (marks : Marks) (s t c : ℕ) → s + 1 ≤ t → t + 1 ≤ length marks → IsPaired marks (paired marks s t c 1) s t c 1
unfolding paired
paired_one marks s t c h g =
    let first : Marks = set marks s (a_start c 1) in
    let size : length (set marks s (a_start c 1)) ≡ length marks = length-set marks s (a_start c 1) in
    let apart : s ≢ t = omega arith in
    record {
      start = get_or-set_other first t s (an_end c 1) [] apart ∙ get_or-set_same marks s (a_start c 1) [] (omega arith);
      start_second = λ e. absurd (omega arith);
      stop = get_or-set_same first t (an_end c 1) [] (omega arith);
      stop_second = λ e. absurd (omega arith);
      before = λ i l. both i (omega arith) (omega arith);
      between = λ i l k. both i (omega arith) (omega arith);
      behind = λ i l. both i (omega arith) (omega arith);
    }
  where
    both : (i : ℕ) → i ≢ s → i ≢ t → get_or marks i [] ≡ get_or (set (set marks s (a_start c 1)) t (an_end c 1)) i []
    both i d e = sym (get_or-set_other (set marks s (a_start c 1)) t i (an_end c 1) [] e ∙ get_or-set_other marks s i (a_start c 1) [] d)

paired_two : (marks : Marks) (s t c : ℕ) → s + 2 ≤ t → t + 2 ≤ length marks → IsPaired marks (paired marks s t c 2) s t c 2
unfolding paired
paired_two marks s t c h g =
    let first : Marks = set marks s (a_start c 2) in
    let second : Marks = set first t (an_end c 2) in
    let third : Marks = set second (suc s) [] in
    let one : length (set marks s (a_start c 2)) ≡ length marks = length-set marks s (a_start c 2) in
    let two : length (set (set marks s (a_start c 2)) t (an_end c 2)) ≡ length (set marks s (a_start c 2)) = length-set first t (an_end c 2) in
    let three : length (set (set (set marks s (a_start c 2)) t (an_end c 2)) (suc s) [])
    ≡ length (set (set marks s (a_start c 2)) t (an_end c 2)) = length-set second (suc s) [] in
    record {
      start = get_or-set_other third (suc t) s [] [] (omega arith)
          ∙ (get_or-set_other second (suc s) s [] [] (omega arith)
          ∙ (get_or-set_other first t s (an_end c 2) [] (omega arith) ∙ get_or-set_same marks s (a_start c 2) [] (omega arith)));
      start_second = λ e. get_or-set_other third (suc t) (suc s) [] [] (omega arith) ∙ get_or-set_same second (suc s) [] [] (omega arith);
      stop = get_or-set_other third (suc t) t [] [] (omega arith)
          ∙ (get_or-set_other second (suc s) t [] [] (omega arith) ∙ get_or-set_same first t (an_end c 2) [] (omega arith));
      stop_second = λ e. get_or-set_same third (suc t) [] [] (omega arith);
      before = λ i l. all i (omega arith) (omega arith) (omega arith) (omega arith);
      between = λ i l k. all i (omega arith) (omega arith) (omega arith) (omega arith);
      behind = λ i l. all i (omega arith) (omega arith) (omega arith) (omega arith);
    }
  where
    all : (i : ℕ) → i ≢ s → i ≢ t → i ≢ suc s → i ≢ suc t
        → get_or marks i [] ≡ get_or (set (set (set (set marks s (a_start c 2)) t (an_end c 2)) (suc s) []) (suc t) []) i []
    all i d e f k =
        sym (get_or-set_other (set (set (set marks s (a_start c 2)) t (an_end c 2)) (suc s) []) (suc t) i [] [] k
        ∙ (get_or-set_other (set (set marks s (a_start c 2)) t (an_end c 2)) (suc s) i [] [] f
        ∙ (get_or-set_other (set marks s (a_start c 2)) t i (an_end c 2) [] e ∙ get_or-set_other marks s i (a_start c 2) [] d)))

-- the marks of a pair, written one after another
pub paired_is : (marks : Marks) (s t c n : ℕ) → OneOrTwo n → s + n ≤ t → t + n ≤ length marks
    → IsPaired marks (paired marks s t c n) s t c n
paired_is marks s t c n (inl e) h g = subst (λ k. IsPaired marks (paired marks s t c k) s t c k) (sym e)
    (paired_one marks s t c (omega arith) (omega arith))
paired_is marks s t c n (inr e) h g = subst (λ k. IsPaired marks (paired marks s t c k) s t c k) (sym e)
    (paired_two marks s t c (omega arith) (omega arith))

-- ---- the nearest opener on the stack

pub record IsNearest (c : Run) (stack : List Placed) (found : StackOpener) : Type 0 where
  pub upper : List Placed
  pub splits : stack ≡ found.lower ++ (found.opener ∷ upper)
  pub misses : AllMiss c upper
  pub matched : matches found.opener.run c ≡ true

abbrev pub Nearest : Run → List Placed → Option StackOpener → Type 0
Nearest c stack None = AllMiss c stack
Nearest c stack (Some found) = IsNearest c stack found

abbrev with_run : Run → Placed → Bool → Option StackOpener → Option StackOpener
with_run c p m found =
    elim found [
      | Some f ↦ Some (record { lower = p ∷ f.lower; opener = f.opener })
      | None ↦ elim m [ true ↦ Some (record { lower = []; opener = p }) | false ↦ None ]
    ]

nearest_with : (c : Run) (p : Placed) (more : List Placed) (found : Option StackOpener) → Nearest c more found → (m : Bool)
    → matches p.run c ≡ m → Nearest c (p ∷ more) (with_run c p m found)
nearest_with c p more (Some f) h m e = record { upper = h.upper; splits = ap (λ t. p ∷ t) h.splits; misses = h.misses; matched = h.matched }
nearest_with c p more None h true e = record { upper = more; splits = refl; misses = h; matched = e }
nearest_with c p more None h false e = (e, h)

pub nearest_splits : (c : Run) (stack : List Placed) → Nearest c stack (nearest_placed c stack)
unfolding nearest_placed
nearest_splits c [] = tt
nearest_splits c (p ∷ more) = nearest_with c p more (nearest_placed c more) (nearest_splits c more) (matches p.run c) refl

-- ---- the present run

-- what holds when it is closed as often as it can be
pub record IsClosed (a b : ℕ) (rest : List Placed) (goal : List Inline) (s : Closing) : Type 0 where
  pub closes : Closes s.marks a b s.stack s.closer rest goal
  pub done : (s.closer.run.left ≡ 0) ⊎ AllMiss s.closer.run s.stack
  pub size : b ≤ length s.marks

-- a pair in place, by the code's own writes
pub pair_closes : (a b : ℕ) (s : Closing) (found : StackOpener) (rest : List Placed) (goal : List Inline)
    → Closes s.marks a b s.stack s.closer rest goal → b ≤ length s.marks → 1 ≤ s.closer.run.left →
    IsNearest s.closer.run s.stack found → Closes (pair_in_place s found).marks a b (pair_in_place s found).stack
    (pair_in_place s found).closer rest goal
pair_closes a b s found rest goal h size l near =
    let o : Placed = found.opener in
    let c : Placed = s.closer in
    let n : ℕ = strength found.opener.run s.closer.run in
    let split : Closes s.marks a b (found.lower ++ (o ∷ near.upper)) c rest goal = subst (λ t. Closes s.marks a b t c rest goal)
    near.splits h in
    let own = placed_at s.marks a c.first found.lower o near.upper split.stands.before in
    let order : found.opener.first + found.opener.run.left ≤ s.closer.first = placed_order s.marks (o.first + o.run.left) c.first
    near.upper own.2 in
    let last : s.closer.first + s.closer.run.left ≤ b = placed_order s.marks (c.first + c.run.left) b rest split.stands.behind in
    let fits = strength_fits o.run c.run own.0 l in
    let mine : strength found.opener.run s.closer.run ≤ found.opener.run.left = fits.1 in
    let small : strength found.opener.run s.closer.run ≤ s.closer.run.left = fits.2 in
    closes_pair s.marks (paired s.marks (o.first + (o.run.left - n)) c.first c.run.char n) a b found.lower o near.upper c rest goal split l
    near.misses near.matched
    (paired_is s.marks (o.first + (o.run.left - n)) c.first c.run.char n fits.0 (omega arith) (omega arith))

closed_search : (a b n : ℕ) (s : Closing) (rest : List Placed) (goal : List Inline) → s.closer.run.left ≤ suc n → 1 ≤ s.closer.run.left
    → Closes s.marks a b s.stack s.closer rest goal → b ≤ length s.marks →
    ((t : Closing) → t.closer.run.left ≤ n → Closes t.marks a b t.stack t.closer rest goal → b ≤ length t.marks
    → IsClosed a b rest goal (close_in_place n t)) →
    (found : Option StackOpener) → Nearest s.closer.run s.stack found →
    IsClosed a b rest goal (elim found as (λ _. Closing) [ None ↦ s | Some f ↦ close_in_place n (pair_in_place s f) ])
closed_search a b n s rest goal k l h size more None near = record { closes = h; done = inr near; size = size }
closed_search a b n s rest goal k l h size more (Some f) near =
    let one : 1 ≤ strength f.opener.run s.closer.run = strong_counts (nat_le 2 f.opener.run.left && nat_le 2 s.closer.run.left) in
    more (pair_in_place s f) (omega arith) (pair_closes a b s f rest goal h size l near)
    (subst (λ m. b ≤ m) (sym (paired_length s.marks (f.opener.first + (f.opener.run.left - strength f.opener.run s.closer.run))
    s.closer.first s.closer.run.char (strength f.opener.run s.closer.run))) size)

closed_left : (a b n : ℕ) (s : Closing) (rest : List Placed) (goal : List Inline) → s.closer.run.left ≤ suc n
    → Closes s.marks a b s.stack s.closer rest goal → b ≤ length s.marks →
    ((t : Closing) → t.closer.run.left ≤ n → Closes t.marks a b t.stack t.closer rest goal → b ≤ length t.marks
    → IsClosed a b rest goal (close_in_place n t)) →
    (m : Bool) → nat_lt 0 s.closer.run.left ≡ m →
    IsClosed a b rest goal (elim m as (λ _. Closing) [
      | false ↦ s
      | true ↦ elim (nearest_placed s.closer.run s.stack) as (λ _. Closing)
          [ None ↦ s | Some f ↦ close_in_place n (pair_in_place s f) ]
    ])
closed_left a b n s rest goal k h size more false e = let f : s.closer.run.left
    ≤ 0 = ltb-false 0 s.closer.run.left e in record { closes = h; done = inl (omega arith); size = size }
closed_left a b n s rest goal k h size more true e =
    let f : 0 < s.closer.run.left = ltb-true 0 s.closer.run.left e in
    closed_search a b n s rest goal k (omega arith) h size more (nearest_placed s.closer.run s.stack) (nearest_splits s.closer.run s.stack)

is_closed : (a b n : ℕ) (s : Closing) (rest : List Placed) (goal : List Inline) → s.closer.run.left ≤ n
    → Closes s.marks a b s.stack s.closer rest goal → b ≤ length s.marks → IsClosed a b rest goal (close_in_place n s)
unfolding close_in_place
is_closed a b zero s rest goal l h size = record { closes = h; done = inl (omega arith); size = size }
is_closed a b (suc n) s rest goal l h size =
    closed_left a b n s rest goal l h size (λ t k g f. is_closed a b n t rest goal k g f) (nat_lt 0 s.closer.run.left) refl

-- ---- all runs

walked : (a b : ℕ) (rest : List Placed) (marks : Marks) (stack : List Placed) (goal : List Inline) → Walks marks a b stack rest goal
    → b ≤ length marks → SameText (stretch (in_place marks stack rest) a (b - a)) goal
unfolding in_place
walked a b [] marks stack goal w size = walks_last marks a b stack goal w
walked a b (c ∷ rest) marks stack goal w size =
    let s : Closing = close_in_place c.run.left (record { marks = marks; stack = stack; closer = c }) in
    let h : IsClosed a b rest goal s = is_closed a b c.run.left (record { marks = marks; stack = stack; closer = c }) rest goal
    (omega arith) (closes_first marks a b stack c rest goal w) size in
    walked a b rest s.marks (joined s.stack s.closer) goal (walks_next s.marks a b s.stack s.closer rest goal h.closes h.done) h.size

pub in_place_suffices : InPlaceSuffices
unfolding passed_once
in_place_suffices marks a b runs plain placed size =
    walked a b runs marks [] (passed [] (seen marks a b runs)) (walks_first marks a b runs plain placed) size
    ∙ one_pass_suffices (seen marks a b runs)

-- ---- what stands before stays

-- a pair changes no mark before the first of the runs
pub pair_before : (marks next : Marks) (a b : ℕ) (lower : List Placed) (o : Placed) (upper : List Placed) (d n : ℕ)
    → ArePlaced marks a b (lower ++ (o ∷ upper)) →
    IsPaired marks next (o.first + (o.run.left - n)) b d n → (i : ℕ) → i < a → get_or marks i [] ≡ get_or next i []
pair_before marks next a b lower o upper d n h p i l =
    let f : a ≤ o.first = placed_order marks a o.first lower (placed_front marks a b lower o upper h) in
    p.before i (omega arith)
