-- Each client that takes part stands once in the list of a turn.
use Rattle.std.proofs.Common.{◌≡◌, ◌≤◌, ◌==◌, ◌+◌, ◌&&◌, ℕ, List, [], ◌∷◌, Bool, true, false, not, cond, refl, sym, ap, ◌∙◌, arith}
use Rattle.std.specs.Prelude.{Contains, Option, Some, None, filter, map as mapped}
use Rattle.std.specs.BTreeMap.{is_at}
use Rattle.std.specs.FinMap as map
use Rattle.std.specs.Cmp.{unsigned_tied}
use Rattle.std.specs.Map.{keys_of}
use Rattle.std.specs.List.Sorted.{IsStrictlySortedBy}
use Rattle.std.specs.Ordering.{is_le, nat_cmp}
use Rattle.std.proofs.lemmas.Bool.{eqb-true}
use Rattle.std.proofs.lemmas.Bool.Decides.{nat_tests}
use Rattle.std.proofs.lemmas.List.Elements.{Contains-append_right}
use Rattle.std.proofs.lemmas.List.Sums.{sum_by-append, sum_by-cons}
use Rattle.doc_page_parts.proofs.Maps.{find_before, is_sorted_keys}
use Rattle.doc_server_turns.specs.Parts.{numbers_of, takes_part, takes_part_at, times_among, turn_of}
use Rattle.doc_server_turns.specs.Wirings.{Peer, Table}
use Rattle.doc_server_turns.proofs.Walks.{below, from_on}

some_none : (p : Peer) → ◌≡◌ {A = Option Peer} (Some p) None → ⊥
some_none p e = cc

flip : (a b : ℕ) → (b == a) ≡ false → (a == b) ≡ false
flip a b off = grind (arith, nat_tests)

turn : (a b : ℕ) → (b == a) ≡ true → (a == b) ≡ true
turn a b is = grind (arith, nat_tests)

-- how often a number stands among those that take part of some clients
abbrev times_of : List (ℕ × Peer) → ℕ → ℕ
times_of es k = times_among (numbers_of takes_part es) k

-- how often it stands in both parts of the list
abbrev times : ℕ → List (ℕ × Peer) → ℕ → ℕ
times first es k = times_of (from_on first es) k + times_of (below first es) k

times_cons : (n : ℕ) (ns : List ℕ) (k : ℕ) → times_among (n ∷ ns) k ≡ cond (n == k) 1 0 + times_among ns k
times_cons n ns k = sum_by-cons (λ m. cond (m == k) 1 0) n ns

abbrev passing : List (ℕ × Peer) → List (ℕ × Peer)
passing es = filter (λ client. takes_part client.1) es

one_more : (e : ℕ × Peer) (es : List (ℕ × Peer)) (k : ℕ)
    → times_of (e ∷ es) k ≡ cond (takes_part e.1 && e.0 == k) 1 0 + times_of es k
one_more e es k = by (takes_part e.1)
  where
    by : (b : Bool) → times_among (mapped (λ client. client.0) (cond b (e ∷ passing es) (passing es))) k
        ≡ cond (b && e.0 == k) 1 0 + times_of es k
    by true = times_cons e.0 (numbers_of takes_part es) k
    by false = omega arith

either : (s : Bool) (e : ℕ × Peer) (xs ys : List (ℕ × Peer)) (k n : ℕ) → cond (takes_part e.1 && e.0 == k) 1 0 ≡ n
    → times_of (cond (s && true) (e ∷ xs) xs) k + times_of (cond (true && not s) (e ∷ ys) ys) k ≡ n + (times_of xs k + times_of ys k)
either true e xs ys k n is = omega (arith, one_more e xs k, is)
either false e xs ys k n is = omega (arith, one_more e ys k, is)

times_more : (first : ℕ) (e : ℕ × Peer) (es : List (ℕ × Peer)) (k : ℕ)
    → times first (e ∷ es) k ≡ cond (takes_part e.1 && e.0 == k) 1 0 + times first es k
times_more first e es k =
    either (is_le (nat_cmp first e.0)) e (from_on first es) (below first es) k (cond (takes_part e.1 && e.0 == k) 1 0) refl

abbrev counted : Bool → ℕ
counted b = cond b 1 0

neither : (tp : Bool) → counted (tp && false) ≡ 0
neither true = refl
neither false = refl

one_of : (tp : Bool) → counted (tp && true) ≡ counted tp
one_of true = refl
one_of false = refl

-- the client in front has this number, or another
here : (first : ℕ) (e : ℕ × Peer) (es : List (ℕ × Peer)) (k : ℕ) → (e.0 == k) ≡ true → times first es k ≡ 0
    → times first (e ∷ es) k ≡ counted (takes_part e.1)
here first e es k same rest =
    let more = times_more first e es k in
    let alone = ap (λ b. counted (takes_part e.1 && b)) same ∙ one_of (takes_part e.1) in
    omega (arith, more, alone, rest)

there : (first : ℕ) (e : ℕ × Peer) (es : List (ℕ × Peer)) (k n : ℕ) → (e.0 == k) ≡ false → times first es k ≡ n
    → times first (e ∷ es) k ≡ n
there first e es k n off rest =
    let more = times_more first e es k in
    let none = ap (λ b. counted (takes_part e.1 && b)) off ∙ neither (takes_part e.1) in
    omega (arith, more, none, rest)

apart : (k : ℕ) (e : ℕ × Peer) → is_at (nat_cmp k) e.0 ≡ false → (e.0 == k) ≡ false
apart k e off = flip e.0 k (sym (unsigned_tied k e.0) ∙ off)

alike : (k : ℕ) (e : ℕ × Peer) → is_at (nat_cmp k) e.0 ≡ true → (e.0 == k) ≡ true
alike k e is = turn e.0 k (sym (unsigned_tied k e.0) ∙ is)

-- where no client has this number, it stands nowhere
nowhere : (first : ℕ) (es : List (ℕ × Peer)) (k : ℕ) → map.find nat_cmp k es ≡ None → times first es k ≡ 0
nowhere first [] k none = omega arith
nowhere first (e ∷ es) k none = by first e es k (is_at (nat_cmp k) e.0) refl none (nowhere first es k)
  where
    by : (first : ℕ) (e : ℕ × Peer) (es : List (ℕ × Peer)) (k : ℕ) (b : Bool) → is_at (nat_cmp k) e.0 ≡ b
        → cond (is_at (nat_cmp k) e.0) (Some e.1) (map.find nat_cmp k es) ≡ None → (map.find nat_cmp k es ≡ None → times first es k ≡ 0)
        → times first (e ∷ es) k ≡ 0
    by first e es k true is none rest =
        absurd (some_none e.1 (sym (ap (λ b. cond b (Some e.1) (map.find nat_cmp k es)) is) ∙ none))
    by first e es k false off none rest =
        there first e es k 0 (apart k e off) (rest (sym (ap (λ b. cond b (Some e.1) (map.find nat_cmp k es)) off) ∙ none))

abbrev Counts : ℕ → List (ℕ × Peer) → ℕ → Type 0
Counts first es k = times first es k ≡ counted (takes_part_at (map.find nat_cmp k es))

one_counts : (first : ℕ) (e : ℕ × Peer) (es : List (ℕ × Peer)) (k : ℕ) (b : Bool) → is_at (nat_cmp k) e.0 ≡ b
    → map.find nat_cmp e.0 es ≡ None → Counts first es k → Counts first (e ∷ es) k
one_counts first e es k true is before rest =
    let same : e.0 ≡ k = eqb-true e.0 k (alike k e is) in
    here first e es k (alike k e is) (nowhere first es k (ap (λ q. map.find nat_cmp q es) (sym same) ∙ before))
    ∙ ap (λ b. counted (takes_part_at (cond b (Some e.1) (map.find nat_cmp k es)))) (sym is)
one_counts first e es k false off before rest =
    there first e es k (counted (takes_part_at (map.find nat_cmp k es))) (apart k e off) rest
    ∙ ap (λ b. counted (takes_part_at (cond b (Some e.1) (map.find nat_cmp k es)))) (sym off)

counts : (first : ℕ) (es : List (ℕ × Peer)) (k : ℕ) → IsStrictlySortedBy nat_cmp (keys_of es) → Counts first es k
unfolding IsStrictlySortedBy
counts first [] k sorted = omega arith
counts first (e ∷ es) k sorted =
    one_counts first e es k (is_at (nat_cmp k) e.0) refl (find_before nat_cmp e.0 es sorted.0) (counts first es k sorted.1)

-- each client that takes part stands in the list once, and nobody else does
pub listed : (first : ℕ) (table : Table) (k : ℕ) → times_among (turn_of first table) k ≡ counted (takes_part_at (map.get table k))
listed first table k =
    let es = map.entries table in
    sum_by-append (λ n. cond (n == k) 1 0) (numbers_of takes_part (from_on first es)) (numbers_of takes_part (below first es))
    ∙ counts first es k (is_sorted_keys nat_cmp es (map.entries_sorted table))
    ∙ ap (λ o. counted (takes_part_at o)) (sym (map.get-entries table k))

in_rest : (n : ℕ) (ns : List ℕ) (k : ℕ) → Contains ns k → Contains (n ∷ ns) k
in_rest n ns k among = Contains-append_right (n ∷ []) ns k among

in_front : (n : ℕ) (ns : List ℕ) (k : ℕ) → (n == k) ≡ true → Contains (n ∷ ns) k
in_front n ns k is = (0, omega arith, eqb-true n k is)

in_list : (ns : List ℕ) (k : ℕ) → 1 ≤ times_among ns k → Contains ns k
in_list [] k some = absurd (omega (arith, some))
in_list (n ∷ ns) k some = by (n == k) refl (times_cons n ns k) (in_list ns k)
  where
    by : (b : Bool) → (n == k) ≡ b → times_among (n ∷ ns) k ≡ cond (n == k) 1 0 + times_among ns k
        → (1 ≤ times_among ns k → Contains ns k) → Contains (n ∷ ns) k
    by true is count rest = in_front n ns k is
    by false off count rest = in_rest n ns k (rest (omega (arith, some, count, ap counted off)))

-- whoever takes part stands in the list
pub among_them : (first : ℕ) (table : Table) (k : ℕ) → takes_part_at (map.get table k) ≡ true → Contains (turn_of first table) k
among_them first table k part = in_list (turn_of first table) k (omega (arith, listed first table k, ap counted part))
