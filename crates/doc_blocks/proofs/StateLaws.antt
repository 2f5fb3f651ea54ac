-- The steps on a state are the steps on its path.
use Rattle.std.proofs.Common.{◌≡◌, ◌∙◌, ℕ, suc, ◌+◌, ◌≤◌, Bool, true, false, List, [], ◌∷◌, ◌++◌, take, drop, length, refl}
use Rattle.std.proofs.Common.{ap, sym, arith, length-append, Option, Some, None}
use Rattle.std.specs.FinMap.{get}
use Rattle.std.proofs.lemmas.List.{take_all, drop_all, length-take-le}
use Rattle.doc_rules.specs.Columns.{Line, is_blank_line}
use Rattle.doc_rules.specs.Rules.{Rules}
use Rattle.doc_rules.specs.Definitions.{Definition}
use Rattle.doc_rules.specs.Destinations.{Target}
use Rattle.doc_rules.specs.ContainerStarts.{ListKind, ItemStart, quote_start, item_start}
use Rattle.doc_rules.specs.Trees.{Situation, NoParagraph, LeafStart, leaf_begins, item_may_begin}
use Rattle.doc_refs_parts.specs.Targets.{Targets, targets_of, joined}
use Rattle.doc_refs_parts.proofs.MapLaws.{same_targets, first_of, get-joined, joined-empty, joins_definitions}
use Rattle.doc_blocks_leaves.specs.Leaves.{NoLeaf, open_references}
use Rattle.doc_blocks_leaves.specs.Paths.{Level, OpenQuote, OpenItem, Path, Inside, empty_path, begun_at, item_begun_at}
use Rattle.doc_blocks_leaves.specs.Closing.{closed, path_blank, path_references}
use Rattle.doc_blocks_leaves.specs.OpenBlocks.{Moved, quote_put, item_put, item_first, start_step, leaf_begun, text_put, item_step}
use Rattle.doc_blocks_leaves.specs.OpenBlocks.{leaf_or_item_step, leaf_step}
use Rattle.doc_blocks.specs.StackSteps.{Outer, inside, path_at}
use Rattle.doc_blocks.specs.PathSteps.{situation_in, item_moved}
use Rattle.doc_blocks.specs.StateSteps.{State, below, met, shown, reached, all_closed, quote_opened, item_opened, item_met, StepsTo}
use Rattle.doc_blocks.proofs.PathLaws.{closes_inside, blank_inside, references_inside, inside_append}

-- ---- the definitions' choices, at what is chosen by

abbrev pub pair_of : Path → Targets → Path × Targets
pair_of path refs = (path, refs)

abbrev by_quote : ℕ → Rules → Situation → Line → Path → Option Line → Moved
by_quote room rules situation line path found =
    elim found [
      | Some rest ↦ quote_put rules path (start_step room rules NoParagraph rest empty_path)
      | None ↦ leaf_or_item_step rules situation line path (λ first. start_step room rules NoParagraph first empty_path)
    ]

abbrev by_leaf : Rules → Situation → Line → Path → (Line → Moved) → Option LeafStart → Moved
by_leaf rules situation line path inner found = elim found [
  | Some start ↦ leaf_begun rules path start
  | None ↦ item_step rules situation
      line path inner
]

abbrev by_last : Rules → Situation → Line → Path → Option LeafStart → Moved
by_last rules situation line path found = elim found [
  | Some start ↦ leaf_begun rules path start
  | None ↦ text_put rules situation line path
]

abbrev by_start : Rules → Situation → Line → Path → (Line → Moved) → Option ItemStart → Moved
by_start rules situation line path inner found =
    elim found [
      | None ↦ text_put rules situation line path
      | Some item ↦ elim (item_may_begin situation item) [
        | false ↦ text_put rules situation line path
        | true ↦ item_put rules path item
            inner
      ]
    ]

abbrev by_item : Rules → Situation → Line → Path → (Line → Moved) → Option ItemStart → Moved
by_item rules situation line path inner found = elim found [
  | None ↦ text_put rules situation line path
  | Some item ↦ item_put rules path
      item inner
]

-- ---- what labels name

first_again : (a b c : Option Target) → first_of (first_of a b) c ≡ first_of a (first_of b c)
first_again None b c = refl
first_again (Some t) b c = refl

-- definitions that are joined after others
pub joined_again : (refs : Targets) (first later : List Definition)
    → joined (joined refs (targets_of first)) (targets_of later) ≡ joined refs (targets_of (first ++ later))
joined_again refs first later =
    same_targets (joined (joined refs (targets_of first)) (targets_of later)) (joined refs (joined (targets_of first) (targets_of later)))
    (λ name.
    get-joined (joined refs (targets_of first)) (targets_of later) name
    ∙ (ap (λ (t : Option Target). first_of t (get (targets_of later) name)) (get-joined refs (targets_of first) name)
    ∙ (first_again (get refs name) (get (targets_of first) name) (get (targets_of later) name)
    ∙ (ap (first_of (get refs name)) (sym (get-joined (targets_of first) (targets_of later) name))
    ∙ sym (get-joined refs (joined (targets_of first) (targets_of later)) name)))))
    ∙ ap (joined refs) (joins_definitions first later)

pub joined_none : (refs : Targets) → joined refs (targets_of []) ≡ refs
joined_none refs = joined-empty refs

-- ---- closing

pub closed_below : (rules : Rules) (depth : ℕ) (s : State) → closed rules (below depth s) ≡ (all_closed rules depth s).stack.inner
closed_below rules depth s = closes_inside rules (drop depth s.stack.outer) s.stack.inner s.leaf s.stack.blank

pub blank_below : (rules : Rules) (depth : ℕ) (s : State) → path_blank (below depth s) ≡ (all_closed rules depth s).stack.blank
blank_below rules depth s = blank_inside (drop depth s.stack.outer) s.stack.inner s.leaf s.stack.blank

pub references_below : (rules : Rules) (depth : ℕ) (s : State) → path_references rules (below depth s) ≡ open_references rules s.leaf
references_below rules depth s = references_inside rules (drop depth s.stack.outer) s.stack.inner s.leaf s.stack.blank

-- a move that begins with all closing, by what it makes of the level and the blank line behind its last block
abbrev after_all : Rules → Path → (Level → Bool → Path) → List Definition → Moved
after_all rules path f refs = record { path = f (closed rules path) (path_blank path); refs = path_references rules path ++ refs }

pub reached_closed : (rules : Rules) (depth : ℕ) (s : State) (f : Level → Bool → Path) (refs : List Definition) →
    reached depth s (after_all rules (below depth s) f refs)
    ≡ (
      inside (take depth s.stack.outer) (f (all_closed rules depth s).stack.inner (all_closed rules depth s).stack.blank),
      joined
          (all_closed rules depth s).refs (targets_of refs),
    )
reached_closed rules depth s f refs =
    let c = all_closed rules depth s in
    ap (λ (l : Level). pair_of (inside (take depth s.stack.outer) (f l (path_blank (below depth s))))
    (joined s.refs (targets_of (path_references rules (below depth s) ++ refs)))) (closed_below rules depth s)
    ∙ (ap (λ (b : Bool). pair_of (inside (take depth s.stack.outer) (f c.stack.inner b))
    (joined s.refs (targets_of (path_references rules (below depth s) ++ refs)))) (blank_below rules depth s)
    ∙ (ap (λ (r : List Definition). pair_of (inside (take depth s.stack.outer) (f c.stack.inner c.stack.blank))
    (joined s.refs (targets_of (r ++ refs)))) (references_below rules depth s)
    ∙ ap (pair_of (inside (take depth s.stack.outer) (f c.stack.inner c.stack.blank)))
    (sym (joined_again s.refs (open_references rules s.leaf) refs))))

-- the same where nothing else leaves
pub reached_done : (rules : Rules) (depth : ℕ) (s : State) (f : Level → Bool → Path) →
    reached depth s (record {
      path = f (closed rules (below depth s)) (path_blank (below depth s));
      refs = path_references rules
          (below depth s);
    })
    ≡ (
      inside (take depth s.stack.outer) (f (all_closed rules depth s).stack.inner (all_closed rules depth s).stack.blank),
      (all_closed rules depth s).refs,
    )
reached_done rules depth s f =
    let c = all_closed rules depth s in
    ap (λ (l : Level). pair_of (inside (take depth s.stack.outer) (f l (path_blank (below depth s))))
    (joined s.refs (targets_of (path_references rules (below depth s))))) (closed_below rules depth s)
    ∙ (ap (λ (b : Bool). pair_of (inside (take depth s.stack.outer) (f c.stack.inner b))
    (joined s.refs (targets_of (path_references rules (below depth s))))) (blank_below rules depth s)
    ∙ ap (λ (r : List Definition). pair_of (inside (take depth s.stack.outer) (f c.stack.inner c.stack.blank))
    (joined s.refs (targets_of r))) (references_below rules depth s))

-- ---- containers

-- all of the outer containers are those that a container was put behind
whole_outer : (depth : ℕ) (outer : List Outer) (o : Outer) → depth ≤ length outer
    → take (depth + 1) (take depth outer ++ o ∷ []) ≡ take depth outer ++ o ∷ []
whole_outer depth outer o h = take_all (depth + 1) (take depth outer ++ o ∷ [])
    (omega (arith, length-append (take depth outer) (o ∷ []), length-take-le depth outer h))

nothing_below : (depth : ℕ) (outer : List Outer) (o : Outer) → depth ≤ length outer → drop (depth + 1) (take depth outer ++ o ∷ []) ≡ []
nothing_below depth outer o h = drop_all (depth + 1) (take depth outer ++ o ∷ [])
    (omega (arith, length-append (take depth outer) (o ∷ []), length-take-le depth outer h))

-- inside a container that opened
inside_opened : (depth : ℕ) (outer : List Outer) (o : Outer) (path : Path) → depth ≤ length outer →
    inside (take (depth + 1) (take depth outer ++ o ∷ [])) path ≡ inside (take depth outer) (Inside o.0 o.1 path)
inside_opened depth outer o path h = ap (λ (os : List Outer). inside os path) (whole_outer depth outer o h)
    ∙ inside_append (take depth outer) (o ∷ []) path

pub quote_reached : (rules : Rules) (depth : ℕ) (s : State) (m : Moved) → depth ≤ length s.stack.outer →
    reached depth s (quote_put rules (below depth s) m) ≡ reached (depth + 1) (quote_opened rules depth s) m
quote_reached rules depth s m h =
    let c = all_closed rules depth s in
    reached_closed rules depth s (λ l b. Inside (begun_at l b) OpenQuote m.path) m.refs
    ∙ ap (λ (p : Path). pair_of p (joined c.refs (targets_of m.refs)))
    (sym (inside_opened depth s.stack.outer (begun_at c.stack.inner c.stack.blank, OpenQuote) m.path h))

pub item_reached : (rules : Rules) (depth : ℕ) (s : State) (kind : ListKind) (start columns : ℕ) (is_empty : Bool) (m : Moved)
    → depth ≤ length s.stack.outer →
    reached depth s (item_moved rules (below depth s) kind start columns is_empty m)
    ≡ reached (depth + 1) (item_opened rules depth s kind start columns is_empty) m
item_reached rules depth s kind start columns is_empty m h =
    let c = all_closed rules depth s in
    reached_closed rules depth s (λ l b. Inside (item_begun_at l b kind start) (OpenItem columns is_empty) m.path) m.refs
    ∙ ap (λ (p : Path). pair_of p (joined c.refs (targets_of m.refs)))
    (sym (inside_opened depth s.stack.outer (item_begun_at c.stack.inner c.stack.blank kind start, OpenItem columns is_empty) m.path h))

-- inside a container that opened, nothing stands yet
pub below_quote : (rules : Rules) (depth : ℕ) (s : State) → depth ≤ length s.stack.outer
    → below (depth + 1) (quote_opened rules depth s) ≡ empty_path
below_quote rules depth s h =
    let c = all_closed rules depth s in
    ap (λ (os : List Outer). inside os empty_path) (nothing_below depth s.stack.outer (begun_at c.stack.inner c.stack.blank, OpenQuote) h)

pub below_item : (rules : Rules) (depth : ℕ) (s : State) (kind : ListKind) (start columns : ℕ) (is_empty : Bool)
    → depth ≤ length s.stack.outer →
    below (depth + 1) (item_opened rules depth s kind start columns is_empty) ≡ empty_path
below_item rules depth s kind start columns is_empty h =
    let c = all_closed rules depth s in
    ap (λ (os : List Outer). inside os empty_path) (nothing_below depth s.stack.outer
    (item_begun_at c.stack.inner c.stack.blank kind start, OpenItem columns is_empty) h)

met_none : (rules : Rules) (outer : List Outer) → situation_in rules outer NoLeaf ≡ NoParagraph
met_none rules [] = refl
met_none rules (o ∷ outer) = refl

-- ---- one step of what a line begins

start_quote : (room : ℕ) (rules : Rules) (situation : Situation) (line rest : Line) (path : Path) → quote_start line ≡ Some rest →
    start_step (suc room) rules situation line path ≡ quote_put rules path (start_step room rules NoParagraph rest empty_path)
unfolding start_step
start_quote room rules situation line rest path e = ap (by_quote room rules situation line path) e

start_other : (room : ℕ) (rules : Rules) (situation : Situation) (line : Line) (path : Path) → quote_start line ≡ None →
    start_step (suc room) rules situation line path ≡ leaf_or_item_step rules situation line path
    (λ first. start_step room rules NoParagraph first empty_path)
unfolding start_step
start_other room rules situation line path e = ap (by_quote room rules situation line path) e

pub steps_quote : (rules : Rules) (room depth : ℕ) (s : State) (line rest : Line) → depth ≤ length s.stack.outer
    → quote_start line ≡ Some rest →
    StepsTo rules room depth s line (quote_opened rules depth s) (Some rest)
steps_quote rules room depth s line rest h e =
    let q = quote_opened rules depth s in
    ap (reached depth s) (start_quote room rules (met rules depth s) line rest (below depth s) e)
    ∙ (quote_reached rules depth s (start_step room rules NoParagraph rest empty_path) h
    ∙ (ap (λ (p : Path). reached (depth + 1) q (start_step room rules NoParagraph rest p)) (sym (below_quote rules depth s h))
    ∙ ap (λ (t : Situation). reached (depth + 1) q (start_step room rules t rest (below (depth + 1) q)))
    (sym (met_none rules (drop (depth + 1) q.stack.outer)))))

-- a leaf begins
other_leaf : (rules : Rules) (situation : Situation) (line : Line) (path : Path) (inner : Line → Moved) (start : LeafStart)
    → leaf_begins rules situation line ≡ Some start →
    leaf_or_item_step rules situation line path inner ≡ leaf_begun rules path start
unfolding leaf_or_item_step
other_leaf rules situation line path inner start e = ap (by_leaf rules situation line path inner) e

other_item : (rules : Rules) (situation : Situation) (line : Line) (path : Path) (inner : Line → Moved)
    → leaf_begins rules situation line ≡ None →
    leaf_or_item_step rules situation line path inner ≡ item_step rules situation line path inner
unfolding leaf_or_item_step
other_item rules situation line path inner e = ap (by_leaf rules situation line path inner) e

pub steps_leaf : (rules : Rules) (room depth : ℕ) (s n : State) (line : Line) (start : LeafStart) → quote_start line ≡ None
    → leaf_begins rules (met rules depth s) line ≡ Some start →
    reached depth s (leaf_begun rules (below depth s) start) ≡ shown n → StepsTo rules room depth s line n None
steps_leaf rules room depth s n line start e f g =
    ap (reached depth s) (start_other room rules (met rules depth s) line (below depth s) e
    ∙ other_leaf rules (met rules depth s) line (below depth s) _ start f) ∙ g

-- an item begins, or text stands there
item_by : (rules : Rules) (situation : Situation) (line : Line) (path : Path) (inner : Line → Moved) (found : Option ItemStart)
    → found ≡ item_met situation (item_start line) →
    item_step rules situation line path inner ≡ by_item rules situation line path inner found
unfolding item_step
item_by rules situation line path inner found e = go (item_start line) found e
  where
    go : (o found : Option ItemStart) → found ≡ item_met situation o
        → by_start rules situation line path inner o ≡ by_item rules situation line path inner found
    go None found f = ap (by_item rules situation line path inner) (sym f)
    go (Some item) found f = may (item_may_begin situation item) item found f
      where
        may : (b : Bool) (i : ItemStart) (found : Option ItemStart)
            → found ≡ elim b as (λ _. Option ItemStart) [ true ↦ Some i | false ↦ None ] →
            elim b as (λ _. Moved) [ false ↦ text_put rules situation line path | true ↦ item_put rules path i inner ]
            ≡ by_item rules situation line path inner found
        may true i found g = ap (by_item rules situation line path inner) (sym g)
        may false i found g = ap (by_item rules situation line path inner) (sym g)

pub steps_text : (rules : Rules) (room depth : ℕ) (s n : State) (line : Line) → quote_start line ≡ None
    → leaf_begins rules (met rules depth s) line ≡ None → None ≡ item_met (met rules depth s) (item_start line) →
    reached depth s (text_put rules (met rules depth s) line (below depth s)) ≡ shown n → StepsTo rules room depth s line n None
steps_text rules room depth s n line e f g k =
    ap (reached depth s)
    (start_other room rules (met rules depth s) line (below depth s) e
    ∙ (other_item rules (met rules depth s) line (below depth s) _ f ∙ item_by rules (met rules depth s) line (below depth s) _ None g))
    ∙ k

-- where no container may begin
pub last_leaf : (rules : Rules) (depth : ℕ) (s n : State) (line : Line) (start : LeafStart)
    → leaf_begins rules (met rules depth s) line ≡ Some start →
    reached depth s (leaf_begun rules (below depth s) start) ≡ shown n
    → reached depth s (leaf_step rules (met rules depth s) line (below depth s)) ≡ shown n
unfolding leaf_step
last_leaf rules depth s n line start e f = ap (λ (o : Option LeafStart). reached depth s
    (by_last rules (met rules depth s) line (below depth s) o)) e ∙ f

pub last_text : (rules : Rules) (depth : ℕ) (s n : State) (line : Line) → leaf_begins rules (met rules depth s) line ≡ None →
    reached depth s (text_put rules (met rules depth s) line (below depth s)) ≡ shown n
    → reached depth s (leaf_step rules (met rules depth s) line (below depth s)) ≡ shown n
unfolding leaf_step
last_text rules depth s n line e f = ap (λ (o : Option LeafStart). reached depth s (by_last rules (met rules depth s) line
    (below depth s) o)) e
    ∙ f

-- an item begins
first_by : (line : Line) (inner : Line → Moved) (blank : Bool) → is_blank_line line ≡ blank
    → item_first line inner ≡ elim blank as (λ _. Moved) [ true ↦ record { path = empty_path; refs = [] } | false ↦ inner line ]
unfolding item_first
first_by line inner blank e = ap (λ (b : Bool). elim b as (λ _. Moved)
    [ true ↦ record { path = empty_path; refs = [] } | false ↦ inner line ]) e

item_steps : (rules : Rules) (room depth : ℕ) (s : State) (line : Line) (item : ItemStart) (m : Moved) → depth ≤ length s.stack.outer
    → quote_start line ≡ None → leaf_begins rules (met rules depth s) line ≡ None →
    Some item ≡ item_met (met rules depth s) (item_start line)
    → item_first item.first (λ first. start_step room rules NoParagraph first empty_path) ≡ m →
    reached depth s (start_step (suc room) rules (met rules depth s) line (below depth s))
    ≡ reached (depth + 1) (item_opened rules depth s item.kind item.start item.columns (is_blank_line item.first)) m
item_steps rules room depth s line item m h e f g k =
    ap (reached depth s)
    (start_other room rules (met rules depth s) line (below depth s) e
    ∙ (other_item rules (met rules depth s) line (below depth s) _ f
    ∙ item_by rules (met rules depth s) line (below depth s) _ (Some item) g))
    ∙ (ap (λ (inner : Moved). reached depth s (item_moved rules (below depth s) item.kind item.start item.columns
    (is_blank_line item.first) inner)) k
    ∙ item_reached rules depth s item.kind item.start item.columns (is_blank_line item.first) m h)

pub steps_item : (rules : Rules) (room depth : ℕ) (s : State) (line : Line) (item : ItemStart) → depth ≤ length s.stack.outer
    → quote_start line ≡ None → leaf_begins rules (met rules depth s) line ≡ None →
    Some item ≡ item_met (met rules depth s) (item_start line) → is_blank_line item.first ≡ false →
    StepsTo rules room depth s line (item_opened rules depth s item.kind item.start item.columns (is_blank_line item.first))
    (Some item.first)
steps_item rules room depth s line item h e f g k =
    let q = item_opened rules depth s item.kind item.start item.columns (is_blank_line item.first) in
    item_steps rules room depth s line item (start_step room rules NoParagraph item.first empty_path) h e f g
    (first_by item.first _ false k)
    ∙ (ap (λ (p : Path). reached (depth + 1) q (start_step room rules NoParagraph item.first p))
    (sym (below_item rules depth s item.kind item.start item.columns (is_blank_line item.first) h))
    ∙ ap (λ (t : Situation). reached (depth + 1) q (start_step room rules t item.first (below (depth + 1) q)))
    (sym (met_none rules (drop (depth + 1) q.stack.outer))))

-- one of which nothing stands on the line
pub steps_blank_item : (rules : Rules) (room depth : ℕ) (s : State) (line : Line) (item : ItemStart) → depth ≤ length s.stack.outer
    → quote_start line ≡ None → leaf_begins rules (met rules depth s) line ≡ None →
    Some item ≡ item_met (met rules depth s) (item_start line) → is_blank_line item.first ≡ true →
    StepsTo rules room depth s line (item_opened rules depth s item.kind item.start item.columns (is_blank_line item.first)) None
steps_blank_item rules room depth s line item h e f g k =
    let q = item_opened rules depth s item.kind item.start item.columns (is_blank_line item.first) in
    let c = all_closed rules depth s in
    item_steps rules room depth s line item (record { path = empty_path; refs = [] }) h e f g (first_by item.first _ true k)
    ∙ (ap (λ (os : List Outer). pair_of (inside os empty_path) (joined q.refs (targets_of [])))
    (whole_outer depth s.stack.outer (
      item_begun_at c.stack.inner c.stack.blank item.kind item.start,
      OpenItem item.columns
          (is_blank_line item.first),
    ) h)
    ∙ ap (pair_of (path_at q.stack NoLeaf)) (joined_none q.refs))
