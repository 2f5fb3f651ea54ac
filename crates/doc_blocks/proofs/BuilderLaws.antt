-- What the calls on a document that is read line by line do to its state, from what they do to its parts.
use Rattle.std.proofs.Common.{◌≡◌, ◌∙◌, ℕ, ◌<◌, ◌≤◌, Bool, true, false, List, [], ◌∷◌, length, refl, ap, sym, arith}
use Rattle.std.proofs.Common.{Bor, ◌&&◌, Option, Some, None, is_some}
use Rattle.std.specs.Prelude.{if◌then◌else◌}
use Rattle.doc_lines.specs.RestSteps.{rest_of}
use Rattle.doc_rules.specs.Tables.{has_table}
use Rattle.doc_rules.specs.Characters.{Text}
use Rattle.doc_rules.specs.Columns.{Line}
use Rattle.doc_rules.specs.Rules.{Rules}
use Rattle.doc_rules.specs.ContainerStarts.{ItemStart, item_may_interrupt}
use Rattle.doc_rules.specs.Trees.{Situation, NoParagraph, InParagraph, LazyParagraph, InTable, paragraph_situation, item_may_begin}
use Rattle.doc_rules.specs.Trees.{LeafLines}
use Rattle.doc_rules.specs.Blocks.{Blocks}
use Rattle.doc_refs_parts.specs.Targets.{Targets, targets_of, joined}
use Rattle.doc_blocks_leaves.specs.Leaves.{OpenLeaf, NoLeaf, OpenParagraph, OpenCode, OpenFence, OpenHtml, open_of}
use Rattle.doc_blocks_leaves.specs.Paths.{Level, Here, finished, finished_list}
use Rattle.doc_blocks_leaves.specs.OpenBlocks.{paragraph_continued}
use Rattle.doc_blocks_leaves.specs.OpenLeaves.{is_open, holds_table, paragraph_text, leaf_continued, underlined, with_underlined}
use Rattle.doc_blocks_leaves.specs.OpenLeaves.{underlined_references}
use Rattle.doc_blocks_leaves.specs.OpenLeaves.{with_begun}
use Rattle.doc_blocks_starts.specs.Tags.{leaf_shown}
use Rattle.doc_blocks_starts.specs.declared.table_lines.TableLines.{TableLines}
use Rattle.doc_blocks_starts.specs.declared.tag.LeafBlock.TheVariants as leaves
use Rattle.doc_blocks_leaves.specs.Views.{with_block, with_closed, with_lines}
use Rattle.doc_blocks_leaves.specs.declared.closed.Closed.{Closed}
use Rattle.doc_blocks.specs.StackSteps.{Outer, Stack, with_inner_blocks, block_begun}
use Rattle.doc_blocks.specs.PathSteps.{situation_in, paragraph_in}
use Rattle.doc_blocks.specs.StateSteps.{State, item_met, leaf_behind, heading_made}
use Rattle.doc_blocks.specs.BuilderSteps.{IsInParagraph, situation_at}

abbrev state_with : Stack → OpenLeaf → Targets → State
state_with stack leaf refs = record { stack = stack; leaf = leaf; refs = refs }

pub same_state : (s t : Stack) (l m : OpenLeaf) (r q : Targets) → s ≡ t → l ≡ m → r ≡ q → state_with s l r ≡ state_with t m q
same_state s t l m r q e f g = ap (λ (x : Stack). state_with x l r) e ∙ (ap (λ (x : OpenLeaf). state_with t x r) f ∙ ap (state_with t m) g)

-- ---- whether a leaf is open

finished_bare : (blocks : Blocks) (gap : Bool) → finished (record { blocks = blocks; list = None; gap = gap }) ≡ blocks
unfolding finished_list
finished_bare blocks gap = refl

pub none_open : (leaf : OpenLeaf) → is_open leaf ≡ false → leaf ≡ NoLeaf
unfolding is_open
none_open NoLeaf e = refl
none_open (OpenParagraph text) e = cc
none_open (OpenCode all kept) e = cc
none_open (OpenFence fence info text) e = cc
none_open (OpenHtml kind all kept) e = cc

pub some_open : (leaf : OpenLeaf) → is_open leaf ≡ true → leaf ≡ NoLeaf → ⊥
unfolding is_open
some_open NoLeaf e f = cc
some_open (OpenParagraph text) e f = cc
some_open (OpenCode all kept) e f = cc
some_open (OpenFence fence info text) e f = cc
some_open (OpenHtml kind all kept) e f = cc

-- the blocks of a leaf that closed stand behind others
pub one_put : (s p : Stack) (closed : Closed) → closed.table ≡ None
    → p ≡ with_inner_blocks s (with_block closed.block (finished s.inner))
    → p ≡ with_inner_blocks s (with_closed closed (finished s.inner))
unfolding with_closed with_lines
one_put s p closed none e =
    e
    ∙ sym (ap (λ (t : Option (Bor TableLines)). with_inner_blocks s (with_lines t (with_block closed.block (finished s.inner)))) none)

pub two_put : (s p q : Stack) (closed : Closed) (lines : Bor TableLines) → closed.table ≡ Some lines
    → p ≡ with_inner_blocks s (with_block closed.block (finished s.inner))
    → q ≡ with_inner_blocks p (with_block (Some (leaves.Table lines)) (finished p.inner))
    → q ≡ with_inner_blocks s (with_closed closed (finished s.inner))
unfolding finished_list with_closed with_lines with_block leaf_shown
two_put s p q closed lines some e f =
    f
    ∙ ap (λ (x : Stack). with_inner_blocks x (with_block (Some (leaves.Table lines)) (finished x.inner))) e
    ∙ sym (ap (λ (t : Option (Bor TableLines)). with_inner_blocks s (with_lines t (with_block closed.block (finished s.inner)))) some)

-- ---- the paragraph that a line meets

pub met_none : (rules : Rules) (outer : List Outer) (leaf : OpenLeaf) → paragraph_text leaf ≡ None
    → situation_in rules outer leaf ≡ NoParagraph
unfolding paragraph_text
met_none rules [] NoLeaf e = refl
met_none rules [] (OpenParagraph text) e = cc
met_none rules [] (OpenCode all kept) e = refl
met_none rules [] (OpenFence fence info text) e = refl
met_none rules [] (OpenHtml kind all kept) e = refl
met_none rules (o ∷ more) NoLeaf e = refl
met_none rules (o ∷ more) (OpenParagraph text) e = cc
met_none rules (o ∷ more) (OpenCode all kept) e = refl
met_none rules (o ∷ more) (OpenFence fence info text) e = refl
met_none rules (o ∷ more) (OpenHtml kind all kept) e = refl

pub is_paragraph : (leaf : OpenLeaf) (text : Text) → paragraph_text leaf ≡ Some text → leaf ≡ OpenParagraph text
unfolding paragraph_text
is_paragraph NoLeaf text e = cc
is_paragraph (OpenParagraph t) text e = cc
is_paragraph (OpenCode all kept) text e = cc
is_paragraph (OpenFence fence info t) text e = cc
is_paragraph (OpenHtml kind all kept) text e = cc

-- where a paragraph is open
met_text : (rules : Rules) (outer : List Outer) (text : Text) (lazy : Bool) → (lazy ≡ true → 0 < length outer)
    → (lazy ≡ false → length outer ≤ 0)
    → situation_at text lazy (rules.tables && has_table text) ≡ situation_in rules outer (OpenParagraph text)
unfolding paragraph_situation
met_text rules [] text true more none = absurd (omega (arith, more refl))
met_text rules [] text false more none = by (rules.tables && has_table text)
  where
    by : (b : Bool) → (elim b as (λ _. Situation) [ true ↦ InTable | false ↦ InParagraph text ]) ≡ (if b then InTable else InParagraph text)
    by true = refl
    by false = refl
met_text rules (o ∷ outer) text true more none = by (rules.tables && has_table text)
  where
    by : (b : Bool) → (elim b as (λ _. Situation) [ true ↦ NoParagraph | false ↦ LazyParagraph ])
        ≡ (if b then NoParagraph else LazyParagraph)
    by true = refl
    by false = refl
met_text rules (o ∷ outer) text false more none = absurd (omega (arith, none refl))

holds : (leaf : OpenLeaf) (text : Text) → leaf ≡ OpenParagraph text → holds_table leaf ≡ has_table text
unfolding holds_table
holds leaf text e = ap holds_table e

pub met_at : (rules : Rules) (outer : List Outer) (leaf : OpenLeaf) (text : Text) (lazy table : Bool) → paragraph_text leaf ≡ Some text
    → table ≡ (rules.tables && holds_table leaf) → (lazy ≡ true → 0 < length outer) → (lazy ≡ false → length outer ≤ 0)
    → situation_at text lazy table ≡ situation_in rules outer leaf
met_at rules outer leaf text lazy table e f more none =
    let is = is_paragraph leaf text e in
    ap (situation_at text lazy) (f ∙ ap (λ (b : Bool). rules.tables && b) (holds leaf text is))
    ∙ met_text rules outer text lazy more none ∙ ap (situation_in rules outer) (sym is)

-- ---- the paragraph that an underline stands below

pub not_at : (outer : List Outer) (leaf : OpenLeaf) → 0 < length outer → false ≡ is_some (paragraph_in outer leaf)
not_at [] leaf h = absurd (omega arith)
not_at (o ∷ outer) NoLeaf h = refl
not_at (o ∷ outer) (OpenParagraph text) h = refl
not_at (o ∷ outer) (OpenCode all kept) h = refl
not_at (o ∷ outer) (OpenFence fence info text) h = refl
not_at (o ∷ outer) (OpenHtml kind all kept) h = refl

pub is_at : (outer : List Outer) (leaf : OpenLeaf) → length outer ≤ 0 → is_some (paragraph_text leaf) ≡ is_some (paragraph_in outer leaf)
unfolding paragraph_text
is_at (o ∷ outer) leaf h = absurd (omega arith)
is_at [] NoLeaf h = refl
is_at [] (OpenParagraph text) h = refl
is_at [] (OpenCode all kept) h = refl
is_at [] (OpenFence fence info text) h = refl
is_at [] (OpenHtml kind all kept) h = refl

pub same_some : (found : Option (Bor Text)) → is_some found ≡ is_some (rest_of found)
same_some None = refl
same_some (Some text) = refl

pub none_at : (found : Option Text) (answer : Bool) → answer ≡ is_some found → answer ≡ false → found ≡ None
none_at None answer e f = refl
none_at (Some text) answer e f = absurd cc

pub some_at : (found : Option Text) (answer : Bool) → answer ≡ is_some found → answer ≡ true → (text : Text) × (found ≡ Some text)
some_at None answer e f = absurd cc
some_at (Some text) answer e f = (text, refl)

-- ---- the item that a line may begin

pub item_free : (s : Situation) (answer : Bool) (item : ItemStart) → IsInParagraph s answer → answer ≡ false
    → item_met s (Some item) ≡ Some item
unfolding item_may_begin
item_free NoParagraph answer item h e = refl
item_free (InParagraph t) answer item h e = cc
item_free LazyParagraph answer item h e = refl
item_free InTable answer item h e = refl

pub item_interrupts : (s : Situation) (answer : Bool) (item : ItemStart) → item_may_interrupt item ≡ true
    → item_met s (Some item) ≡ Some item
unfolding item_may_begin
item_interrupts NoParagraph answer item e = refl
item_interrupts (InParagraph t) answer item e = ap (λ (b : Bool). elim b as (λ _. Option ItemStart) [ true ↦ Some item | false ↦ None ]) e
item_interrupts LazyParagraph answer item e = refl
item_interrupts InTable answer item e = refl

pub item_refused : (s : Situation) (answer : Bool) (item : ItemStart) → IsInParagraph s answer → answer ≡ true
    → item_may_interrupt item ≡ false → item_met s (Some item) ≡ None
unfolding item_may_begin
item_refused NoParagraph answer item h e f = cc
item_refused (InParagraph t) answer item h e f = ap (λ (b : Bool). elim b as (λ _. Option ItemStart) [ true ↦ Some item | false ↦ None ]) f
item_refused LazyParagraph answer item h e f = cc
item_refused InTable answer item h e f = cc

-- ---- leaves

pub continues_here : (line : Line) (level : Level) (leaf : OpenLeaf) (blank : Bool)
    → paragraph_continued line (Here level leaf blank) ≡ Here level (leaf_continued line leaf) blank
unfolding paragraph_continued leaf_continued
continues_here line level NoLeaf blank = refl
continues_here line level (OpenParagraph text) blank = refl
continues_here line level (OpenCode all kept) blank = refl
continues_here line level (OpenFence fence info text) blank = refl
continues_here line level (OpenHtml kind all kept) blank = refl

pub begun_behind : (rules : Rules) (lines : LeafLines) (leaf : OpenLeaf) (before : Blocks)
    → with_begun rules lines leaf before ≡ leaf_behind rules lines leaf before
unfolding with_begun
begun_behind rules lines NoLeaf before = refl
begun_behind rules lines (OpenParagraph text) before = refl
begun_behind rules lines (OpenCode all kept) before = refl
begun_behind rules lines (OpenFence fence info text) before = refl
begun_behind rules lines (OpenHtml kind all kept) before = refl

-- a leaf of one line in the state where all has closed
abbrev pub lines_there : Rules → LeafLines → State → State
lines_there rules lines m = record m {
  stack = with_inner_blocks (block_begun m.stack)
      (leaf_behind rules lines (open_of rules lines) (block_begun m.stack).inner.blocks);
  leaf = open_of rules lines;
}

pub leaf_put_there : (rules : Rules) (lines : LeafLines) (m : State) (b p : Stack) (leaf : OpenLeaf) → b ≡ block_begun m.stack
    → leaf ≡ open_of rules lines →
    p ≡ with_inner_blocks b (with_begun rules lines (open_of rules lines) (finished b.inner))
    → record { stack = p; leaf = leaf; refs = m.refs } ≡ lines_there rules lines m
leaf_put_there rules lines m b p leaf e f g =
    same_state p _ leaf _ m.refs _
    (g ∙ (ap (λ (s : Stack). with_inner_blocks s (with_begun rules lines (open_of rules lines) (finished s.inner))) e
    ∙ (ap (λ (bs : Blocks). with_inner_blocks (block_begun m.stack) (with_begun rules lines (open_of rules lines) bs))
    (finished_bare (block_begun m.stack).inner.blocks (block_begun m.stack).inner.gap)
    ∙ ap (with_inner_blocks (block_begun m.stack)) (begun_behind rules lines (open_of rules lines) (block_begun m.stack).inner.blocks))))
    f refl

-- the open paragraph became a heading
pub heading_there : (rules : Rules) (level : ℕ) (s : State) (text : Text) (p b : Stack) (leaf : OpenLeaf) (refs : Targets)
    → s.leaf ≡ OpenParagraph text →
    p ≡ with_inner_blocks s.stack (with_underlined rules level s.leaf (finished s.stack.inner)) → b ≡ record p { blank = false }
    → leaf ≡ underlined s.leaf →
    refs ≡ joined s.refs (targets_of (underlined_references rules s.leaf))
    → record { stack = b; leaf = leaf; refs = refs } ≡ heading_made rules level s text
unfolding with_underlined underlined underlined_references
heading_there rules level s text p b leaf refs e f g h k =
    same_state b _ leaf _ refs _
    (g ∙ (ap (λ (x : Stack). record x { blank = false }) f
    ∙ ap (λ (l : OpenLeaf). record (with_inner_blocks s.stack (with_underlined rules level l (finished s.stack.inner))) {
      blank = false;
    }) e))
    (h ∙ ap underlined e)
    (k ∙ ap (λ (l : OpenLeaf). joined s.refs (targets_of (underlined_references rules l))) e)
