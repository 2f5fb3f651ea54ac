-- Leaves and lines on a state are those on its path.
use Rattle.std.proofs.Common.{◌≡◌, ◌∙◌, ℕ, ◌-◌, ◌≤◌, nat_le, Bool, true, false, ◌&&◌, ◌||◌, List, [], ◌∷◌, ◌++◌, take}
use Rattle.std.proofs.Common.{drop, length, refl, ap, sym, subst, Some, None}
use Rattle.std.proofs.lemmas.List.{drop_all, length-take-le}
use Rattle.doc_rules.specs.Characters.{Text}
use Rattle.doc_rules.specs.Lines.{line_content, lines_of}
use Rattle.doc_rules.specs.Columns.{Line, cells_of, indent, is_blank_line, text_of}
use Rattle.doc_rules.specs.Rules.{Rules}
use Rattle.doc_rules.specs.Definitions.{Definition}
use Rattle.doc_rules.specs.LeafStarts.{closes_fence}
use Rattle.doc_rules.specs.HtmlStarts.{ends_before_blank, ends_html}
use Rattle.doc_rules.specs.Trees.{Situation, LeafLines, NewLeaf, Underline, line_text}
use Rattle.doc_rules.specs.Blocks.{Blocks, Document, document_of, tasks_read}
use Rattle.doc_refs_parts.specs.Targets.{Targets, targets_of, joined}
use Rattle.doc_refs_parts.proofs.MapLaws.{joins_definitions}
use Rattle.doc_blocks_leaves.specs.Leaves.{OpenLeaf, NoLeaf, OpenParagraph, OpenCode, OpenFence, OpenHtml, open_of, open_references}
use Rattle.doc_blocks_leaves.specs.Leaves.{with_open, code_with, kept_with, fence_with, html_with, taken, Taken, NotTaken, GoesOn, Closes}
use Rattle.doc_blocks_leaves.specs.Paths.{Level, Path, empty_path, Here, begun_at, finished, with_blocks}
use Rattle.doc_blocks_leaves.specs.Closing.{leaf_closed, closed, path_references}
use Rattle.doc_blocks_leaves.specs.OpenBlocks.{Moved, start_step, level_for, leaf_put, leaf_begun, underlined_path, paragraph_continued}
use Rattle.doc_blocks_leaves.specs.OpenBlocks.{goes_on_with, text_put, leaf_takes, line_step, line_steps, path_document, one_pass}
use Rattle.doc_blocks_leaves.proofs.OnePassLaws.{one_pass_suffices}
use Rattle.doc_blocks.specs.StackSteps.{Outer, inside, path_at, block_begun}
use Rattle.doc_blocks.specs.PathSteps.{moved_within, stopped, room_behind, paragraph_in, GoesDown}
use Rattle.doc_blocks.specs.StateSteps.{State, below, met, shown, reached, leaf_done, all_closed, leaf_opened, blank_met, leaf_behind}
use Rattle.doc_blocks.specs.StateSteps.{lines_opened, heading_made, after_line, document_left}
use Rattle.doc_blocks.proofs.PathLaws.{stopped_at, stopped_starts, goes_down, room_left, continued_inside, inside_parts}
use Rattle.doc_blocks.proofs.StateLaws.{pair_of, joined_none, reached_done, closed_below, references_below}

abbrev after_move : Targets → Moved → Path × Targets
after_move refs m = (m.path, joined refs (targets_of m.refs))

abbrev blocks_and : Blocks → Targets → Blocks × Targets
blocks_and blocks targets = (blocks, targets)

-- ---- text

-- what text does, by what it is chosen by
abbrev by_blank : Rules → Situation → Line → Path → (blank goes far : Bool) → Moved
by_blank rules situation line path blank goes far =
    elim blank [
      | true ↦ record { path = Here (closed rules path) NoLeaf true; refs = path_references rules path }
      | false ↦ elim goes [
        | true ↦ record { path = paragraph_continued line path; refs = [] }
        | false ↦ elim far [
          | true ↦ record {
            path = Here (level_for rules path) (OpenCode (code_with line []) (code_with line [])) false;
            refs = path_references rules path;
          }
          | false ↦ record { path = Here (level_for rules path) (OpenParagraph (line_text line)) false; refs = path_references rules path }
        ]
      ]
    ]

text_by : (rules : Rules) (situation : Situation) (line : Line) (path : Path) (blank goes far : Bool) → is_blank_line line ≡ blank
    → goes_on_with situation line ≡ goes → nat_le 4 (indent line) ≡ far →
    text_put rules situation line path ≡ by_blank rules situation line path blank goes far
unfolding text_put
text_by rules situation line path blank goes far e f g =
    ap (λ (b : Bool). by_blank rules situation line path b (goes_on_with situation line) (nat_le 4 (indent line))) e
    ∙ (ap (λ (b : Bool). by_blank rules situation line path blank b (nat_le 4 (indent line))) f
    ∙ ap (by_blank rules situation line path blank goes) g)

pub text_blank : (rules : Rules) (depth : ℕ) (s : State) (line : Line) → is_blank_line line ≡ true
    → reached depth s (text_put rules (met rules depth s) line (below depth s)) ≡ shown (blank_met rules depth s)
text_blank rules depth s line e =
    ap (reached depth s) (text_by rules (met rules depth s) line (below depth s) true _ _ e refl refl)
    ∙ reached_done rules depth s (λ l b. Here l NoLeaf true)

pub text_code : (rules : Rules) (depth : ℕ) (s : State) (line : Line) → is_blank_line line ≡ false
    → goes_on_with (met rules depth s) line ≡ false
    → nat_le 4 (indent line) ≡ true →
    reached depth s (text_put rules (met rules depth s) line (below depth s))
    ≡ shown (leaf_opened rules depth s (OpenCode (code_with line []) (code_with line [])))
text_code rules depth s line e f g =
    ap (reached depth s) (text_by rules (met rules depth s) line (below depth s) false false true e f g)
    ∙ reached_done rules depth s (λ l b. Here (begun_at l b) (OpenCode (code_with line []) (code_with line [])) false)

pub text_begins : (rules : Rules) (depth : ℕ) (s : State) (line : Line) → is_blank_line line ≡ false
    → goes_on_with (met rules depth s) line ≡ false → nat_le 4 (indent line) ≡ false →
    reached depth s (text_put rules (met rules depth s) line (below depth s))
    ≡ shown (leaf_opened rules depth s (OpenParagraph (line_text line)))
text_begins rules depth s line e f g =
    ap (reached depth s) (text_by rules (met rules depth s) line (below depth s) false false false e f g)
    ∙ reached_done rules depth s (λ l b. Here (begun_at l b) (OpenParagraph (line_text line)) false)

-- nothing closes: the leaf alone changed
pub leaf_alone : (depth : ℕ) (s : State) (leaf : OpenLeaf) (path : Path)
    → path ≡ inside (drop depth s.stack.outer) (Here s.stack.inner leaf s.stack.blank) →
    reached depth s (record { path = path; refs = [] }) ≡ shown (record s { leaf = leaf })
leaf_alone depth s leaf path e =
    ap (λ (p : Path). pair_of (inside (take depth s.stack.outer) p) (joined s.refs (targets_of []))) e
    ∙ (ap (λ (p : Path). pair_of p (joined s.refs (targets_of [])))
    (inside_parts depth s.stack.outer (Here s.stack.inner leaf s.stack.blank))
    ∙ ap (pair_of (path_at s.stack leaf)) (joined_none s.refs))

pub text_continues : (rules : Rules) (depth : ℕ) (s : State) (line : Line) (leaf : OpenLeaf) → is_blank_line line ≡ false
    → goes_on_with (met rules depth s) line ≡ true →
    paragraph_continued line (Here s.stack.inner s.leaf s.stack.blank) ≡ Here s.stack.inner leaf s.stack.blank →
    reached depth s (text_put rules (met rules depth s) line (below depth s)) ≡ shown (record s { leaf = leaf })
text_continues rules depth s line leaf e f g =
    ap (reached depth s) (text_by rules (met rules depth s) line (below depth s) false true _ e f refl)
    ∙ leaf_alone depth s leaf (paragraph_continued line (below depth s))
    (continued_inside line (drop depth s.stack.outer) (Here s.stack.inner s.leaf s.stack.blank) ∙ ap (inside (drop depth s.stack.outer)) g)

-- ---- leaves

leaf_put_behind : (rules : Rules) (blocks : Blocks) (gap : Bool) (lines : LeafLines) (leaf : OpenLeaf) →
    leaf_put rules (record { blocks = blocks; list = None; gap = gap }) lines leaf
    ≡ Here (record { blocks = leaf_behind rules lines leaf blocks; list = None; gap = gap }) leaf false
unfolding leaf_put
leaf_put_behind rules blocks gap lines NoLeaf = refl
leaf_put_behind rules blocks gap lines (OpenParagraph text) = refl
leaf_put_behind rules blocks gap lines (OpenCode all kept) = refl
leaf_put_behind rules blocks gap lines (OpenFence fence info text) = refl
leaf_put_behind rules blocks gap lines (OpenHtml kind all kept) = refl

pub leaf_reached : (rules : Rules) (depth : ℕ) (s : State) (lines : LeafLines)
    → reached depth s (leaf_begun rules (below depth s) (NewLeaf lines)) ≡ shown (lines_opened rules depth s lines)
unfolding leaf_begun
leaf_reached rules depth s lines =
    let c = all_closed rules depth s in
    reached_done rules depth s (λ l b. leaf_put rules (begun_at l b) lines (open_of rules lines))
    ∙ ap (λ (p : Path). pair_of (inside (take depth s.stack.outer) p) c.refs)
    (leaf_put_behind rules (block_begun c.stack).inner.blocks (block_begun c.stack).inner.gap lines (open_of rules lines))

-- an underline with no paragraph above it, which no line begins
underlined_nothing : (rules : Rules) (level : ℕ) (outer : List Outer) (inner : Level) (leaf : OpenLeaf) (blank : Bool)
    → paragraph_in outer leaf ≡ None →
    underlined_path rules level (inside outer (Here inner leaf blank)) ≡ record { path = inside outer (Here inner leaf blank); refs = [] }
unfolding underlined_path
underlined_nothing rules level [] inner NoLeaf blank h = refl
underlined_nothing rules level [] inner (OpenParagraph text) blank h = absurd cc
underlined_nothing rules level [] inner (OpenCode all kept) blank h = refl
underlined_nothing rules level [] inner (OpenFence fence info text) blank h = refl
underlined_nothing rules level [] inner (OpenHtml kind all kept) blank h = refl
underlined_nothing rules level (o ∷ outer) inner leaf blank h = refl

pub underline_skipped : (rules : Rules) (depth level : ℕ) (s : State) → paragraph_in (drop depth s.stack.outer) s.leaf ≡ None
    → reached depth s (leaf_begun rules (below depth s) (Underline level)) ≡ shown s
unfolding leaf_begun
underline_skipped rules depth level s h =
    ap (reached depth s) (underlined_nothing rules level (drop depth s.stack.outer) s.stack.inner s.leaf s.stack.blank h)
    ∙ leaf_alone depth s s.leaf (below depth s) refl

pub in_paragraph : (outer : List Outer) (leaf : OpenLeaf) (text : Text) → paragraph_in outer leaf ≡ Some text
    → (outer ≡ []) × (leaf ≡ OpenParagraph text)
in_paragraph [] NoLeaf text e = cc
in_paragraph [] (OpenParagraph t) text e = (refl, cc)
in_paragraph [] (OpenCode all kept) text e = cc
in_paragraph [] (OpenFence fence info t) text e = cc
in_paragraph [] (OpenHtml kind all kept) text e = cc
in_paragraph (o ∷ outer) NoLeaf text e = cc
in_paragraph (o ∷ outer) (OpenParagraph t) text e = cc
in_paragraph (o ∷ outer) (OpenCode all kept) text e = cc
in_paragraph (o ∷ outer) (OpenFence fence info t) text e = cc
in_paragraph (o ∷ outer) (OpenHtml kind all kept) text e = cc

pub underline_reached : (rules : Rules) (depth level : ℕ) (s : State) (text : Text)
    → paragraph_in (drop depth s.stack.outer) s.leaf ≡ Some text
    → reached depth s (leaf_begun rules (below depth s) (Underline level)) ≡ shown (heading_made rules level s text)
unfolding leaf_begun underlined_path
underline_reached rules depth level s text e =
    let is = in_paragraph (drop depth s.stack.outer) s.leaf text e in
    let n = heading_made rules level s text in
    ap (λ (os : List Outer). reached depth s (underlined_path rules level (inside os (Here s.stack.inner s.leaf s.stack.blank)))) is.0
    ∙ (ap (λ (l : OpenLeaf). reached depth s (underlined_path rules level (Here s.stack.inner l s.stack.blank))) is.1
    ∙ (ap (λ (os : List Outer). pair_of (inside (take depth s.stack.outer) (inside os (Here n.stack.inner NoLeaf false))) n.refs) (sym is.0)
    ∙ ap (λ (p : Path). pair_of p n.refs) (inside_parts depth s.stack.outer (Here n.stack.inner NoLeaf false))))

-- ---- the open leaf and a line

abbrev NoReferences : Rules → Taken → Type 0
NoReferences rules (Closes leaf blank) = open_references rules leaf ≡ []
NoReferences rules answer = Unit {0}

either : (rules : Rules) (b : Bool) (t u : Taken) → NoReferences rules t → NoReferences rules u
    → NoReferences rules (elim b as (λ _. Taken) [ true ↦ t | false ↦ u ])
either rules true t u h k = h
either rules false t u h k = k

no_references : (rules : Rules) (line : Line) (leaf : OpenLeaf) → NoReferences rules (taken line leaf)
unfolding taken open_references
no_references rules line NoLeaf = tt
no_references rules line (OpenParagraph text) = tt
no_references rules line (OpenCode all kept) =
    either rules (nat_le 4 (indent line) || is_blank_line line)
    (GoesOn (OpenCode (code_with line all) (kept_with line (code_with line all) kept)) (is_blank_line line)) NotTaken tt tt
no_references rules line (OpenFence fence info text) =
    either rules (closes_fence fence line) (Closes (OpenFence fence info text) false)
    (GoesOn (OpenFence fence info (fence_with fence line text)) false) refl tt
no_references rules line (OpenHtml kind all kept) =
    let html = OpenHtml kind (html_with line all) (kept_with line (html_with line all) kept) in
    let inner = elim (ends_html kind (text_of line)) as (λ _. Taken)
    [ true ↦ Closes html (is_blank_line line) | false ↦ GoesOn html (is_blank_line line) ] in
    either rules (ends_before_blank kind && is_blank_line line) (Closes (OpenHtml kind all kept) true) inner refl
    (either rules (ends_html kind (text_of line)) (Closes html (is_blank_line line)) (GoesOn html (is_blank_line line)) refl tt)

pub closes_none : (rules : Rules) (line : Line) (leaf next : OpenLeaf) (blank : Bool) → taken line leaf ≡ Closes next blank
    → open_references rules next ≡ []
closes_none rules line leaf next blank e = subst (NoReferences rules) e (no_references rules line leaf)

-- ---- a line

pub line_reached : (rules : Rules) (line rest : Line) (depth : ℕ) (old s : State) → GoesDown old.stack line s.stack depth rest
    → s.leaf ≡ old.leaf → s.refs ≡ old.refs → depth ≤ length s.stack.outer →
    after_line rules old line ≡ reached depth s (stopped (100 - depth) rules rest (drop depth s.stack.outer) s.stack.inner s.leaf
    s.stack.blank)
unfolding stopped_at
line_reached rules line rest depth old s g e f h =
    let passed = take depth s.stack.outer in
    let room : room_behind 100 passed ≡ 100 - depth = room_left 100 passed
    ∙ ap (λ (n : ℕ). 100 - n) (length-take-le depth s.stack.outer h) in
    let whole = goes_down 100 rules line old.stack.outer old.stack.inner old.leaf old.stack.blank in
    ap (λ (m : Moved). after_move old.refs m) (whole ∙ ap (stopped_at 100 rules old.stack.inner old.leaf old.stack.blank) g.descent)
    ∙ (ap (λ (n : ℕ). after_move old.refs (moved_within passed
    (stopped n rules rest (drop depth s.stack.outer) old.stack.inner old.leaf old.stack.blank))) room
    ∙ (ap (λ (l : Level). after_move old.refs (moved_within passed
    (stopped (100 - depth) rules rest (drop depth s.stack.outer) l old.leaf old.stack.blank))) (sym g.inner)
    ∙ (ap (λ (b : Bool). after_move old.refs (moved_within passed
    (stopped (100 - depth) rules rest (drop depth s.stack.outer) s.stack.inner old.leaf b))) (sym g.blank)
    ∙ (ap (λ (l : OpenLeaf). after_move old.refs (moved_within passed
    (stopped (100 - depth) rules rest (drop depth s.stack.outer) s.stack.inner l s.stack.blank))) (sym e)
    ∙ ap (λ (t : Targets). after_move t (moved_within passed
    (stopped (100 - depth) rules rest (drop depth s.stack.outer) s.stack.inner s.leaf s.stack.blank))) (sym f)))))

-- ---- all lines

pub document_steps : (rules : Rules) (lines : List Text) (m : Moved) →
    document_left rules lines (m.path, targets_of m.refs)
    ≡ (
      (path_document rules (line_steps 100 rules lines m)).blocks,
      targets_of
          (path_document rules (line_steps 100 rules lines m)).refs,
    )
unfolding document_left path_document line_steps
document_steps rules [] m = ap (λ (t : Targets). blocks_and (tasks_read rules (finished (closed rules m.path))) t)
    (joins_definitions m.refs (path_references rules m.path))
document_steps rules (line ∷ more) m =
    let next = line_step 100 rules (cells_of (line_content line)) m.path in
    ap (λ (t : Targets). document_left rules more (next.path, t)) (joins_definitions m.refs next.refs)
    ∙ document_steps rules more (record { path = next.path; refs = m.refs ++ next.refs })

-- the open leaf took the line and goes on
pub taken_goes : (room : ℕ) (rules : Rules) (depth : ℕ) (s : State) (line : Line) (next : OpenLeaf) (blank : Bool)
    → drop depth s.stack.outer ≡ [] → taken line s.leaf ≡ GoesOn next blank →
    reached depth s (leaf_takes room rules line s.stack.inner s.leaf s.stack.blank (taken line s.leaf))
    ≡ shown (record { stack = record s.stack { blank = blank }; leaf = next; refs = s.refs })
unfolding leaf_takes
taken_goes room rules depth s line next blank e f =
    ap (λ (t : Taken). reached depth s (leaf_takes room rules line s.stack.inner s.leaf s.stack.blank t)) f
    ∙ (ap (λ (os : List Outer). pair_of (inside (take depth s.stack.outer) (inside os (Here s.stack.inner next blank)))
    (joined s.refs (targets_of []))) (sym e)
    ∙ (ap (λ (p : Path). pair_of p (joined s.refs (targets_of []))) (inside_parts depth s.stack.outer (Here s.stack.inner next blank))
    ∙ ap (pair_of (inside s.stack.outer (Here s.stack.inner next blank))) (joined_none s.refs)))

-- the open leaf took the line and closed
pub taken_closes : (room : ℕ) (rules : Rules) (depth : ℕ) (s t : State) (line : Line) (next : OpenLeaf) (blank : Bool)
    → drop depth s.stack.outer ≡ [] → taken line s.leaf ≡ Closes next blank →
    t ≡ leaf_done rules (record s { leaf = next }) →
    reached depth s (leaf_takes room rules line s.stack.inner s.leaf s.stack.blank (taken line s.leaf))
    ≡ shown (record t { stack = record t.stack { blank = blank } })
unfolding leaf_takes
taken_closes room rules depth s t line next blank e f g =
    let here = Here (leaf_closed rules s.stack.inner next) NoLeaf blank in
    ap (λ (a : Taken). reached depth s (leaf_takes room rules line s.stack.inner s.leaf s.stack.blank a)) f
    ∙ (ap (λ (os : List Outer). pair_of (inside (take depth s.stack.outer) (inside os here)) (joined s.refs (targets_of []))) (sym e)
    ∙ (ap (λ (p : Path). pair_of p (joined s.refs (targets_of []))) (inside_parts depth s.stack.outer here)
    ∙ (ap (λ (ds : List Definition). pair_of (inside s.stack.outer here) (joined s.refs (targets_of ds)))
    (sym (closes_none rules line s.leaf next blank f))
    ∙ ap (λ (u : State). shown (record u { stack = record u.stack { blank = blank } })) (sym g))))

-- a line that the open leaf takes, or that may begin something
pub line_taken : (rules : Rules) (line rest : Line) (depth : ℕ) (old s n : State) → GoesDown old.stack line s.stack depth rest
    → s.leaf ≡ old.leaf → s.refs ≡ old.refs → depth ≤ length s.stack.outer → length s.stack.outer ≤ depth →
    ((room : ℕ) → drop depth s.stack.outer ≡ []
    → reached depth s (leaf_takes room rules rest s.stack.inner s.leaf s.stack.blank (taken rest s.leaf)) ≡ shown n) →
    after_line rules old line ≡ shown n
line_taken rules line rest depth old s n g e f h k t =
    let nothing : drop depth s.stack.outer ≡ [] = drop_all depth s.stack.outer k in
    line_reached rules line rest depth old s g e f h
    ∙ (ap (λ (os : List Outer). reached depth s (stopped (100 - depth) rules rest os s.stack.inner s.leaf s.stack.blank)) nothing
    ∙ t (100 - depth) nothing)

pub line_begins : (rules : Rules) (line rest : Line) (depth : ℕ) (old s n : State) → GoesDown old.stack line s.stack depth rest
    → s.leaf ≡ old.leaf → s.refs ≡ old.refs → depth ≤ length s.stack.outer →
    (drop depth s.stack.outer ≡ [] → taken rest s.leaf ≡ NotTaken)
    → reached depth s (start_step (100 - depth) rules (met rules depth s) rest (below depth s)) ≡ shown n →
    after_line rules old line ≡ shown n
line_begins rules line rest depth old s n g e f h k t =
    line_reached rules line rest depth old s g e f h
    ∙ (ap (reached depth s) (stopped_starts (100 - depth) rules rest (drop depth s.stack.outer) s.stack.inner s.leaf s.stack.blank k) ∙ t)

-- ---- the open leaf closes

pub leaf_closed_none : (rules : Rules) (s : State) → s.leaf ≡ NoLeaf → s ≡ leaf_done rules s
unfolding leaf_closed open_references
leaf_closed_none rules s e =
    ap (λ (l : OpenLeaf). record s { leaf = l }) e
    ∙ (ap (λ (t : Targets). record s { leaf = NoLeaf; refs = t }) (sym (joined_none s.refs))
    ∙ ap (λ (l : OpenLeaf). leaf_done rules (record s { leaf = l })) (sym e))

-- with the blocks of its level that it leaves behind
pub leaf_closed_some : (rules : Rules) (level : Level) (leaf : OpenLeaf) → (leaf ≡ NoLeaf → ⊥)
    → leaf_closed rules level leaf ≡ with_blocks level (with_open rules leaf (finished level))
unfolding leaf_closed
leaf_closed_some rules level NoLeaf h = absurd (h refl)
leaf_closed_some rules level (OpenParagraph text) h = refl
leaf_closed_some rules level (OpenCode all kept) h = refl
leaf_closed_some rules level (OpenFence fence info text) h = refl
leaf_closed_some rules level (OpenHtml kind all kept) h = refl

-- the document when no line is left
pub nothing_left : (rules : Rules) (s m : State) (bs : Blocks) → m ≡ all_closed rules 0 s → bs ≡ tasks_read rules (finished m.stack.inner)
    → blocks_and bs m.refs ≡ document_left rules [] (shown s)
unfolding document_left
nothing_left rules s m bs e f =
    ap (λ (x : Blocks). blocks_and x m.refs) (f ∙ (ap (λ (t : State). tasks_read rules (finished t.stack.inner)) e
    ∙ ap (λ (l : Level). tasks_read rules (finished l)) (sym (closed_below rules 0 s))))
    ∙ ap (blocks_and (tasks_read rules (finished (closed rules (below 0 s))))) (ap (λ (t : State). t.refs) e
    ∙ ap (λ (ds : List Definition). joined s.refs (targets_of ds)) (sym (references_below rules 0 s)))

-- ---- the whole text

pub one_line : (rules : Rules) (s n : State) (line : Text) (more : List Text) → after_line rules s (cells_of (line_content line)) ≡ shown n
    → document_left rules (line ∷ more) (shown s) ≡ document_left rules more (shown n)
unfolding document_left
one_line rules s n line more e = ap (document_left rules more) e

-- what is left of all lines is the document
pub document_is : (rules : Rules) (text : Text) (found : Blocks × Targets)
    → found ≡ document_left rules (lines_of text) (empty_path, targets_of []) →
    (found.0 ≡ (document_of rules text).blocks) × (found.1 ≡ targets_of (document_of rules text).refs)
unfolding document_of one_pass
document_is rules text found e =
    let start : Moved = record { path = empty_path; refs = [] } in
    let all = e ∙ document_steps rules (lines_of text) start in
    let same = one_pass_suffices 100 rules text in (
      ap (λ (p : Blocks × Targets). p.0) all ∙ ap (λ (d : Document). d.blocks) same,
      ap (λ (p : Blocks × Targets). p.1) all
          ∙ ap (λ (d : Document). targets_of d.refs) same,
    )
