-- The tree of a quoted text is one quote over the tree of the text: each of its lines goes into that quote, and inside is the line itself.
use Rattle.std.proofs.Common.{◌≡◌, ℕ, suc, ◌+◌, ◌-◌, Bool, true, false, List, [], ◌∷◌, ◌++◌, map, refl, ap, sym, ◌∙◌, Some, None}
use Rattle.std.specs.Prelude.{◌||◌, ◌==◌, nat_le, ◌%◌, if◌then◌else◌}
use Rattle.std.specs.List.{AllByRecursion}
use Rattle.doc_rules.specs.Characters.{Text}
use Rattle.doc_rules.specs.Lines.{ends_line, onto_first, lines_of, without_ending, secure_char, line_content}
use Rattle.doc_rules.specs.Columns.{columns_from, width_at, cell_of, Line, cells_of, is_gap, spaces, skip, indent, after_indent}
use Rattle.doc_rules.specs.Rules.{Rules}
use Rattle.doc_rules.specs.ContainerStarts.{behind_quote_marker, quote_start}
use Rattle.doc_rules.specs.Forests.{none, node}
use Rattle.doc_rules.specs.Trees.{QuoteLines, Tree, NoParagraph, matched, add_leaf_or_item, add_blocks, lazy_situation, add_line, add_lines}
use Rattle.doc_rules.specs.Trees.{tree_within}
use Rattle.doc_rules.specs.Lists.{listed}
use Rattle.doc_rules.specs.Blocks.{BlockQuote, Blocks, container_of, blocks_of, references_of, with_tasks, tasks_read, tree_document}
use Rattle.doc_rules.specs.Laws.{has_tab, QuotedTree, QuotedDocument, quote_over}
use Rattle.doc_rules.proofs.QuoteLines.{marked_line, quoted_has}
use Rattle.doc_page_parts.proofs.Bools.{or_first, or_second, and_false}
use Rattle.std.proofs.lemmas.Bool.{or_from}
use Rattle.std.proofs.Common.{sub-one}

-- ---- texts without tabs

safe_at : (c : ℕ) (b : Bool) → (c == 9) ≡ false → ((if b then 0xFFFD else c) == 9) ≡ false
safe_at c true e = refl
safe_at c false e = e

safe_no_tab : (c : ℕ) → (c == 9) ≡ false → (secure_char c == 9) ≡ false
unfolding secure_char
safe_no_tab c e = safe_at c (c == 0) e

content_at : (c : ℕ) (rest : Text) → (c == 9) ≡ false → has_tab (line_content rest) ≡ false → (b : Bool) →
    has_tab (map secure_char (elim b [ true ↦ [] | false ↦ c ∷ without_ending rest ])) ≡ false
content_at c rest e f true = refl
content_at c rest e f false = or_from (secure_char c == 9) (has_tab (line_content rest)) (safe_no_tab c e) f

content_no_tab : (line : Text) → has_tab line ≡ false → has_tab (line_content line) ≡ false
unfolding without_ending
content_no_tab [] e = refl
content_no_tab (c ∷ rest) e =
    content_at c rest (or_first (c == 9) (has_tab rest) e) (content_no_tab rest (or_second (c == 9) (has_tab rest) e))
    ((c == 10) || (c == 13))

abbrev NoTabs : List Text → Type 0
NoTabs = AllByRecursion (λ line. has_tab line ≡ false)

onto_no_tab : (c : ℕ) (lines : List Text) → (c == 9) ≡ false → NoTabs lines → NoTabs (onto_first c lines)
unfolding onto_first
onto_no_tab c [] e h = (or_from (c == 9) false e refl, tt)
onto_no_tab c (line ∷ more) e h = (or_from (c == 9) (has_tab line) e h.0, h.1)

lines_at : (c : ℕ) (rest : Text) → (c == 9) ≡ false → NoTabs (lines_of rest) → (b : Bool) →
    NoTabs (elim b [ true ↦ (c ∷ []) ∷ lines_of rest | false ↦ onto_first c (lines_of rest) ])
lines_at c rest e h true = (or_from (c == 9) false e refl, h)
lines_at c rest e h false = onto_no_tab c (lines_of rest) e h

lines_no_tab : (text : Text) → has_tab text ≡ false → NoTabs (lines_of text)
unfolding lines_of
lines_no_tab [] e = tt
lines_no_tab (c ∷ rest) e =
    lines_at c rest (or_first (c == 9) (has_tab rest) e) (lines_no_tab rest (or_second (c == 9) (has_tab rest) e)) (ends_line c rest)

-- ---- columns shift

one_wide : (c at : ℕ) → (c == 9) ≡ false → width_at c at ≡ 1
one_wide c at e = ap (λ t. if t then 4 - at % 4 else 1) e

shifted : (text : Text) (a b : ℕ) → has_tab text ≡ false → map cell_of (columns_from a text) ≡ map cell_of (columns_from b text)
unfolding columns_from cell_of
shifted [] a b e = refl
shifted (c ∷ rest) a b e =
    let first : (c == 9) ≡ false = or_first (c == 9) (has_tab rest) e in
    ap (λ w. record { char = c; width = w } ∷ map cell_of (columns_from (a + width_at c a) rest)) (one_wide c a first
    ∙ sym (one_wide c b first))
    ∙ ap (λ more. record { char = c; width = width_at c b } ∷ more)
    (shifted rest (a + width_at c a) (b + width_at c b) (or_second (c == 9) (has_tab rest) e))

-- no columns are passed
pub skip_none : (line : Line) → skip 0 line ≡ line
unfolding skip
skip_none [] = refl
skip_none (cell ∷ rest) = ap (λ t. elim t [
  | false ↦ cell ∷ rest
  | true ↦ elim (nat_le cell.width 0)
      [ true ↦ skip (0 - cell.width) rest | false ↦ spaces (cell.width - 0) ++ rest ]
]) (and_false (is_gap cell))

pub quote_behind : (line : Text) → has_tab line ≡ false → quote_start (cells_of (line_content (marked_line line)))
    ≡ Some (cells_of (line_content line))
unfolding quote_start behind_quote_marker indent after_indent skip columns_from cell_of without_ending secure_char
quote_behind line e = ap Some (skip_none _ ∙ shifted (line_content line) 2 0 (content_no_tab line e))

-- ---- the tree

add_inside : (room : ℕ) (rules : Rules) (tree : Tree) (line rest : Line) → quote_start line ≡ Some rest →
    add_line (suc room) rules line (node none QuoteLines tree) ≡ node none QuoteLines (add_line room rules rest tree)
unfolding add_line matched
add_inside room rules tree line rest e =
    ap (λ o. elim o [
      | Some more ↦ node none QuoteLines (add_line (suc room - 1) rules more tree)
      | None ↦ add_blocks (suc room) rules
          (lazy_situation rules tree) line (node none QuoteLines tree)
    ]) e
    ∙ ap (λ n. node none QuoteLines (add_line n rules rest tree)) (sub-one (suc room))

add_first : (room : ℕ) (rules : Rules) (line rest : Line) → quote_start line ≡ Some rest
    → add_line (suc room) rules line none ≡ node none QuoteLines (add_line room rules rest none)
unfolding add_line add_blocks
add_first room rules line rest e = ap (λ o. elim o [
  | Some more ↦ node none QuoteLines (add_blocks room rules NoParagraph more none)
  | None
      ↦ add_leaf_or_item rules NoParagraph line none (λ first. add_blocks room rules NoParagraph first none)
]) e

lines_inside : (room : ℕ) (rules : Rules) (lines : List Text) (tree : Tree) → NoTabs lines →
    add_lines (suc room) rules (map marked_line lines) (node none QuoteLines tree) ≡ node none QuoteLines (add_lines room rules lines tree)
unfolding add_lines
lines_inside room rules [] tree h = refl
lines_inside room rules (line ∷ more) tree h =
    ap (add_lines (suc room) rules (map marked_line more)) (add_inside room rules tree (cells_of (line_content (marked_line line)))
    (cells_of (line_content line)) (quote_behind line h.0))
    ∙ lines_inside room rules more (add_line room rules (cells_of (line_content line)) tree) h.1

all_lines : (room : ℕ) (rules : Rules) (line : Text) (more : List Text) → NoTabs (line ∷ more) →
    add_lines (suc room) rules (map marked_line (line ∷ more)) none ≡ node none QuoteLines (add_lines room rules (line ∷ more) none)
unfolding add_lines
all_lines room rules line more h =
    ap (add_lines (suc room) rules (map marked_line more)) (add_first room rules (cells_of (line_content (marked_line line)))
    (cells_of (line_content line)) (quote_behind line h.0))
    ∙ lines_inside room rules more (add_line room rules (cells_of (line_content line)) none) h.1

abbrev Holds : ℕ → Rules → List Text → Type 0
Holds room rules lines = add_lines (suc room) rules (map marked_line lines) none ≡ node none QuoteLines (add_lines room rules lines none)

onto_lines : (room : ℕ) (rules : Rules) (c : ℕ) (lines : List Text) → NoTabs (onto_first c lines) → Holds room rules (onto_first c lines)
unfolding onto_first
onto_lines room rules c [] h = all_lines room rules (c ∷ []) [] h
onto_lines room rules c (line ∷ more) h = all_lines room rules (c ∷ line) more h

some_lines : (room : ℕ) (rules : Rules) (c : ℕ) (lines : List Text) (b : Bool)
    → NoTabs (elim b [ true ↦ (c ∷ []) ∷ lines | false ↦ onto_first c lines ]) →
    Holds room rules (elim b [ true ↦ (c ∷ []) ∷ lines | false ↦ onto_first c lines ])
some_lines room rules c lines true h = all_lines room rules (c ∷ []) lines h
some_lines room rules c lines false h = onto_lines room rules c lines h

text_lines : (room : ℕ) (rules : Rules) (c : ℕ) (rest : Text) → NoTabs (lines_of (c ∷ rest)) → Holds room rules (lines_of (c ∷ rest))
unfolding lines_of
text_lines room rules c rest h = some_lines room rules c (lines_of rest) (ends_line c rest) h

pub quoted_tree : QuotedTree
quoted_tree room rules c rest e =
    ap (λ lines. add_lines (suc room) rules lines none) (quoted_has (c ∷ rest)) ∙ text_lines room rules c rest (lines_no_tab (c ∷ rest) e)

tasks_at : (blocks : Blocks) (b : Bool) → elim b [ true ↦ with_tasks (node none BlockQuote blocks) | false ↦ node none BlockQuote blocks ]
    ≡ node none BlockQuote (elim b [ true ↦ with_tasks blocks | false ↦ blocks ])
unfolding with_tasks
tasks_at blocks true = refl
tasks_at blocks false = refl

tasks_inside : (rules : Rules) (blocks : Blocks) → tasks_read rules (node none BlockQuote blocks)
    ≡ node none BlockQuote (tasks_read rules blocks)
unfolding tasks_read
tasks_inside rules blocks = tasks_at blocks rules.tasks

over_quote : (rules : Rules) (tree : Tree) → tree_document rules (listed (node none QuoteLines tree))
    ≡ quote_over (tree_document rules (listed tree))
unfolding tree_document listed blocks_of references_of container_of
over_quote rules tree = ap (λ (blocks : Blocks). record { blocks = blocks; refs = references_of rules (listed tree) })
    (tasks_inside rules (blocks_of rules (listed tree)))

pub quoted_document : QuotedDocument
quoted_document room rules c rest e = ap (λ tree. tree_document rules (listed tree)) (quoted_tree room rules c rest e)
    ∙ over_quote rules (tree_within room rules (c ∷ rest))
