-- What an open leaf becomes, and what a line makes of it.
use Rattle.std.proofs.Common.{Bor, ◌≡◌, ℕ, Bool, true, false, [], ◌∷◌, chars, refl, ap, sym, ◌∙◌}
use Rattle.std.specs.Prelude.{Option, Some, None}
use Rattle.doc_rules.specs.Characters.{Text}
use Rattle.doc_rules.specs.Columns.{Line, text_of, is_blank_line}
use Rattle.doc_rules.specs.Rules.{Rules}
use Rattle.doc_rules.specs.Escapes.{unescape}
use Rattle.doc_rules.specs.Definitions.{definitions_of}
use Rattle.doc_rules.specs.LeafStarts as fences
use Rattle.doc_rules.specs.HtmlStarts as kinds_of
use Rattle.doc_rules.specs.Forests.{◌▹◌}
use Rattle.doc_rules.specs.Trees.{AtxLine, FencedLines, HtmlLines, BreakLine}
use Rattle.doc_rules.specs.Blocks.{Leaf, Paragraph, Heading, IndentedCode, FencedCode, HtmlBlock, Blocks, ended, joined, with_text}
use Rattle.doc_rules.specs.Blocks.{with_leaf}
use Rattle.doc_blocks_leaves.specs.Leaves.{OpenLeaf, NoLeaf, OpenParagraph, OpenCode, OpenFence, OpenHtml, open_of, with_open}
use Rattle.doc_lines.specs.RestSteps.{rest_of}
use Rattle.doc_refs_parts.specs.Targets.{Targets, targets_of}
use Rattle.doc_refs_parts.specs.Targets as maps
use Rattle.doc_refs_parts.proofs.MapLaws.{joined-empty}
use Rattle.doc_blocks_starts.specs.Tags.{leaf_shown}
use Rattle.doc_blocks_starts.specs.declared.tag.LeafBlock.TheVariants as leaves
use Rattle.doc_blocks_leaves.specs.OpenLeaves.{paragraph_text, with_leaf_of, underlined, with_underlined, underlined_references, with_begun}
use Rattle.doc_blocks_leaves.specs.Views.{with_block}
use Rattle.doc_blocks_leaves.proofs.LineSteps.{first_is_kept}

-- ---- blocks

-- a text, kept, is what was gathered
kept_text : (text shown : Bor Text) (all : Text) → text.now ≡ shown.now → chars shown.now ≡ all → chars text.now ≡ all
kept_text text shown all e f = ap chars e ∙ f

pub code_closed : (rules : Rules) (all kept : Text) (text shown : Bor Text) (before : Blocks) → text.now ≡ shown.now
    → chars shown.now ≡ kept →
    with_block (Some (leaves.Code text)) before ≡ with_open rules (OpenCode all kept) before
unfolding with_block leaf_shown with_open
code_closed rules all kept text shown before e f = ap (λ t. before ▹ IndentedCode t) (kept_text text shown kept e f)

pub fence_closed : (rules : Rules) (fence : fences.Fence) (read all : Text) (info text shown : Bor Text) (before : Blocks)
    → info.now ≡ read → text.now ≡ shown.now → chars shown.now ≡ all →
    with_block (Some (leaves.Fence info text)) before ≡ with_open rules (OpenFence fence (chars read) all) before
unfolding with_block leaf_shown with_open
fence_closed rules fence read all info text shown before d e f =
    ap (λ t. before ▹ FencedCode (chars t) (chars text.now)) d
    ∙ ap (λ t. before ▹ FencedCode (chars read) t) (kept_text text shown all e f)

pub html_closed : (rules : Rules) (kind : kinds_of.HtmlKind) (all kept : Text) (text shown : Bor Text) (before : Blocks)
    → text.now ≡ shown.now → chars shown.now ≡ kept →
    with_block (Some (leaves.Html text)) before ≡ with_open rules (OpenHtml kind all kept) before
unfolding with_block leaf_shown with_open
html_closed rules kind all kept text shown before e f = ap (λ t. before ▹ HtmlBlock t) (kept_text text shown kept e f)

-- what definitions leave of a paragraph, where they leave a text
abbrev pub Leaves : Option (Bor Text) → Rules → Text → Type 0
Leaves rest rules text = (leaf : Text → Leaf) (before : Blocks)
    → with_leaf_of leaf (rest_of rest) before ≡ with_text leaf (definitions_of rules text).1 before

pub paragraph_read : (rules : Rules) (text shown : Bor Text) (before : Blocks) → Leaves (Some text) rules (chars shown.now)
    → with_block (Some (leaves.Para text)) before ≡ with_text Paragraph (definitions_of rules (chars shown.now)).1 before
unfolding with_block leaf_shown with_leaf_of
paragraph_read rules text shown before h = h Paragraph before

pub definitions_read : (rules : Rules) (shown : Bor Text) (before : Blocks) → Leaves None rules (chars shown.now)
    → with_block None before ≡ with_text Paragraph (definitions_of rules (chars shown.now)).1 before
unfolding with_block with_leaf_of
definitions_read rules shown before h = h Paragraph before

pub heading_made : (rules : Rules) (level : ℕ) (all : Text) (text shown : Bor Text) (before : Blocks)
    → Leaves (Some text) rules (chars shown.now) → chars shown.now ≡ all →
    with_block (Some (leaves.Heading level text)) before ≡ with_underlined rules level (OpenParagraph all) before
unfolding with_block leaf_shown with_underlined with_leaf_of
heading_made rules level all text shown before h f = h (Heading level) before
    ∙ ap (λ t. with_text (Heading level) (definitions_of rules t).1 before) f

pub no_heading_made : (rules : Rules) (level : ℕ) (all : Text) (shown : Bor Text) (before : Blocks) → Leaves None rules (chars shown.now)
    → chars shown.now ≡ all →
    with_block None before ≡ with_underlined rules level (OpenParagraph all) before
unfolding with_block with_underlined with_leaf_of
no_heading_made rules level all shown before h f = h (Heading level) before
    ∙ ap (λ t. with_text (Heading level) (definitions_of rules t).1 before) f

-- ---- definitions

pub none_join : (refs : Targets) → refs ≡ maps.joined refs (targets_of [])
none_join refs = sym (joined-empty refs)

pub those_join : (rules : Rules) (old new : Targets) (text all : Text) → new ≡ maps.joined old (targets_of (definitions_of rules text).0)
    → text ≡ all →
    new ≡ maps.joined old (targets_of (definitions_of rules all).0)
those_join rules old new text all e f = e ∙ ap (λ t. maps.joined old (targets_of (definitions_of rules t).0)) f

-- ---- a leaf that begins

pub heading_begun : (rules : Rules) (level : ℕ) (text shown : Bor Text) (before : Blocks) → text.now ≡ shown.now →
    with_block (Some (leaves.Heading level text)) before ≡ with_begun rules (AtxLine level (chars shown.now))
    (open_of rules (AtxLine level (chars shown.now))) before
unfolding with_block leaf_shown with_begun open_of with_leaf
heading_begun rules level text shown before e = ap (λ t. before ▹ Heading level (chars t)) e

pub break_begun : (rules : Rules) (before : Blocks) → with_block (Some leaves.Break) before
    ≡ with_begun rules BreakLine (open_of rules BreakLine) before
unfolding with_block leaf_shown with_begun open_of with_leaf
break_begun rules before = refl

pub fence_begun : (rules : Rules) (fence : fences.Fence) (info : Text) (before : Blocks)
    → before ≡ with_begun rules (FencedLines true fence info []) (open_of rules (FencedLines true fence info [])) before
unfolding with_begun open_of
fence_begun rules fence info before = refl

pub fence_opened : (rules : Rules) (fence : fences.Fence) (info read all : Text) → read ≡ unescape rules info → all ≡ []
    → OpenFence fence read all ≡ open_of rules (FencedLines true fence info [])
unfolding open_of ended
fence_opened rules fence info read all e f = ap (λ t. OpenFence fence t all) e ∙ ap (λ t. OpenFence fence (unescape rules info) t) f

-- an HTML block of one line
pub html_begun : (rules : Rules) (kind : kinds_of.HtmlKind) (line : Line) (kept : Text) (text shown : Bor Text) (before : Blocks) →
    text.now ≡ shown.now → chars shown.now ≡ kept → kept ≡ elim (is_blank_line line) [ true ↦ [] | false ↦ text_of line ] →
    with_block (Some (leaves.Html text)) before ≡ with_begun rules (HtmlLines false kind (text_of line ∷ []))
    (open_of rules (HtmlLines false kind (text_of line ∷ []))) before
unfolding with_block leaf_shown with_begun open_of with_leaf
html_begun rules kind line kept text shown before e f g =
    ap (λ t. before ▹ HtmlBlock t) (kept_text text shown kept e f ∙ (g ∙ sym (first_is_kept line)))

pub html_opened : (rules : Rules) (kind : kinds_of.HtmlKind) (line : Line) (all kept : Text) →
    all ≡ text_of line → kept ≡ elim (is_blank_line line) [ true ↦ [] | false ↦ text_of line ]
    → OpenHtml kind all kept ≡ open_of rules (HtmlLines true kind (text_of line ∷ []))
unfolding open_of joined
html_opened rules kind line all kept e f = ap (λ t. OpenHtml kind t kept) e
    ∙ ap (λ t. OpenHtml kind (text_of line) t) (f ∙ sym (first_is_kept line))

-- what is kept of the first line
pub first_kept : (line : Line) (blank : Bool) (cleared all kept : Text) → blank ≡ is_blank_line line → cleared ≡ [] → all ≡ text_of line →
    kept ≡ elim blank [ true ↦ cleared | false ↦ all ] → kept ≡ elim (is_blank_line line) [ true ↦ [] | false ↦ text_of line ]
first_kept line blank cleared all kept e f g h =
    h
    ∙ (ap (λ (b : Bool). elim b [ true ↦ cleared | false ↦ all ]) e
    ∙ (ap (λ (t : Text). elim (is_blank_line line) [ true ↦ t | false ↦ all ]) f
    ∙ ap (λ (t : Text). elim (is_blank_line line) [ true ↦ [] | false ↦ t ]) g))

-- ---- an underline

is_paragraph : (leaf : OpenLeaf) (text : Text) → Some text ≡ paragraph_text leaf → leaf ≡ OpenParagraph text
unfolding paragraph_text
is_paragraph NoLeaf text e = absurd cc
is_paragraph (OpenParagraph own) text e = let same : own ≡ text = cc in ap OpenParagraph same
is_paragraph (OpenCode all kept) text e = absurd cc
is_paragraph (OpenFence fence info all) text e = absurd cc
is_paragraph (OpenHtml kind all kept) text e = absurd cc

-- a leaf that is no paragraph stays
pub other_stays : (leaf : OpenLeaf) → None ≡ paragraph_text leaf → leaf ≡ underlined leaf
unfolding paragraph_text underlined
other_stays NoLeaf e = refl
other_stays (OpenParagraph own) e = absurd cc
other_stays (OpenCode all kept) e = refl
other_stays (OpenFence fence info all) e = refl
other_stays (OpenHtml kind all kept) e = refl

pub other_makes_none : (rules : Rules) (level : ℕ) (leaf : OpenLeaf) (before : Blocks) → None ≡ paragraph_text leaf
    → with_block None before ≡ with_underlined rules level leaf before
unfolding paragraph_text with_underlined with_block
other_makes_none rules level NoLeaf before e = refl
other_makes_none rules level (OpenParagraph own) before e = absurd cc
other_makes_none rules level (OpenCode all kept) before e = refl
other_makes_none rules level (OpenFence fence info all) before e = refl
other_makes_none rules level (OpenHtml kind all kept) before e = refl

pub other_defines_none : (rules : Rules) (refs : Targets) (leaf : OpenLeaf) → None ≡ paragraph_text leaf
    → refs ≡ maps.joined refs (targets_of (underlined_references rules leaf))
unfolding paragraph_text underlined_references
other_defines_none rules refs NoLeaf e = none_join refs
other_defines_none rules refs (OpenParagraph own) e = absurd cc
other_defines_none rules refs (OpenCode all kept) e = none_join refs
other_defines_none rules refs (OpenFence fence info all) e = none_join refs
other_defines_none rules refs (OpenHtml kind all kept) e = none_join refs

-- a paragraph becomes a heading
pub paragraph_goes : (leaf new : OpenLeaf) (text : Text) → Some text ≡ paragraph_text leaf → new ≡ NoLeaf → new ≡ underlined leaf
unfolding underlined
paragraph_goes leaf new text e f = f ∙ ap underlined (sym (is_paragraph leaf text e))

pub heading_of_paragraph : (rules : Rules) (level : ℕ) (leaf : OpenLeaf) (text shown : Bor Text) (before : Blocks)
    → Some (chars shown.now) ≡ paragraph_text leaf → Leaves (Some text) rules (chars shown.now) →
    with_block (Some (leaves.Heading level text)) before ≡ with_underlined rules level leaf before
heading_of_paragraph rules level leaf text shown before e h =
    heading_made rules level (chars shown.now) text shown before h refl
    ∙ ap (λ l. with_underlined rules level l before) (sym (is_paragraph leaf (chars shown.now) e))

pub no_heading_of_paragraph : (rules : Rules) (level : ℕ) (leaf : OpenLeaf) (shown : Bor Text) (before : Blocks)
    → Some (chars shown.now) ≡ paragraph_text leaf → Leaves None rules (chars shown.now) →
    with_block None before ≡ with_underlined rules level leaf before
no_heading_of_paragraph rules level leaf shown before e h =
    no_heading_made rules level (chars shown.now) shown before h refl
    ∙ ap (λ l. with_underlined rules level l before) (sym (is_paragraph leaf (chars shown.now) e))

pub paragraph_defines : (rules : Rules) (old new : Targets) (leaf : OpenLeaf) (text : Text) → Some text ≡ paragraph_text leaf
    → new ≡ maps.joined old (targets_of (definitions_of rules text).0) →
    new ≡ maps.joined old (targets_of (underlined_references rules leaf))
unfolding underlined_references
paragraph_defines rules old new leaf text e f = f ∙ ap (λ l. maps.joined old (targets_of (underlined_references rules l)))
    (sym (is_paragraph leaf text e))
