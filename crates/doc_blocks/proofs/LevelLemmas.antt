-- What each level has of the tags, as tags and open containers change.
use Rattle.std.proofs.Common.{◌≡◌, ◌∙◌, ℕ, suc, ◌+◌, ◌<◌, Bool, true, false, ◌&&◌, not, List, [], ◌∷◌, ◌++◌, map, reverse, drop, length}
use Rattle.std.proofs.Common.{refl, ap, sym, subst, arith, zero, get_or, set, Option, Some, None}
use Rattle.std.proofs.lemmas.List.{reverse-append, map-append, map-set, length-append, length-map, length-reverse}
use Rattle.std.proofs.Math.Seq.{map-set_same}
use Rattle.doc_rules.specs.Forests.{none, ◌▹◌, node}
use Rattle.doc_rules.specs.Blocks.{Blocks, Leaf, Container}
use Rattle.doc_rules.specs.ContainerStarts.{ListKind, is_same_kind}
use Rattle.doc_blocks_starts.specs.Items.{kind_of}
use Rattle.doc_blocks_leaves.specs.Paths as paths
use Rattle.doc_blocks_leaves.specs.Paths.{empty_level, gone_on, finished}
use Rattle.doc_blocks_leaves.specs.Closing.{container_closed, item_closed}
use Rattle.doc_blocks_starts.specs.Tags.{Tag, OneLeaf, Start, End, tags_of, leaf_shown, tag_shown, tags_shown}
use Rattle.doc_blocks_starts.specs.Tags.{container_shown as container_block}
use Rattle.doc_blocks_starts.specs.OpenTags as tags
use Rattle.doc_blocks_starts.specs.OpenTags.{Entry, read, open_tags}
use Rattle.doc_blocks_starts.specs.declared.tag.Tag as code
use Rattle.doc_blocks_starts.specs.declared.tag.Tag.TheVariants as tag
use Rattle.doc_blocks_starts.specs.declared.tag.LeafBlock.{LeafBlock}
use Rattle.doc_blocks_starts.specs.declared.tag.ContainerBlock.{ContainerBlock}
use Rattle.doc_blocks_starts.proofs.TagLaws.{read_open, open_leaf, open_end, open_turned}
use Rattle.doc_blocks.specs.declared.levels.OpenList.{OpenList}
use Rattle.doc_blocks.specs.declared.levels.Level.{Level}
use Rattle.doc_blocks.specs.declared.levels.Open.{Open}
use Rattle.doc_blocks.specs.declared.levels.Left.{Left}
use Rattle.doc_blocks.specs.declared.levels.Levels.{Levels}
use Rattle.doc_blocks.specs.declared.container.Container as held
use Rattle.doc_blocks.specs.declared.container.Container.TheVariants.{Quote, Item}
use Rattle.doc_blocks.specs.StackSteps.{Outer, Stack, empty_stack, with_inner_blocks, block_begun, item_begun, container_opened}
use Rattle.doc_blocks.specs.StackSteps.{stack_loosened, loosened}
use Rattle.doc_blocks.specs.StackSteps.{container_blank, IsNotOf, ClosesLast}
use Rattle.doc_blocks.specs.Containers.{container_shown, block_of}
use Rattle.doc_blocks.specs.PathSteps.{gone_on_at}
use Rattle.doc_blocks.specs.LevelSteps.{list_shown, list_of, level_at, round, Frame, frames_of, levels_in, with_containers, outers_at}
use Rattle.doc_blocks.specs.LevelSteps.{stack_at, stack_of, Suits, ListFits, LevelFits, AreSound, item_put_in, put_inside, Leaves}

-- records in which a lemma changes a part
abbrev stack_with : List Outer → paths.Level → Bool → Stack
stack_with outer inner blank = record { outer = outer; inner = inner; blank = blank }

-- ---- the open containers

-- one more container is open
pub frames_push : (outer : List Open) (o : Open) → frames_of (outer ++ o ∷ []) ≡ (o.level, block_of o.container) ∷ frames_of outer
frames_push outer o =
    let frame : Open → Frame = λ x. (x.level, block_of x.container) in
    ap reverse (map-append frame outer (o ∷ [])) ∙ reverse-append (map frame outer) (frame o ∷ [])

levels_count : (frames : List Frame) (entries : List Entry) → length (levels_in frames entries) ≡ length frames
levels_count [] entries = refl
levels_count (frame ∷ more) [] = ap suc (levels_count more [])
levels_count (frame ∷ more) (entry ∷ entries) = ap suc (levels_count more (round frame.0.list entries))

-- there are as many levels as open containers
levels_are_as_many : (outer : List Open) (entries : List Entry) → length (reverse (levels_in (frames_of outer) entries)) ≡ length outer
levels_are_as_many outer entries =
    let frame : Open → Frame = λ x. (x.level, block_of x.container) in
    length-reverse (levels_in (frames_of outer) entries)
    ∙ (levels_count (frames_of outer) entries ∙ (length-reverse (map frame outer) ∙ length-map outer frame))

containers_push : (levels : List paths.Level) (level : paths.Level) (outer : List Open) (o : Open) → length levels ≡ length outer →
    with_containers (levels ++ level ∷ []) (outer ++ o ∷ []) ≡ with_containers levels outer ++ (level, container_shown o.container) ∷ []
containers_push [] level [] o e = refl
containers_push [] level (a ∷ outer) o e = absurd (omega (arith, e))
containers_push (l ∷ levels) level [] o e = absurd (omega (arith, e))
containers_push (l ∷ levels) level (a ∷ outer) o e =
    ap (λ (os : List Outer). (l, container_shown a.container) ∷ os) (containers_push levels level outer o (omega (arith, e)))

pub outers_push : (outer : List Open) (o : Open) (entry : Entry) (entries : List Entry) →
    outers_at (outer ++ o ∷ []) (entry ∷ entries) ≡ outers_at outer (round o.level.list entries)
    ++ (level_at entries entry.1 o.level.gap o.level.list, container_shown o.container) ∷ []
outers_push outer o entry entries =
    let level = level_at entries entry.1 o.level.gap o.level.list in
    let levels = levels_in (frames_of outer) (round o.level.list entries) in
    ap (λ (fs : List Frame). with_containers (reverse (levels_in fs (entry ∷ entries))) (outer ++ o ∷ [])) (frames_push outer o)
    ∙ (ap (λ (ls : List paths.Level). with_containers ls (outer ++ o ∷ [])) (reverse-append (level ∷ []) levels)
    ∙ containers_push (reverse levels) level outer o (levels_are_as_many outer (round o.level.list entries)))

containers_count : (levels : List paths.Level) (outer : List Open) → length levels ≡ length outer
    → length (with_containers levels outer) ≡ length outer
containers_count [] [] e = refl
containers_count [] (o ∷ outer) e = absurd (omega (arith, e))
containers_count (l ∷ levels) [] e = absurd (omega (arith, e))
containers_count (l ∷ levels) (o ∷ outer) e = ap suc (containers_count levels outer (omega (arith, e)))

length_outers : (outer : List Open) (entries : List Entry) → length (outers_at outer entries) ≡ length outer
length_outers outer entries = containers_count (reverse (levels_in (frames_of outer) entries)) outer (levels_are_as_many outer entries)

pub length_stack : (s : Levels) → length (stack_of s).outer ≡ length s.outer.items
length_stack s = length_outers s.outer.items (round s.inner.list (read (tags_shown s.tags.items)).0)

-- ---- one of the open containers

container_here : (levels : List paths.Level) (outer : List Open) (n : ℕ) (o : Open) → length levels ≡ length outer → n < length outer
    → o ≡ get_or outer n o →
    (l : paths.Level)
    × (drop n (with_containers levels outer) ≡ (l, container_shown o.container) ∷ drop (suc n) (with_containers levels outer))
container_here [] [] n o e h f = absurd (omega (arith, h))
container_here [] (a ∷ outer) n o e h f = absurd (omega (arith, e))
container_here (l ∷ levels) [] n o e h f = absurd (omega (arith, h))
container_here (l ∷ levels) (a ∷ outer) zero o e h f =
    (l, ap (λ (x : Open). (l, container_shown x.container) ∷ with_containers levels outer) (sym f))
container_here (l ∷ levels) (a ∷ outer) (suc n) o e h f = container_here levels outer n o (omega (arith, e)) (omega (arith, h)) f

pub container_at : (outer : List Open) (entries : List Entry) (n : ℕ) (o : Open) → n < length outer → o ≡ get_or outer n o →
    (l : paths.Level) × (drop n (outers_at outer entries) ≡ (l, container_shown o.container) ∷ drop (n + 1) (outers_at outer entries))
container_at outer entries n o h e =
    let levels = reverse (levels_in (frames_of outer) entries) in
    let here = container_here levels outer n o (levels_are_as_many outer entries) h e in
    let next : suc n ≡ n + 1 = omega arith in
    (here.0, here.1 ∙ ap (λ (m : ℕ). (here.0, container_shown o.container) ∷ drop m (with_containers levels outer)) next)

-- its container changes, and stays a quote or an item
pub same_item : (outer : List Open) (n : ℕ) (o p : Open) → n < length outer → o ≡ get_or outer n o → p ≡ get_or outer n p → p ≡ o
same_item [] n o p h e f = absurd (omega (arith, h))
same_item (a ∷ outer) zero o p h e f = f ∙ sym e
same_item (a ∷ outer) (suc n) o p h e f = same_item outer n o p (omega (arith, h)) e f

block_stays : (c c' : held.Container) → container_shown c' ≡ gone_on (container_shown c) → block_of c' ≡ block_of c
block_stays Quote Quote e = refl
block_stays Quote (Item columns is_empty) e = absurd cc
block_stays (Item columns is_empty) Quote e = absurd cc
block_stays (Item columns is_empty) (Item columns' is_empty') e = refl

pub frames_gone : (outer : List Open) (n : ℕ) (o o' : Open) → o ≡ get_or outer n o → o'.level ≡ o.level
    → container_shown o'.container ≡ gone_on (container_shown o.container) → frames_of (set outer n o') ≡ frames_of outer
frames_gone outer n o o' e f g =
    let frame : Open → Frame = λ x. (x.level, block_of x.container) in
    let same : frame o' ≡ frame (get_or outer n o) =
    ap (λ (l : Level). (l, block_of o'.container)) f
    ∙ (ap (λ (b : Container). (o.level, b)) (block_stays o.container o'.container g) ∙ ap frame e) in
    ap reverse (map-set_same frame outer n o' o same)

containers_gone : (levels : List paths.Level) (outer : List Open) (n : ℕ) (o o' : Open) → length levels ≡ length outer → n < length outer
    → o ≡ get_or outer n o → container_shown o'.container ≡ gone_on (container_shown o.container)
    → with_containers levels (set outer n o') ≡ gone_on_at n (with_containers levels outer)
containers_gone [] [] n o o' e h f g = absurd (omega (arith, h))
containers_gone [] (a ∷ outer) n o o' e h f g = absurd (omega (arith, e))
containers_gone (l ∷ levels) [] n o o' e h f g = absurd (omega (arith, h))
containers_gone (l ∷ levels) (a ∷ outer) zero o o' e h f g =
    ap (λ (x : paths.OpenContainer). (l, x) ∷ with_containers levels outer) (g ∙ ap (λ (x : Open). gone_on (container_shown x.container)) f)
containers_gone (l ∷ levels) (a ∷ outer) (suc n) o o' e h f g =
    ap (λ (os : List Outer). (l, container_shown a.container) ∷ os)
    (containers_gone levels outer n o o' (omega (arith, e)) (omega (arith, h)) f g)

pub outers_gone : (outer : List Open) (entries : List Entry) (n : ℕ) (o o' : Open) → n < length outer → o ≡ get_or outer n o
    → o'.level ≡ o.level → container_shown o'.container ≡ gone_on (container_shown o.container)
    → outers_at (set outer n o') entries ≡ gone_on_at n (outers_at outer entries)
outers_gone outer entries n o o' h e f g =
    ap (λ (fs : List Frame). with_containers (reverse (levels_in fs entries)) (set outer n o')) (frames_gone outer n o o' e f g)
    ∙ containers_gone (reverse (levels_in (frames_of outer) entries)) outer n o o' (levels_are_as_many outer entries) h e g

-- ---- what was read of the tags

-- so many tags stand before what an open list holds
pub tags_count : (ts : List code.Tag) (entries : List Entry) (last : Blocks) → tags_shown ts ≡ open_tags entries last
    → length ts ≡ length (open_tags entries last)
tags_count ts entries last e = sym (length-map ts tag_shown) ∙ ap length e

pub leaf_pushed : (ts ts' : List code.Tag) (leaf : LeafBlock) → ts' ≡ ts ++ tag.Leaf leaf ∷ []
    → tags_shown ts' ≡ tags_shown ts ++ OneLeaf (leaf_shown leaf) ∷ []
unfolding tag_shown
leaf_pushed ts ts' leaf e = ap tags_shown e ∙ map-append tag_shown ts (tag.Leaf leaf ∷ [])

pub start_pushed : (ts ts' : List code.Tag) (block : ContainerBlock) (c : Container) → container_block block ≡ c
    → ts' ≡ ts ++ tag.Start block ∷ [] → tags_shown ts' ≡ tags_shown ts ++ Start c ∷ []
unfolding tag_shown
start_pushed ts ts' block c e f =
    ap tags_shown f ∙ (map-append tag_shown ts (tag.Start block ∷ []) ∙ ap (λ (x : Container). tags_shown ts ++ Start x ∷ []) e)

pub end_pushed : (ts ts' : List code.Tag) (block : ContainerBlock) (c : Container) → container_block block ≡ c
    → ts' ≡ ts ++ tag.End block ∷ [] → tags_shown ts' ≡ tags_shown ts ++ End c ∷ []
unfolding tag_shown
end_pushed ts ts' block c e f =
    ap tags_shown f ∙ (map-append tag_shown ts (tag.End block ∷ []) ∙ ap (λ (x : Container). tags_shown ts ++ End x ∷ []) e)

pub stack_read : (outer : List Open) (gap : Bool) (list : Option OpenList) (blank : Bool) (ts : List Tag) (entries : List Entry)
    (last : Blocks) → ts ≡ open_tags entries last → stack_at outer gap list blank (read ts) ≡ stack_at outer gap list blank (entries, last)
stack_read outer gap list blank ts entries last e =
    ap (λ (r : tags.Open). stack_at outer gap list blank r) (ap read e ∙ read_open entries last)

-- no tags, and nothing is open
pub stack_empty : (outer : List Open) (ts : List code.Tag) → outer ≡ [] → ts ≡ []
    → stack_at outer false None false (read (tags_shown ts)) ≡ empty_stack
unfolding tags.read_on
stack_empty outer ts e f =
    ap (λ (os : List Open). stack_at os false None false (read (tags_shown ts))) e
    ∙ ap (λ (t : List code.Tag). stack_at [] false None false (read (tags_shown t))) f

-- ---- the open list ends

-- the container of an open list, and the blocks before it
pub first_fits : (l : OpenList) (entries : List Entry) (AreSo : List Entry → Type 0) → ListFits l entries AreSo →
    (before : Blocks) × ((rest : List Entry) × ((entries ≡ (list_of l true, before) ∷ rest) × ((l.place ≡ length (open_tags rest before))
    × AreSo rest)))
first_fits l [] AreSo h = absurd h
first_fits l (entry ∷ entries) AreSo h =
    (entry.1, (entries, (ap (λ (c : Container). (c, entry.1) ∷ entries) h.0, (h.1.0, h.1.1))))

pub list_ends : (ts ts' : List code.Tag) (block : ContainerBlock) (l : OpenList) (entries : List Entry) (before last : Blocks)
    (rest : List Entry) → tags_shown ts ≡ open_tags entries last → entries ≡ (list_of l true, before) ∷ rest
    → l.place ≡ length (open_tags rest before) → container_block block ≡ list_of l l.tight
    → ts' ≡ set ts l.place (tag.Start block) ++ tag.End block ∷ []
    → tags_shown ts' ≡ open_tags rest (node before (list_of l l.tight) last)
unfolding tag_shown
list_ends ts ts' block l entries before last rest e d f g h =
    end_pushed (set ts l.place (tag.Start block)) ts' block (list_of l l.tight) g h
    ∙ (ap (λ (t : List Tag). t ++ End (list_of l l.tight) ∷ []) (map-set tag_shown ts l.place (tag.Start block)
    ∙ (ap (λ (t : List Tag). set t l.place (Start (container_block block))) (e ∙ ap (λ (es : List Entry). open_tags es last) d)
    ∙ (ap (λ (n : ℕ). set (open_tags ((list_of l true, before) ∷ rest) last) n (Start (container_block block))) f
    ∙ (ap (λ (c : Container). set (open_tags ((list_of l true, before) ∷ rest) last) (length (open_tags rest before)) (Start c)) g
    ∙ open_turned rest (list_of l true) (list_of l l.tight) before last))))
    ∙ open_end rest (list_of l l.tight) before last)

-- its start is one of the tags
pub starts_within : (ts : List code.Tag) (l : OpenList) (entries rest : List Entry) (before last : Blocks)
    → tags_shown ts ≡ open_tags entries last → entries ≡ (list_of l true, before) ∷ rest → l.place ≡ length (open_tags rest before)
    → l.place < length ts
unfolding open_tags
starts_within ts l entries rest before last e f g =
    let all : length ts ≡ length (open_tags rest before ++ Start (list_of l true) ∷ tags_of last) =
    tags_count ts entries last e ∙ ap (λ (es : List Entry). length (open_tags es last)) f in
    let both = length-append (open_tags rest before) (Start (list_of l true) ∷ tags_of last) in
    omega (arith, all, both, g)

-- what `finish_list` does where this was read
abbrev list_finished : List Open → (gap : Bool) → Option OpenList → (blank : Bool) → tags.Open → Stack
list_finished outer gap list blank state =
    with_inner_blocks (stack_at outer gap list blank state) (finished (level_at state.0 state.1 gap list))

stack_closed : (outer : List Open) (gap : Bool) (l : OpenList) (blank : Bool) (before last : Blocks) (rest : List Entry) →
    stack_at outer gap None blank (rest, node before (list_of l l.tight) last)
    ≡ list_finished outer gap (Some l) blank ((list_of l true, before) ∷ rest, last)
unfolding paths.finished_list
stack_closed outer gap l blank before last rest = refl

pub stack_listed : (outer : List Open) (gap : Bool) (list list' : Option OpenList) (l : OpenList) (blank : Bool) (ts ts' : List Tag)
    (entries : List Entry) (before last : Blocks) (rest : List Entry) →
    Some l ≡ list → list' ≡ None → ts ≡ open_tags entries last → entries ≡ (list_of l true, before) ∷ rest
    → ts' ≡ open_tags rest (node before (list_of l l.tight) last)
    → stack_at outer gap list' blank (read ts') ≡ list_finished outer gap list blank (read ts)
stack_listed outer gap list list' l blank ts ts' entries before last rest e f g d h =
    ap (λ (o : Option OpenList). stack_at outer gap o blank (read ts')) f
    ∙ (stack_read outer gap None blank ts' rest (node before (list_of l l.tight) last) h
    ∙ (stack_closed outer gap l blank before last rest
    ∙ (ap (λ (r : tags.Open). list_finished outer gap (Some l) blank r)
    (sym (ap read g ∙ (read_open entries last ∙ ap (λ (es : List Entry). (es, last)) d)))
    ∙ ap (λ (o : Option OpenList). list_finished outer gap o blank (read ts)) e)))

-- no list is open
pub stack_bare : (outer : List Open) (gap : Bool) (list list' : Option OpenList) (blank : Bool) (state : tags.Open) → list ≡ None
    → list' ≡ None → stack_at outer gap list' blank state ≡ list_finished outer gap list blank state
unfolding paths.finished_list
stack_bare outer gap None list' blank state e f = ap (λ (o : Option OpenList). stack_at outer gap o blank state) f
stack_bare outer gap (Some l) list' blank state e f = cc

-- what is open where no list is
pub bare_fits : (list : Option OpenList) (entries : List Entry) (AreSo : List Entry → Type 0) → list ≡ None → LevelFits list entries AreSo
    → AreSo entries
bare_fits None entries AreSo e h = h
bare_fits (Some l) entries AreSo e h = absurd cc

pub bare_blocks : (outer : List Open) (gap : Bool) (list : Option OpenList) (blank : Bool) (ts : List Tag) (entries : List Entry)
    (last : Blocks) → list ≡ None → ts ≡ open_tags entries last → (stack_at outer gap list blank (read ts)).inner.blocks ≡ last
bare_blocks outer gap None blank ts entries last e f = ap (λ (r : tags.Open). r.1) (ap read f ∙ read_open entries last)
bare_blocks outer gap (Some l) blank ts entries last e f = cc

-- ---- a leaf comes behind the blocks of the innermost level

-- the leaf behind the list that closed
pub put_behind : (s : Stack) (bs : Blocks) (t : Stack) (leaf : Leaf) (u : Stack) → t ≡ with_inner_blocks s bs
    → u ≡ with_inner_blocks t (t.inner.blocks ▹ leaf) → u ≡ with_inner_blocks s (bs ▹ leaf)
put_behind s bs t leaf u e f = f ∙ ap (λ (x : Stack). with_inner_blocks x (x.inner.blocks ▹ leaf)) e

pub stack_pushed : (outer : List Open) (gap : Bool) (list : Option OpenList) (blank : Bool) (ts ts' : List Tag) (entries : List Entry)
    (last : Blocks) (leaf : Leaf) → list ≡ None → ts ≡ open_tags entries last → ts' ≡ ts ++ OneLeaf leaf ∷ []
    → stack_at outer gap list blank (read ts') ≡ with_inner_blocks (stack_at outer gap list blank (read ts))
    ((stack_at outer gap list blank (read ts)).inner.blocks ▹ leaf)
stack_pushed outer gap None blank ts ts' entries last leaf e f g =
    let pushed : ts' ≡ open_tags entries (last ▹ leaf) =
    g ∙ (ap (λ (t : List Tag). t ++ OneLeaf leaf ∷ []) f ∙ open_leaf entries last leaf) in
    stack_read outer gap None blank ts' entries (last ▹ leaf) pushed
    ∙ ap (λ (r : tags.Open). with_inner_blocks (stack_at outer gap None blank r) ((stack_at outer gap None blank r).inner.blocks ▹ leaf))
    (sym (ap read f ∙ read_open entries last))
stack_pushed outer gap (Some l) blank ts ts' entries last leaf e f g = cc

-- ---- an item begins

-- no list of the kind is open
pub item_not_of : (level : paths.Level) (blank : Bool) (kind : ListKind) (start : ℕ) (list : Option paths.OpenList) → IsNotOf kind list →
    paths.item_begun_in level blank kind start list ≡ paths.first_item level blank kind start
unfolding paths.item_begun_in
item_not_of level blank kind start None h = refl
item_not_of level blank kind start (Some l) h =
    ap (λ (b : Bool). elim b as (λ _. paths.Level) [
      | true ↦ paths.one_more_item level l blank
      | false ↦ paths.first_item level blank kind
          start
    ]) h

-- a list of the kind is open
pub item_of_list : (level : paths.Level) (blank : Bool) (kind : ListKind) (start : ℕ) (l : paths.OpenList)
    → is_same_kind l.kind kind ≡ true →
    paths.item_begun_in level blank kind start (Some l) ≡ paths.one_more_item level l blank
unfolding paths.item_begun_in
item_of_list level blank kind start l h =
    ap (λ (b : Bool). elim b as (λ _. paths.Level) [
      | true ↦ paths.one_more_item level l blank
      | false ↦ paths.first_item level blank kind
          start
    ]) h

-- an item goes on with the open list
going_on : (outer : List Open) (gap : Bool) (blank : Bool) (l : OpenList) (kind : ListKind) (start : ℕ) (state : tags.Open)
    → is_same_kind (kind_of l.kind) kind ≡ true →
    stack_at outer gap (Some (record l { tight = l.tight && not blank })) false state
    ≡ item_begun (stack_at outer gap (Some l) blank state) kind start
going_on outer gap blank l kind start ([], last) h =
    ap (λ (level : paths.Level). stack_with (outers_at outer []) level false)
    (sym (item_of_list (level_at [] last gap (Some l)) blank kind start (list_shown last l) h))
going_on outer gap blank l kind start (entry ∷ entries, last) h =
    ap (λ (level : paths.Level). stack_with (outers_at outer entries) level false)
    (sym (item_of_list (level_at (entry ∷ entries) last gap (Some l)) blank kind start (list_shown last l) h))

pub stack_going_on : (outer : List Open) (gap : Bool) (list : Option OpenList) (blank : Bool) (l : OpenList) (kind : ListKind) (start : ℕ)
    (state : tags.Open) → list ≡ Some l → is_same_kind (kind_of l.kind) kind ≡ true →
    stack_at outer gap (Some (record l { tight = l.tight && not blank })) false state
    ≡ item_begun (stack_at outer gap list blank state) kind start
stack_going_on outer gap list blank l kind start state e h =
    going_on outer gap blank l kind start state h
    ∙ sym (ap (λ (o : Option OpenList). item_begun (stack_at outer gap o blank state) kind start) e)

-- an item begins a list
pub stack_item_begun : (outer : List Open) (gap : Bool) (blank : Bool) (l : OpenList) (s : Stack) (state : tags.Open) → l.tight ≡ true
    → stack_at outer gap None blank state ≡ block_begun s → IsNotOf (kind_of l.kind) s.inner.list →
    stack_at outer gap (Some l) blank ((list_of l true, state.1) ∷ state.0, none) ≡ item_begun s (kind_of l.kind) l.start
stack_item_begun outer gap blank l s state e f g =
    ap (λ (tight : Bool). stack_with (outers_at outer state.0) (record {
      blocks = state.1;
      list = Some (record { kind = kind_of l.kind; start = l.start; tight = tight; items = none });
      gap = gap;
    }) blank) e
    ∙ (ap (λ (t : Stack). record t {
      inner = record t.inner {
        list = Some
            (record { kind = kind_of l.kind; start = l.start; tight = true; items = none });
      };
    }) f
    ∙ sym (ap (λ (level : paths.Level). stack_with s.outer level false)
    (item_not_of s.inner s.blank (kind_of l.kind) l.start s.inner.list g)))

pub stack_list_begun : (outer : List Open) (gap : Bool) (list : Option OpenList) (blank : Bool) (l : OpenList) (s : Stack)
    (ts ts' : List Tag)
    (entries : List Entry) (last : Blocks) → list ≡ None → ts ≡ open_tags entries last → ts' ≡ ts ++ Start (list_of l true) ∷ []
    → l.tight ≡ true → stack_at outer gap list blank (read ts) ≡ block_begun s → IsNotOf (kind_of l.kind) s.inner.list →
    stack_at outer gap (Some l) blank (read ts') ≡ item_begun s (kind_of l.kind) l.start
unfolding open_tags tags_of
stack_list_begun outer gap None blank l s ts ts' entries last e f g h k n =
    let begun : ts' ≡ open_tags ((list_of l true, last) ∷ entries) none = g ∙ ap (λ (t : List Tag). t ++ Start (list_of l true) ∷ []) f in
    stack_read outer gap (Some l) blank ts' ((list_of l true, last) ∷ entries) none begun
    ∙ stack_item_begun outer gap blank l s (entries, last) h (sym (stack_read outer gap None blank ts entries last f) ∙ k) n
stack_list_begun outer gap (Some o) blank l s ts ts' entries last e f g h k n = cc

-- ---- a container opens

pub stack_opened : (outer outer' : List Open) (level inner level' : Level) (container : held.Container) (blank : Bool) (ts ts' : List Tag)
    (entries : List Entry) (last : Blocks) → level ≡ inner → level' ≡ record { list = None; gap = false }
    → outer' ≡ outer ++ record { level = level; container = container } ∷ [] → ts ≡ open_tags entries last
    → ts' ≡ ts ++ Start (block_of container) ∷ [] →
    stack_at outer' level'.gap level'.list false (read ts')
    ≡ container_opened (stack_at outer inner.gap inner.list blank (read ts)) (container_shown container)
unfolding open_tags tags_of
stack_opened outer outer' level inner level' container blank ts ts' entries last e f g h k =
    let o : Open = record { level = inner; container = container } in
    let begun : ts' ≡ open_tags ((block_of container, last) ∷ entries) none =
    k ∙ ap (λ (t : List Tag). t ++ Start (block_of container) ∷ []) h in
    ap (λ (l : Level). stack_at outer' l.gap l.list false (read ts')) f
    ∙ (stack_read outer' false None false ts' ((block_of container, last) ∷ entries) none begun
    ∙ (ap (λ (os : List Open). stack_at os false None false ((block_of container, last) ∷ entries, none))
    (g ∙ ap (λ (l : Level). outer ++ record { level = l; container = container } ∷ []) e)
    ∙ (ap (λ (os : List Outer). stack_with os empty_level false) (outers_push outer o (block_of container, last) entries)
    ∙ ap (λ (s : Stack). container_opened s (container_shown container))
    (sym (stack_read outer inner.gap inner.list blank ts entries last h)))))

pub sound_opened : (outer outer' : List Open) (level inner : Level) (container : held.Container) (last : Blocks) (entries : List Entry)
    → level ≡ inner → outer' ≡ outer ++ record { level = level; container = container } ∷ [] → Suits (block_of container) inner.list
    → LevelFits inner.list entries (AreSound (frames_of outer)) → AreSound (frames_of outer') ((block_of container, last) ∷ entries)
sound_opened outer outer' level inner container last entries e g suits fits =
    let o : Open = record { level = inner; container = container } in
    rw (g ∙ ap (λ (l : Level). outer ++ record { level = l; container = container } ∷ []) e, frames_push outer o) (refl, (suits, fits))

-- ---- a container is left

abbrev LastFits : Open → List Frame → List Entry → Type 0
LastFits o frames entries = (before : Blocks) × ((rest : List Entry) × ((entries ≡ (block_of o.container, before) ∷ rest)
    × (Suits (block_of o.container) o.level.list × LevelFits o.level.list rest (AreSound frames))))

last_is : (o : Open) (frames : List Frame) (entries : List Entry) → AreSound ((o.level, block_of o.container) ∷ frames) entries →
    LastFits o frames entries
last_is o frames [] sound = absurd sound
last_is o frames (entry ∷ entries) sound =
    (entry.1, (entries, (ap (λ (c : Container). (c, entry.1) ∷ entries) sound.0, sound.1)))

-- the innermost container, and what stands before it
pub last_fits : (outer : List Open) (o : Open) (entries : List Entry) → AreSound (frames_of (outer ++ o ∷ [])) entries →
    LastFits o (frames_of outer) entries
last_fits outer o entries sound =
    let frames : AreSound ((o.level, block_of o.container) ∷ frames_of outer) entries = rw (← frames_push outer o) sound in
    last_is o (frames_of outer) entries frames

-- the innermost container ends, and its level is the innermost one
pub inside_put : (container : held.Container) (gap : Bool) (list : Option OpenList) (before inside : Blocks) (entries : List Entry)
    → Suits (block_of container) list →
    level_at entries (node before (block_of container) inside) gap list
    ≡ put_inside (level_at entries before gap list) (container_shown container) inside
unfolding paths.finished_list
inside_put Quote gap None before inside entries suits = refl
inside_put Quote gap (Some l) before inside entries suits = absurd suits
inside_put (Item columns is_empty) gap None before inside entries suits = absurd suits
inside_put (Item columns is_empty) gap (Some l) before inside [] suits = refl
inside_put (Item columns is_empty) gap (Some l) before inside (entry ∷ entries) suits = refl

pub gap_shown : (entries : List Entry) (last : Blocks) (gap : Bool) (list : Option OpenList) → (level_at entries last gap list).gap ≡ gap
gap_shown entries last gap None = refl
gap_shown [] last gap (Some l) = refl
gap_shown (entry ∷ entries) last gap (Some l) = refl

pub last_of : (outer outer' : List Open) (list : Option OpenList) (o : Open) (entries : List Entry) → list ≡ None
    → LevelFits list entries (AreSound (frames_of outer)) → outer ≡ outer' ++ o ∷ [] →
    LastFits o (frames_of outer') entries
last_of outer outer' list o entries e fits f =
    let S : List Open → Type 0 = λ os. AreSound (frames_of os) entries in
    last_fits outer' o entries (subst S f (bare_fits list entries (AreSound (frames_of outer)) e fits))

pub container_ends : (ts ts' : List code.Tag) (block : ContainerBlock) (container : Container) (entries : List Entry) (before last : Blocks)
    (rest : List Entry) → tags_shown ts ≡ open_tags entries last → entries ≡ (container, before) ∷ rest → container_block block ≡ container
    → ts' ≡ ts ++ tag.End block ∷ [] → tags_shown ts' ≡ open_tags rest (node before container last)
container_ends ts ts' block container entries before last rest e d f g =
    end_pushed ts ts' block container f g
    ∙ (ap (λ (t : List Tag). t ++ End container ∷ []) (e ∙ ap (λ (es : List Entry). open_tags es last) d)
    ∙ open_end rest container before last)

-- the innermost container is taken off: `inside` was the level inside it, and `level` is the one that it stands in
pub leaves_left : (outer outer' : List Open) (gap : Bool) (list : Option OpenList) (blank : Bool) (o : Open) (left inside level : Level)
    (ts ts' : List code.Tag) (block : ContainerBlock) (entries : List Entry) (last : Blocks) (s : Stack) →
    stack_at outer gap list blank (read (tags_shown ts)) ≡ with_inner_blocks s (finished s.inner) → list ≡ None
    → tags_shown ts ≡ open_tags entries last → LevelFits list entries (AreSound (frames_of outer)) → outer ≡ outer' ++ o ∷ []
    → left ≡ inside → level ≡ o.level → container_block block ≡ block_of o.container → ts' ≡ ts ++ tag.End block ∷ [] →
    inside.gap ≡ gap →
    Leaves s (stack_at outer' level.gap level.list blank (read (tags_shown ts'))) (record { container = o.container; gap = left.gap })
leaves_left outer outer' gap list blank o left inside level ts ts' block entries last s e bare woven fits popped was after shown pushed g =
    let found = last_of outer outer' list o entries bare fits popped in
    let before = found.0 in
    let rest = found.1.0 in
    let is = found.1.1.0 in
    let suits = found.1.1.1.0 in
    let container = block_of o.container in
    let ended = container_ends ts ts' block container entries before last rest woven is shown pushed in
    let old : read (tags_shown ts) ≡ (entries, last) = ap read woven ∙ read_open entries last in
    let new : read (tags_shown ts') ≡ (rest, node before container last) = ap read ended ∙ read_open rest (node before container last) in
    let O : List Entry → List Outer = λ es. outers_at outer es in
    let inner_is : last ≡ finished s.inner =
    sym (bare_blocks outer gap list blank (tags_shown ts) entries last bare woven) ∙ ap (λ (t : Stack). t.inner.blocks) e in
    record {
      level = level_at rest before o.level.gap o.level.list;
      outer = ap (λ (t : Stack). t.outer) (sym e)
          ∙ (ap (λ (l : Option OpenList). outers_at outer (round l (read (tags_shown ts)).0)) bare
          ∙ (ap (λ (r : tags.Open). outers_at outer r.0) old
          ∙ (ap O is
          ∙ (ap (λ (os : List Open). outers_at os ((container, before) ∷ rest)) popped
          ∙ (outers_push outer' o (container, before) rest
          ∙ ap (λ (os : List Outer). os ++ (level_at rest before o.level.gap o.level.list, container_shown o.container) ∷ [])
          (sym (ap (λ (l : Level). outers_at outer' (round l.list (read (tags_shown ts')).0)) after
          ∙ ap (λ (r : tags.Open). outers_at outer' (round o.level.list r.0)) new)))))));
      inner = ap (λ (l : Level). level_at (read (tags_shown ts')).0 (read (tags_shown ts')).1 l.gap l.list) after
          ∙ (ap (λ (r : tags.Open). level_at r.0 r.1 o.level.gap o.level.list) new
          ∙ (inside_put o.container o.level.gap o.level.list before last rest suits
          ∙ ap (λ (bs : Blocks). put_inside (level_at rest before o.level.gap o.level.list) (container_shown o.container) bs) inner_is));
      gap = ap (λ (l : Level). l.gap) was
          ∙ (g ∙ (sym (gap_shown (read (tags_shown ts)).0 (read (tags_shown ts)).1 gap list) ∙ ap (λ (t : Stack). t.inner.gap) e));
      blank = ap (λ (t : Stack). t.blank) e;
    }

-- a blank line makes the open list loose
loose : (outer : List Open) (gap : Bool) (blank gap' : Bool) (l : OpenList) (state : tags.Open) →
    stack_at outer gap (Some (record l { tight = l.tight && not gap' })) blank state
    ≡ stack_loosened (stack_at outer gap (Some l) blank state) gap'
unfolding loosened
loose outer gap blank gap' l ([], last) = refl
loose outer gap blank gap' l (entry ∷ entries, last) = refl

pub stack_loose : (outer : List Open) (gap : Bool) (list : Option OpenList) (blank gap' : Bool) (l : OpenList) (state : tags.Open)
    → list ≡ Some l → stack_at outer gap (Some (record l { tight = l.tight && not gap' })) blank state
    ≡ stack_loosened (stack_at outer gap list blank state) gap'
stack_loose outer gap list blank gap' l state e =
    loose outer gap blank gap' l state ∙ sym (ap (λ (o : Option OpenList). stack_loosened (stack_at outer gap o blank state) gap') e)

pub not_loose : (outer : List Open) (gap : Bool) (list : Option OpenList) (blank gap' : Bool) (state : tags.Open) → list ≡ None →
    stack_at outer gap list blank state ≡ stack_loosened (stack_at outer gap list blank state) gap'
unfolding loosened
not_loose outer gap None blank gap' state e = refl
not_loose outer gap (Some l) blank gap' state e = cc

-- ---- the innermost container closes

item_is_closed : (level inside : paths.Level) (list : Option paths.OpenList) (l : paths.Level) → level.list ≡ list
    → l ≡ item_put_in level (finished inside) list → loosened l inside.gap l.list ≡ item_closed level list inside
unfolding loosened item_closed
item_is_closed level inside None l h e =
    ap (λ (x : paths.Level). loosened x inside.gap x.list) e ∙ ap (λ (o : Option paths.OpenList). loosened level inside.gap o) h
item_is_closed level inside (Some list) l h e = ap (λ (x : paths.Level). loosened x inside.gap x.list) e

pub closes_quote : (old mid new : Stack) (left : Left) (l : Leaves old mid left) → left.container ≡ Quote
    → new ≡ record mid { blank = false } → ClosesLast old new
unfolding container_closed
closes_quote old mid new left l e f = record {
  last = (l.level, container_shown left.container);
  outer = l.outer ∙ ap (λ (os : List Outer). os ++ (l.level, container_shown left.container) ∷ []) (sym (ap (λ (s : Stack). s.outer) f));
  inner = ap (λ (s : Stack). s.inner) f
      ∙ (l.inner ∙ (ap (λ (c : held.Container). put_inside l.level (container_shown c) (finished old.inner)) e
      ∙ ap (λ (c : held.Container). container_closed l.level (container_shown c) old.inner) (sym e)));
  blank = ap (λ (s : Stack). s.blank) f ∙ ap (λ (c : held.Container). container_blank (container_shown c) old.blank) (sym e);
}

pub closes_item : (old mid new : Stack) (left : Left) (columns : ℕ) (is_empty : Bool) (l : Leaves old mid left)
    → left.container ≡ Item columns is_empty → new ≡ stack_loosened mid left.gap → ClosesLast old new
unfolding container_closed
closes_item old mid new left columns is_empty l e f = record {
  last = (l.level, container_shown left.container);
  outer = l.outer ∙ ap (λ (os : List Outer). os ++ (l.level, container_shown left.container) ∷ []) (sym (ap (λ (s : Stack). s.outer) f));
  inner = ap (λ (s : Stack). s.inner) f
      ∙ (ap (λ (gap : Bool). loosened mid.inner gap mid.inner.list) l.gap
      ∙ (item_is_closed l.level old.inner l.level.list mid.inner refl
      (l.inner ∙ ap (λ (c : held.Container). put_inside l.level (container_shown c) (finished old.inner)) e)
      ∙ ap (λ (c : held.Container). container_closed l.level (container_shown c) old.inner) (sym e)));
  blank = ap (λ (s : Stack). s.blank) f ∙ (l.blank ∙ ap (λ (c : held.Container). container_blank (container_shown c) old.blank) (sym e));
}

-- ---- no container is open

pub none_sound : (outer : List Open) (entries : List Entry) → length outer ≡ 0 → AreSound (frames_of outer) entries → entries ≡ []
none_sound [] [] h sound = refl
none_sound [] (entry ∷ entries) h sound = absurd sound
none_sound (o ∷ outer) entries h sound = absurd (omega (arith, h))
