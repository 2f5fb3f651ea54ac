-- What is read of tags, as tags come behind them.
use Rattle.std.proofs.Common.{◌≡◌, List, [], ◌∷◌, ◌++◌, length, set, refl, ap, ◌∙◌}
use Rattle.std.proofs.lemmas.List.{append_assoc}
use Rattle.doc_rules.specs.Forests.{none, ◌▹◌, node}
use Rattle.doc_rules.specs.Blocks.{Leaf, Container, Blocks}
use Rattle.doc_blocks_starts.specs.Tags.{Tag, OneLeaf, Start, End, tags_of}
use Rattle.doc_blocks_starts.specs.OpenTags.{Entry, Open, read_one, read_on, read, open_tags}

pub read_append : (some more : List Tag) (state : Open) → read_on (some ++ more) state ≡ read_on more (read_on some state)
unfolding read_on
read_append [] more state = refl
read_append (tag ∷ some) more state = read_append some more (read_one tag state)

-- blocks behind others
unfoldable pub behind_these : Blocks → Blocks → Blocks
behind_these before none = before
behind_these before (some ▹ leaf) = behind_these before some ▹ leaf
behind_these before (node some container inside) = node (behind_these before some) container inside

pub behind_none : (blocks : Blocks) → behind_these none blocks ≡ blocks
unfolding behind_these
behind_none none = refl
behind_none (some ▹ leaf) = ap (λ b. b ▹ leaf) (behind_none some)
behind_none (node some container inside) = ap (λ b. node b container inside) (behind_none some)

-- whole blocks are read behind what was read before, and leave what is open
pub read_whole : (blocks : Blocks) (state : Open) → read_on (tags_of blocks) state ≡ (state.0, behind_these state.1 blocks)
unfolding tags_of behind_these read_on read_one
read_whole none state = refl
read_whole (some ▹ leaf) state =
    read_append (tags_of some) (OneLeaf leaf ∷ []) state ∙ ap (λ (o : Open). read_one (OneLeaf leaf) o) (read_whole some state)
read_whole (node some container inside) state =
    read_append (tags_of some) (Start container ∷ (tags_of inside ++ End container ∷ [])) state
    ∙ (ap (λ (o : Open). read_on (tags_of inside ++ End container ∷ []) (read_one (Start container) o)) (read_whole some state)
    ∙ (read_append (tags_of inside) (End container ∷ []) ((container, behind_these state.1 some) ∷ state.0, none)
    ∙ (ap (λ (o : Open). read_one (End container) o) (read_whole inside ((container, behind_these state.1 some) ∷ state.0, none))
    ∙ ap (λ b. (state.0, node (behind_these state.1 some) container b)) (behind_none inside))))

-- the blocks of their tags
pub read_tags : (blocks : Blocks) → read (tags_of blocks) ≡ ([], blocks)
read_tags blocks = read_whole blocks ([], none) ∙ ap (λ b. ([], b)) (behind_none blocks)

-- what was read of open tags is what is open
pub read_open : (outer : List Entry) (last : Blocks) → read (open_tags outer last) ≡ (outer, last)
unfolding open_tags read_on read_one
read_open [] last = read_tags last
read_open (entry ∷ outer) last =
    read_append (open_tags outer entry.1) (Start entry.0 ∷ tags_of last) ([], none)
    ∙ (ap (λ (o : Open). read_on (tags_of last) (read_one (Start entry.0) o)) (read_open outer entry.1)
    ∙ (read_whole last (entry ∷ outer, none) ∙ ap (λ b. (entry ∷ outer, b)) (behind_none last)))

-- ---- one more tag

pub open_leaf : (outer : List Entry) (last : Blocks) (leaf : Leaf)
    → open_tags outer last ++ OneLeaf leaf ∷ [] ≡ open_tags outer (last ▹ leaf)
unfolding open_tags tags_of
open_leaf [] last leaf = refl
open_leaf (entry ∷ outer) last leaf = append_assoc (open_tags outer entry.1) (Start entry.0 ∷ tags_of last) (OneLeaf leaf ∷ [])

pub open_start : (outer : List Entry) (last : Blocks) (container : Container)
    → open_tags outer last ++ Start container ∷ [] ≡ open_tags ((container, last) ∷ outer) none
unfolding open_tags tags_of
open_start outer last container = refl

-- the innermost container ends
pub open_end : (outer : List Entry) (container : Container) (before last : Blocks)
    → open_tags ((container, before) ∷ outer) last ++ End container ∷ [] ≡ open_tags outer (node before container last)
unfolding open_tags tags_of
open_end [] container before last = append_assoc (tags_of before) (Start container ∷ tags_of last) (End container ∷ [])
open_end (entry ∷ outer) container before last =
    append_assoc (open_tags outer entry.1 ++ Start entry.0 ∷ tags_of before) (Start container ∷ tags_of last) (End container ∷ [])
    ∙ append_assoc (open_tags outer entry.1) (Start entry.0 ∷ tags_of before) (Start container ∷ (tags_of last ++ End container ∷ []))

set_behind : (some more : List Tag) (old new : Tag) → set (some ++ old ∷ more) (length some) new ≡ some ++ new ∷ more
set_behind [] more old new = refl
set_behind (tag ∷ some) more old new = ap (λ (t : List Tag). tag ∷ t) (set_behind some more old new)

-- the innermost container's start says otherwise
pub open_turned : (outer : List Entry) (container other : Container) (before last : Blocks) →
    set (open_tags ((container, before) ∷ outer) last) (length (open_tags outer before)) (Start other)
    ≡ open_tags ((other, before) ∷ outer) last
unfolding open_tags
open_turned outer container other before last = set_behind (open_tags outer before) (tags_of last) (Start container) (Start other)
