-- The tasks among the tags of blocks are those of the blocks; the marker of a task.
use Rattle.std.proofs.Common.{◌≡◌, ◌∙◌, ℕ, zero, suc, ◌+◌, ◌<◌, ◌≤◌, Bool, true, false, ◌&&◌, ◌==◌, List, [], ◌∷◌, ◌++◌, append_assoc}
use Rattle.std.proofs.Common.{append-nil, length, length-append, get_or, refl, ap, sym, subst, arith, Option, Some, None}
use Rattle.std.proofs.lemmas.List.{map-append}
use Rattle.std.specs.Prelude.{option_map, set}
use Rattle.std.proofs.lemmas.Bool.Decides.{nat_tests}
use Rattle.doc_rules.specs.Parsers.{is, one}
use Rattle.doc_rules.specs.Characters.{Text, is_space_or_tab, strip_front}
use Rattle.doc_rules.specs.Rules.{Rules}
use Rattle.doc_rules.specs.Forests.{none, ◌▹◌, node}
use Rattle.doc_rules.specs.Tasks.{mark_of, behind_mark, task_in}
use Rattle.doc_rules.specs.Blocks.{Leaf, Container, BlockQuote, ListBlock, ListItem, Blocks, item_blocks, with_tasks}
use Rattle.doc_rules.specs.Blocks.{tasks_read}
use Rattle.doc_blocks_starts.specs.Tags.{Tag, OneLeaf, Start, End, tags_of, tag_shown, tags_shown}
use Rattle.doc_blocks_starts.specs.declared.tag.Tag as code
use Rattle.doc_blocks.specs.TaskSteps.{bracketed, starts_item, tag_read, tags_read, tasks_among}

-- ---- blocks

-- blocks at the front of an item, or elsewhere
abbrev read_at : (first : Bool) → Blocks → Blocks
read_at true blocks = item_blocks (with_tasks blocks)
read_at false blocks = with_tasks blocks

-- whether the front of an item is still to come behind them
abbrev left_at : (first : Bool) → Blocks → Bool
left_at first none = first
left_at first (before ▹ leaf) = false
left_at first (node before container inside) = false

start_stays : (first : Bool) (container : Container) → tag_read first (Start container) ≡ Start container
start_stays true container = refl
start_stays false container = refl

end_stays : (first : Bool) (container : Container) → tag_read first (End container) ≡ End container
end_stays true container = refl
end_stays false container = refl

one_tag : (first : Bool) (tag : Tag) (more : List Tag)
    → tags_read first (tag ∷ more) ≡ tag_read first tag ∷ tags_read (starts_item tag) more
unfolding tags_read
one_tag first tag more = refl

-- a leaf
leaf_read : (first : Bool) (before : Blocks) (leaf : Leaf)
    → tags_of (read_at first before) ++ tag_read (left_at first before) (OneLeaf leaf) ∷ [] ≡ tags_of (read_at first (before ▹ leaf))
unfolding tags_of with_tasks item_blocks
leaf_read false none leaf = refl
leaf_read false (before ▹ other) leaf = refl
leaf_read false (node before container inside) leaf = refl
leaf_read true none leaf = refl
leaf_read true (before ▹ other) leaf = refl
leaf_read true (node before BlockQuote inside) leaf = refl
leaf_read true (node before (ListBlock start tight) inside) leaf = refl
leaf_read true (node before ListItem inside) leaf = refl

-- a container
node_read : (first : Bool) (before : Blocks) (container : Container) (inside : Blocks)
    → tags_of (read_at first before) ++ Start container ∷ (tags_of (read_at (starts_item (Start container)) inside) ++ End container ∷ [])
    ≡ tags_of (read_at first (node before container inside))
unfolding tags_of with_tasks item_blocks
node_read false before BlockQuote inside = refl
node_read false before (ListBlock start tight) inside = refl
node_read false before ListItem inside = refl
node_read true before BlockQuote inside = refl
node_read true before (ListBlock start tight) inside = refl
node_read true before ListItem inside = refl

nothing_read : (first : Bool) (more : List Tag) → tags_read first more ≡ tags_of (read_at first none) ++ tags_read first more
unfolding tags_of with_tasks item_blocks
nothing_read true more = refl
nothing_read false more = refl

all_read : (first : Bool) (blocks : Blocks) (more : List Tag)
    → tags_read first (tags_of blocks ++ more) ≡ tags_of (read_at first blocks) ++ tags_read (left_at first blocks) more
unfolding tags_of
all_read first none more = nothing_read first more
all_read first (before ▹ leaf) more =
    ap (tags_read first) (append_assoc (tags_of before) (OneLeaf leaf ∷ []) more)
    ∙ (all_read first before (OneLeaf leaf ∷ more)
    ∙ (ap (λ (l : List Tag). tags_of (read_at first before) ++ l) (one_tag (left_at first before) (OneLeaf leaf) more)
    ∙ (sym (append_assoc (tags_of (read_at first before)) (tag_read (left_at first before) (OneLeaf leaf) ∷ []) (tags_read false more))
    ∙ ap (λ (l : List Tag). l ++ tags_read false more) (leaf_read first before leaf))))
all_read first (node before container inside) more =
    let start : Tag = Start container in
    let end : Tag = End container in
    let item : Bool = starts_item start in
    let front : List Tag = tags_of (read_at first before) in
    let inner : List Tag = tags_of (read_at item inside) in
    let ended : tags_read item (tags_of inside ++ end ∷ more) ≡ inner ++ end ∷ tags_read false more =
    all_read item inside (end ∷ more)
    ∙ ap (λ (l : List Tag). inner ++ l) (one_tag (left_at item inside) end more
    ∙ ap (λ (t : Tag). t ∷ tags_read false more) (end_stays (left_at item inside) container)) in
    ap (tags_read first) (append_assoc (tags_of before) (start ∷ (tags_of inside ++ end ∷ [])) more
    ∙ ap (λ (l : List Tag). tags_of before ++ start ∷ l) (append_assoc (tags_of inside) (end ∷ []) more))
    ∙ (all_read first before (start ∷ (tags_of inside ++ end ∷ more))
    ∙ (ap (λ (l : List Tag). front ++ l) (one_tag (left_at first before) start (tags_of inside ++ end ∷ more)
    ∙ (ap (λ (t : Tag). t ∷ tags_read item (tags_of inside ++ end ∷ more)) (start_stays (left_at first before) container)
    ∙ ap (λ (l : List Tag). start ∷ l) ended))
    ∙ (ap (λ (l : List Tag). front ++ start ∷ l) (sym (append_assoc inner (end ∷ []) (tags_read false more)))
    ∙ (sym (append_assoc front (start ∷ (inner ++ end ∷ [])) (tags_read false more))
    ∙ ap (λ (l : List Tag). l ++ tags_read false more) (node_read first before container inside)))))

no_tags : tags_read false [] ≡ []
unfolding tags_read
no_tags = refl

none_left : (blocks : Blocks) → tags_read (left_at false blocks) [] ≡ []
none_left none = no_tags
none_left (before ▹ leaf) = no_tags
none_left (node before container inside) = no_tags

-- the tasks among the tags of blocks are those of the blocks
tasks_are : (blocks : Blocks) → tags_read false (tags_of blocks) ≡ tags_of (with_tasks blocks)
tasks_are blocks =
    ap (tags_read false) (sym (append-nil (tags_of blocks)))
    ∙ (all_read false blocks []
    ∙ (ap (λ (l : List Tag). tags_of (with_tasks blocks) ++ l) (none_left blocks) ∙ append-nil (tags_of (with_tasks blocks))))

pub tasks_among_are : (rules : Rules) (blocks : Blocks) → tasks_among rules (tags_of blocks) ≡ tags_of (tasks_read rules blocks)
unfolding tasks_read
tasks_among_are rules blocks = at rules.tasks
  where
    at : (b : Bool) → (elim b as (λ _. List Tag) [ true ↦ tags_read false (tags_of blocks) | false ↦ tags_of blocks ])
        ≡ tags_of (elim b as (λ _. Blocks) [ true ↦ with_tasks blocks | false ↦ blocks ])
    at true = tasks_are blocks
    at false = refl

-- ---- one tag after the other

get_at : (done rest : List code.Tag) (t d : code.Tag) (n : ℕ) → length done ≡ n → get_or (done ++ t ∷ rest) n d ≡ t
get_at [] rest t d zero e = refl
get_at [] rest t d (suc n) e = absurd (omega (arith, e))
get_at (x ∷ done) rest t d zero e = absurd (omega (arith, e))
get_at (x ∷ done) rest t d (suc n) e = get_at done rest t d n (omega (arith, e))

set_at : (done rest : List code.Tag) (t y : code.Tag) (n : ℕ) → length done ≡ n → set (done ++ t ∷ rest) n y ≡ done ++ y ∷ rest
set_at [] rest t y zero e = refl
set_at [] rest t y (suc n) e = absurd (omega (arith, e))
set_at (x ∷ done) rest t y zero e = absurd (omega (arith, e))
set_at (x ∷ done) rest t y (suc n) e = ap (λ (l : List code.Tag). x ∷ l) (set_at done rest t y n (omega (arith, e)))

-- the tags up to a place are read
pub record AreRead (all now : List code.Tag) (place : ℕ) (first : Bool) : Type 0 where
  pub done : List code.Tag
  pub left : List code.Tag
  pub split : now ≡ done ++ left
  pub size : length done ≡ place
  pub same : tags_read false (tags_shown all) ≡ tags_shown done ++ tags_read first (tags_shown left)

pub none_read : (all now : List code.Tag) → now ≡ all → AreRead all now 0 false
none_read all now e = record {
  done = [];
  left = now;
  split = refl;
  size = refl;
  same = ap (λ (l : List code.Tag). tags_read false
      (tags_shown l)) (sym e);
}

next_read : (all new done rest : List code.Tag) (place : ℕ) (first : Bool) (t y : code.Tag) → length done ≡ place
    → tags_read false (tags_shown all) ≡ tags_shown done ++ tags_read first (tags_shown (t ∷ rest))
    → tag_shown y ≡ tag_read first (tag_shown t) → new ≡ done ++ y ∷ rest → AreRead all new (place + 1) (starts_item (tag_shown t))
next_read all new done rest place first t y size same e f =
    let count : length (done ++ y ∷ []) ≡ length done + length (y ∷ []) = length-append done (y ∷ []) in
    record {
      done = done ++ y ∷ [];
      left = rest;
      split = f ∙ sym (append_assoc done (y ∷ []) rest);
      size = omega (arith, count, size);
      same = same
          ∙ ap (λ (l : List Tag). tags_shown done ++ l) (one_tag first (tag_shown t) (tags_shown rest)
          ∙ ap (λ (x : Tag). x ∷ tags_read (starts_item (tag_shown t)) (tags_shown rest)) (sym e))
          ∙ sym (append_assoc (tags_shown done) (tag_shown y ∷ []) (tags_read (starts_item (tag_shown t)) (tags_shown rest)))
          ∙ ap (λ (l : List Tag). l ++ tags_read (starts_item (tag_shown t)) (tags_shown rest)) (sym (map-append tag_shown done (y ∷ [])));
    }

read_further : (all now new done left : List code.Tag) (place : ℕ) (first : Bool) (tag y : code.Tag) → now ≡ done ++ left
    → length done ≡ place → tags_read false (tags_shown all) ≡ tags_shown done ++ tags_read first (tags_shown left) → place < length now
    → tag ≡ get_or now place tag → tag_shown y ≡ tag_read first (tag_shown tag) → new ≡ set now place y
    → AreRead all new (place + 1) (starts_item (tag_shown tag))
read_further all now new done [] place first tag y split size same within e f g =
    let all_done : length now ≡ length done = ap (λ (l : List code.Tag). length l) (split ∙ append-nil done) in
    absurd (omega (arith, all_done, size, within))
read_further all now new done (t ∷ rest) place first tag y split size same within e f g =
    let here : tag ≡ t = e ∙ ap (λ (l : List code.Tag). get_or l place tag) split ∙ get_at done rest t tag place size in
    subst (λ (x : code.Tag). AreRead all new (place + 1) (starts_item (tag_shown x))) (sym here)
    (next_read all new done rest place first t y size same (f ∙ ap (λ (x : code.Tag). tag_read first (tag_shown x)) here)
    (g ∙ ap (λ (l : List code.Tag). set l place y) split ∙ set_at done rest t y place size))

pub one_read : (all now new : List code.Tag) (place next : ℕ) (first item : Bool) (tag y : code.Tag) → AreRead all now place first
    → place < length now → tag ≡ get_or now place tag → tag_shown y ≡ tag_read first (tag_shown tag) → new ≡ set now place y
    → item ≡ starts_item (tag_shown tag) → next ≡ place + 1 → AreRead all new next item
one_read all now new place next first item tag y h within e f g i n =
    subst (λ (k : ℕ). AreRead all new k item) (sym n)
    (subst (λ (b : Bool). AreRead all new (place + 1) b) (sym i)
    (read_further all now new h.done h.left place first tag y h.split h.size h.same within e f g))

end_read : (all now done left : List code.Tag) (place : ℕ) (first : Bool) → now ≡ done ++ left → length done ≡ place
    → tags_read false (tags_shown all) ≡ tags_shown done ++ tags_read first (tags_shown left) → length now ≤ place
    → tags_shown now ≡ tags_read false (tags_shown all)
unfolding tags_read
end_read all now done [] place first split size same full =
    ap tags_shown (split ∙ append-nil done) ∙ sym (same ∙ append-nil (tags_shown done))
end_read all now done (t ∷ rest) place first split size same full =
    let count : length (done ++ t ∷ rest) ≡ length done + length (t ∷ rest) = length-append done (t ∷ rest) in
    let whole : length now ≡ length (done ++ t ∷ rest) = ap (λ (l : List code.Tag). length l) split in
    absurd (omega (arith, count, whole, size, full))

pub all_are_read : (all now : List code.Tag) (place : ℕ) (first : Bool) → AreRead all now place first → length now ≤ place
    → tags_shown now ≡ tags_read false (tags_shown all)
all_are_read all now place first h full = end_read all now h.done h.left place first h.split h.size h.same full

pub not_among : (rules : Rules) (tags : List Tag) → rules.tasks ≡ false → tags ≡ tasks_among rules tags
not_among rules tags e = sym (ap (λ (b : Bool). elim b as (λ _. List Tag) [ true ↦ tags_read false tags | false ↦ tags ]) e)

pub among : (rules : Rules) (tags found : List Tag) → rules.tasks ≡ true → found ≡ tags_read false tags → found ≡ tasks_among rules tags
among rules tags found e f =
    f ∙ sym (ap (λ (b : Bool). elim b as (λ _. List Tag) [ true ↦ tags_read false tags | false ↦ tags ]) e)

-- ---- the marker

found_by : ℕ → Text → Bool → Option (ℕ × Text)
found_by b rest both = elim both [ true ↦ Some (b, rest) | false ↦ None ]

read_by : Option (ℕ × Text) → Option (Bool × Text)
read_by None = None
read_by (Some found) = elim (mark_of found.0) [
  | None ↦ None
  | Some done ↦ option_map (λ (text : Text). (done, text)) (behind_mark found.1)
]

task_by : ℕ → Text → Bool → Option (Bool × Text)
task_by b rest both = elim both [
  | false ↦ None
  | true ↦ elim (mark_of b) [ None ↦ None | Some done ↦ option_map (λ (text : Text). (done, text)) (behind_mark rest) ]
]

same_by : (b : ℕ) (rest : Text) (both : Bool) → task_by b rest both ≡ read_by (found_by b rest both)
unfolding task_by read_by found_by
same_by b rest true = refl
same_by b rest false = refl

-- a task is what stands in the brackets and behind them
task_is : (text : Text) → task_in text ≡ read_by (bracketed text)
unfolding task_in bracketed read_by task_by found_by
task_is [] = refl
task_is (a ∷ []) = refl
task_is (a ∷ b ∷ []) = refl
task_is (a ∷ b ∷ c ∷ []) = refl
task_is (a ∷ b ∷ c ∷ d ∷ rest) = same_by b rest ((a == 91) && (c == 93) && is_space_or_tab d)

pub no_brackets : (text : Text) → None ≡ bracketed text → None ≡ task_in text
unfolding read_by
no_brackets text e = sym (task_is text ∙ ap read_by (sym e))

pub no_mark : (text rest : Text) (c : ℕ) → Some (c, rest) ≡ bracketed text → None ≡ mark_of c → None ≡ task_in text
unfolding read_by
no_mark text rest c e f =
    sym (task_is text ∙ ap read_by (sym e) ∙ ap (λ (o : Option Bool). elim o as (λ _. Option (Bool × Text)) [
      | None ↦ None
      | Some done ↦ option_map (λ (t : Text). (done, t)) (behind_mark rest)
    ]) (sym f))

pub no_more : (text rest : Text) (c : ℕ) (done : Bool) → Some (c, rest) ≡ bracketed text → Some done ≡ mark_of c → None ≡ behind_mark rest
    → None ≡ task_in text
unfolding read_by
no_more text rest c done e f g =
    sym (task_is text ∙ ap read_by (sym e) ∙ ap (λ (o : Option Bool). elim o as (λ _. Option (Bool × Text)) [
      | None ↦ None
      | Some done ↦ option_map (λ (t : Text). (done, t)) (behind_mark rest)
    ]) (sym f) ∙ ap (option_map (λ (t : Text). (done, t))) (sym g))

pub marked_is : (text rest behind : Text) (c : ℕ) (done : Bool) → Some (c, rest) ≡ bracketed text → Some done ≡ mark_of c
    → Some behind ≡ behind_mark rest → Some (done, behind) ≡ task_in text
unfolding read_by
marked_is text rest behind c done e f g =
    sym (task_is text ∙ ap read_by (sym e) ∙ ap (λ (o : Option Bool). elim o as (λ _. Option (Bool × Text)) [
      | None ↦ None
      | Some done ↦ option_map (λ (t : Text). (done, t)) (behind_mark rest)
    ]) (sym f) ∙ ap (option_map (λ (t : Text). (done, t))) (sym g))

-- ---- the brackets

abbrev behind_bracket : ℕ → Option Text → Option (ℕ × Text)
behind_bracket b found = option_map (λ (t : Text). (b, t)) found

pub no_bracket : (text : Text) → None ≡ is 91 text → None ≡ bracketed text
unfolding bracketed
no_bracket [] e = refl
no_bracket (a ∷ []) e = refl
no_bracket (a ∷ b ∷ []) e = refl
no_bracket (a ∷ b ∷ c ∷ []) e = refl
no_bracket (a ∷ b ∷ c ∷ d ∷ rest) e = at (a == 91) e
  where
    at : (x : Bool) → ◌≡◌ {A = Option Text} None (elim x as (λ _. Option Text) [ true ↦ Some (b ∷ c ∷ d ∷ rest) | false ↦ None ])
        → ◌≡◌ {A = Option (ℕ × Text)} None (elim (x && (c == 93) && is_space_or_tab d) as (λ _. Option (ℕ × Text)) [
          | true ↦ Some (b, rest)
          | false ↦ None
        ])
    at true f = absurd cc
    at false f = refl

-- behind a bracket
behind_91 : (a : ℕ) (more inner : Text) (x : Bool) → (a == 91) ≡ x
    → ◌≡◌ {A = Option Text} (Some inner) (elim x as (λ _. Option Text) [ true ↦ Some more | false ↦ None ])
    → (a ≡ 91) × (inner ≡ more)
behind_91 a more inner true e f = (grind (arith, nat_tests), cc)
behind_91 a more inner false e f = absurd cc

pub bracket_is : (text inner : Text) → Some inner ≡ is 91 text → text ≡ 91 ∷ inner
bracket_is [] inner e = absurd cc
bracket_is (a ∷ more) inner e =
    let both = behind_91 a more inner (a == 91) refl e in
    ap (λ (n : ℕ). n ∷ more) both.0 ∙ ap (λ (t : Text). 91 ∷ t) (sym both.1)

behind_93 : (a : ℕ) (more inner : Text) (x : Bool) → (a == 93) ≡ x
    → ◌≡◌ {A = Option Text} (Some inner) (elim x as (λ _. Option Text) [ true ↦ Some more | false ↦ None ])
    → (a ≡ 93) × (inner ≡ more)
behind_93 a more inner true e f = (grind (arith, nat_tests), cc)
behind_93 a more inner false e f = absurd cc

close_is : (text inner : Text) → Some inner ≡ is 93 text → text ≡ 93 ∷ inner
close_is [] inner e = absurd cc
close_is (a ∷ more) inner e =
    let both = behind_93 a more inner (a == 93) refl e in
    ap (λ (n : ℕ). n ∷ more) both.0 ∙ ap (λ (t : Text). 93 ∷ t) (sym both.1)

empty_brackets : bracketed (91 ∷ []) ≡ None
unfolding bracketed
empty_brackets = refl

pub nothing_inside : (text inner : Text) → Some inner ≡ is 91 text → inner ≡ [] → None ≡ bracketed text
nothing_inside text inner e f = sym (ap bracketed (bracket_is text inner e ∙ ap (λ (t : Text). 91 ∷ t) f) ∙ empty_brackets)

open_by : (b : ℕ) (rest : Text) → None ≡ is 93 rest → None ≡ bracketed (91 ∷ b ∷ rest)
unfolding bracketed
open_by b [] e = refl
open_by b (c ∷ []) e = refl
open_by b (c ∷ d ∷ rest) e = at (c == 93) e
  where
    at : (x : Bool) → ◌≡◌ {A = Option Text} None (elim x as (λ _. Option Text) [ true ↦ Some (d ∷ rest) | false ↦ None ])
        → ◌≡◌ {A = Option (ℕ × Text)} None (elim (x && is_space_or_tab d) as (λ _. Option (ℕ × Text)) [
          | true ↦ Some (b, rest)
          | false ↦ None
        ])
    at true f = absurd cc
    at false f = refl

pub never_closed : (text inner rest : Text) (b : ℕ) → Some inner ≡ is 91 text → inner ≡ b ∷ rest → None ≡ is 93 rest
    → None ≡ bracketed text
never_closed text inner rest b e f g =
    open_by b rest g ∙ sym (ap bracketed (bracket_is text inner e ∙ ap (λ (t : Text). 91 ∷ t) f))

space_by : (b : ℕ) (behind : Text) (found : Option Text) → found ≡ one is_space_or_tab behind
    → behind_bracket b found ≡ bracketed (91 ∷ b ∷ 93 ∷ behind)
unfolding bracketed
space_by b [] found e = ap (behind_bracket b) e
space_by b (d ∷ rest) found e = ap (behind_bracket b) e ∙ at (is_space_or_tab d)
  where
    at : (x : Bool) → behind_bracket b (elim x as (λ _. Option Text) [ true ↦ Some rest | false ↦ None ])
        ≡ (elim x as (λ _. Option (ℕ × Text)) [ true ↦ Some (b, rest) | false ↦ None ])
    at true = refl
    at false = refl

pub in_brackets_is : (text inner rest behind : Text) (b : ℕ) (found : Option Text) → Some inner ≡ is 91 text → inner ≡ b ∷ rest
    → Some behind ≡ is 93 rest → found ≡ one is_space_or_tab behind → behind_bracket b found ≡ bracketed text
in_brackets_is text inner rest behind b found e f g h =
    space_by b behind found h
    ∙ sym (ap bracketed (bracket_is text inner e ∙ ap (λ (t : Text). 91 ∷ t) (f ∙ ap (λ (t : Text). b ∷ t) (close_is rest behind g))))

-- ---- behind a marker

mark_by : Text → Option Text
mark_by [] = None
mark_by (c ∷ rest) = elim (c == 10) [ true ↦ None | false ↦ Some (c ∷ rest) ]

behind_is : (text rest : Text) → rest ≡ strip_front is_space_or_tab text → behind_mark text ≡ mark_by rest
unfolding behind_mark mark_by
behind_is text rest e = ap mark_by (sym e)

pub nothing_behind : (text rest : Text) → rest ≡ strip_front is_space_or_tab text → rest ≡ [] → None ≡ behind_mark text
unfolding mark_by
nothing_behind text rest e f = sym (behind_is text rest e ∙ ap mark_by f)

pub line_behind : (text rest more : Text) (c : ℕ) → rest ≡ strip_front is_space_or_tab text → rest ≡ c ∷ more → (c == 10) ≡ true
    → None ≡ behind_mark text
unfolding mark_by
line_behind text rest more c e f g =
    sym (behind_is text rest e ∙ ap mark_by f
    ∙ ap (λ (b : Bool). elim b as (λ _. Option Text) [ true ↦ None | false ↦ Some (c ∷ more) ]) g)

pub text_behind : (text rest more : Text) (c : ℕ) → rest ≡ strip_front is_space_or_tab text → rest ≡ c ∷ more → (c == 10) ≡ false
    → Some rest ≡ behind_mark text
unfolding mark_by
text_behind text rest more c e f g =
    ap Some f
    ∙ sym (behind_is text rest e ∙ ap mark_by f
    ∙ ap (λ (b : Bool). elim b as (λ _. Option Text) [ true ↦ None | false ↦ Some (c ∷ more) ]) g)
