-- Steps on a path, from steps on the open containers in a row.
use Rattle.std.proofs.Common.{◌≡◌, ◌∙◌, ℕ, zero, suc, ◌+◌, ◌-◌, ◌≤◌, Bool, List, [], ◌∷◌, ◌++◌, take, drop, length, refl}
use Rattle.std.proofs.Common.{ap, sym, arith, add-one, append_assoc, append-nil, Option, Some, None}
use Rattle.std.proofs.lemmas.List.{take-append-le, drop-append-le, take_all, drop_all}
use Rattle.doc_rules.specs.Columns.{Line}
use Rattle.doc_rules.specs.Rules.{Rules}
use Rattle.doc_rules.specs.Trees.{Situation}
use Rattle.doc_blocks_leaves.specs.Leaves.{OpenLeaf, NoLeaf, OpenParagraph, OpenCode, OpenFence, OpenHtml, taken, Taken, NotTaken, GoesOn}
use Rattle.doc_blocks_leaves.specs.Leaves.{Closes, open_references}
use Rattle.doc_blocks_leaves.specs.Paths.{Level, OpenQuote, OpenItem, Path, Here, Inside, matched_open, gone_on}
use Rattle.doc_blocks_leaves.specs.Paths.{lazy_path_situation, paragraph_of}
use Rattle.doc_blocks_leaves.specs.Closing.{container_closed, leaf_closed, closed, path_blank, path_references}
use Rattle.doc_blocks_leaves.specs.OpenBlocks.{Moved, moved_inside, start_step, leaf_takes, line_step, paragraph_continued}
use Rattle.doc_blocks.specs.StackSteps.{Outer, Stack, inside, container_blank, ClosesLast}
use Rattle.doc_blocks.specs.PathSteps.{Descent, further, behind_these, descended, gone_on_at, moved_within, room_behind, stopped, lazy_leaf}
use Rattle.doc_blocks.specs.PathSteps.{situation_in, closed_in, blank_in, closed_to}

abbrev stack_with : List Outer → Level → Bool → Stack
stack_with outer inner blank = record { outer = outer; inner = inner; blank = blank }

abbrev descent_with : List Outer → Descent → Descent
descent_with passed d = record d { passed = passed }

abbrev descent_at : List Outer → List Outer → Line → Descent
descent_at passed below rest = record { passed = passed; below = below; rest = rest }

-- ---- going down

-- what a line does at an open container, once it is known whether it goes on with the line
unfoldable pub line_matched : ℕ → Rules → Line → Outer → Path → Option Line → Moved
line_matched room rules line o path m = elim m [
  | Some rest ↦ moved_inside o.0 (gone_on o.1) (line_step (room - 1) rules rest path)
  | None ↦
      start_step room rules (lazy_path_situation rules path) line (Inside o.0 o.1 path)
]

unfoldable pub descent_matched : Line → Outer → List Outer → Option Line → Descent
descent_matched line o more m = elim m [
  | Some rest ↦ further o (descended more rest)
  | None ↦
      record { passed = []; below = o ∷ more; rest = line }
]

unfoldable pub stopped_at : ℕ → Rules → Level → OpenLeaf → Bool → Descent → Moved
stopped_at room rules level leaf blank d = moved_within d.passed (stopped (room_behind room d.passed) rules d.rest d.below level leaf blank)

-- a line goes down the open containers, and then does what it does where it stops
pub goes_down : (room : ℕ) (rules : Rules) (line : Line) (outer : List Outer) (level : Level) (leaf : OpenLeaf) (blank : Bool) →
    line_step room rules line (inside outer (Here level leaf blank)) ≡ stopped_at room rules level leaf blank (descended outer line)
unfolding line_step descended line_matched descent_matched stopped_at
goes_down room rules line [] level leaf blank = refl
goes_down room rules line (o ∷ more) level leaf blank = at_one (matched_open o.1 line)
    (λ rest. goes_down (room - 1) rules rest more level leaf blank)
  where
    at_one : (m : Option Line) → ((rest : Line) → line_step (room - 1) rules rest (inside more (Here level leaf blank))
        ≡ stopped_at (room - 1) rules level leaf blank (descended more rest)) →
        line_matched room rules line o (inside more (Here level leaf blank)) m
        ≡ stopped_at room rules level leaf blank (descent_matched line o more m)
    at_one None further_down = refl
    at_one (Some rest) further_down = ap (moved_inside o.0 (gone_on o.1)) (further_down rest)

pub descent_some : (line rest : Line) (o : Outer) (more : List Outer) → matched_open o.1 line ≡ Some rest
    → descended (o ∷ more) line ≡ further o (descended more rest)
unfolding descended descent_matched
descent_some line rest o more e = ap (descent_matched line o more) e

pub descent_none : (line : Line) (o : Outer) (more : List Outer) → matched_open o.1 line ≡ None
    → descended (o ∷ more) line ≡ record { passed = []; below = o ∷ more; rest = line }
unfolding descended descent_matched
descent_none line o more e = ap (descent_matched line o more) e

pub room_left : (room : ℕ) (outer : List Outer) → room_behind room outer ≡ room - length outer
room_left room [] = omega arith
room_left room (o ∷ more) = room_left (room - 1) more ∙ omega arith

-- ---- the situation

pub situation_lazy : (rules : Rules) (outer : List Outer) (level : Level) (leaf : OpenLeaf) (blank : Bool)
    → lazy_path_situation rules (inside outer (Here level leaf blank)) ≡ lazy_leaf rules leaf
unfolding lazy_path_situation paragraph_of
situation_lazy rules [] level NoLeaf blank = refl
situation_lazy rules [] level (OpenParagraph text) blank = refl
situation_lazy rules [] level (OpenCode all kept) blank = refl
situation_lazy rules [] level (OpenFence fence info text) blank = refl
situation_lazy rules [] level (OpenHtml kind all kept) blank = refl
situation_lazy rules (o ∷ more) level leaf blank = situation_lazy rules more level leaf blank

-- where the open leaf takes no line, blocks may begin
pub stopped_starts : (room : ℕ) (rules : Rules) (line : Line) (outer : List Outer) (level : Level) (leaf : OpenLeaf) (blank : Bool)
    → (outer ≡ [] → taken line leaf ≡ NotTaken) →
    stopped room rules line outer level leaf blank ≡ start_step room rules (situation_in rules outer leaf) line
    (inside outer (Here level leaf blank))
unfolding leaf_takes
stopped_starts room rules line [] level leaf blank e = at_leaf leaf (taken line leaf) (e refl)
  where
    at_leaf : (l : OpenLeaf) (t : Taken) → t ≡ NotTaken → leaf_takes room rules line level l blank t
        ≡ start_step room rules (situation_in rules [] l) line (Here level l blank)
    at_leaf NoLeaf NotTaken f = refl
    at_leaf (OpenParagraph text) NotTaken f = refl
    at_leaf (OpenCode all kept) NotTaken f = refl
    at_leaf (OpenFence fence info text) NotTaken f = refl
    at_leaf (OpenHtml kind all kept) NotTaken f = refl
    at_leaf l (GoesOn next b) f = cc
    at_leaf l (Closes next b) f = cc
stopped_starts room rules line (o ∷ more) level leaf blank e =
    ap (λ (s : Situation). start_step room rules s line (inside (o ∷ more) (Here level leaf blank)))
    (situation_lazy rules more level leaf blank)

-- ---- closing

pub closes_inside : (rules : Rules) (outer : List Outer) (level : Level) (leaf : OpenLeaf) (blank : Bool)
    → closed rules (inside outer (Here level leaf blank)) ≡ closed_in outer (leaf_closed rules level leaf)
unfolding closed
closes_inside rules [] level leaf blank = refl
closes_inside rules (o ∷ more) level leaf blank = ap (container_closed o.0 o.1) (closes_inside rules more level leaf blank)

pub blank_inside : (outer : List Outer) (level : Level) (leaf : OpenLeaf) (blank : Bool)
    → path_blank (inside outer (Here level leaf blank)) ≡ blank_in outer blank
unfolding path_blank
blank_inside [] level leaf blank = refl
blank_inside ((l, OpenQuote) ∷ more) level leaf blank = refl
blank_inside ((l, OpenItem columns is_empty) ∷ more) level leaf blank = blank_inside more level leaf blank

pub references_inside : (rules : Rules) (outer : List Outer) (level : Level) (leaf : OpenLeaf) (blank : Bool)
    → path_references rules (inside outer (Here level leaf blank)) ≡ open_references rules leaf
unfolding path_references
references_inside rules [] level leaf blank = refl
references_inside rules (o ∷ more) level leaf blank = references_inside rules more level leaf blank

pub closed_in_push : (outer : List Outer) (o : Outer) (level : Level)
    → closed_in (outer ++ o ∷ []) level ≡ closed_in outer (container_closed o.0 o.1 level)
closed_in_push [] o level = refl
closed_in_push (a ∷ outer) o level = ap (container_closed a.0 a.1) (closed_in_push outer o level)

pub blank_in_push : (outer : List Outer) (o : Outer) (blank : Bool)
    → blank_in (outer ++ o ∷ []) blank ≡ blank_in outer (container_blank o.1 blank)
blank_in_push [] o blank = refl
blank_in_push (a ∷ outer) o blank = ap (container_blank a.1) (blank_in_push outer o blank)

-- the innermost of the containers that close
pub closes_one_more : (depth : ℕ) (old new whole : Stack) → depth ≤ length new.outer → ClosesLast old new
    → closed_to depth old ≡ closed_to depth whole → closed_to depth new ≡ closed_to depth whole
closes_one_more depth old new whole h c e =
    let front : take depth old.outer ≡ take depth new.outer = ap (take depth) c.outer ∙ take-append-le depth new.outer (c.last ∷ []) h in
    let below : drop depth old.outer ≡ drop depth new.outer ++ c.last ∷ [] = ap (drop depth) c.outer
    ∙ drop-append-le depth new.outer (c.last ∷ []) h in
    let level : closed_in (drop depth old.outer) old.inner ≡ closed_in (drop depth new.outer) new.inner =
    ap (λ (os : List Outer). closed_in os old.inner) below
    ∙ (closed_in_push (drop depth new.outer) c.last old.inner ∙ ap (closed_in (drop depth new.outer)) (sym c.inner)) in
    let blank : blank_in (drop depth old.outer) old.blank ≡ blank_in (drop depth new.outer) new.blank =
    ap (λ (os : List Outer). blank_in os old.blank) below
    ∙ (blank_in_push (drop depth new.outer) c.last old.blank ∙ ap (blank_in (drop depth new.outer)) (sym c.blank)) in
    sym (ap (λ (os : List Outer). stack_with os (closed_in (drop depth old.outer) old.inner) (blank_in (drop depth old.outer) old.blank))
    front
    ∙ (ap (λ (l : Level). stack_with (take depth new.outer) l (blank_in (drop depth old.outer) old.blank)) level
    ∙ ap (stack_with (take depth new.outer) (closed_in (drop depth new.outer) new.inner)) blank)) ∙ e

-- nothing is left to close
pub closes_no_more : (depth : ℕ) (s : Stack) → length s.outer ≤ depth → closed_to depth s ≡ s
closes_no_more depth s h =
    ap (λ (os : List Outer). stack_with os (closed_in (drop depth s.outer) s.inner) (blank_in (drop depth s.outer) s.blank))
    (take_all depth s.outer h)
    ∙ ap (λ (os : List Outer). stack_with s.outer (closed_in os s.inner) (blank_in os s.blank)) (drop_all depth s.outer h)

-- ---- a paragraph goes on

pub continued_inside : (line : Line) (outer : List Outer) (path : Path)
    → paragraph_continued line (inside outer path) ≡ inside outer (paragraph_continued line path)
unfolding paragraph_continued
continued_inside line [] path = refl
continued_inside line (o ∷ more) path = ap (Inside o.0 o.1) (continued_inside line more path)

-- ---- containers in a row

pub inside_append : (outer more : List Outer) (path : Path) → inside (outer ++ more) path ≡ inside outer (inside more path)
inside_append [] more path = refl
inside_append (o ∷ outer) more path = ap (Inside o.0 o.1) (inside_append outer more path)

pub inside_parts : (depth : ℕ) (outer : List Outer) (path : Path)
    → inside (take depth outer) (inside (drop depth outer) path) ≡ inside outer path
inside_parts zero outer path = refl
inside_parts (suc depth) [] path = refl
inside_parts (suc depth) (o ∷ outer) path = ap (Inside o.0 o.1) (inside_parts depth outer path)

-- ---- one more container goes on with the line

gone_take : (d : ℕ) (os more : List Outer) (o : Outer) → drop d os ≡ o ∷ more
    → take (suc d) (gone_on_at d os) ≡ take d os ++ (o.0, gone_on o.1) ∷ []
gone_take zero [] more o e = cc
gone_take zero (a ∷ os) more o e = let same : a ≡ o = cc in ap (λ (x : Outer). (x.0, gone_on x.1) ∷ []) same
gone_take (suc d) [] more o e = cc
gone_take (suc d) (a ∷ os) more o e = ap (λ (xs : List Outer). a ∷ xs) (gone_take d os more o e)

gone_drop : (d : ℕ) (os more : List Outer) (o : Outer) → drop d os ≡ o ∷ more → drop (suc d) (gone_on_at d os) ≡ more
gone_drop zero [] more o e = cc
gone_drop zero (a ∷ os) more o e = cc
gone_drop (suc d) [] more o e = cc
gone_drop (suc d) (a ∷ os) more o e = gone_drop d os more o e

pub goes_further : (d : ℕ) (os os' more : List Outer) (o : Outer) (line rest : Line) (whole : Descent) → drop d os ≡ o ∷ more
    → matched_open o.1 line ≡ Some rest → os' ≡ gone_on_at d os →
    whole ≡ behind_these (take d os) (descended (drop d os) line)
    → whole ≡ behind_these (take (d + 1) os') (descended (drop (d + 1) os') rest)
goes_further d os os' more o line rest whole split found gone e =
    let below : descended (drop d os) line ≡ further o (descended more rest) = ap (λ (xs : List Outer). descended xs line) split
    ∙ descent_some line rest o more found in
    let front : take (d + 1) os' ≡ take d os ++ (o.0, gone_on o.1) ∷ [] = rw (gone, add-one) (gone_take d os more o split) in
    let back : drop (d + 1) os' ≡ more = rw (gone, add-one) (gone_drop d os more o split) in
    e ∙ (ap (behind_these (take d os)) below
    ∙ (ap (λ (xs : List Outer). descent_with xs (descended more rest))
    (sym (append_assoc (take d os) ((o.0, gone_on o.1) ∷ []) (descended more rest).passed))
    ∙ (ap (λ (xs : List Outer). behind_these xs (descended more rest)) (sym front)
    ∙ ap (λ (xs : List Outer). behind_these (take (d + 1) os') (descended xs rest)) (sym back))))

pub goes_no_further : (d : ℕ) (os more : List Outer) (o : Outer) (line : Line) (whole : Descent) → drop d os ≡ o ∷ more
    → matched_open o.1 line ≡ None →
    whole ≡ behind_these (take d os) (descended (drop d os) line) → whole ≡ record { passed = take d os; below = drop d os; rest = line }
goes_no_further d os more o line whole split found e =
    let below : descended (drop d os) line ≡ record { passed = []; below = o ∷ more; rest = line } = ap
    (λ (xs : List Outer). descended xs line) split ∙ descent_none line o more found in
    e ∙ (ap (behind_these (take d os)) below
    ∙ (ap (λ (xs : List Outer). descent_at xs (o ∷ more) line) (append-nil (take d os))
    ∙ ap (λ (xs : List Outer). descent_at (take d os) xs line) (sym split)))

pub goes_through : (d : ℕ) (os : List Outer) (line : Line) (whole : Descent) → length os ≤ d →
    whole ≡ behind_these (take d os) (descended (drop d os) line) → whole ≡ record { passed = take d os; below = drop d os; rest = line }
unfolding descended
goes_through d os line whole h e =
    let nothing : drop d os ≡ [] = drop_all d os h in
    e ∙ (ap (λ (xs : List Outer). behind_these (take d os) (descended xs line)) nothing
    ∙ (ap (λ (xs : List Outer). descent_at xs [] line) (append-nil (take d os))
    ∙ ap (λ (xs : List Outer). descent_at (take d os) xs line) (sym nothing)))
