-- Looking names up in tables, and tables that are made line by line.
use Rattle.std.proofs.Common.{◌≡◌, ℕ, zero, suc, ◌+◌, ◌-◌, ◌<◌, Bool, true, false, cond, not, List, [], ◌∷◌, ◌++◌, take, drop, refl, ap}
use Rattle.std.proofs.Common.{sym, ◌∙◌, arith, Option, Some, None, append_assoc, append-nil, String, string_bytes}
use Rattle.std.specs.Prelude.{nat_lt, bytes_eq, option_map}
use Rattle.std.specs.List.{list_all}
use Rattle.std.specs.BTreeMap.{insert_entry, is_at}
use Rattle.std.specs.Map.{lookup}
use Rattle.std.specs.String.{string_cmp}
use Rattle.std.specs.Cmp.Lexicographic.{slice_cmp, nat_list_eq_equiv}
use Rattle.std.specs.Ordering.{nat_cmp, match_ordering, is_eq}
use Rattle.std.specs.declared.cmp.Ordering.{Ordering}
use Rattle.std.specs.declared.cmp.Ordering.TheVariants.{Less, Equal, Greater}
use Rattle.std.proofs.lemmas.Map.Text.{is_eq-slice_cmp}
use Rattle.doc_rules.specs.Characters.{Text}
use Rattle.doc_rules.specs.Entities.{Entity, Table, built_in}
use Rattle.doc_rules.specs.Escapes.{find_entity}
use Rattle.doc_lines.specs.Entities.{characters, entities_shown, has_ascii_names}
use Rattle.doc_lines.specs.Tables.{is_row, bad_line, entity_of, entities_in, contradicts, line_contradicts, twice_line, with_entity}
use Rattle.doc_lines.specs.Tables.{with_entities}
use Rattle.std.proofs.lemmas.Bool.{and_parts, and_from}
use Rattle.doc_page_parts.proofs.Texts.{bytes_eq_true}

abbrev is_ascii : Text → Bool
is_ascii name = list_all (λ b. nat_lt b 128) name

-- ---- looking up

abbrev pub or_else : Option Text → Option Text → Option Text
or_else None other = other
or_else (Some those) other = Some those

abbrev pub choice : Bool → Text → Option Text → Option Text
choice b those other = elim b [ true ↦ Some those | false ↦ other ]

pub find_cons : (e : Entity) (more : Table) (name : Text)
    → find_entity (e ∷ more) name ≡ choice (bytes_eq e.0 name) e.1 (find_entity more name)
unfolding find_entity
find_cons e more name = refl

pub find_none : (name : Text) → find_entity [] name ≡ None
unfolding find_entity
find_none name = refl

choice-or_else : (b : Bool) (those : Text) (first second : Option Text)
    → choice b those (or_else first second) ≡ or_else (choice b those first) second
choice-or_else true those first second = refl
choice-or_else false those first second = refl

-- a name is looked up in one table and then in the other
pub find_append : (xs ys : Table) (name : Text) → find_entity (xs ++ ys) name ≡ or_else (find_entity xs name) (find_entity ys name)
find_append [] ys name = sym (ap (λ o. or_else o (find_entity ys name)) (find_none name))
find_append (e ∷ xs) ys name =
    find_cons e (xs ++ ys) name
    ∙ ap (choice (bytes_eq e.0 name) e.1) (find_append xs ys name)
    ∙ choice-or_else (bytes_eq e.0 name) e.1 (find_entity xs name) (find_entity ys name)
    ∙ sym (ap (λ o. or_else o (find_entity ys name)) (find_cons e xs name))

find_one : (e : Entity) (name : Text) → find_entity (e ∷ []) name ≡ choice (bytes_eq e.0 name) e.1 None
find_one e name = find_cons e [] name ∙ ap (choice (bytes_eq e.0 name) e.1) (find_none name)

-- ---- looking up after an insertion

same_key : (b d : Bool) (v w : Text) (other : Option Text) → b ≡ d → choice b v other ≡ choice d v (choice b w other)
same_key true true v w other e = refl
same_key true false v w other e = absurd cc
same_key false true v w other e = absurd cc
same_key false false v w other e = refl

other_key : (k e name v w : Text) (other : Option Text) (b : Bool) → b ≡ bytes_eq e name → (d : Bool) → d ≡ bytes_eq k name
    → bytes_eq k e ≡ false → choice b w (choice d v other) ≡ choice d v (choice b w other)
other_key k e name v w other true b true d apart =
    let same : bytes_eq k e ≡ true = ap (bytes_eq k) (bytes_eq_true e name (sym b)) ∙ sym d in
    let never : false ≡ true = sym apart ∙ same in
    absurd cc
other_key k e name v w other true b false d apart = refl
other_key k e name v w other false b true d apart = refl
other_key k e name v w other false b false d apart = refl

inserted_choice : (o : Ordering) (k e : Text) (v w : Text) (rest after : Table) (name : Text) → is_eq o ≡ bytes_eq k e
    → ((q : Text) → find_entity after q ≡ choice (bytes_eq k q) v (find_entity rest q))
    → find_entity (match_ordering o ((k, v) ∷ (e, w) ∷ rest) ((e, v) ∷ rest) ((e, w) ∷ after)) name
    ≡ choice (bytes_eq k name) v (find_entity ((e, w) ∷ rest) name)
inserted_choice Less k e v w rest after name is there = find_cons (k, v) ((e, w) ∷ rest) name
inserted_choice Equal k e v w rest after name is there =
    let same : k ≡ e = bytes_eq_true k e (sym is) in
    find_cons (e, v) rest name ∙ same_key (bytes_eq e name) (bytes_eq k name) v w (find_entity rest name)
    (ap (λ n. bytes_eq n name) (sym same)) ∙ ap (choice (bytes_eq k name) v) (sym (find_cons (e, w) rest name))
inserted_choice Greater k e v w rest after name is there =
    find_cons (e, w) after name ∙ ap (choice (bytes_eq e name) w) (there name)
    ∙ other_key k e name v w (find_entity rest name) (bytes_eq e name) refl (bytes_eq k name) refl (sym is)
    ∙ ap (choice (bytes_eq k name) v) (sym (find_cons (e, w) rest name))

pub find_inserted : (added : Table) (k v : Text) (name : Text)
    → find_entity (insert_entry (slice_cmp nat_cmp) added k v) name ≡ choice (bytes_eq k name) v (find_entity added name)
find_inserted [] k v name = find_one (k, v) name ∙ ap (choice (bytes_eq k name) v) (sym (find_none name))
find_inserted (e ∷ rest) k v name =
    inserted_choice (slice_cmp nat_cmp k e.0) k e.0 v e.1 rest (insert_entry (slice_cmp nat_cmp) rest k v) name (is_eq-slice_cmp k e.0)
    (λ q. find_inserted rest k v q)

-- ---- a line that contradicts nothing

-- what stands under the name is told by whether it contradicts
abbrev verdict_on : Option Text → Text → Bool
verdict_on None new = false
verdict_on (Some those) new = not (bytes_eq those new)

abbrev table_with : Option Text → Table → Entity → Table
table_with None added entity = insert_entry (slice_cmp nat_cmp) added entity.0 entity.1
table_with (Some those) added entity = added

with_entity_is : (added : Table) (entity : Entity) → with_entity added entity
    ≡ table_with (find_entity (built_in ++ added) entity.0) added entity
with_entity_is added entity = elim (find_entity (built_in ++ added) entity.0) as
    (λ (o : Option Text). elim o [ None ↦ insert_entry (slice_cmp nat_cmp) added entity.0 entity.1 | Some _ ↦ added ]
    ≡ table_with o added entity) [ None ↦ refl | Some those ↦ refl ]

contradicts_is : (table : Table) (entity : Entity) → contradicts table entity ≡ verdict_on (find_entity table entity.0) entity.1
contradicts_is table entity = elim (find_entity table entity.0) as
    (λ (o : Option Text). elim o [ None ↦ false | Some those ↦ not (bytes_eq those entity.1) ] ≡ verdict_on o entity.1)
    [ None ↦ refl | Some those ↦ refl ]

or_else-none : (o : Option Text) → or_else o None ≡ o
or_else-none None = refl
or_else-none (Some those) = refl

first_none : (first second : Option Text) (new : Text) → or_else first second ≡ None
    → or_else first (Some new) ≡ or_else (or_else first second) (Some new)
first_none None None new e = refl
first_none None (Some those) new e = absurd cc
first_none (Some those) second new e = refl

-- looking up in the table with an entity that did not contradict is looking up behind it
kept_finds : (first second o : Option Text) (added : Table) (entity : Entity) (name : Text) (b : Bool) → b ≡ bytes_eq entity.0 name
    → first ≡ find_entity built_in name → second ≡ find_entity added name → o ≡ find_entity (built_in ++ added) entity.0
    → verdict_on o entity.1 ≡ false
    → or_else first (find_entity (table_with o added entity) name) ≡ or_else (or_else first second) (choice b entity.1 None)
kept_finds first second None added entity name true is one two found kept =
    let same : entity.0 ≡ name = bytes_eq_true entity.0 name (sym is) in
    let nothing : or_else first second ≡ None = sym (ap (find_entity (built_in ++ added)) same ∙ find_append built_in added name
    ∙ ap (λ o. or_else o (find_entity added name)) (sym one) ∙ ap (or_else first) (sym two)) ∙ sym found in
    let inserted : find_entity (table_with None added entity) name ≡ Some entity.1 = find_inserted added entity.0 entity.1 name
    ∙ ap (λ (b : Bool). choice b entity.1 (find_entity added name)) (sym is) in
    ap (or_else first) inserted ∙ first_none first second entity.1 nothing
kept_finds first second None added entity name false is one two found kept =
    let inserted : find_entity (table_with None added entity) name ≡ second = find_inserted added entity.0 entity.1 name
    ∙ ap (λ (b : Bool). choice b entity.1 (find_entity added name)) (sym is) ∙ sym two in
    ap (or_else first) inserted ∙ sym (or_else-none (or_else first second))
kept_finds first second (Some those) added entity name true is one two found kept =
    let same : entity.0 ≡ name = bytes_eq_true entity.0 name (sym is) in
    let there : or_else first second ≡ Some those = sym (ap (find_entity (built_in ++ added)) same ∙ find_append built_in added name
    ∙ ap (λ o. or_else o (find_entity added name)) (sym one) ∙ ap (or_else first) (sym two)) ∙ sym found in
    ap (or_else first) (sym two) ∙ there ∙ sym (ap (λ o. or_else o (Some entity.1)) there)
kept_finds first second (Some those) added entity name false is one two found kept = ap (or_else first) (sym two)
    ∙ sym (or_else-none (or_else first second))

pub finds_with : (added : Table) (entity : Entity) (name : Text) → contradicts (built_in ++ added) entity ≡ false
    → find_entity (built_in ++ with_entity added entity) name ≡ find_entity ((built_in ++ added) ++ entity ∷ []) name
finds_with added entity name kept =
    find_append built_in (with_entity added entity) name
    ∙ ap (λ (t : Table). or_else (find_entity built_in name) (find_entity t name)) (with_entity_is added entity)
    ∙ kept_finds (find_entity built_in name) (find_entity added name) (find_entity (built_in ++ added) entity.0) added entity name
    (bytes_eq entity.0 name) refl refl refl refl (sym (contradicts_is (built_in ++ added) entity) ∙ kept)
    ∙ sym (find_append (built_in ++ added) (entity ∷ []) name
    ∙ ap (λ o. or_else o (find_entity (entity ∷ []) name)) (find_append built_in added name)
    ∙ ap (or_else (or_else (find_entity built_in name) (find_entity added name))) (find_one entity name))

-- ---- lines

abbrev lines_from : Option Entity → Table → Table
lines_from None more = more
lines_from (Some entity) more = entity ∷ more

pub entities_cons : (line : List ℕ) (more : List (List ℕ)) → entities_in (line ∷ more) ≡ entities_in (line ∷ []) ++ entities_in more
unfolding entities_in
entities_cons line more = elim (entity_of line) as (λ (o : Option Entity). elim o
    [ None ↦ entities_in more | Some entity ↦ entity ∷ entities_in more ] ≡ (elim o [ None ↦ [] | Some entity ↦ entity ∷ [] ])
    ++ entities_in more) [ None ↦ refl | Some entity ↦ refl ]

pub entities_append : (xs ys : List (List ℕ)) → entities_in (xs ++ ys) ≡ entities_in xs ++ entities_in ys
unfolding entities_in
entities_append [] ys = refl
entities_append (x ∷ xs) ys = entities_cons x (xs ++ ys) ∙ ap (λ t. entities_in (x ∷ []) ++ t) (entities_append xs ys)
    ∙ sym (append_assoc (entities_in (x ∷ [])) (entities_in xs) (entities_in ys)) ∙ ap (λ t. t ++ entities_in ys) (sym (entities_cons x xs))

pub with_append : (added xs ys : Table) → with_entities added (xs ++ ys) ≡ with_entities (with_entities added xs) ys
unfolding with_entities
with_append added [] ys = refl
with_append added (x ∷ xs) ys = with_append (with_entity added x) xs ys

abbrev same_names : Table → Table → Type 0
same_names T U = (name : Text) → find_entity T name ≡ find_entity U name

line_same : (T U : Table) → same_names T U → (o : Option Entity) → line_contradicts T o ≡ line_contradicts U o
line_same T U same None = refl
line_same T U same (Some entity) = contradicts_is T entity ∙ ap (λ o. verdict_on o entity.1) (same entity.0) ∙ sym (contradicts_is U entity)

behind_same : (T U more : Table) → same_names T U → same_names (T ++ more) (U ++ more)
behind_same T U more same name = find_append T more name ∙ ap (λ o. or_else o (find_entity more name)) (same name)
    ∙ sym (find_append U more name)

abbrev twice_choice : Bool → ℕ → Option ℕ → Option ℕ
twice_choice b n other = elim b [ true ↦ Some n | false ↦ other ]

pub twice_same : (T U : Table) (n : ℕ) (ls : List (List ℕ)) → same_names T U → twice_line T n ls ≡ twice_line U n ls
unfolding twice_line
twice_same T U n [] same = refl
twice_same T U n (line ∷ more) same =
    ap (λ (b : Bool). twice_choice b n (twice_line (T ++ entities_in (line ∷ [])) (n + 1) more)) (line_same T U same (entity_of line))
    ∙ ap (twice_choice (line_contradicts U (entity_of line)) n)
    (twice_same (T ++ entities_in (line ∷ [])) (U ++ entities_in (line ∷ [])) (n + 1) more (behind_same T U (entities_in (line ∷ [])) same))

pub twice_here : (T : Table) (n : ℕ) (line : List ℕ) (more : List (List ℕ)) → line_contradicts T (entity_of line) ≡ true
    → twice_line T n (line ∷ more) ≡ Some n
unfolding twice_line
twice_here T n line more e = ap (λ (b : Bool). twice_choice b n (twice_line (T ++ entities_in (line ∷ [])) (n + 1) more)) e

pub twice_on : (T : Table) (n : ℕ) (line : List ℕ) (more : List (List ℕ)) → line_contradicts T (entity_of line) ≡ false
    → twice_line T n (line ∷ more) ≡ twice_line (T ++ entities_in (line ∷ [])) (n + 1) more
unfolding twice_line
twice_on T n line more e = ap (λ (b : Bool). twice_choice b n (twice_line (T ++ entities_in (line ∷ [])) (n + 1) more)) e

-- a line that is added and contradicts nothing
line_names : (added : Table) (o : Option Entity) → line_contradicts (built_in ++ added) o ≡ false
    → same_names (built_in ++ with_entities added (lines_from o [])) ((built_in ++ added) ++ lines_from o [])
unfolding with_entities
line_names added None kept name = ap (λ t. find_entity t name) (sym (append-nil (built_in ++ added)))
line_names added (Some entity) kept name = finds_with added entity name kept

line_is : (line : List ℕ) → entities_in (line ∷ []) ≡ lines_from (entity_of line) []
unfolding entities_in
line_is line = elim (entity_of line) as (λ (o : Option Entity). elim o [ None ↦ [] | Some entity ↦ entity ∷ [] ] ≡ lines_from o [])
    [ None ↦ refl | Some entity ↦ refl ]

pub added_on : (added new : Table) (n : ℕ) (line : List ℕ) (more : List (List ℕ))
    → line_contradicts (built_in ++ added) (entity_of line) ≡ false → new ≡ with_entities added (entities_in (line ∷ []))
    → twice_line (built_in ++ added) n (line ∷ more) ≡ twice_line (built_in ++ new) (n + 1) more
added_on added new n line more kept is =
    twice_on (built_in ++ added) n line more kept
    ∙ ap (λ (t : Table). twice_line ((built_in ++ added) ++ t) (n + 1) more) (line_is line)
    ∙ sym (ap (λ (t : Table). twice_line (built_in ++ t) (n + 1) more) (is ∙ ap (with_entities added) (line_is line))
    ∙ twice_same _ _ (n + 1) more (line_names added (entity_of line) kept))

pub added_more : (added new : Table) (line : List ℕ) (more : List (List ℕ)) → new ≡ with_entities added (entities_in (line ∷ []))
    → with_entities added (entities_in (line ∷ more)) ≡ with_entities new (entities_in more)
added_more added new line more is = ap (with_entities added) (entities_cons line more)
    ∙ with_append added (entities_in (line ∷ [])) (entities_in more) ∙ ap (λ t. with_entities t (entities_in more)) (sym is)

-- ---- bad lines

abbrev bad_choice : Bool → ℕ → Option ℕ → Option ℕ
bad_choice b n other = elim b [ true ↦ other | false ↦ Some n ]

pub bad_on : (n : ℕ) (line : List ℕ) (more : List (List ℕ)) → is_row line ≡ true → bad_line n (line ∷ more) ≡ bad_line (n + 1) more
unfolding bad_line
bad_on n line more e = ap (λ (b : Bool). bad_choice b n (bad_line (n + 1) more)) e

pub bad_here : (n : ℕ) (line : List ℕ) (more : List (List ℕ)) → is_row line ≡ false → bad_line n (line ∷ more) ≡ Some n
unfolding bad_line
bad_here n line more e = ap (λ (b : Bool). bad_choice b n (bad_line (n + 1) more)) e

pub bad_none : (n : ℕ) → bad_line n [] ≡ None
unfolding bad_line
bad_none n = refl

pub twice_none : (T : Table) (n : ℕ) → twice_line T n [] ≡ None
unfolding twice_line
twice_none T n = refl

pub with_none : (added : Table) → with_entities added (entities_in []) ≡ added
unfolding with_entities entities_in
with_none added = refl

-- ---- maps by name

shown_choice : (b d : Bool) (c : ℕ × Option ℕ) (o : Option (ℕ × Option ℕ)) (p : Option Text) → b ≡ d → option_map characters o ≡ p
    → option_map characters (cond b (Some c) o) ≡ choice d (characters c) p
shown_choice true true c o p e h = refl
shown_choice true false c o p e h = absurd cc
shown_choice false true c o p e h = absurd cc
shown_choice false false c o p e h = h

-- a look-up in a map is one in its entities
pub find_shown : {A : Type 0} (entries : List (String A × (ℕ × Option ℕ))) (name : List ℕ) →
    option_map characters (lookup (is_at (λ k. slice_cmp nat_cmp name (string_bytes k))) entries)
    ≡ find_entity (entities_shown entries) name
find_shown [] name = sym (find_none name)
find_shown (e ∷ more) name =
    shown_choice (is_eq (slice_cmp nat_cmp name (string_bytes e.0))) (bytes_eq (string_bytes e.0) name) e.1
    (lookup (is_at (λ k. slice_cmp nat_cmp name (string_bytes k))) more) (find_entity (entities_shown more) name)
    (is_eq-slice_cmp name (string_bytes e.0) ∙ nat_list_eq_equiv.symm name (string_bytes e.0)) (find_shown more name)
    ∙ sym (find_cons (string_bytes e.0, characters e.1) (entities_shown more) name)

inserted_key : {A : Type 0} (o : Ordering) (key : String A) (those : ℕ × Option ℕ) (e : String A
    × (ℕ × Option ℕ)) (rest after : List (String A × (ℕ × Option ℕ))) (shown : Table) → entities_shown after ≡ shown →
    entities_shown (match_ordering o ((key, those) ∷ e ∷ rest) ((e.0, those) ∷ rest) (e ∷ after))
    ≡ match_ordering o ((string_bytes key, characters those) ∷ (string_bytes e.0, characters e.1) ∷ entities_shown rest)
    ((string_bytes e.0, characters those) ∷ entities_shown rest) ((string_bytes e.0, characters e.1) ∷ shown)
inserted_key Less key those e rest after shown h = refl
inserted_key Equal key those e rest after shown h = refl
inserted_key Greater key those e rest after shown h = ap (λ (t : Table). (string_bytes e.0, characters e.1) ∷ t) h

-- an insertion into a map is one into its entities
pub insert_shown : {A : Type 0} (entries : List (String A × (ℕ × Option ℕ))) (key : String A) (those : ℕ × Option ℕ) →
    entities_shown (insert_entry string_cmp entries key those) ≡ insert_entry (slice_cmp nat_cmp) (entities_shown entries)
    (string_bytes key) (characters those)
insert_shown [] key those = refl
insert_shown (e ∷ rest) key those = inserted_key (string_cmp key e.0) key those e rest (insert_entry string_cmp rest key those) _
    (insert_shown rest key those)

ascii_inserted_at : (o : Ordering) (k e v w : Text) (rest after : Table) → is_ascii k ≡ true → is_ascii e ≡ true
    → has_ascii_names rest ≡ true → has_ascii_names after ≡ true →
    has_ascii_names (match_ordering o ((k, v) ∷ (e, w) ∷ rest) ((e, v) ∷ rest) ((e, w) ∷ after)) ≡ true
ascii_inserted_at Less k e v w rest after a b c d = and_from _ _ a (and_from _ _ b c)
ascii_inserted_at Equal k e v w rest after a b c d = and_from _ _ b c
ascii_inserted_at Greater k e v w rest after a b c d = and_from _ _ b d

pub ascii_inserted : (added : Table) (k v : Text) → is_ascii k ≡ true → has_ascii_names added ≡ true
    → has_ascii_names (insert_entry (slice_cmp nat_cmp) added k v) ≡ true
ascii_inserted [] k v a b = and_from _ _ a refl
ascii_inserted (e ∷ rest) k v a b =
    let parts = and_parts (is_ascii e.0) (has_ascii_names rest) b in
    ascii_inserted_at (slice_cmp nat_cmp k e.0) k e.0 v e.1 rest (insert_entry (slice_cmp nat_cmp) rest k v) a parts.0 parts.1
    (ascii_inserted rest k v a parts.1)

-- ---- looking up in one table and then in another

pub either_some : (T U : Table) (name : Text) (those : ℕ × Option ℕ) (o : Option (ℕ × Option ℕ))
    → option_map characters o ≡ find_entity T name → o ≡ Some those → Some (characters those) ≡ find_entity (T ++ U) name
either_some T U name those o found is = sym (find_append T U name
    ∙ ap (λ p. or_else p (find_entity U name)) (sym found ∙ ap (option_map characters) is))

pub either_none : (T U : Table) (name : Text) (o p : Option (ℕ × Option ℕ)) → option_map characters o ≡ find_entity T name → o ≡ None
    → option_map characters p ≡ find_entity U name → option_map characters p ≡ find_entity (T ++ U) name
either_none T U name o p missed is found = found ∙ sym (find_append T U name
    ∙ ap (λ q. or_else q (find_entity U name)) (sym missed ∙ ap (option_map characters) is))

-- ---- the first lines

pub drop_next : {X : Type 0} (xs : List X) (n : ℕ) (x : X) (rest : List X) → drop n xs ≡ x ∷ rest → rest ≡ drop (n + 1) xs
drop_next xs zero x rest e = ap (drop 1) (sym e)
drop_next [] (suc n) x rest e = absurd cc
drop_next (y ∷ xs) (suc n) x rest e = drop_next xs n x rest e
    ∙ (let more : suc n + 1 ≡ suc (n + 1) = omega arith in ap (λ k. drop k (y ∷ xs)) (sym more))

pub take_next : {X : Type 0} (xs : List X) (n : ℕ) (x : X) (rest : List X) → drop n xs ≡ x ∷ rest → take (n + 1) xs ≡ take n xs ++ x ∷ []
take_next xs zero x rest e = ap (take 1) e
take_next [] (suc n) x rest e = absurd cc
take_next (y ∷ xs) (suc n) x rest e = let more : suc n + 1 ≡ suc (n + 1) = omega arith in ap (λ k. take k (y ∷ xs)) more
    ∙ ap (λ t. y ∷ t) (take_next xs n x rest e)

pub twice_start : (all it : List (List ℕ)) → it ≡ all → twice_line built_in 1 all ≡ twice_line (built_in ++ entities_in (take 0 all)) 1 it
unfolding entities_in
twice_start all it e = ap (λ (T : Table). twice_line T 1 all) (sym (append-nil built_in)) ∙ ap (twice_line (built_in ++ []) 1) (sym e)

pub twice_step : (all it : List (List ℕ)) (line : List ℕ) (new : List (List ℕ)) (n : ℕ) → it ≡ drop n all → it ≡ line ∷ new
    → line_contradicts (built_in ++ entities_in (take n all)) (entity_of line) ≡ false
    → twice_line (built_in ++ entities_in (take n all)) (n + 1) it ≡ twice_line (built_in ++ entities_in (take (n + 1) all)) (n + 1 + 1) new
twice_step all it line new n rest steps on =
    ap (twice_line (built_in ++ entities_in (take n all)) (n + 1)) steps
    ∙ twice_on (built_in ++ entities_in (take n all)) (n + 1) line new on
    ∙ ap (λ (T : Table). twice_line T (n + 1 + 1) new) (append_assoc built_in (entities_in (take n all)) (entities_in (line ∷ []))
    ∙ ap (λ (T : Table). built_in ++ T) (sym (ap entities_in (take_next all n line new (sym rest ∙ steps))
    ∙ entities_append (take n all) (line ∷ []))))

pub lines_step : (n : ℕ) (line : List ℕ) (new : List (List ℕ)) (name : Text) → 0 < n
    → find_entity (entities_in (take n (line ∷ new))) name ≡ or_else (find_entity (entities_in (line ∷ [])) name)
    (find_entity (entities_in (take (n - 1) new)) name)
lines_step zero line new name h = absurd (omega arith)
lines_step (suc n) line new name h =
    let one : n ≡ suc n - 1 = omega arith in
    ap (λ (T : Table). find_entity T name) (entities_cons line (take n new))
    ∙ find_append (entities_in (line ∷ [])) (entities_in (take n new)) name
    ∙ ap (λ k. or_else (find_entity (entities_in (line ∷ [])) name) (find_entity (entities_in (take k new)) name)) one

pub none_left : (it : List (List ℕ)) (n : ℕ) (name : Text) → n ≡ 0 → find_entity (entities_in (take n it)) name ≡ None
unfolding entities_in
none_left it n name e = ap (λ k. find_entity (entities_in (take k it)) name) e ∙ find_none name

pub none_in_none : (n : ℕ) (name : Text) → find_entity (entities_in (take n [])) name ≡ None
unfolding entities_in
none_in_none zero name = find_none name
none_in_none (suc n) name = find_none name

-- ---- one line

abbrev pub found_in : Option Entity → Text → Option Text
found_in None name = None
found_in (Some entity) name = choice (bytes_eq entity.0 name) entity.1 None

found_from : (o : Option Entity) (name : Text) → find_entity (lines_from o []) name ≡ found_in o name
found_from None name = find_none name
found_from (Some entity) name = find_one entity name

pub in_line : (line : List ℕ) (o : Option Entity) (name : Text) → o ≡ entity_of line
    → find_entity (entities_in (line ∷ [])) name ≡ found_in o name
in_line line o name is = ap (λ (T : Table). find_entity T name) (line_is line) ∙ ap (λ p. find_entity (lines_from p []) name) (sym is)
    ∙ found_from o name

abbrev with_maybe : Table → Option Entity → Table
with_maybe added None = added
with_maybe added (Some entity) = with_entity added entity

adds_maybe : (added : Table) (o : Option Entity) → with_entities added (lines_from o []) ≡ with_maybe added o
unfolding with_entities
adds_maybe added None = refl
adds_maybe added (Some entity) = refl

pub adds_none : (added : Table) (line : List ℕ) (o : Option Entity) → o ≡ entity_of line → o ≡ None
    → added ≡ with_entities added (entities_in (line ∷ []))
adds_none added line o is e = sym (ap (with_entities added) (line_is line) ∙ ap (λ p. with_entities added (lines_from p [])) (sym is ∙ e)
    ∙ adds_maybe added None)

pub adds_known : (added : Table) (line : List ℕ) (o : Option Entity) (entity : Entity) (those : Text) → o ≡ entity_of line
    → o ≡ Some entity → find_entity (built_in ++ added) entity.0 ≡ Some those → added ≡ with_entities added (entities_in (line ∷ []))
adds_known added line o entity those is e known =
    sym (ap (with_entities added) (line_is line) ∙ ap (λ p. with_entities added (lines_from p [])) (sym is ∙ e)
    ∙ adds_maybe added (Some entity) ∙ with_entity_is added entity ∙ ap (λ p. table_with p added entity) known)

pub adds_new : (added new : Table) (line : List ℕ) (o : Option Entity) (entity : Entity) → o ≡ entity_of line → o ≡ Some entity
    → find_entity (built_in ++ added) entity.0 ≡ None
    → new ≡ insert_entry (slice_cmp nat_cmp) added entity.0 entity.1 → new ≡ with_entities added (entities_in (line ∷ []))
adds_new added new line o entity is e unknown inserted =
    inserted ∙ sym (ap (with_entities added) (line_is line) ∙ ap (λ p. with_entities added (lines_from p [])) (sym is ∙ e)
    ∙ adds_maybe added (Some entity) ∙ with_entity_is added entity ∙ ap (λ p. table_with p added entity) unknown)

-- ---- what adding a line answers

pub not_true : (kept test : Bool) → kept ≡ not test → kept ≡ true → test ≡ false
not_true kept true is e = let never : false ≡ true = sym is ∙ e in absurd cc
not_true kept false is e = refl

pub not_kept : (kept test : Bool) → kept ≡ not test → kept ≡ false → test ≡ true
not_kept kept true is e = refl
not_kept kept false is e = let never : true ≡ false = sym is ∙ e in absurd cc

pub start_added : (T : Table) → T ≡ [] → has_ascii_names T ≡ true
start_added T e = ap has_ascii_names e
