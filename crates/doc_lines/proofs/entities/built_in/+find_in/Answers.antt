use Rattle.std.proofs.Common.{◌≡◌, ◌+◌, ◌-◌, ◌<◌, ◌/◌, ℕ, List, get_or, true, None, length, take, drop, map, ap, sym, ◌∙◌, subst, arith}
use Rattle.std.proofs.Common.{rules}
use Rattle.std.specs.List.{list_all}
use Rattle.std.specs.Cmp.Lexicographic.{slice_cmp}
use Rattle.std.specs.Ordering.{nat_cmp}
use Rattle.std.specs.declared.cmp.Ordering.TheVariants.{Less, Equal, Greater}
use Rattle.std.proofs.lemmas.List.{take_rest}
use Rattle.doc_rules.specs.Escapes.{find_entity}
use Rattle.doc_lines.specs.declared.entities.names.Row.{Row}
use Rattle.doc_lines.specs.declared.entities.names.TheConstants.{NAMES}
use Rattle.doc_lines.specs.Entities.{is_within, row_entity, Rises}
use Rattle.doc_lines.proofs.SearchLaws.{front_rises, back_rises, front_within, back_within, found_behind, found_at, found_before}
use Rattle.doc_lines.proofs.SearchLaws.{found_nowhere}
use Rattle.doc_lines.proofs.entities.built_in.+find_in.Goals as goal

pub returns-then-middle-rows : goal.returns-then-middle-rows
returns-then-middle-rows t c = found_nowhere NAMES.now c.args.rows.now c.args.name.now (omega arith)

pub find_in-requires : goal.find_in-requires
find_in-requires t c =
    let rows : List Row = c.args.rows.now in
    let middle : length rows / 2 < length rows = omega arith in
    let behind : drop (length rows / 2 + 1) rows ≡ take (length rows - (length rows / 2 + 1)) (drop (length rows / 2 + 1) rows) = sym
    (take_rest rows (length rows / 2 + 1)) in
    let Within : List Row → Type 0 = λ part. list_all (is_within NAMES.now) part ≡ true in
    let Rising : List Row → Type 0 = λ part. Rises (map (row_entity NAMES.now) part) in (
      search rules,
      (
        subst Within behind (back_within NAMES.now rows (length rows / 2) (0, 0, (0, None)) middle c.requires.within),
        subst
            Rising behind (back_rises NAMES.now rows (length rows / 2) (0, 0, (0, None)) middle c.requires.order),
      ),
    )

pub find_in-requires-in-Greater : goal.find_in-requires-in-Greater
find_in-requires-in-Greater t c =
    let rows : List Row = c.args.rows.now in
    let middle : length rows / 2 < length rows = omega arith in (
      search rules,
      (
        front_within NAMES.now rows (length rows / 2) (0, 0, (0, None)) middle c.requires.within,
        front_rises NAMES.now rows
            (length rows / 2) (0, 0, (0, None)) middle c.requires.order,
      ),
    )

pub returns-in-Less : goal.returns-in-Less
returns-in-Less t c =
    let rows : List Row = c.args.rows.now in
    let middle : length rows / 2 < length rows = omega arith in
    let less : slice_cmp nat_cmp (row_entity NAMES.now (get_or rows (length rows / 2) (0, 0, (0, None)))).0 c.args.name.now ≡ Less
    = ap (λ (n : List ℕ). slice_cmp nat_cmp n c.args.name.now) (sym c.name_of.ensures) ∙ sym c.cmp.ensures ∙ c.in-Less.is in
    c.find_in.ensures
    ∙ ap (λ (part : List Row). find_entity (map (row_entity NAMES.now) part) c.args.name.now) (take_rest rows (length rows / 2 + 1))
    ∙ found_behind NAMES.now rows (length rows / 2) (0, 0, (0, None)) c.args.name.now middle c.requires.order less

pub returns-in-Equal : goal.returns-in-Equal
returns-in-Equal t c =
    let rows : List Row = c.args.rows.now in
    let middle : length rows / 2 < length rows = omega arith in
    let same : slice_cmp nat_cmp (row_entity NAMES.now (get_or rows (length rows / 2) (0, 0, (0, None)))).0 c.args.name.now ≡ Equal
    = ap (λ (n : List ℕ). slice_cmp nat_cmp n c.args.name.now) (sym c.name_of.ensures) ∙ sym c.cmp.ensures ∙ c.in-Equal.is in
    found_at NAMES.now rows (length rows / 2) (0, 0, (0, None)) c.args.name.now middle c.requires.order same

pub returns-in-Greater : goal.returns-in-Greater
returns-in-Greater t c =
    let rows : List Row = c.args.rows.now in
    let middle : length rows / 2 < length rows = omega arith in
    let more : slice_cmp nat_cmp (row_entity NAMES.now (get_or rows (length rows / 2) (0, 0, (0, None)))).0 c.args.name.now ≡ Greater
    = ap (λ (n : List ℕ). slice_cmp nat_cmp n c.args.name.now) (sym c.name_of.ensures) ∙ sym c.cmp.ensures ∙ c.in-Greater.is in
    c.find_in-in-Greater.ensures
    ∙ found_before NAMES.now rows (length rows / 2) (0, 0, (0, None)) c.args.name.now middle c.requires.order more
