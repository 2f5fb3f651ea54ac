-- Cursors by example (CommonMark 0.31.2, section 2.2).
use Rattle.std.proofs.Common.{◌≡◌, true, false, ◌++◌, Some, refl}
use Rattle.std.specs.Prelude.{codes}
use Rattle.doc_rules.specs.Columns.{columns_from, cell_of, cells_from, spaces}
use Rattle.doc_lines.specs.Cursors.{start, first, after_next, skipped_in, skipped, passed_in, passed, left_of}

-- a tab behind one character reaches column 4
behind_a_tab : after_next (after_next (start (codes "a\tb"))) ≡ record { place = 2; column = 4; in_tab = false; rest = codes "b" }
behind_a_tab = refl

-- three columns of two spaces and a tab: the tab is used in part
inside_a_tab : skipped 3 (start (codes "  \tx")) ≡ record { place = 2; column = 3; in_tab = true; rest = codes "\tx" }
unfolding skipped_in
inside_a_tab = refl

-- of the first tab behind a quote marker and its column, two columns are left, as spaces
quoted : left_of (skipped 1 (after_next (start (codes ">\t\tfoo")))) ≡ spaces 2 ++ cells_from 4 (codes "\tfoo")
unfolding skipped_in columns_from cell_of
quoted = refl

-- and the next character is a tab still, which goes to column 4
rest_of_a_tab : first (skipped 1 (after_next (start (codes ">\t\tfoo")))).rest ≡ Some 9
unfolding skipped_in
rest_of_a_tab = refl

behind_the_rest : after_next (skipped 1 (after_next (start (codes ">\t\tfoo"))))
    ≡ record { place = 2; column = 4; in_tab = false; rest = codes "\tfoo" }
unfolding skipped_in
behind_the_rest = refl

-- no more is skipped than there is
all_skipped : skipped 9 (start (codes "   x")) ≡ record { place = 3; column = 3; in_tab = false; rest = codes "x" }
unfolding skipped_in
all_skipped = refl

-- the spaces and tabs that are next are passed, and the rest of a tab too that is used in part
all_passed : passed (start (codes " \tx ")) ≡ record { place = 2; column = 4; in_tab = false; rest = codes "x " }
unfolding passed_in
all_passed = refl

passed_in_a_tab : passed (skipped 1 (after_next (start (codes ">\t\tfoo")))) ≡ record { place = 3; column = 8; in_tab = false; rest = codes "foo" }
unfolding skipped_in passed_in
passed_in_a_tab = refl

none_to_pass : passed (start (codes "x y")) ≡ start (codes "x y")
unfolding passed_in
none_to_pass = refl
