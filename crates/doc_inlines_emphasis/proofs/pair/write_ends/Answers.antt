use Rattle.std.proofs.Common.{arith, ◌≡◌, ◌≢◌, ◌+◌, refl}
use Rattle.doc_inlines_emphasis.specs.RunSteps.{delimiter}
use Rattle.doc_inlines_emphasis.proofs.KeepLaws.{one_shown, two_shown, one_keeps, two_keeps, empty_text, is_not_two, is_two}
use Rattle.doc_inlines_emphasis.proofs.pair.write_ends.Goals as goal

pub returns-then-taken-ne2-clause-shown : goal.returns-then-taken-ne2-clause-shown
returns-then-taken-ne2-clause-shown c =
    let other : c.args.taken ≢ 2 = omega arith in
    rw (c.put-2.ensures, c.put.ensures)
    (one_shown c.args.marks.now.items c.args.opening c.args.closing (delimiter c.args.own) c.args.taken c.span-span.result c.span-span.result c.span-span.ensures
    c.span-span.ensures
    (is_not_two c.args.taken c.requires.taken other))

pub returns-then-taken-ne2-clause-keeps : goal.returns-then-taken-ne2-clause-keeps
returns-then-taken-ne2-clause-keeps c = λ place h.
    rw (c.put-2.ensures, c.put.ensures) (one_keeps c.args.marks.now.items c.args.opening c.args.closing c.span-span.result
    c.span-span.result
    place h
    (omega arith))

pub returns-clause-shown : goal.returns-clause-shown
returns-clause-shown c =
    let two : c.args.taken ≡ 2 = omega arith in
    rw (c.put-4.ensures, c.put-3.ensures, c.put-2.ensures, c.put.ensures)
    (two_shown c.args.marks.now.items c.args.opening c.args.closing (delimiter c.args.own) c.args.taken (c.args.opening + 1) (c.args.closing + 1)
    c.span-span.result
    c.span-span.result _ _ c.span-span.ensures c.span-span.ensures (is_two c.args.taken two)
    (omega arith) (omega arith) (empty_text _ refl) (empty_text _ refl))

pub returns-clause-keeps : goal.returns-clause-keeps
returns-clause-keeps c = λ place h.
    rw (c.put-4.ensures, c.put-3.ensures, c.put-2.ensures, c.put.ensures)
    (two_keeps c.args.marks.now.items c.args.opening c.args.closing (c.args.opening + 1) (c.args.closing + 1) c.span-span.result
    c.span-span.result _ _
    (omega arith) (omega arith) (empty_text _ refl) (empty_text _ refl) place h (omega arith))
