use Rattle.std.proofs.Common.{drop, length, ap, sym, ◌∙◌, arith, ◌-◌, refl}
use Rattle.std.proofs.lemmas.List.{take_all, length-drop}
use Rattle.doc_http.specs.Heads.{head_span_at}
use Rattle.doc_http.proofs.HeadLemmas.{span_in_front, came_more}
use Rattle.doc_http.proofs.head.find_in.Goals as goal

pub returns-in-Some-clause-span : goal.returns-in-Some-clause-span
returns-in-Some-clause-span c =
    let whole = take_all (length c.args.front.now - c.empty_lines-start.result) (drop c.empty_lines-start.result c.args.front.now)
    (omega (arith, length-drop c.empty_lines-start.result c.args.front.now)) in
    let found = rw (c.in-Some.is, whole) at c.lines_len.ensures.len in
    ap (head_span_at c.args.full c.empty_lines-start.result) found
    ∙ span_in_front c.args.front.now c.args.full c.empty_lines-start.result c.empty_lines-start.ensures.within
    c.empty_lines-start.ensures.rest

pub returns-in-None-2-clause-search : goal.returns-in-None-2-clause-search
returns-in-None-2-clause-search c = λ is more.
    let whole = take_all (length c.args.front.now - c.empty_lines-start.result) (drop c.empty_lines-start.result c.args.front.now)
    (omega (arith, length-drop c.empty_lines-start.result c.args.front.now)) in
    came_more c.args.front.now more _ c.empty_lines-start.result
    (record { start = c.empty_lines-start.result; searched = c.saturating_sub-searched.result }) c.empty_lines-start.ensures.within
    c.empty_lines-start.ensures.rest
    whole refl c.saturating_sub-searched.ensures (sym c.in-None-2.is ∙ c.lines_len.ensures.len)
