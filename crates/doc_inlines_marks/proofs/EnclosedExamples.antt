-- Examples: what is enclosed behind a backtick and behind a '<' (sections 6.1, 6.5 and 6.6).
use Rattle.std.proofs.Common.{◌≡◌, [], refl}
use Rattle.std.specs.Prelude.{Some, None, codes}
use Rattle.doc_rules.proofs.Computing.{html_words}
use Rattle.doc_inlines_marks.specs.CodeSpans.{code_span_at}
use Rattle.doc_inlines_marks.specs.Enclosed.{Uri, Mail, Raw, enclosed_at, enclosed_behind}

-- behind the first backtick of a run
code_spans :
    (code_span_at (codes "foo`bar") ≡ (Some (codes "foo"), codes "bar")) ×
    (code_span_at (codes " `` `x") ≡ (Some (codes "``"), codes "x")) ×
    (code_span_at (codes " a`") ≡ (Some (codes " a"), [])) ×
    (code_span_at (codes "  `") ≡ (Some (codes "  "), [])) ×
    (code_span_at (codes "`foo`bar``") ≡ (Some (codes "foo`bar"), [])) ×
    (code_span_at (codes "`foo` x") ≡ (None, codes "foo` x"))
unfolding html_words code_span_at
code_spans = (refl, refl, refl, refl, refl, refl)

autolinks_and_html :
    (enclosed_at (codes "<ab:c>d") ≡ Some (Uri (codes "ab:c"), codes "d")) ×
    (enclosed_at (codes "<x@y.z>") ≡ Some (Mail (codes "x@y.z"), [])) ×
    (enclosed_at (codes "<a b='c'>d") ≡ Some (Raw (codes "<a b='c'>"), codes "d")) ×
    (enclosed_at (codes "</a >") ≡ Some (Raw (codes "</a >"), [])) ×
    (enclosed_at (codes "<!-->-->") ≡ Some (Raw (codes "<!-->"), codes "-->")) ×
    (enclosed_at (codes "<!-- a -->") ≡ Some (Raw (codes "<!-- a -->"), [])) ×
    (enclosed_at (codes "<?a?>") ≡ Some (Raw (codes "<?a?>"), [])) ×
    (enclosed_at (codes "<!A b>") ≡ Some (Raw (codes "<!A b>"), [])) ×
    (enclosed_at (codes "<![CDATA[>]]>") ≡ Some (Raw (codes "<![CDATA[>]]>"), [])) ×
    (enclosed_at (codes "<1>") ≡ None) ×
    (enclosed_at (codes "a") ≡ None)
unfolding html_words enclosed_at enclosed_behind
autolinks_and_html = (refl, refl, refl, refl, refl, refl, refl, refl, refl, refl, refl)
