use Rattle.std.proofs.Common.{◌≡◌, ◌∙◌, sym, refl, ap, Some, None, codes, map, take, drop, arith}
use Rattle.std.specs.Char.{to_ascii_lowercase}
use Rattle.std.specs.Option.{option_copied}
use Rattle.std.specs.Str.{str_eq_ignore_ascii_case}
use Rattle.std.proofs.lemmas.Bool.{cond_both}
use Rattle.std.proofs.lemmas.Slice.Eq.{bytes_eq-Decides}
use Rattle.std.proofs.lemmas.Str.{IsCharBoundary-start}
use Rattle.doc_http_targets.proofs.TargetSteps.{boundary_after_http}
use Rattle.doc_http_targets.proofs.origin_form.after_http.Goals as goal

pub returns-in_err-scheme : goal.returns-in_err-scheme
returns-in_err-scheme c =
    let target = c.args.target.now in
    ap option_copied c.from_residual.ensures
    ∙ cond_both (str_eq_ignore_ascii_case (take 7 target) (codes "http://")) (Some (drop 7 target)) None (λ o. None ≡ o)
    (λ is_http. absurd (c.in_err-scheme.ensures.cases (omega arith) (IsCharBoundary-start target c.utf8.target)
    (boundary_after_http target c.utf8.target ((bytes_eq-Decides _ _).0 is_http))))
    (λ _. refl)

pub range_from-requires : goal.range_from-requires
range_from-requires c =
    let same = ap (map to_ascii_lowercase) (sym c.in_ok-scheme.ensures.cases.0) ∙ c.if-eq_ignore_ascii_case.ensures.test.0 refl in
    λ _. boundary_after_http c.args.target.now c.utf8.target same
