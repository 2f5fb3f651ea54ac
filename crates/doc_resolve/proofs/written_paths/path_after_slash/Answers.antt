use Rattle.std.proofs.Common.{◌≡◌, ◌∙◌, refl, sym, subst, ap, None, drop}
use Rattle.std.specs.Str.{IsUtf8, is_utf8}
use Rattle.std.proofs.lemmas.Bool.{cond_both}
use Rattle.std.proofs.lemmas.Str.{IsUtf8-from_is_utf8}
use Rattle.doc_resolve.specs.WrittenPaths.{if_path}
use Rattle.doc_resolve.specs.WrittenPathSteps.{path_of_bytes}
use Rattle.doc_resolve.proofs.WrittenPathSteps.{path_of_bytes-found}
use Rattle.doc_resolve.proofs.WrittenPathLaws.{no_bytes_after}
use Rattle.doc_resolve.proofs.written_paths.path_after_slash.Goals as goal

pub returns-in_default : goal.returns-in_default
returns-in_default c = no_bytes_after c.args.rooted.now c.in_default.ensures.cases

pub returns-in_default-from_utf8 : goal.returns-in_default-from_utf8
returns-in_default-from_utf8 c =
    let bytes = c.in-Some.bytes.now in
    cond_both (is_utf8 bytes) (if_path bytes) None (λ o. None ≡ o)
    (λ utf8. absurd (c.in_default-from_utf8.ensures.cases.0 (IsUtf8-from_is_utf8 bytes utf8)))
    (λ _. refl)
    ∙ sym (ap (λ t. path_of_bytes (drop 1 t)) c.in-Some.ensures.cases.0)

pub returns-in-Ok-new : goal.returns-in-Ok-new
returns-in-Ok-new c =
    let read = c.in-Ok.ensures.cases in
    path_of_bytes-found c.in-Ok.text.now c.in-Ok-new.path (subst IsUtf8 (sym read.0) read.1) c.in-Ok-new.ensures
    ∙ ap path_of_bytes read.0
    ∙ sym (ap (λ t. path_of_bytes (drop 1 t)) c.in-Some.ensures.cases.0)
