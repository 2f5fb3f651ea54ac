use Rattle.std.proofs.Common.{◌≡◌, ◌∙◌, sym, subst, ap, Option, List, ℕ, drop}
use Rattle.std.specs.Result.{IfOk}
use Rattle.doc_resolve.specs.WrittenPathSteps.{path_of_bytes}
use Rattle.doc_resolve.proofs.DotSteps.{texts}
use Rattle.doc_resolve.proofs.WrittenPathLaws.{path-missing, path-found}
use Rattle.doc_resolve.proofs.written_paths.path_of_segments.Goals as goal

pub returns-in_default : goal.returns-in_default
returns-in_default c =
    let read = c.in_ok-text.ensures in
    sym (path-missing (texts c.args.parts.now) (rw c.in_default.is at read))

pub returns : goal.returns
returns c =
    let read = c.in_ok-text.ensures in
    let found = path-found (texts c.args.parts.now) c.in-Some.text.items (rw c.in-Some.is at read) in
    let same = ap (λ t. path_of_bytes (drop 1 t)) (c.deref.ensures.value ∙ c.in_ok-add_index.ensures) ∙ found in
    let Path : Option (List ℕ) → Type 0 = λ o. IfOk c.path_after_slash.result (λ path. path ≡ o) in
    subst Path same c.path_after_slash.ensures
