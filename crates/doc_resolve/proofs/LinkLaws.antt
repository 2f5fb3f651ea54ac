-- What a link leads to, as the code finds it.
use Rattle.std.proofs.Common.{◌≡◌, ℕ, ◌||◌, true, false, List, [], ◌∷◌, length, drop, Option, Some, None, refl, sym, ap, ◌∙◌, subst, arith, Bor}
use Rattle.std.specs.Prelude.{is_some, Result, IfOk}
use Rattle.std.specs.Str.{IsUtf8, is_utf8}
use Rattle.std.proofs.lemmas.Bool.{cond_both, cond-true}
use Rattle.std.proofs.lemmas.Str.{is_utf8-from_IsUtf8, IsUtf8-from_is_utf8}
use Rattle.percent_encoding.specs.Percent.{percent_decode}
use Rattle.doc_page_parts.specs.Paths.{is_path}
use Rattle.doc_page_parts.specs.declared.failure.Memory.{Memory}
use Rattle.doc_resolve.specs.LinkSteps.{leaves_site, kind_inside}
use Rattle.doc_resolve.specs.Links.{on_path, kind_by, kind_on, kind_of_target, decoded_text}
use Rattle.doc_resolve.specs.References.{Uri, reference}
use Rattle.doc_resolve.specs.Resolution.{resolve, resolve_by}
use Rattle.doc_resolve.specs.WrittenPaths.{path_written}
use Rattle.doc_resolve.specs.declared.link_kind.LinkKind.{LinkKind}
use Rattle.doc_resolve.specs.declared.link_kind.LinkKind.TheVariants.{External}
use Rattle.doc_resolve.proofs.DotSteps.{texts}

outside_by : (base r : Uri) (scheme authority : Option (List ℕ)) → (is_some scheme || is_some authority) ≡ true
    → External ≡ kind_by base r scheme authority
outside_by base r (Some scheme) authority leaves = refl
outside_by base r None (Some authority) leaves = refl
outside_by base r None None leaves = absurd (cc)

-- what a reference that leaves the site leads to
pub kind_on-outside : (base : Uri) (dest : List ℕ) (r : Uri) → r ≡ reference dest → leaves_site r ≡ true → External ≡ kind_on base dest
unfolding kind_on
kind_on-outside base dest r parsed leaves =
    outside_by base r r.scheme r.authority leaves ∙ ap (λ u. kind_by base u u.scheme u.authority) parsed

inside_by : (base : List (List ℕ)) (r : Uri) (scheme authority : Option (List ℕ)) → r.scheme ≡ scheme → r.authority ≡ authority
    → (is_some scheme || is_some authority) ≡ false → kind_by (on_path base) r scheme authority ≡ kind_inside base r
unfolding resolve
inside_by base r (Some scheme) authority s a stays = absurd (cc)
inside_by base r None (Some authority) s a stays = absurd (cc)
inside_by base r None None no_scheme no_authority stays =
    ap kind_of_target (ap (λ s. resolve_by (on_path base) r s r.authority) no_scheme
    ∙ ap (λ a. resolve_by (on_path base) r None a) no_authority)

-- what a reference that stays on it leads to
kind_on-inside : (base : List (List ℕ)) (dest : List ℕ) (r : Uri) → r ≡ reference dest → leaves_site r ≡ false
    → kind_inside base r ≡ kind_on (on_path base) dest
unfolding kind_on
kind_on-inside base dest r parsed stays =
    sym (inside_by base r r.scheme r.authority refl refl stays) ∙ ap (λ u. kind_by (on_path base) u u.scheme u.authority) parsed

pub kind_on-inside_ok : (base : List (List ℕ)) (dest : List ℕ) (r : Uri) → r ≡ reference dest → leaves_site r ≡ false
    → (result : Result LinkKind Memory) → IfOk result (λ kind. kind ≡ kind_inside base r)
    → IfOk result (λ kind. kind ≡ kind_on (on_path base) dest)
kind_on-inside_ok base dest r parsed stays result is =
    subst (λ k. IfOk result (λ kind. kind ≡ k)) (kind_on-inside base dest r parsed stays) is

none_written : None ≡ path_written []
unfolding path_written is_path
none_written = refl

pub nothing_written : (parts : List (Bor (List ℕ))) → length parts ≡ 0 → None ≡ path_written (drop 1 (texts parts))
nothing_written [] none = none_written
nothing_written (s ∷ parts) none = absurd (omega arith)

pub decoded_text-utf8 : (text bytes : List ℕ) → bytes ≡ percent_decode text → IsUtf8 bytes → bytes ≡ decoded_text text
decoded_text-utf8 text bytes is utf8 =
    is ∙ sym (cond-true (is_utf8 (percent_decode text)) (percent_decode text) text (ap is_utf8 (sym is) ∙ is_utf8-from_IsUtf8 bytes utf8))

pub decoded_text-other : (text bytes : List ℕ) → bytes ≡ percent_decode text → (IsUtf8 bytes → ⊥) → text ≡ decoded_text text
decoded_text-other text bytes is other =
    cond_both (is_utf8 (percent_decode text)) (percent_decode text) text (λ t. text ≡ t)
    (λ utf8. absurd (other (IsUtf8-from_is_utf8 bytes (ap is_utf8 is ∙ utf8))))
    (λ _. refl)
