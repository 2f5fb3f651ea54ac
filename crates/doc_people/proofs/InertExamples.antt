-- Examples: HTML that begins forms and frames, or leaves a tag open.
use Rattle.std.proofs.Common.{◌≡◌, [], refl}
use Rattle.std.specs.Prelude.{codes}
use Rattle.doc_people.specs.Inert.{inert}
use Rattle.doc_people.proofs.Computing.{shell_words}

inert_texts :
    (inert (codes "<form action=\"/x\">\n") ≡ codes "&lt;form action=\"/x\">\n")
    × (inert (codes "<FoRm><iFrame srcdoc=\"&lt;form>\"></form>") ≡ codes "&lt;FoRm>&lt;iFrame srcdoc=\"&lt;form>\"></form>")
    × (inert (codes "<formula><iframes>") ≡ codes "&lt;formula>&lt;iframes>")
    × (inert (codes "<p>a form, < form, <\nform, <for</p>") ≡ codes "<p>a form, < form, <\nform, <for</p>")
    × (inert (codes "<<form") ≡ codes "<&lt;form")
    × (inert (codes "<img src='https://a/?") ≡ codes "<img src='https://a/?<!--'\"-->\n")
    × (inert [] ≡ [])
unfolding shell_words
inert_texts = (refl, refl, refl, refl, refl, refl, refl)
