-- HTML as it is written, and inputs that are read whole.
use Rattle.std.proofs.Common.{◌≡◌, ℕ, List, ap, ◌∙◌}
use Rattle.std.specs.Prelude.{chars, encode_utf8_all, string_bytes, String}
use Rattle.doc_rules.specs.Rules.{Rules, built_in_rules}
use Rattle.doc_rules.specs.Html.{rendered_plain}
use Rattle.doc_server.specs.Rendering.{rendered}

-- HTML by these rules is HTML by the built-in ones
pub html_is : {A : Type 0} (html : String A) (rules : Rules) (shown text : List ℕ) → rules ≡ built_in_rules → string_bytes html ≡ shown
    → shown ≡ encode_utf8_all (rendered_plain rules (chars text))
    → string_bytes html ≡ rendered text
unfolding rendered
html_is html rules shown text known same is = same ∙ is ∙ ap (λ (r : Rules). encode_utf8_all (rendered_plain r (chars text))) known
