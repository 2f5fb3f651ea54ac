-- What writers hold.
use Rattle.std.specs.Prelude.{◌≡◌, ℕ, Bool, List, [], ◌∷◌, flat_map, encode_utf8_all, chars, ◌==◌, Option, None, option_map}
use Rattle.doc_page_parts.specs.declared.linker.Shown.{Shown}
use Rattle.doc_rules.specs.Characters.{Text}
use Rattle.doc_rules.specs.Html.{is_fresh}
use Rattle.doc_html.specs.HtmlBytes.{written_bytes}
use Rattle.doc_html.specs.ProgressSteps.{Progress}

-- these bytes are what was written, its links as the linker shows them, in UTF-8; headings get no anchors
pub record HoldsHtml (shown : List ℕ → Shown) (bytes : List ℕ) (fresh : Bool) (p : Progress) : Type 0 where
  pub shows : p.manner.shown ≡ shown
  pub unnamed : p.used ≡ None
  pub begins : fresh ≡ is_fresh p.output
  pub spelled : bytes ≡ flat_map (written_bytes shown) p.output

-- a LF stands last, where before the text it did or not
unfoldable pub fresh_behind : Bool → Text → Bool
fresh_behind fresh [] = fresh
fresh_behind fresh (c ∷ rest) = fresh_behind (c == 10) rest

-- a title, its bytes read as characters
abbrev pub read_again : Option (List ℕ) → Option (List ℕ)
read_again title = option_map encode_utf8_all (option_map chars title)
