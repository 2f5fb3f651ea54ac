-- How the values of If-Match and If-None-Match are written, by the grammar of RFC 9110 (sections 5.6.1.2, 8.8.3, 13.1.1 and
-- 13.1.2).
use Rattle.std.specs.Prelude.{◌≡◌, ℕ, List, [], ◌∷◌, ◌++◌, Bool, true, Option, Some, None, map, codes, if◌then◌else◌, ⊤}
use Rattle.std.specs.List.{list_all, filter_map, join_with_byte}
use Rattle.doc_page_parts.specs.Lines.{is_blank}
use Rattle.doc_http_conditions.specs.EntityTags.{EntityTag, is_tag_byte}
use Rattle.doc_http_conditions.specs.declared.named.Named.{Named}
use Rattle.doc_http_conditions.specs.declared.named.Named.TheVariants.{Any, OneOf}

-- opaque-tag = DQUOTE *etagc DQUOTE
pub record IsOpaqueTag (opaque : List ℕ) : Type 0 where
  pub inside : List ℕ
  pub good : list_all is_tag_byte inside ≡ true
  pub quoted : opaque ≡ 34 ∷ (inside ++ 34 ∷ [])

-- entity-tag = [ weak ] opaque-tag; weak = %s"W/"
abbrev pub tag_text : Bool → List ℕ → List ℕ
tag_text weak opaque = if weak then codes "W/" ++ opaque else opaque

-- [ element ] of a list, with what stands on both sides of it
pub record Element : Type 0 where
  pub before : List ℕ
  pub tag : Option EntityTag
  pub behind : List ℕ

abbrev pub text_of : Option EntityTag → List ℕ
text_of None = []
text_of (Some tag) = tag_text tag.weak tag.opaque

abbrev pub element_text : Element → List ℕ
element_text element = element.before ++ (text_of element.tag ++ element.behind)

abbrev pub IsTag : Option EntityTag → Type 0
IsTag None = ⊤
IsTag (Some tag) = IsOpaqueTag tag.opaque

-- OWS [ element ] OWS: spaces and tabs on both sides
pub record IsElement (element : Element) : Type 0 where
  pub before : is_blank element.before ≡ true
  pub tag : IsTag element.tag
  pub behind : is_blank element.behind ≡ true

abbrev pub AreElements : List Element → Type 0
AreElements [] = ⊤
AreElements (element ∷ elements) = IsElement element × AreElements elements

-- the entity tags that stand there
abbrev pub tags_of : List Element → List EntityTag
tags_of elements = filter_map (λ (element : Element). element.tag) elements

-- [ element ] *( OWS "," OWS [ element ] ): elements with a comma between two
pub record IsListOf (text : List ℕ) (tags : List EntityTag) : Type 0 where
  pub parts : List Element
  pub good : AreElements parts
  pub written : text ≡ join_with_byte 44 (map element_text parts)
  pub named : tags ≡ tags_of parts

-- If-Match = "*" / #entity-tag, and If-None-Match the same
abbrev pub IsValue : List ℕ → Named → Type 0
IsValue text Any = text ≡ codes "*"
IsValue text (OneOf tags) = IsListOf text tags
