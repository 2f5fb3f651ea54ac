-- What a reader sees of a site is a site.
use Rattle.std.proofs.Common.{◌≡◌, Bool, true, false, cond, is_some, refl, ap, sym, ◌∙◌}
use Rattle.std.specs.Prelude.{Option, Some, None, option_and_then}
use Rattle.std.specs.FinMap as map
use Rattle.doc_store_readers.proofs.ViewLaw.{get-visible_aliases, get-visible_pages}
use Rattle.doc_store_readers.specs.Laws.{ViewsAreSites}
use Rattle.doc_store_readers.specs.Sites.{may_see_at, page_of_alias}

-- what is kept was there, and its test held
pub kept : {X : Type 0} (b : Bool) (o : Option X) (x : X) → cond b o None ≡ Some x → (b ≡ true) × (o ≡ Some x)
kept true o x e = (refl, e)
kept false o x e = cc

none_kept : {X : Type 0} (b : Bool) (o : Option X) → is_some o ≡ false → is_some (cond b o None) ≡ false
none_kept true o none = none
none_kept false o none = refl

one_kept : {X : Type 0} (b : Bool) (o : Option X) → b ≡ true → is_some o ≡ true → is_some (cond b o None) ≡ true
one_kept true o passes stands = stands
one_kept false o passes stands = cc

pub views_are_sites : ViewsAreSites
views_are_sites site reader is = record {
  apart = λ alias path e.
      let was = kept (may_see_at reader (page_of_alias site alias)) (map.get site.aliases alias) path
      (sym (get-visible_aliases site reader alias) ∙ e) in
      ap is_some (get-visible_pages site reader alias)
      ∙ none_kept (may_see_at reader (map.get site.pages alias)) (map.get site.pages alias) (is.apart alias path was.1);
  lead = λ alias path e.
      let was = kept (may_see_at reader (page_of_alias site alias)) (map.get site.aliases alias) path
      (sym (get-visible_aliases site reader alias) ∙ e) in
      ap is_some (get-visible_pages site reader path)
      ∙ one_kept (may_see_at reader (map.get site.pages path)) (map.get site.pages path)
      (ap (λ goal. may_see_at reader (option_and_then (map.get site.pages) goal)) (sym was.1) ∙ was.0) (is.lead alias path was.1);
}
