-- Pages that are put one after the other.
use Rattle.std.proofs.Common.{◌≡◌, List, ℕ, Bool, true, cond, ap, refl, sym, ◌∙◌}
use Rattle.std.specs.Prelude.{None, Result, Ok, Err}
use Rattle.std.specs.Option.{ok_or}
use Rattle.doc_page_parts.specs.Refusals.{IsAnswer}
use Rattle.doc_store.specs.declared.store.EditError.{EditError}
use Rattle.doc_store.specs.declared.store.EditError.TheVariants as edit_errors
use Rattle.doc_store.specs.declared.store.Put.{Put}
use Rattle.doc_media.specs.Media.{Media}
use Rattle.doc_hub.specs.Worlds.{World, is_capacity, new_world}
use Rattle.doc_server_config.specs.declared.config.SiteConfig.{SiteConfig}
use Rattle.doc_server_config.specs.declared.page_row.PageRow.{PageRow}
use Rattle.doc_server_streams.specs.declared.fault.Fault.{Fault}
use Rattle.doc_server_streams.specs.declared.fault.Fault.TheVariants as faults
use Rattle.doc_server.specs.Sites.{accepted, settings_taking, site_world_taking, with_pages}

-- a put that is refused
pub put_refused : (w : World) (r : Result Put EditError) (e : EditError) → IsAnswer edit_errors.Memory r (Err e)
    → ¬ (e ≡ edit_errors.Memory) → accepted w r ≡ None
put_refused w (Ok put) e is other = absurd (other is)
put_refused w (Err f) e is other = refl

-- a site with a page that is refused
pub site_refused : (takes : Bool) (config : SiteConfig) (texts : List (List ℕ)) (media : Media) (w : World) (rows : List PageRow)
    (fault : Fault) → is_capacity config.cache ≡ true → w ≡ new_world config.readers (settings_taking takes config) media
    → rows ≡ config.pages
    → (fault ≡ faults.Refused) × (with_pages w rows texts ≡ None)
    → site_world_taking takes config texts media ≡ Err fault
site_refused takes config texts media w rows fault can made same (why, none) =
    let first = new_world config.readers (settings_taking takes config) media in
    let none_there : with_pages first config.pages texts ≡ None =
    sym (ap (λ v. with_pages v config.pages texts) made) ∙ sym (ap (λ ps. with_pages w ps texts) same) ∙ none
    in ap (λ t. cond t (ok_or (with_pages first config.pages texts) faults.Refused) (Err faults.Config)) can
    ∙ ap (λ o. ok_or o faults.Refused) none_there ∙ ap (λ e. Err e) (sym why)
