-- A page in a reader's view.
use Rattle.std.proofs.Common.{◌≡◌, ℕ, List, Bool, true, false, T, cond, ap, sym, ◌∙◌, subst}
use Rattle.std.specs.Prelude.{Some, None}
use Rattle.std.specs.FinMap as map
use Rattle.doc_store_readers.specs.Pages.{Page}
use Rattle.doc_store_readers.specs.Sites.{Site, view_of, page_at, may_see_at}
use Rattle.doc_store_readers.specs.declared.reader.Reader.{Reader}
use Rattle.doc_store_readers.proofs.ViewLaw.{page_at-view_of}

pub no_page : (site : Site) (reader : Reader) (path : List ℕ) → None ≡ map.get site.pages path
    → None ≡ page_at (view_of site (Some reader)).pages path
no_page site reader path none =
    sym (page_at-view_of site (Some reader) path ∙ ap (λ page. cond (may_see_at (Some reader) page) page None) (sym none))

by_sight : (site : Site) (reader : Reader) (path : List ℕ) (page : Page) (sees : Bool) → Some page ≡ map.get site.pages path
    → sees ≡ may_see_at (Some reader) (Some page) → cond sees (Some page) None ≡ page_at (view_of site (Some reader)).pages path
by_sight site reader path page sees is can =
    ap (λ t. cond t (Some page) None) can
    ∙ sym (page_at-view_of site (Some reader) path ∙ ap (λ page. cond (may_see_at (Some reader) page) page None) (sym is))

pub hidden_page : (site : Site) (reader : Reader) (path : List ℕ) (page : Page) (sees : Bool) → Some page ≡ map.get site.pages path
    → sees ≡ may_see_at (Some reader) (Some page) → sees ≡ false → None ≡ page_at (view_of site (Some reader)).pages path
hidden_page site reader path page true is can off = absurd (subst T off tt)
hidden_page site reader path page false is can off = by_sight site reader path page false is can

pub seen_page : (site : Site) (reader : Reader) (path : List ℕ) (page : Page) (sees : Bool) → Some page ≡ map.get site.pages path
    → sees ≡ may_see_at (Some reader) (Some page) → sees ≡ true → Some page ≡ page_at (view_of site (Some reader)).pages path
seen_page site reader path page true is can off = by_sight site reader path page true is can
seen_page site reader path page false is can off = absurd (subst T (sym off) tt)
