-- The configuration of the demonstration site, and the puts of its pages.
use Rattle.std.proofs.Common.{◌≡◌, ℕ, ◌+◌, ◌≤◌, List, [], ◌∷◌, codes, length, Bool, true, false, cond, refl, sym, ap, ◌∙◌, subst, arith}
use Rattle.std.specs.Prelude.{Option, Some, None, Result, Ok, Err, IfOk, IfErr, not, ◌&&◌, ◌||◌, nat_lt, nat_le, if◌then◌else◌, ⊤}
use Rattle.std.specs.FinMap as map
use Rattle.std.specs.Option.{ok_or}
use Rattle.std.specs.Str.{chars}
use Rattle.std.proofs.lemmas.Bool.{false≢true}
use Rattle.std.proofs.lemmas.Cmp.{nat_list_cmp_total}
use Rattle.std.proofs.lemmas.Result.{IfOk-weaker}
use Rattle.toml.proofs.OnLiterals.{toml_on_literals}
use Rattle.doc_page_parts.specs.Paths.{is_path}
use Rattle.doc_page_parts.specs.Tokens.{is_token}
use Rattle.doc_store_readers.specs.Groups.{groups_of_names}
use Rattle.doc_store_readers.specs.Pages.{Page}
use Rattle.doc_store.specs.declared.store.EditError.{EditError}
use Rattle.doc_store.specs.declared.store.EditError.TheVariants.{TooLong, StoreFull}
use Rattle.doc_store.specs.declared.store.Put.{Put}
use Rattle.doc_store.specs.declared.store.Put.TheVariants.{Created, Replaced}
use Rattle.doc_store.specs.Store.{text_limit, page_limit, put_limit, fits, put_by}
use Rattle.doc_hub.specs.Worlds.{World, may_put, store_of}
use Rattle.doc_server_config.specs.Configurations.{config_of}
use Rattle.doc_server_config.specs.declared.config.ConfigError.{ConfigError}
use Rattle.doc_server_config.specs.declared.config.ConfigError.TheVariants as config_errors
use Rattle.doc_server_config.specs.declared.config.SiteConfig.{SiteConfig}
use Rattle.doc_server_config.specs.declared.page_row.PageRow.{PageRow}
use Rattle.doc_server_streams.proofs.Results.{then_err}
use Rattle.doc_server_streams.specs.declared.fault.Fault.{Fault}
use Rattle.doc_server_streams.specs.declared.fault.Fault.TheVariants as faults
use Rattle.doc_server.specs.DemoSite.{demo_config, demo_page, demo_world, site_of_none, site_of_one, site_of_two, page_put, with_page}
use Rattle.doc_server.specs.Sites as sites

-- ---- the configuration

abbrev demo_text : List ℕ
demo_text = codes
    "\ncache = 4\nreader = [\n    { token = \"tok-owner\", owner = true },\n    { token = \"tok-ann\", groups = [\"staff\"] },\n    { token = \"tok-bob\", groups = [\"ops\"] },\n]\npage = [\n    { path = \"a.md\", groups = [\"staff\"], text = \"Hello\\n\" },\n    { path = \"b.md\", groups = [\"staff\"], text = \"[c](c.md) [d](d.md)\\n\" },\n    { path = \"c.md\", groups = [\"ops\"], text = \"See [b](b.md), [b](b.md).\\n\" },\n]\n"

config_of_text : config_of demo_text ≡ Ok demo_config
unfolding toml_on_literals is_token is_path chars groups_of_names
config_of_text = refl

same_ok : {X E : Type 0} (r : Result X E) (x y : X) → r ≡ Ok x → r ≡ Ok y → y ≡ x
same_ok r x y a b = cc

pub this_configuration : (config : SiteConfig) → config_of demo_text ≡ Ok config → config ≡ demo_config
this_configuration config is = same_ok (config_of demo_text) demo_config config config_of_text is

no_error : {X E : Type 0} (r : Result X E) (x : X) (e : E) → r ≡ Ok x → r ≡ Err e → ⊥
no_error r x e a b = cc

abbrev IsMemory : ConfigError → Type 0
IsMemory config_errors.Memory = ⊤
IsMemory other = ⊥

-- it is not refused
pub not_refused : (e other : ConfigError) → e ≡ other → ¬ (IsMemory other)
    → (¬ (e ≡ config_errors.Memory) → config_of demo_text ≡ Err e) → ⊥
not_refused e other same unlike h = no_error (config_of demo_text) demo_config e config_of_text
    (h (λ is. unlike (subst IsMemory (sym is ∙ same) tt)))

-- ---- the puts

fits_by : (long full late stands : Bool) → long ≡ false → full ≡ false → late ≡ false
    → ◌≡◌ {A = Result (Unit {0}) EditError} (if long then Err TooLong else (if (not stands && full) || late then Err StoreFull else Ok tt))
    (Ok tt)
fits_by true full late stands a b d = absurd (false≢true (sym a))
fits_by false true late stands a b d = absurd (false≢true (sym b))
fits_by false false true stands a b d = absurd (false≢true (sym d))
fits_by false false false true a b d = refl
fits_by false false false false a b d = refl

few_pages : (n : ℕ) → n ≤ 2 → nat_le page_limit n ≡ false
unfolding page_limit
few_pages n le = grind (arith)

few_puts : (n : ℕ) → n ≤ 2 → nat_le put_limit n ≡ false
unfolding put_limit
few_puts n le = grind (arith)

fits_few : (pages puts : ℕ) (stands : Bool) (text : List ℕ) → pages ≤ 2 → puts ≤ 2 → nat_lt text_limit (length text) ≡ false
    → fits pages stands puts text ≡ Ok tt
fits_few pages puts stands text few little short =
    fits_by (nat_lt text_limit (length text)) (nat_le page_limit pages) (nat_le put_limit puts) stands short (few_pages pages few)
    (few_puts puts little)

-- a put is accepted
abbrev IsAccepted : World → List ℕ → List ℕ → List ℕ → Type 0
IsAccepted w path group text = (answer : Put) × ((page_put w path group text).1 ≡ Ok answer)

-- at most n pages and puts, and no media
abbrev IsSmall : ℕ → World → Type 0
IsSmall n w = (map.len w.site.pages ≤ n) × (w.puts ≤ n) × (w.media ≡ None)

one_more : (b : Bool) (k n : ℕ) → k ≤ n → cond b k (k + 1) ≤ n + 1
one_more true k n le = omega arith
one_more false k n le = omega arith

accepted : (n : ℕ) (w : World) (path group text : List ℕ) → n ≤ 2 → IsSmall n w → nat_lt text_limit (length text) ≡ false
    → IsAccepted w path group text × IsSmall (n + 1) (with_page w path group text)
accepted n w path group text le (few, little, none) short =
    let page : Page = record { groups = group ∷ []; text = text } in
    let stands = map.contains_key w.site.pages path in
    let fine : may_put w.media (store_of w) path text ≡ Ok tt =
    ap (λ media. may_put media (store_of w) path text) none
    ∙ fits_few (map.len w.site.pages) w.puts stands text (omega arith) (omega arith) short in
    let put = ap (put_by (store_of w) path page stands) fine in (
      ((if stands then Replaced else Created), ap (λ r. r.1) put),
      subst (λ store. (map.len store.site.pages ≤ n + 1) × (store.puts ≤ n + 1) × (w.media ≡ None)) (sym (ap (λ r. r.0) put)) (
        subst (λ k. k ≤ n + 1) (sym (map.len-insert nat_list_cmp_total w.site.pages path page))
            (one_more stands (map.len w.site.pages) n few),
        omega arith,
        none,
      ),
    )

nothing_put : IsSmall 0 site_of_none
nothing_put = (subst (λ n. n ≤ 0) (sym (map.len-empty _ _)) (omega arith), omega arith, refl)

abbrev page_a : PageRow
page_a = demo_page (codes "a.md") (codes "staff") (codes "Hello\n")

abbrev page_b : PageRow
page_b = demo_page (codes "b.md") (codes "staff") (codes "[c](c.md) [d](d.md)\n")

abbrev page_c : PageRow
page_c = demo_page (codes "c.md") (codes "ops") (codes "See [b](b.md), [b](b.md).\n")

first_put : IsAccepted site_of_none (codes "a.md") (codes "staff") (codes "Hello\n") × IsSmall 1 site_of_one
unfolding text_limit
first_put = accepted 0 site_of_none (codes "a.md") (codes "staff") (codes "Hello\n") (omega arith) nothing_put refl

second_put : IsAccepted site_of_one (codes "b.md") (codes "staff") (codes "[c](c.md) [d](d.md)\n") × IsSmall 2 site_of_two
unfolding text_limit
second_put = accepted 1 site_of_one (codes "b.md") (codes "staff") (codes "[c](c.md) [d](d.md)\n") (omega arith) first_put.1 refl

third_put : IsAccepted site_of_two (codes "c.md") (codes "ops") (codes "See [b](b.md), [b](b.md).\n") × IsSmall 3 demo_world
unfolding text_limit demo_world
third_put = accepted 2 site_of_two (codes "c.md") (codes "ops") (codes "See [b](b.md), [b](b.md).\n") (omega arith) second_put.1 refl

-- ---- the site

put_one : (w : World) (path group text : List ℕ) → IsAccepted w path group text
    → sites.with_page w (demo_page path group text) (Some text) ≡ Some (with_page w path group text)
put_one w path group text (answer, is) = ap (sites.accepted (page_put w path group text).0) is

next : (w v : World) (page : PageRow) (more : List PageRow) → sites.with_page w page (sites.text_of page.source []) ≡ Some v
    → sites.with_pages w (page ∷ more) [] ≡ sites.with_pages v more (sites.texts_behind page.source [])
next w v page more is =
    ap (λ (o : Option World). elim o [ None ↦ None | Some u ↦ sites.with_pages u more (sites.texts_behind page.source []) ]) is

all_pages : sites.with_pages site_of_none demo_config.pages [] ≡ Some demo_world
unfolding demo_world
all_pages =
    next site_of_none site_of_one page_a (page_b ∷ page_c ∷ [])
    (put_one site_of_none (codes "a.md") (codes "staff") (codes "Hello\n") first_put.0)
    ∙ next site_of_one site_of_two page_b (page_c ∷ [])
    (put_one site_of_one (codes "b.md") (codes "staff") (codes "[c](c.md) [d](d.md)\n") second_put.0)
    ∙ next site_of_two demo_world page_c []
    (put_one site_of_two (codes "c.md") (codes "ops") (codes "See [b](b.md), [b](b.md).\n") third_put.0)

-- the site of the configuration is the demonstration site
pub demo_site : sites.site_world demo_config [] ≡ Ok demo_world
demo_site = ap (λ o. ok_or o faults.Refused) all_pages

-- a fault that can't be another one is want of memory
abbrev IsMemoryFault : Fault → Type 0
IsMemoryFault faults.Memory = ⊤
IsMemoryFault other = ⊥

memory_alone : (fault : Fault) → (¬ (fault ≡ faults.Memory) → ⊥) → fault ≡ faults.Memory
memory_alone faults.Memory h = refl
memory_alone other h = absurd (h (λ is. subst IsMemoryFault (sym is) tt))

-- nothing but want of memory stops the hub of the configuration
pub stopped_hub : {V : Type 0} (config : SiteConfig) → config ≡ demo_config → (r : Result (V × World) Fault)
    → IfErr r (λ fault. ¬ (fault ≡ faults.Memory) → sites.site_world config [] ≡ Err fault) → IfErr r (λ fault. fault ≡ faults.Memory)
stopped_hub config same r = then_err _ _ r (λ fault h. memory_alone fault (λ other.
    no_error (sites.site_world demo_config []) demo_world fault demo_site (subst (λ c. sites.site_world c [] ≡ Err fault) same (h other))))

pub made_hub : {V : Type 0} (config : SiteConfig) → config ≡ demo_config → (r : Result (V × World) Fault)
    → IfOk r (λ hub. sites.site_world config [] ≡ Ok hub.1) → IfOk r (λ hub. hub.1 ≡ demo_world)
made_hub config same r = IfOk-weaker r _ _ (λ hub made.
    same_ok (sites.site_world demo_config []) demo_world hub.1 demo_site (subst (λ c. sites.site_world c [] ≡ Ok hub.1) same made))
