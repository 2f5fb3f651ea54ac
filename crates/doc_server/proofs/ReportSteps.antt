-- The report of a site, and what stops it.
use Rattle.std.proofs.Common.{◌≡◌, List, ℕ, [], refl, ap, sym, ◌∙◌, subst, append-nil}
use Rattle.std.specs.Prelude.{Option, Some, Result, Ok, Err, IfOk, IfErr, OnOk}
use Rattle.std.specs.Option.{ok_or}
use Rattle.std.specs.Io.KnownBytes.{Appends, Keeps}
use Rattle.std.proofs.KnownBytes.{Appends-kept}
use Rattle.doc_hub.specs.Replies.{Renders}
use Rattle.doc_hub.specs.Worlds.{World, report_in}
use Rattle.doc_server_config.specs.declared.config.SiteConfig.{SiteConfig}
use Rattle.doc_server_streams.specs.Streams.{AppendsPrefix}
use Rattle.doc_server_streams.proofs.Prefixes.{front_is_prefix}
use Rattle.doc_server_streams.specs.declared.fault.Fault.{Fault}
use Rattle.doc_server_streams.specs.declared.fault.Fault.TheVariants as faults
use Rattle.doc_server_streams.specs.Faults.{failed_writes_after}
use Rattle.doc_server.specs.Checks.{report_of, report_status, Checks, StopsCheck}
use Rattle.doc_server.specs.Sites.{site_world}

-- what the hub of a site reports is the site's report
pub report_is : (render page : Renders) (site : Result World Fault) (w : World) (token : List ℕ) (r : Option (List ℕ)) → page ≡ render
    → site ≡ Ok w → r ≡ report_in page w token
    → report_of render site token ≡ ok_or r faults.UnknownToken
report_is render page site w token r same made is =
    ap (λ s. report_of render s token) made ∙ ap (λ (p : Renders). ok_or (report_in p w token) faults.UnknownToken) (sym same)
    ∙ ap (λ o. ok_or o faults.UnknownToken) (sym is)

-- a report that was sent, and then not flushed
pub unflushed : (old mid new : Option (List ℕ)) (sent report : List ℕ) (fault : Fault) → fault ≡ faults.CannotWrite → sent ≡ report
    → Appends old mid sent → Keeps mid new
    → (fault ≡ faults.CannotWrite) × AppendsPrefix old new report
unflushed old mid new sent report fault why same grows kept = (
  why,
  front_is_prefix old new report report [] (sym (append-nil report))
      (Appends-kept old mid new report (subst (Appends old mid) same grows) kept),
)

-- the report of a site that was written, or cut off
pub checked : (render page : Renders) (config : SiteConfig) (texts : List (List ℕ)) (w : World) (token text shown : List ℕ)
    (old new : Option (List ℕ)) (answer : Result ℕ Fault) → page ≡ render → site_world config texts ≡ Ok w
    → Some text ≡ report_in page w token → shown ≡ text → OnOk answer (Appends old new shown)
    → IfOk answer (λ status. status ≡ report_status shown)
    → IfOk answer (Checks render config texts token old new)
checked render page config texts w token text shown old new (Ok status) same made is shows grows ends = (
  shown,
  report_is render page (site_world config texts) w token (Some shown) same made (ap (λ t. Some t) shows ∙ is),
  ends,
  grows,
)
checked render page config texts w token text shown old new (Err fault) same made is shows grows ends = tt

pub cut_off : (render page : Renders) (config : SiteConfig) (texts : List (List ℕ)) (w : World) (token text shown : List ℕ)
    (old new : Option (List ℕ)) (answer : Result ℕ Fault) → page ≡ render → site_world config texts ≡ Ok w
    → Some text ≡ report_in page w token → shown ≡ text
    → IfErr answer (λ fault. (fault ≡ faults.CannotWrite) × AppendsPrefix old new shown)
    → IfErr answer (StopsCheck render config texts token old new)
cut_off render page config texts w token text shown old new (Ok status) same made is shows stops = tt
cut_off render page config texts w token text shown old new (Err fault) same made is shows (why, cut) =
    subst (StopsCheck render config texts token old new) (sym why)
    (shown, report_is render page (site_world config texts) w token (Some shown) same made (ap (λ t. Some t) shows ∙ is), cut)

-- where memory ran out before, no write failed
pub none_failed : {X : Type 0} (before : ℕ) (answer : Result X Fault) (fault : Fault) → answer ≡ Err fault → fault ≡ faults.Memory
    → before ≡ failed_writes_after before answer
none_failed before answer fault is why =
    subst (λ r. before ≡ failed_writes_after before r) (sym (is ∙ ap (λ e. Err e) why)) refl
