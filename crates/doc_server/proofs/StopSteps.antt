-- What stops a script on a world, and then the command.
use Rattle.std.proofs.Common.{◌≡◌, ◌≢◌, ◌⊎◌, inl, inr, ℕ, ◌+◌, List, [], ◌∷◌, ◌++◌, Bool, true, false, cond, T, refl}
use Rattle.std.proofs.Common.{ap, sym, subst, ◌∙◌, append-nil}
use Rattle.std.specs.Prelude.{codes, Option, Some, None, IfSome, IsUtf8, Result, Ok, Err, IfErr, OnOk, is_ok}
use Rattle.std.specs.Option.{ok_or}
use Rattle.std.specs.Io.KnownBytes.{Appends, Keeps}
use Rattle.std.proofs.KnownBytes.{Appends-kept, Keeps-refl}
use Rattle.std.proofs.lemmas.Bool.{true≢false}
use Rattle.doc_hub.specs.Replies.{Renders}
use Rattle.doc_hub.specs.Runs.{RunsAll}
use Rattle.doc_hub.specs.Worlds.{World, is_capacity, new_world}
use Rattle.doc_hub_events.specs.declared.event.Event.{Event}
use Rattle.doc_hub_events.specs.declared.outcome.Outcome.{Outcome}
use Rattle.doc_server_config.specs.declared.config.SiteConfig.{SiteConfig}
use Rattle.doc_server_script.specs.Lines.{event_of}
use Rattle.doc_server_streams.specs.Streams.{AppendsPrefix}
use Rattle.doc_server_streams.specs.Faults.{failed_writes_after, ReadsFailed}
use Rattle.doc_server_streams.specs.InputSteps.{IsNamed}
use Rattle.doc_server_streams.specs.OutputSteps.{StopsAt}
use Rattle.doc_server_streams.specs.declared.fault.Fault.{Fault}
use Rattle.doc_server_streams.specs.declared.fault.Fault.TheVariants as faults
use Rattle.doc_server_streams.proofs.Prefixes.{front_is_prefix}
use Rattle.doc_server.specs.Replays.{outcome_lines, Replays, RunTells, StopsReplay}
use Rattle.doc_server.specs.ReplaySteps.{StopsScript}
use Rattle.doc_server_script.specs.Scripts.{events_from, events_of, lines}
use Rattle.doc_server.proofs.ReplaySteps.{script_told, replayed}
use Rattle.doc_server.specs.Sites.{site_world, with_pages, settings_of}

no_error : {X E : Type 0} (x : X) (e : E) → Ok x ≡ Err e → ⊥
no_error x e is = subst T (ap is_ok is) tt

abbrev fault_or : {X : Type 0} → Fault → Result X Fault → Fault
fault_or other (Ok x) = other
fault_or other (Err fault) = fault

same_fault : {X : Type 0} (a b : Fault) → ◌≡◌ {A = Result X Fault} (Err a) (Err b) → b ≡ a
same_fault a b is = sym (ap (fault_or a) is)

abbrev is_memory : Fault → Bool
is_memory faults.Memory = true
is_memory other = false

apart : (fault : Fault) → is_memory fault ≡ false → fault ≢ faults.Memory
apart fault other is = true≢false (sym (ap is_memory is) ∙ other)

-- a fault is for want of memory, or what holds of the others holds
memory_or : {P : Type 0} (fault : Fault) → (fault ≢ faults.Memory → P) → (fault ≡ faults.Memory) ⊎ P
memory_or faults.Memory holds = inl refl
memory_or faults.Usage holds = inr (holds (apart faults.Usage refl))
memory_or faults.Config holds = inr (holds (apart faults.Config refl))
memory_or faults.BadTable holds = inr (holds (apart faults.BadTable refl))
memory_or faults.UnknownToken holds = inr (holds (apart faults.UnknownToken refl))
memory_or faults.Socket holds = inr (holds (apart faults.Socket refl))
memory_or faults.CannotWrite holds = inr (holds (apart faults.CannotWrite refl))
memory_or faults.Refused holds = inr (holds (apart faults.Refused refl))
memory_or (faults.BadScriptLine line) holds = inr (holds (apart (faults.BadScriptLine line) refl))
memory_or (faults.CannotRead name) holds = inr (holds (apart (faults.CannotRead name) refl))

-- ---- a script with a bad line

abbrev IsBad : Fault → Type 0
IsBad fault = (n : ℕ) × (fault ≡ faults.BadScriptLine n)

line_fails : (found : Option Event) (n : ℕ) (onto : Event → Result (List Event) Fault) (fault : Fault)
    → ((event : Event) → onto event ≡ Err fault → IsBad fault)
    → ◌≡◌ {A = Result (List Event) Fault} (elim found [
      | None ↦ Err (faults.BadScriptLine n)
      | Some event ↦ onto event
    ]) (Err fault) → IsBad fault
line_fails None n onto fault behind is = (n, same_fault (faults.BadScriptLine n) fault is)
line_fails (Some event) n onto fault behind is = behind event is

from_fails : (found : List Event) (n : ℕ) (left : List (List ℕ)) (fault : Fault) → events_from found n left ≡ Err fault → IsBad fault
from_fails found n [] fault is = absurd (no_error found fault is)
from_fails found n (line ∷ more) fault is =
    line_fails (event_of line) n (λ event. events_from (found ++ event ∷ []) (n + 1) more) fault
    (λ event. from_fails (found ++ event ∷ []) (n + 1) more fault) is

-- nothing is written
pub script_bad : (render : Renders) (w : World) (script : List ℕ) (old : Option (List ℕ)) (fault : Fault)
    → (fault ≢ faults.Memory → events_of script ≡ Err fault) → StopsScript render w script old old fault
script_bad render w script old fault holds =
    elim (memory_or fault holds) [
      | inl why ↦ subst (StopsScript render w script old old) (sym why) (inl (Keeps-refl old))
      | inr is ↦
          let bad = from_fails [] 1 (lines script) fault is in
          subst (StopsScript render w script old old) (sym bad.1) (is ∙ ap (λ f. Err f) bad.1, Keeps-refl old)
    ]

-- and no write fails
pub bad_writes : (X : Type 0) (script : List ℕ) (before : ℕ) (fault : Fault)
    → (fault ≢ faults.Memory → events_of script ≡ Err fault) → before ≡ failed_writes_after {X = X} before (Err fault)
bad_writes X script before fault holds =
    elim (memory_or fault holds) [
      | inl why ↦ subst (λ f. before ≡ failed_writes_after {X = X} before (Err f)) (sym why) refl
      | inr is ↦
          let bad = from_fails [] 1 (lines script) fault is in
          subst (λ f. before ≡ failed_writes_after {X = X} before (Err f)) (sym bad.1) refl
    ]

-- ---- a script that was told in part, or not flushed

cut_cases : (old new : Option (List ℕ)) (wanted : List ℕ) (fault : Fault) → StopsAt old new wanted fault
    → AppendsPrefix old new wanted × ((fault ≡ faults.CannotWrite) ⊎ (fault ≡ faults.Memory))
cut_cases old new wanted faults.CannotWrite stops = (stops, inl refl)
cut_cases old new wanted faults.Memory stops = (stops, inr refl)
cut_cases old new wanted faults.Usage stops = absurd stops
cut_cases old new wanted faults.Config stops = absurd stops
cut_cases old new wanted faults.BadTable stops = absurd stops
cut_cases old new wanted faults.UnknownToken stops = absurd stops
cut_cases old new wanted faults.Socket stops = absurd stops
cut_cases old new wanted faults.Refused stops = absurd stops
cut_cases old new wanted (faults.BadScriptLine line) stops = absurd stops
cut_cases old new wanted (faults.CannotRead name) stops = absurd stops

pub told_in_part : (render : Renders) (w v : World) (script : List ℕ) (events these : List Event) (outcomes told : List Outcome)
    (old new : Option (List ℕ)) (fault : Fault) → events_of script ≡ Ok events → these ≡ events
    → RunsAll render these w v outcomes → told ≡ outcomes → StopsAt old new (outcome_lines told) fault
    → StopsScript render w script old new fault
told_in_part render w v script events these outcomes told old new fault is same runs shown stops =
    let cut = cut_cases old new (outcome_lines told) fault stops in
    let tells = script_told render w v script events these outcomes told (AppendsPrefix old new) is same runs shown cut.0 in
    elim cut.1 [
      | inl why ↦ subst (StopsScript render w script old new) (sym why) tells
      | inr why ↦ subst (StopsScript render w script old new) (sym why) (inr tells)
    ]

pub told_whole : (render : Renders) (w v : World) (script : List ℕ) (events these : List Event) (outcomes told : List Outcome)
    (old mid new : Option (List ℕ)) (answer : Result (Unit {0}) Fault) → events_of script ≡ Ok events → these ≡ events
    → RunsAll render these w v outcomes → told ≡ outcomes → Appends old mid (outcome_lines told) → Keeps mid new
    → OnOk answer (RunTells render w script (Appends old new))
told_whole render w v script events these outcomes told old mid new (Err fault) is same runs shown grew kept = tt
told_whole render w v script events these outcomes told old mid new (Ok done) is same runs shown grew kept =
    script_told render w v script events these outcomes told (Appends old new) is same runs shown
    (Appends-kept old mid new (outcome_lines told) grew kept)

pub told_unflushed : (render : Renders) (w v : World) (script : List ℕ) (events these : List Event) (outcomes told : List Outcome)
    (old mid new : Option (List ℕ)) (answer : Result (Unit {0}) Fault) → events_of script ≡ Ok events → these ≡ events
    → RunsAll render these w v outcomes → told ≡ outcomes → Appends old mid (outcome_lines told) → Keeps mid new
    → IfErr answer (λ fault. fault ≡ faults.CannotWrite) → IfErr answer (StopsScript render w script old new)
told_unflushed render w v script events these outcomes told old mid new (Ok done) is same runs shown grew kept why = tt
told_unflushed render w v script events these outcomes told old mid new (Err fault) is same runs shown grew kept why =
    subst (StopsScript render w script old new) (sym why)
    (script_told render w v script events these outcomes told (AppendsPrefix old new) is same runs shown
    (front_is_prefix old new (outcome_lines told) (outcome_lines told) [] (sym (append-nil (outcome_lines told)))
    (Appends-kept old mid new (outcome_lines told) grew kept)))

-- ---- no site

no_site : (t : Bool) (w : Option World) (fault : Fault) → cond t (ok_or w faults.Refused) (Err faults.Config) ≡ Err fault
    → (fault ≡ faults.Refused) ⊎ (fault ≡ faults.Config)
no_site true None fault is = inl (same_fault faults.Refused fault is)
no_site true (Some w) fault is = absurd (no_error w fault is)
no_site false w fault is = inr (same_fault faults.Config fault is)

module _ (config : SiteConfig) (texts : List (List ℕ)) (fault : Fault)
    (holds : fault ≢ faults.Memory → site_world config texts ≡ Err fault) where
  abbrev Fails : Type 0
  Fails = (site_world config texts ≡ Err fault) × ((fault ≡ faults.Refused) ⊎ (fault ≡ faults.Config))

  site_fails : (fault ≡ faults.Memory) ⊎ Fails
  site_fails =
      memory_or fault (λ other.
      let is = holds other in
      (is, no_site (is_capacity config.cache) (with_pages (new_world config.readers (settings_of config) None) config.pages texts) fault is))

  -- one of three
  by_three : (P : Fault → Type 0) → P faults.Memory → (site_world config texts ≡ Err faults.Refused → P faults.Refused)
      → (site_world config texts ≡ Err faults.Config → P faults.Config) → P fault
  by_three P memory refused bad =
      elim site_fails [
        | inl why ↦ subst P (sym why) memory
        | inr (is, inl why) ↦ subst P (sym why) (refused (is ∙ ap (λ f. Err f) why))
        | inr (is, inr why) ↦ subst P (sym why) (bad (is ∙ ap (λ f. Err f) why))
      ]

  pub site_stops : (render : Renders) (input old : Option (List ℕ)) → StopsReplay render config texts input old old fault
  site_stops render input old =
      by_three (StopsReplay render config texts input old old) (inl (Keeps-refl old)) (λ is. (is, Keeps-refl old))
      (λ is. (is, Keeps-refl old))

  pub site_reads : (X Reason : Type 0) (before : ℕ) → ReadsFailed {X = X} Reason before before (Err fault)
  site_reads X Reason before = by_three (λ f. ReadsFailed {X = X} Reason before before (Err f)) (inr refl) (λ is. refl) (λ is. refl)

  pub site_writes : (X : Type 0) (before : ℕ) → before ≡ failed_writes_after {X = X} before (Err fault)
  site_writes X before = by_three (λ f. before ≡ failed_writes_after {X = X} before (Err f)) refl (λ is. refl) (λ is. refl)

-- ---- an input that can't be read

pub unread_stops : (render : Renders) (config : SiteConfig) (texts : List (List ℕ)) (w : World) (input old : Option (List ℕ))
    (fault : Fault) → site_world config texts ≡ Ok w → IsNamed (codes "-") fault → StopsReplay render config texts input old old fault
unread_stops render config texts w input old faults.Usage made named = absurd named
unread_stops render config texts w input old faults.Config made named = absurd named
unread_stops render config texts w input old faults.BadTable made named = absurd named
unread_stops render config texts w input old faults.UnknownToken made named = absurd named
unread_stops render config texts w input old faults.Socket made named = absurd named
unread_stops render config texts w input old faults.Refused made named = absurd named
unread_stops render config texts w input old faults.CannotWrite made named = absurd named
unread_stops render config texts w input old (faults.BadScriptLine line) made named = absurd named
unread_stops render config texts w input old (faults.CannotRead called) made named = (w, made, (named, Keeps-refl old))
unread_stops render config texts w input old faults.Memory made named = inl (Keeps-refl old)

pub unread_writes : (X : Type 0) (before : ℕ) (name : List ℕ) (fault : Fault) → IsNamed name fault
    → before ≡ failed_writes_after {X = X} before (Err fault)
unread_writes X before name faults.Usage named = refl
unread_writes X before name faults.Config named = refl
unread_writes X before name faults.BadTable named = refl
unread_writes X before name faults.UnknownToken named = refl
unread_writes X before name faults.Socket named = refl
unread_writes X before name faults.Refused named = refl
unread_writes X before name faults.CannotWrite named = absurd named
unread_writes X before name (faults.BadScriptLine line) named = refl
unread_writes X before name (faults.CannotRead called) named = refl
unread_writes X before name faults.Memory named = refl

-- ---- a script that stops, of a site and an input

module _ (render page : Renders) (config : SiteConfig) (texts : List (List ℕ)) (input : Option (List ℕ)) (bytes script : List ℕ) (w : World)
    (old new : Option (List ℕ)) (same : page ≡ render) (made : site_world config texts ≡ Ok w) (all : IfSome input (λ left. bytes ≡ left))
    (utf8 : IsUtf8 bytes) (shown : script ≡ bytes) where
  told_then : RunTells page w script (AppendsPrefix old new) → Replays render config texts input (AppendsPrefix old new)
  told_then = replayed render page config texts input bytes script w (AppendsPrefix old new) same made all utf8 shown

  pub replay_stops : (fault : Fault) → StopsScript page w script old new fault → StopsReplay render config texts input old new fault
  replay_stops faults.Usage stops = absurd stops
  replay_stops faults.Config stops = absurd stops
  replay_stops faults.BadTable stops = absurd stops
  replay_stops faults.UnknownToken stops = absurd stops
  replay_stops faults.Socket stops = absurd stops
  replay_stops faults.Refused stops = absurd stops
  replay_stops (faults.CannotRead called) stops = absurd stops
  replay_stops (faults.BadScriptLine line) (is, kept) = (w, made, (bytes, all, utf8, (ap events_of (sym shown) ∙ is, kept)))
  replay_stops faults.CannotWrite tells = told_then tells
  replay_stops faults.Memory (inl kept) = inl kept
  replay_stops faults.Memory (inr tells) = inr (told_then tells)

pub stop_reads : (X Reason : Type 0) (before after : ℕ) (render : Renders) (w : World) (script : List ℕ)
    (old new : Option (List ℕ)) (fault : Fault) → after ≡ before → StopsScript render w script old new fault
    → ReadsFailed {X = X} Reason before after (Err fault)
stop_reads X Reason before after render w script old new faults.Usage same stops = same
stop_reads X Reason before after render w script old new faults.Config same stops = same
stop_reads X Reason before after render w script old new faults.BadTable same stops = same
stop_reads X Reason before after render w script old new faults.UnknownToken same stops = same
stop_reads X Reason before after render w script old new faults.Socket same stops = same
stop_reads X Reason before after render w script old new faults.Refused same stops = same
stop_reads X Reason before after render w script old new faults.CannotWrite same stops = same
stop_reads X Reason before after render w script old new (faults.BadScriptLine line) same stops = same
stop_reads X Reason before after render w script old new (faults.CannotRead called) same stops = absurd stops
stop_reads X Reason before after render w script old new faults.Memory same stops = inr same
