-- Lines of outcomes, one after the other.
use Rattle.std.proofs.Common.{◌≡◌, List, ℕ, [], ◌∷◌, ◌++◌, refl, ap, sym, ◌∙◌, subst, append-nil}
use Rattle.std.specs.Prelude.{Option, IfSome, IsUtf8, Ok}
use Rattle.std.specs.Io.KnownBytes.{Appends}
use Rattle.std.proofs.KnownBytes.{Appends-nil, Appends-trans}
use Rattle.std.proofs.lemmas.List.{append_assoc}
use Rattle.doc_hub.specs.Replies.{Renders}
use Rattle.doc_hub.specs.Runs.{RunsAll}
use Rattle.doc_hub.specs.Worlds.{World}
use Rattle.doc_hub_events.specs.declared.event.Event.{Event}
use Rattle.doc_hub_events.specs.declared.outcome.Outcome.{Outcome}
use Rattle.doc_server_config.specs.declared.config.SiteConfig.{SiteConfig}
use Rattle.doc_server_script.specs.Outcomes.{outcome_line}
use Rattle.doc_server_streams.specs.Streams.{AppendsPrefix}
use Rattle.doc_server_streams.specs.OutputSteps.{StopsAt}
use Rattle.doc_server_streams.specs.declared.fault.Fault.{Fault}
use Rattle.doc_server_streams.specs.declared.fault.Fault.TheVariants as faults
use Rattle.doc_server_streams.proofs.Prefixes.{front_is_prefix, prefix_behind}
use Rattle.doc_server.specs.Replays.{outcome_lines, RunTells, Replays}
use Rattle.doc_server_script.specs.Scripts.{events_of}
use Rattle.doc_server.specs.Sites.{site_world}

-- of all these lines some are sent, and those of the rest are left
abbrev pub AreLeft : Option (List ℕ) → Option (List ℕ) → List Outcome → List Outcome → Type 0
AreLeft old new all rest = (sent : List ℕ) × Appends old new sent × (outcome_lines all ≡ sent ++ outcome_lines rest)

pub none_sent : (old : Option (List ℕ)) (all : List Outcome) → AreLeft old old all all
none_sent old all = ([], Appends-nil old, refl)

next_line : (all items rest : List Outcome) (outcome : Outcome) (sent line : List ℕ) → outcome_lines all ≡ sent ++ outcome_lines items
    → items ≡ outcome ∷ rest → line ≡ outcome_line outcome ++ 10 ∷ []
    → outcome_lines all ≡ sent ++ (line ++ outcome_lines rest)
next_line all items rest outcome sent line is first shown =
    is ∙ ap (λ os. sent ++ outcome_lines os) first ∙ ap (λ l. sent ++ (l ++ outcome_lines rest)) (sym shown)

pub line_sent : (old mid new : Option (List ℕ)) (all items rest : List Outcome) (outcome : Outcome) (line : List ℕ)
    → AreLeft old mid all items → items ≡ outcome ∷ rest → line ≡ outcome_line outcome ++ 10 ∷ [] → Appends mid new line
    → AreLeft old new all rest
line_sent old mid new all items rest outcome line (sent, grew, is) first shown grows = (
  sent ++ line,
  Appends-trans old mid new sent line grew grows,
  next_line all items rest outcome sent line is first shown ∙ sym (append_assoc sent line (outcome_lines rest)),
)

-- a line was cut off
pub line_cut : (old mid new : Option (List ℕ)) (all items rest : List Outcome) (outcome : Outcome) (line : List ℕ) (fault : Fault)
    → AreLeft old mid all items → items ≡ outcome ∷ rest → line ≡ outcome_line outcome ++ 10 ∷ [] → fault ≡ faults.CannotWrite
    → AppendsPrefix mid new line → StopsAt old new (outcome_lines all) fault
line_cut old mid new all items rest outcome line fault (sent, grew, is) first shown why cut =
    subst (StopsAt old new (outcome_lines all)) (sym why)
    (prefix_behind old mid new (outcome_lines all) sent line (outcome_lines rest) (next_line all items rest outcome sent line is first
    shown) grew cut)

-- there was no memory for a line
pub line_unmade : (old new : Option (List ℕ)) (all items : List Outcome) (fault : Fault) → AreLeft old new all items
    → fault ≡ faults.Memory → StopsAt old new (outcome_lines all) fault
line_unmade old new all items fault (sent, grew, is) why =
    subst (StopsAt old new (outcome_lines all)) (sym why) (front_is_prefix old new (outcome_lines all) sent (outcome_lines items) is grew)

pub all_sent : (old new : Option (List ℕ)) (all items : List Outcome) → AreLeft old new all items → items ≡ []
    → Appends old new (outcome_lines all)
all_sent old new all items (sent, grew, is) none =
    subst (Appends old new) (sym (is ∙ ap (λ os. sent ++ outcome_lines os) none ∙ append-nil sent)) grew

-- ---- a script

pub script_told : (render : Renders) (w v : World) (script : List ℕ) (events these : List Event) (outcomes told : List Outcome)
    (Grows : List ℕ → Type 0) → events_of script ≡ Ok events → these ≡ events → RunsAll render these w v outcomes → told ≡ outcomes
    → Grows (outcome_lines told)
    → RunTells render w script Grows
script_told render w v script events these outcomes told Grows is same runs shown grows = (
  events,
  outcomes,
  v,
  is,
  subst (λ es. RunsAll render es w v outcomes) same runs,
  subst (λ os. Grows (outcome_lines os)) shown grows,
)

-- the same on a configured site, of a script that is all of an input
pub replayed : (render page : Renders) (config : SiteConfig) (texts : List (List ℕ)) (input : Option (List ℕ)) (bytes script : List ℕ)
    (w : World) (Grows : List ℕ → Type 0) → page ≡ render → site_world config texts ≡ Ok w → IfSome input (λ left. bytes ≡ left)
    → IsUtf8 bytes → script ≡ bytes → RunTells page w script Grows
    → Replays render config texts input Grows
replayed render page config texts input bytes script w Grows same made all utf8 shown told = (
  w,
  made,
  (
    bytes,
    all,
    utf8,
    subst (λ (p : Renders). RunTells p w bytes Grows) same (subst (λ s. RunTells page w s Grows) shown told),
  ),
)
