-- Parts of runs, run after run.
use Rattle.std.proofs.Common.{◌≡◌, ℕ, List, [], ◌∷◌, ◌++◌, true, false, cond, refl, sym, ap, ◌∙◌, subst, ◌==◌, arith, append-nil, flat_map}
use Rattle.std.specs.Prelude.{Contains, Option, Some, None}
use Rattle.std.proofs.lemmas.Grind.{flat_map-append}
use Rattle.std.proofs.lemmas.List.Elements.{filter-append, All-head, All-tail, Contains-append_left, Contains-append_right}
use Rattle.doc_hub_replies.specs.Replies.{Renders}
use Rattle.doc_hub_events.specs.declared.event.Event.{Event}
use Rattle.doc_hub_events.specs.declared.event.Event.TheVariants as events
use Rattle.doc_hub_events.specs.declared.outcome.Outcome.{Outcome}
use Rattle.doc_hub.specs.RunParts.{Gave, pushed_by, pushed_on, served_by}
use Rattle.doc_hub.specs.Runs.{Happened, Runs, nothing, first, is_on, is_on_by, events_on, sent_by, sent_on}
use Rattle.doc_hub.specs.Worlds.{World}
use Rattle.doc_hub.proofs.Elsewhere.{AreElsewhere}

-- ---- runs one after another

pub runs_join : (render : Renders) (w v u : World) (xs ys : List Happened) → Runs render w xs v → Runs render v ys u
    → Runs render w (xs ++ ys) u
runs_join render w v u xs ys (nothing x) more = more
runs_join render w v u xs ys (first x y z event outcome rest happens runs) more =
    first x y u event outcome (rest ++ ys) happens (runs_join render y z u rest ys runs more)

-- ---- what two runs push and send

abbrev pub pushed_of : List Happened → List ℕ
pushed_of run = flat_map (λ h. pushed_by h.event h.outcome) run

abbrev pub sent_of : List Happened → List ℕ
sent_of run = flat_map (λ h. sent_by h.outcome) run

pub pushed_join : (c : ℕ) (xs ys : List Happened) → pushed_on c (xs ++ ys) ≡ pushed_on c xs ++ pushed_on c ys
pushed_join c xs ys =
    ap pushed_of (filter-append (is_on c) xs ys) ∙ flat_map-append (λ h. pushed_by h.event h.outcome) (events_on c xs) (events_on c ys)

pub sent_join : (c : ℕ) (xs ys : List Happened) → sent_on c (xs ++ ys) ≡ sent_on c xs ++ sent_on c ys
sent_join c xs ys =
    ap sent_of (filter-append (is_on c) xs ys) ∙ flat_map-append (λ h. sent_by h.outcome) (events_on c xs) (events_on c ys)

pub gave_before : (Is : Outcome → Type 0) (c : ℕ) (xs ys : List Happened) → Gave Is c xs → Gave Is c (xs ++ ys)
gave_before Is c xs ys (h, among, is) = (
  h,
  subst (λ l. Contains l h) (sym (filter-append (is_on c) xs ys)) (Contains-append_left (events_on c xs) (events_on c ys) h among),
  is,
)

pub gave_after : (Is : Outcome → Type 0) (c : ℕ) (xs ys : List Happened) → Gave Is c ys → Gave Is c (xs ++ ys)
gave_after Is c xs ys (h, among, is) = (
  h,
  subst (λ l. Contains l h) (sym (filter-append (is_on c) xs ys)) (Contains-append_right (events_on c xs) (events_on c ys) h among),
  is,
)

-- ---- an event, and events elsewhere

pub some_is : (n m : ℕ) → ◌≡◌ {A = Option ℕ} (Some n) (Some m) → n ≡ m
some_is n m e = cc

pub none_is : (m : ℕ) → ◌≡◌ {A = Option ℕ} None (Some m) → ⊥
none_is m e = cc

pub on_by : (c n : ℕ) (event : Event) (outcome : Outcome) → served_by event ≡ Some n → is_on_by c event outcome ≡ (c == n)
on_by c n (events.On id call) outcome on = ap (λ m. c == m) (some_is id.0 n on)
on_by c n event outcome on = absurd (none_is n on)

abbrev pub IsApart : ℕ → Happened → Type 0
IsApart c h = (n : ℕ) × (served_by h.event ≡ Some n) × ((c == n) ≡ false)

pub none_on : (c : ℕ) (run : List Happened) → AreElsewhere c run → events_on c run ≡ []
none_on c [] off = refl
none_on c (h ∷ run) off =
    let now = All-head (IsApart c) h run off in
    ap (λ t. cond t (h ∷ events_on c run) (events_on c run)) (on_by c now.0 h.event h.outcome now.1 ∙ now.2)
    ∙ none_on c run (All-tail (IsApart c) h run off)

itself : (n : ℕ) → (n == n) ≡ true
itself n = grind (arith)

-- one event of the connection
pub one_on : (c : ℕ) (h : Happened) → served_by h.event ≡ Some c → events_on c (h ∷ []) ≡ h ∷ []
one_on c h on = ap (λ t. cond t (h ∷ []) []) (on_by c c h.event h.outcome on ∙ itself c)

pub one_pushes : (c : ℕ) (h : Happened) → served_by h.event ≡ Some c → pushed_on c (h ∷ []) ≡ pushed_by h.event h.outcome
one_pushes c h on = ap pushed_of (one_on c h on) ∙ append-nil (pushed_by h.event h.outcome)

pub one_sends : (c : ℕ) (h : Happened) → served_by h.event ≡ Some c → sent_on c (h ∷ []) ≡ sent_by h.outcome
one_sends c h on = ap sent_of (one_on c h on) ∙ append-nil (sent_by h.outcome)
