-- What a crash leaves, one part of a turn behind the other.
use Rattle.std.proofs.Common.{◌≡◌, ◌++◌, false, true, ℕ, List, [], inl, inr, refl, sym, ap, subst, ◌∙◌, append-nil, append_assoc}
use Rattle.std.specs.Prelude.{Bool, IfSome, IsSome, Option, Some, None}
use Rattle.doc_hub.specs.Replies.{Renders}
use Rattle.doc_hub.specs.Runs.{Happened, Runs, nothing}
use Rattle.doc_hub.specs.Worlds.{World}
use Rattle.doc_hub.proofs.RunParts.{runs_join}
use Rattle.doc_server_journal.specs.Devices.{LeavesOnly}
use Rattle.doc_server_journal.specs.declared.journal.Journal.{Journal}
use Rattle.doc_server_journal.proofs.HoldLemmas.{open_reads}
use Rattle.doc_server_journal.proofs.Moments.{goes_on, if_known, known, started, weaker}
use Rattle.doc_server_listen.specs.Edits.{Kept}
use Rattle.doc_server_network.specs.Crashes.{CrashesLeave, Restores, RestoresEither}
use Rattle.doc_server_network.specs.Saved.{IsSavedIn}
use Rattle.doc_store.specs.Store.{StoreState}
use Rattle.doc_server_serving.specs.Crashing.{AreKnown, RestoresFront, RestoresFrontBy}
use Rattle.doc_server_listen.specs.Sites.{IsSameSite}
use Rattle.doc_server_turns.proofs.Sites.{restored_too, same_back, same_site}

-- ---- sites

-- what restores to a site restores to one that is the same
pub restores_too : (config : StoreState) (w v : World) → IsSameSite w v → (file : List ℕ) → Restores config w file → Restores config v file
restores_too config w v same file is =
    record { texts = is.texts; reads = is.reads; gives = restored_too config is.texts w v same is.gives }

pub either_too : (config : StoreState) (w v x y : World) → IsSameSite w x → IsSameSite v y → (file : List ℕ)
    → RestoresEither config w v file → RestoresEither config x y file
either_too config w v x y same alike file (inl is) = inl (restores_too config w x same file is)
either_too config w v x y same alike file (inr is) = inr (restores_too config v y alike file is)

-- ---- fronts of a run

module _ (config : StoreState) (render : Renders) (w : World) where
  -- a run from the world that stands, of which nothing is restored yet
  pub at_first : (run : List Happened) (file : List ℕ) → Restores config w file → RestoresFront config render w run file
  at_first run file is = record { front = []; rest = run; is = refl; world = w; runs = nothing w; restores = is }

  -- the run goes on
  pub longer : (run more : List Happened) (file : List ℕ) → RestoresFront config render w run file
      → RestoresFront config render w (run ++ more) file
  longer run more file is = record {
    front = is.front;
    rest = is.rest ++ more;
    is = ap (λ l. l ++ more) is.is ∙ append_assoc is.front is.rest more;
    world = is.world;
    runs = is.runs;
    restores = is.restores;
  }

  -- a part of it leads from one world to another, and one of their sites is restored
  pub at_part : (run more : List Happened) (v u : World) → Runs render w run v → Runs render w (run ++ more) u → (file : List ℕ)
      → RestoresEither config v u file → RestoresFront config render w (run ++ more) file
  at_part run more v u begins ends file (inl is) =
      record { front = run; rest = more; is = refl; world = v; runs = begins; restores = is }
  at_part run more v u begins ends file (inr is) =
      record { front = run ++ more; rest = []; is = sym (append-nil (run ++ more)); world = u; runs = ends; restores = is }

-- ---- parts, one behind the other

no_yes : false ≡ true → ⊥
no_yes e = cc

somewhere : {X : Type 0} (o : Option X) (P : Type 0) → IsSome o → IfSome o (λ x. P) → P
somewhere None P some is = absurd (no_yes some)
somewhere (Some x) P some is = is

module _ {D : Type 0} (seen : D → Option (List ℕ)) (moment : D → ℕ) (left_since : D → ℕ → List ℕ → Type 0) where
  abbrev Leaves : (List ℕ → Type 0) → Option (Journal D) → Option (Journal D) → Type 0
  Leaves P old new = CrashesLeave seen moment left_since P old new

  pub leaves_weaker : (P Q : List ℕ → Type 0) (old new : Option (Journal D)) → ((c : List ℕ) → P c → Q c) → Leaves P old new
      → Leaves Q old new
  leaves_weaker P Q None None each is = tt
  leaves_weaker P Q None (Some new) each is = absurd is
  leaves_weaker P Q (Some old) None each is = absurd is
  leaves_weaker P Q (Some old) (Some new) each is =
      if_known (seen old.device) (λ file. LeavesOnly moment left_since old.device new.device Q)
      (λ file there.
      weaker moment left_since old.device new.device P Q
      (known (seen old.device) file (λ f. LeavesOnly moment left_since old.device new.device P) there is) each)

  pub leaves_join : AreKnown seen → (P : List ℕ → Type 0) (old mid new : Option (Journal D)) → Leaves P old mid → Leaves P mid new
      → Leaves P old new
  leaves_join all P None None None one two = tt
  leaves_join all P None None (Some new) one two = absurd two
  leaves_join all P None (Some mid) new one two = absurd one
  leaves_join all P (Some old) None new one two = absurd one
  leaves_join all P (Some old) (Some mid) None one two = absurd two
  leaves_join all P (Some old) (Some mid) (Some new) one two =
      if_known (seen old.device) (λ file. LeavesOnly moment left_since old.device new.device P)
      (λ file there.
      goes_on moment left_since old.device mid.device new.device P
      (known (seen old.device) file (λ f. LeavesOnly moment left_since old.device mid.device P) there one)
      (somewhere (seen mid.device) (LeavesOnly moment left_since mid.device new.device P) (all mid.device) two))

  pub leaves_same : (P : List ℕ → Type 0) (old mid new : Option (Journal D)) → new ≡ mid → Leaves P old mid → Leaves P old new
  leaves_same P old mid new same is = subst (λ o. Leaves P old o) (sym same) is

  -- nothing is written: the file is one that reads as the records
  module _ (may_leave : D → List ℕ → Type 0) (failed : D → Bool) (stale : D → ℕ → Type 0)
      (only_now : (file : D) (c : List ℕ) → left_since file (moment file) c → may_leave file c) where
    pub leaves_itself : (config : StoreState) (begin : World) (o : Option (Journal D)) (unsaved : Kept) (w : World)
        → IfSome o (λ j. IsSavedIn seen may_leave failed stale config begin j unsaved w) → Leaves (Restores config begin) o o
    leaves_itself config begin None unsaved w is = tt
    leaves_itself config begin (Some j) unsaved w is =
        if_known (seen j.device) (λ file. LeavesOnly moment left_since j.device j.device (Restores config begin))
        (λ file there.
        started moment left_since j.device (Restores config begin)
        (λ c left.
        subst (Restores config begin)
        (sym (known (seen j.device) file (λ f. (d : List ℕ) → may_leave j.device d → d ≡ f) there is.is_open.durable c
        (only_now j.device c left)))
        (record {
          texts = is.texts;
          reads = known (seen j.device) file _ there (open_reads seen may_leave failed stale j is.texts is.is_open);
          gives = is.began;
        })))

    -- nothing is written, whatever stands behind
    pub nothing_written : (config : StoreState) (w : World) (o : Option (Journal D)) (unsaved : Kept)
        → IfSome o (λ j. IsSavedIn seen may_leave failed stale config w j unsaved w) → Leaves (RestoresEither config w w) o o
    nothing_written config w o unsaved is =
        leaves_weaker (Restores config w) (RestoresEither config w w) o o (λ c r. inl r) (leaves_itself config w o unsaved w is)

  module _ (config : StoreState) (w v u : World) (a b c : Option (Journal D)) where
    -- the room of the journal is seen to
    pub room_before : Leaves (Restores config w) a b → Leaves (RestoresEither config w v) a b
    room_before is = leaves_weaker (Restores config w) (RestoresEither config w v) a b (λ file r. inl r) is

    -- and clients are served behind that
    pub served_behind : AreKnown seen → IsSameSite w v → Leaves (Restores config w) a b → Leaves (RestoresEither config v u) b c
        → Leaves (RestoresEither config w u) a c
    served_behind all same one two =
        leaves_join all (RestoresEither config w u) a b c
        (leaves_weaker (Restores config w) (RestoresEither config w u) a b (λ file r. inl r) one)
        (leaves_weaker (RestoresEither config v u) (RestoresEither config w u) b c
        (either_too config v u w u (same_back w v same) (same_site u)) two)

    -- clients are served, and the room is seen to behind that
    pub room_behind : AreKnown seen → IsSameSite v u → Leaves (RestoresEither config w v) a b → Leaves (Restores config v) b c
        → Leaves (RestoresEither config w u) a c
    room_behind all same one two =
        leaves_join all (RestoresEither config w u) a b c
        (leaves_weaker (RestoresEither config w v) (RestoresEither config w u) a b (either_too config w v w u (same_site w) same) one)
        (leaves_weaker (Restores config v) (RestoresEither config w u) b c (λ file r. inr (restores_too config v u same file r)) two)

    -- the turn ends, and the journal stays
    pub ended_behind : IsSameSite v u → c ≡ b → Leaves (RestoresEither config w v) a b → Leaves (RestoresEither config w u) a c
    ended_behind same stays is =
        leaves_same (RestoresEither config w u) a b c stays
        (leaves_weaker (RestoresEither config w v) (RestoresEither config w u) a b (either_too config w v w u (same_site w) same) is)

    -- turns, one behind the other
    pub turn_behind : AreKnown seen → (render : Renders) (run more : List Happened) → Runs render w run v → Runs render w (run ++ more) u
        → Leaves (RestoresFront config render w run) a b → Leaves (RestoresEither config v u) b c
        → Leaves (RestoresFront config render w (run ++ more)) a c
    turn_behind all render run more begins ends one two =
        leaves_join all (RestoresFront config render w (run ++ more)) a b c
        (leaves_weaker (RestoresFront config render w run) (RestoresFront config render w (run ++ more)) a b
        (longer config render w run more) one)
        (leaves_weaker (RestoresEither config v u) (RestoresFront config render w (run ++ more)) b c
        (at_part config render w run more v u begins ends) two)

  -- a turn alone
  pub turn_alone : (config : StoreState) (render : Renders) (w v : World) (run : List Happened) (a b : Option (Journal D))
      → Runs render w run v → Leaves (RestoresEither config w v) a b → Leaves (RestoresFront config render w run) a b
  turn_alone config render w v run a b runs is =
      leaves_weaker (RestoresEither config w v) (RestoresFront config render w run) a b (at_part config render w [] run w v (nothing w) runs) is

  -- a turn, and a reload behind it, which writes nothing
  pub reload_behind : AreKnown seen → (config : StoreState) (render : Renders) (w v u : World) (run more : List Happened)
      (a b c : Option (Journal D)) → Runs render w run v → Leaves (RestoresEither config w v) a b → Leaves (Restores config v) b c
      → Leaves (RestoresFront config render w (run ++ more)) a c
  reload_behind all config render w v u run more a b c runs one two =
      leaves_join all (RestoresFront config render w (run ++ more)) a b c
      (leaves_weaker (RestoresFront config render w run) (RestoresFront config render w (run ++ more)) a b (longer config render w run more)
      (turn_alone config render w v run a b runs one))
      (leaves_weaker (Restores config v) (RestoresFront config render w (run ++ more)) b c
      (λ file restores. record { front = run; rest = more; is = refl; world = v; runs = runs; restores = restores }) two)

-- ---- over configurations in force

-- a front of a run is one of the same behind another
pub front_on : (config : StoreState) (render page : Renders) (w v : World) (run more : List Happened) (file : List ℕ) → page ≡ render
    → Runs render w run v → RestoresFront config page v more file → RestoresFront config render w (run ++ more) file
front_on config render page w v run more file same runs is = record {
  front = run ++ is.front;
  rest = is.rest;
  is = ap (λ l. run ++ l) is.is ∙ sym (append_assoc run is.front is.rest);
  world = is.world;
  runs = runs_join render w v is.world run is.front runs (subst (λ r. Runs r v is.front is.world) same is.runs);
  restores = is.restores;
}

pub longer_by : (before behind : StoreState → Type 0) → ((c : StoreState) → before c → behind c) → (render : Renders) (w : World)
    (run more : List Happened) (file : List ℕ) → RestoresFrontBy before render w run file → RestoresFrontBy behind render w (run ++ more) file
longer_by before behind wider render w run more file is = record {
  config = is.config;
  is_in_force = wider is.config is.is_in_force;
  restores = longer is.config render w run more file is.restores;
}

module _ {D : Type 0} (seen : D → Option (List ℕ)) (moment : D → ℕ) (left_since : D → ℕ → List ℕ → Type 0) where
  -- parts, one behind the other, each over the configuration in force
  pub part_behind : AreKnown seen → (before behind : StoreState → Type 0) → ((c : StoreState) → before c → behind c) → (config : StoreState)
      → behind config → (render page : Renders) (w v : World) (run more : List Happened) (a b c : Option (Journal D)) → page ≡ render
      → Runs render w run v → CrashesLeave seen moment left_since (RestoresFrontBy before render w run) a b
      → CrashesLeave seen moment left_since (RestoresFront config page v more) b c
      → CrashesLeave seen moment left_since (RestoresFrontBy behind render w (run ++ more)) a c
  part_behind all before behind wider config in_force render page w v run more a b c same runs one two =
      leaves_join seen moment left_since all (RestoresFrontBy behind render w (run ++ more)) a b c
      (leaves_weaker seen moment left_since (RestoresFrontBy before render w run) (RestoresFrontBy behind render w (run ++ more)) a b
      (longer_by before behind wider render w run more) one)
      (leaves_weaker seen moment left_since (RestoresFront config page v more) (RestoresFrontBy behind render w (run ++ more)) b c
      (λ file is. record {
        config = config;
        is_in_force = in_force;
        restores = front_on config render page w v run more file same runs is;
      }) two)

  -- the room of the journal is seen to, before the first turn
  pub room_in_force : (in_force : StoreState → Type 0) (config : StoreState) → in_force config → (render : Renders) (w : World)
      (run : List Happened) (a b : Option (Journal D)) → CrashesLeave seen moment left_since (Restores config w) a b
      → CrashesLeave seen moment left_since (RestoresFrontBy in_force render w run) a b
  room_in_force in_force config is_in_force render w run a b is =
      leaves_weaker seen moment left_since (Restores config w) (RestoresFrontBy in_force render w run) a b
      (λ file restores. record { config = config; is_in_force = is_in_force; restores = at_first config render w run file restores }) is
