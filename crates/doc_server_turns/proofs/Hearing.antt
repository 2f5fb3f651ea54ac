-- Who is heard, part by part.
use Rattle.std.proofs.Common.{◌≡◌, ◌==◌, ◌<◌, ◌++◌, ℕ, zero, suc, List, [], ◌∷◌, Bool, true, false, not, ◌||◌, length, inl, inr, refl, sym, ap, subst, ◌∙◌, arith}
use Rattle.std.specs.Prelude.{◌⊎◌, Contains, Option, Some, None}
use Rattle.std.specs.FinMap as map
use Rattle.std.proofs.lemmas.Bool.{eqb-true}
use Rattle.std.proofs.lemmas.List.Elements.{Contains-append_cases, filter-append}
use Rattle.doc_hub.specs.Runs.{Happened, events_on, is_on}
use Rattle.doc_hub.specs.RunParts.{Gave}
use Rattle.doc_hub_events.specs.declared.outcome.Outcome.{Outcome}
use Rattle.doc_server_turns.specs.Hearing.{SparesAll, HeardAt, Hears, HearsAll, HearsAt, IsReader, Spares, SparesAt, WasHeard}
use Rattle.doc_server_turns.specs.Parts.{takes_part_at}
use Rattle.doc_server_turns.specs.Wirings.{Peer, Table}
use Rattle.doc_server_turns.proofs.Tables.{get_other, get_same}

-- ---- events

some_in : {X : Type 0} (xs : List X) (x : X) → Contains xs x → xs ≡ [] → ⊥
some_in xs x among none = omega (arith, among.1, ap length none)

pub heard_by : (P : Outcome → Type 0) (k : ℕ) (run : List Happened) (q : Peer) → Gave P k run → WasHeard k run q
heard_by P k run q gave = inr (some_in (events_on k run) gave.0 gave.1)

pub none_of : {X : Type 0} (xs ys : List X) → xs ++ ys ≡ [] → (xs ≡ []) × (ys ≡ [])
none_of [] ys e = (refl, e)
none_of (x ∷ xs) ys e = absurd (omega (arith, ap length e))

pub heard_first : (k : ℕ) (xs ys : List Happened) → (events_on k xs ≡ [] → ⊥) → events_on k (xs ++ ys) ≡ [] → ⊥
heard_first k xs ys some e = some ((none_of (events_on k xs) (events_on k ys) (sym (filter-append (is_on k) xs ys) ∙ e)).0)

pub heard_last : (k : ℕ) (xs ys : List Happened) → (events_on k ys ≡ [] → ⊥) → events_on k (xs ++ ys) ≡ [] → ⊥
heard_last k xs ys some e = some ((none_of (events_on k xs) (events_on k ys) (sym (filter-append (is_on k) xs ys) ∙ e)).1)

pub still_heard : (k : ℕ) (xs ys : List Happened) (q : Peer) → WasHeard k ys q → WasHeard k (xs ++ ys) q
still_heard k xs ys q (inl rests) = inl rests
still_heard k xs ys q (inr some) = inr (heard_last k xs ys some)

-- whoever was heard is, whatever comes behind it
pub heard_on : (k : ℕ) (xs ys : List Happened) (q r : Peer) → WasHeard k xs q → (q.rests ≡ true → WasHeard k ys r) → WasHeard k (xs ++ ys) r
heard_on k xs ys q r (inl rests) keeps = still_heard k xs ys r (keeps rests)
heard_on k xs ys q r (inr some) keeps = inr (heard_first k xs ys some)

-- ---- one client

pub hears_itself : (k : ℕ) (p : Peer) → Hears k [] p p
hears_itself k p = record { resting = λ r. inl r; reading = λ is. inl refl; waits = λ w. w }

hears_join : (k : ℕ) (xs ys : List Happened) (p q r : Peer) → Hears k xs p q → Hears k ys q r → Hears k (xs ++ ys) p r
hears_join k xs ys p q r a b = record {
  resting = λ rests. heard_on k xs ys q r (a.resting rests) b.resting;
  reading = λ is. by is (a.reading is);
  waits = λ w. b.waits (a.waits w);
}
  where
    same : IsReader p → q ≡ p → (r ≡ q) ⊎ WasHeard k ys r → (r ≡ p) ⊎ WasHeard k (xs ++ ys) r
    same is e (inl f) = inl (f ∙ e)
    same is e (inr heard) = inr (still_heard k xs ys r heard)

    by : IsReader p → (q ≡ p) ⊎ WasHeard k xs q → (r ≡ p) ⊎ WasHeard k (xs ++ ys) r
    by is (inl e) = same is e (b.reading (subst IsReader (sym e) is))
    by is (inr heard) = inr (heard_on k xs ys q r heard b.resting)

hears_at_itself : (k : ℕ) (run : List Happened) (o : Option Peer) → HearsAt k run o o
hears_at_itself k run None = tt
hears_at_itself k run (Some p) = record { resting = λ r. inl r; reading = λ is. inl refl; waits = λ w. w }

hears_at_join : (k : ℕ) (xs ys : List Happened) (p q r : Option Peer) → HearsAt k xs p q → HearsAt k ys q r → HearsAt k (xs ++ ys) p r
hears_at_join k xs ys None None None a b = tt
hears_at_join k xs ys None None (Some r) a b = b
hears_at_join k xs ys None (Some q) r a b = absurd a
hears_at_join k xs ys (Some p) None r a b = absurd a
hears_at_join k xs ys (Some p) (Some q) None a b = b
hears_at_join k xs ys (Some p) (Some q) (Some r) a b = hears_join k xs ys p q r a b

heard_before : (k : ℕ) (xs ys : List Happened) (p q r : Option Peer) → HeardAt k xs p q → HearsAt k xs p q → HearsAt k ys q r
    → HeardAt k (xs ++ ys) p r
heard_before k xs ys None q r heard a b = tt
heard_before k xs ys (Some p) None r heard a b = absurd a
heard_before k xs ys (Some p) (Some q) None heard a b = absurd b
heard_before k xs ys (Some p) (Some q) (Some r) heard a b = λ is. heard_on k xs ys q r (heard is) b.resting

heard_behind : (k : ℕ) (xs ys : List Happened) (p q r : Option Peer) → HearsAt k xs p q → HeardAt k ys q r → HearsAt k ys q r
    → HeardAt k (xs ++ ys) p r
heard_behind k xs ys None q r a heard b = tt
heard_behind k xs ys (Some p) None r a heard b = absurd a
heard_behind k xs ys (Some p) (Some q) None a heard b = absurd b
heard_behind k xs ys (Some p) (Some q) (Some r) a heard b = λ is. by is (a.reading is)
  where
    by : IsReader p → (q ≡ p) ⊎ WasHeard k xs q → WasHeard k (xs ++ ys) r
    by is (inl e) = still_heard k xs ys r (heard (subst IsReader (sym e) is))
    by is (inr was) = heard_on k xs ys q r was b.resting

-- ---- tables

pub all_hear_nothing : (t : Table) → HearsAll [] [] t t
all_hear_nothing t = record {
  any = λ k. hears_at_itself k [] (map.get t k);
  each = λ k among. absurd (omega (arith, among.1));
}

pub only : (id k : ℕ) → Contains (id ∷ []) k → k ≡ id
only id k (i, lt, is) = by i lt is
  where
    by : (i : ℕ) → i < length (id ∷ []) → Rattle.std.specs.Prelude.slice_index_or (id ∷ []) i k ≡ k → k ≡ id
    by zero lt is = sym is
    by (suc i) lt is = absurd (omega (arith, lt))

pub nobody_hears : (id : ℕ) (t : Table) → map.get t id ≡ None → HearsAll (id ∷ []) [] t t
nobody_hears id t none = record {
  any = λ k. hears_at_itself k [] (map.get t k);
  each = λ k among.
      subst (λ o. HeardAt k [] o (map.get t k)) (sym (ap (map.get t) (only id k among) ∙ none)) tt;
}

pub one_hears : (id : ℕ) (run : List Happened) (t u : Table) (p q : Peer) → map.get t id ≡ Some p → u ≡ map.insert t id q
    → Hears id run p q → (IsReader p → WasHeard id run q) → HearsAll (id ∷ []) run t u
one_hears id run t u p q found is hears heard = record {
  any = λ k. at k (k == id) refl;
  each = λ k among. there k (only id k among);
}
  where
    here : map.get u id ≡ Some q
    here = ap (λ m. map.get m id) is ∙ get_same t id q id (Rattle.std.proofs.Common.eq-eqb id id refl)

    at : (k : ℕ) (b : Bool) → (k == id) ≡ b → HearsAt k run (map.get t k) (map.get u k)
    at k true e =
        subst (λ n. HearsAt n run (map.get t n) (map.get u n)) (sym (eqb-true k id e))
        (subst (λ o. HearsAt id run o (map.get u id)) (sym found) (subst (λ o. HearsAt id run (Some p) o) (sym here) hears))
    at k false e =
        subst (λ o. HearsAt k run (map.get t k) o) (sym (ap (λ m. map.get m k) is ∙ get_other t id q k e))
        (hears_at_itself k run (map.get t k))

    there : (k : ℕ) → k ≡ id → HeardAt k run (map.get t k) (map.get u k)
    there k same =
        subst (λ n. HeardAt n run (map.get t n) (map.get u n)) (sym same)
        (subst (λ o. HeardAt id run o (map.get u id)) (sym found) (subst (λ o. HeardAt id run (Some p) o) (sym here) heard))

pub all_hear_join : (ready more : List ℕ) (xs ys : List Happened) (t u v : Table) → HearsAll ready xs t u → HearsAll more ys u v
    → HearsAll (ready ++ more) (xs ++ ys) t v
all_hear_join ready more xs ys t u v a b = record {
  any = λ k. hears_at_join k xs ys (map.get t k) (map.get u k) (map.get v k) (a.any k) (b.any k);
  each = λ k among. by k (Contains-append_cases ready more k among);
}
  where
    by : (k : ℕ) → Contains ready k ⊎ Contains more k → HeardAt k (xs ++ ys) (map.get t k) (map.get v k)
    by k (inl among) = heard_before k xs ys (map.get t k) (map.get u k) (map.get v k) (a.each k among) (a.any k) (b.any k)
    by k (inr among) = heard_behind k xs ys (map.get t k) (map.get u k) (map.get v k) (a.any k) (b.each k among) (b.any k)

-- ---- who stays as before

spares_itself : (o : Option Peer) → SparesAt o o
spares_itself None = tt
spares_itself (Some p) = record { resting = λ r. refl; reading = λ r. refl; over = λ r. refl }

pub spares_nobody : (t : Table) → SparesAll t t
spares_nobody t = λ k. spares_itself (map.get t k)

pub spares_at : (t u : Table) (id : ℕ) (p q : Peer) → map.get t id ≡ Some p → u ≡ map.insert t id q → Spares p q → SparesAll t u
spares_at t u id p q found is own = λ k. by k (k == id) refl
  where
    by : (k : ℕ) (b : Bool) → (k == id) ≡ b → SparesAt (map.get t k) (map.get u k)
    by k true e =
        subst (λ (x : Option Peer). SparesAt x (map.get u k)) (sym (ap (map.get t) (eqb-true k id e) ∙ found))
        (subst (λ (x : Option Peer). SparesAt (Some p) x) (sym (ap (λ m. map.get m k) is ∙ get_same t id q k e)) own)
    by k false e =
        subst (λ (x : Option Peer). SparesAt (map.get t k) x) (sym (ap (λ m. map.get m k) is ∙ get_other t id q k e))
        (spares_itself (map.get t k))

spares_one_join : (p q r : Option Peer) → SparesAt p q → SparesAt q r → SparesAt p r
spares_one_join None None None a b = b
spares_one_join None None (Some r) a b = b
spares_one_join None (Some q) r a b = absurd a
spares_one_join (Some p) None r a b = absurd a
spares_one_join (Some p) (Some q) None a b = b
spares_one_join (Some p) (Some q) (Some r) a b = record {
  resting = λ is. let e = a.resting is in b.resting (ap (λ (x : Peer). x.rests) e ∙ is) ∙ e;
  reading = λ is. let e = a.reading is in b.reading (ap (λ (x : Peer). x.reads) e ∙ is) ∙ ap (λ (x : Peer). record x { times = r.times }) e;
  over = λ is. let e = a.over is in b.over (ap (λ (x : Peer). x.is_over) e ∙ is) ∙ e;
}

pub spares_join : (t u v : Table) → SparesAll t u → SparesAll u v → SparesAll t v
spares_join t u v a b = λ k. spares_one_join (map.get t k) (map.get u k) (map.get v k) (a k) (b k)

-- ---- a turn

heard_spared : (k : ℕ) (run : List Happened) (o q r : Option Peer) → HeardAt k run o q → SparesAt q r → HeardAt k run o r
heard_spared k run None q r heard behind = tt
heard_spared k run (Some o) None None heard behind = tt
heard_spared k run (Some o) None (Some r) heard behind = absurd behind
heard_spared k run (Some o) (Some q) None heard behind = absurd behind
heard_spared k run (Some o) (Some q) (Some r) heard behind = λ is. by (heard is)
  where
    by : WasHeard k run q → WasHeard k run r
    by (inl rests) = inl (ap (λ (x : Peer). x.rests) (behind.resting rests) ∙ rests)
    by (inr some) = inr some

spared_heard : (k : ℕ) (run : List Happened) (o p q : Option Peer) → SparesAt o p → HeardAt k run p q → HeardAt k run o q
spared_heard k run None p q before heard = tt
spared_heard k run (Some o) None q before heard = absurd before
spared_heard k run (Some o) (Some p) None before heard = tt
spared_heard k run (Some o) (Some p) (Some q) before heard = λ is. heard (subst IsReader (sym (before.reading is.0)) is)

abbrev pub Heard : List ℕ → List Happened → Table → Table → Type 0
Heard ready run t u = (k : ℕ) → Contains ready k → HeardAt k run (map.get t k) (map.get u k)

pub heard_begun : (ready : List ℕ) (run : List Happened) (s t u : Table) → SparesAll s t → HearsAll ready run t u → Heard ready run s u
heard_begun ready run s t u before hears = λ k among.
    spared_heard k run (map.get s k) (map.get t k) (map.get u k) (before k) (hears.each k among)

pub heard_ended : (ready : List ℕ) (run : List Happened) (s t u : Table) → Heard ready run s t → SparesAll t u → Heard ready run s u
heard_ended ready run s t u heard behind = λ k among.
    heard_spared k run (map.get s k) (map.get t k) (map.get u k) (heard k among) (behind k)

pub heard_longer : (k : ℕ) (xs ys : List Happened) (p q : Option Peer) → HeardAt k xs p q → HeardAt k (xs ++ ys) p q
heard_longer k xs ys None q heard = tt
heard_longer k xs ys (Some p) None heard = tt
heard_longer k xs ys (Some p) (Some q) heard = λ is. heard_on k xs ys q q (heard is) (λ rests. inl rests)

-- whoever takes part stands in the list, and so whoever reads was heard
pub all_heard : (ready : List ℕ) (run : List Happened) (t u : Table)
    → ((k : ℕ) → takes_part_at (map.get t k) ≡ true → Contains ready k) → Heard ready run t u
    → (k : ℕ) → HeardAt k run (map.get t k) (map.get u k)
all_heard ready run t u listed heard k = by (map.get t k) (map.get u k) (λ part. heard k (listed k part))
  where
    by : (o q : Option Peer) → (takes_part_at o ≡ true → HeardAt k run o q) → HeardAt k run o q
    by None q told = tt
    by (Some p) None told = tt
    by (Some p) (Some q) told = λ is. told is.1 is
