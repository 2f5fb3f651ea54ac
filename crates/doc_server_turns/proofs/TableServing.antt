-- Serving the clients of a table, one behind the other.
use Rattle.std.proofs.Common.{◌≡◌, ◌≤◌, ◌+◌, ◌*◌, ◌==◌, ℕ, List, [], ◌∷◌, ◌++◌, Bool, true, false, cond, refl, sym, ap, ◌∙◌, subst, inl, arith, append-nil, eq-eqb}
use Rattle.std.specs.Prelude.{Contains, Option, Some, None, filter, not}
use Rattle.std.specs.FinMap as map
use Rattle.std.specs.Io.KnownBytes.{append_known}
use Rattle.std.proofs.lemmas.Bool.{eqb-true}
use Rattle.std.proofs.lemmas.List.Elements.{All-append, All-cons, All-head, All-nil, All-tail, Contains-append_left, Contains-append_right, filter-append}
use Rattle.std.proofs.lemmas.List.Filters.{sum_by-filter_both}
use Rattle.std.proofs.lemmas.List.Sums.{sum_by-append, sum_by-cons}
use Rattle.std.proofs.Math.Nat.{mul-add}
use Rattle.doc_hub.specs.Replies.{Renders}
use Rattle.doc_hub.specs.Runs.{Happened, Runs, nothing, events_on, is_on}
use Rattle.doc_hub.specs.StepLaws.{connection}
use Rattle.doc_hub.specs.Worlds.{World}
use Rattle.doc_hub.specs.RunParts.{served_by, AreOf, AreOfAny}
use Rattle.doc_hub.proofs.Elsewhere.{AreElsewhere, kept_elsewhere}
use Rattle.doc_hub.proofs.RunParts.{none_on, pushed_of, runs_join, sent_of}
use Rattle.doc_server_listen.specs.Costs.{IsWithin, Left, cost_by, cost_in, dear, dear_in, most_cost}
use Rattle.doc_server_network.specs.Networks.{Rests, RestsBut, Stays}
use Rattle.doc_server_network.proofs.Passing.{append_none}
use Rattle.doc_server_turns.specs.Hearing.{HearsAll}
use Rattle.doc_server_turns.specs.Servings.{Served, ServedAt, Serves, ServesAll}
use Rattle.doc_server_turns.specs.Parts.{times_among}
use Rattle.doc_server_turns.specs.Sharing.{SharesTurn}
use Rattle.doc_server_turns.specs.Visits.{AreEither}
use Rattle.doc_server_turns.specs.Wirings.{Peer, Table}
use Rattle.doc_server_turns.proofs.Hearing.{all_hear_join}
use Rattle.doc_server_turns.proofs.ServingSteps.{served_join}
use Rattle.doc_server_turns.proofs.Tables.{apart, get_other, get_same}
use Rattle.doc_server_turns.proofs.Visits.{either_join}
use Rattle.doc_server_turns.proofs.Wiring.{not_both}

abbrev pub IsOfAny : List ℕ → Happened → Type 0
IsOfAny ids h = (c : ℕ) × (served_by h.event ≡ Some c) × Contains ids c

abbrev IsApart : ℕ → Happened → Type 0
IsApart c h = (n : ℕ) × (served_by h.event ≡ Some n) × ((c == n) ≡ false)

-- the events of one connection are those of a list that has it, and elsewhere for any other
pub all_of : (ids : List ℕ) (c : ℕ) (run : List Happened) → Contains ids c → AreOf c run → AreOfAny ids run
all_of ids c [] among all = All-nil (IsOfAny ids)
all_of ids c (h ∷ run) among all =
    All-cons (IsOfAny ids) h run (c, All-head (λ x. served_by x.event ≡ Some c) h run all, among)
    (all_of ids c run among (All-tail (λ x. served_by x.event ≡ Some c) h run all))

pub all_off : (c n : ℕ) (run : List Happened) → (c == n) ≡ false → AreOf n run → AreElsewhere c run
all_off c n [] off all = All-nil (IsApart c)
all_off c n (h ∷ run) off all =
    All-cons (IsApart c) h run (n, All-head (λ x. served_by x.event ≡ Some n) h run all, off)
    (all_off c n run off (All-tail (λ x. served_by x.event ≡ Some n) h run all))

pub of_more : (ids more : List ℕ) (run : List Happened) → AreOfAny ids run → AreOfAny (ids ++ more) run
of_more ids more [] all = All-nil (IsOfAny (ids ++ more))
of_more ids more (h ∷ run) all =
    let now = All-head (IsOfAny ids) h run all in
    All-cons (IsOfAny (ids ++ more)) h run (now.0, now.1, Contains-append_left ids more now.0 now.2)
    (of_more ids more run (All-tail (IsOfAny ids) h run all))

pub of_before : (ids more : List ℕ) (run : List Happened) → AreOfAny more run → AreOfAny (ids ++ more) run
of_before ids more [] all = All-nil (IsOfAny (ids ++ more))
of_before ids more (h ∷ run) all =
    let now = All-head (IsOfAny more) h run all in
    All-cons (IsOfAny (ids ++ more)) h run (now.0, now.1, Contains-append_right ids more now.0 now.2)
    (of_before ids more run (All-tail (IsOfAny more) h run all))

pub first_among : (id : ℕ) → Contains (id ∷ []) id
first_among id = (0, omega arith, refl)

-- ---- a run elsewhere

idle_peer : (k : ℕ) (w v : World) (c d : Option (List ℕ)) (ended : Type 0) (run : List Happened) (p : Peer) → d ≡ c → events_on k run ≡ []
    → connection k v ≡ connection k w → Served k w v c d ended run p p
idle_peer k w v c d ended run p same none kept = record {
  takes = record {
    pending = sym (append-nil p.pending) ∙ ap (λ l. p.pending ++ l) (sym (ap sent_of none));
    input = ([], same ∙ sym (append_none c) ∙ ap (λ l. append_known c (l ++ [])) (sym (ap pushed_of none)), inl refl);
    opens = λ o. o;
    closed = λ shut. ap pushed_of none;
  };
  bound = inl (omega arith);
  closed = λ shut. (none, kept);
  ends = λ o shut. absurd (not_both p.is_open o shut);
}

pub idle : (k : ℕ) (w v : World) (c d : Option (List ℕ)) (ended : Type 0) (run : List Happened) (p : Option Peer) → d ≡ c → events_on k run ≡ []
    → connection k v ≡ connection k w → ServedAt k w v c d ended run p p
idle k w v c d ended run None same none kept = (same, none)
idle k w v c d ended run (Some p) same none kept = idle_peer k w v c d ended run p same none kept

-- nobody is served
abbrev pub serves_nobody : (render : Renders) (w : World) (ready : List ℕ) (came later : ℕ → Option (List ℕ)) (ended : ℕ → Type 0) (t : Table)
    → Rests came later → ServesAll render w w ready came later ended t t
serves_nobody render w ready came later ended t rests = record {
  run = [];
  runs = nothing w;
  own = All-nil (IsOfAny ready);
  each = λ k. idle k w w (came k) (later k) (ended k) [] (map.get t k) (rests k) refl refl;
}

-- ---- one client of all

module _ (render : Renders) (w v : World) (id : ℕ) (came later : ℕ → Option (List ℕ)) (ended : ℕ → Type 0) (t u : Table) (p q : Peer)
    (found : map.get t id ≡ Some p) (is : u ≡ map.insert t id q) (others : RestsBut id came later)
    (s : Serves render w v id (came id) (later id) (ended id) p q) where
  pub each_at : (k : ℕ) (b : Bool) → (k == id) ≡ b → ServedAt k w v (came k) (later k) (ended k) s.run (map.get t k) (map.get u k)
  each_at k true e =
      let same : k ≡ id = eqb-true k id e in
      subst (λ (x : Option Peer). ServedAt k w v (came k) (later k) (ended k) s.run x (map.get u k)) (sym (ap (map.get t) same ∙ found))
      (subst (λ (x : Option Peer). ServedAt k w v (came k) (later k) (ended k) s.run (Some p) x)
      (sym (ap (λ m. map.get m k) is ∙ get_same t id q k e))
      (subst (λ n. ServedAt n w v (came n) (later n) (ended n) s.run (Some p) (Some q)) (sym same) s.served))
  each_at k false e =
      let off : AreElsewhere k s.run = all_off k id s.run e s.own in
      subst (λ (x : Option Peer). ServedAt k w v (came k) (later k) (ended k) s.run (map.get t k) x)
      (sym (ap (λ m. map.get m k) is ∙ get_other t id q k e))
      (idle k w v (came k) (later k) (ended k) s.run (map.get t k) (others k (apart k id e)) (none_on k s.run off)
      (kept_elsewhere render k w v s.run s.runs off))

  abbrev pub serves_at : ServesAll render w v (id ∷ []) came later ended t u
  serves_at = record {
    run = s.run;
    runs = s.runs;
    own = all_of (id ∷ []) id s.run (first_among id) s.own;
    each = λ k. each_at k (k == id) refl;
  }

-- ---- one behind the other

pub served_at_join : (k : ℕ) (w v u : World) (c d e : Option (List ℕ)) (ended later : Type 0) (xs ys : List Happened) (p q r : Option Peer)
    → (ended → later) → ServedAt k w v c d ended xs p q → ServedAt k v u d e later ys q r → ServedAt k w u c e later (xs ++ ys) p r
served_at_join k w v u c d e ended later xs ys None None None stays a b =
    (b.0 ∙ a.0, filter-append (is_on k) xs ys ∙ ap (λ l. l ++ events_on k ys) a.1 ∙ b.1)
served_at_join k w v u c d e ended later xs ys None None (Some r) stays a b = b
served_at_join k w v u c d e ended later xs ys None (Some q) r stays a b = absurd a
served_at_join k w v u c d e ended later xs ys (Some p) None r stays a b = absurd a
served_at_join k w v u c d e ended later xs ys (Some p) (Some q) None stays a b = b
served_at_join k w v u c d e ended later xs ys (Some p) (Some q) (Some r) stays a b =
    served_join k w v u c d e ended later p q r xs ys stays a b

abbrev pub serves_all_join : (render page : Renders) (w v u : World) (ready more : List ℕ) (came mid later : ℕ → Option (List ℕ))
    (ended closed : ℕ → Type 0) (r s t : Table) → page ≡ render → Stays ended closed
    → ServesAll render w v ready came mid ended r s → ServesAll page v u more mid later closed s t
    → ServesAll render w u (ready ++ more) came later closed r t
serves_all_join render page w v u ready more came mid later ended closed r s t same stays a b =
    let runs : Runs render v b.run u = subst (λ x. Runs x v b.run u) same b.runs in record {
      run = a.run ++ b.run;
      runs = runs_join render w v u a.run b.run a.runs runs;
      own = All-append (IsOfAny (ready ++ more)) a.run b.run (of_more ready more a.run a.own) (of_before ready more b.run b.own);
      each = λ k.
          served_at_join k w v u (came k) (mid k) (later k) (ended k) (closed k) a.run b.run (map.get r k) (map.get s k) (map.get t k)
          (stays k) (a.each k) (b.each k);
    }

-- ---- what it costs

cost_join : (xs ys : List Happened) → cost_in (xs ++ ys) ≡ cost_in xs + cost_in ys
cost_join xs ys = sum_by-append (λ h. cost_by h.world h.event) xs ys

on_join : (c : ℕ) (xs ys : List Happened) → cost_in (events_on c (xs ++ ys)) ≡ cost_in (events_on c xs) + cost_in (events_on c ys)
on_join c xs ys = ap cost_in (filter-append (is_on c) xs ys) ∙ cost_join (events_on c xs) (events_on c ys)

part : (a b c : ℕ) → a + b ≡ c → a ≤ c
part a b c is = omega (arith, is)

fewer : (c : ℕ) (run : List Happened) → cost_in (events_on c run) ≤ cost_in run
fewer c run =
    part (cost_in (events_on c run)) (cost_in (filter (λ h. not (is_on c h)) run)) (cost_in run)
    (sum_by-filter_both (is_on c) (λ h. not (is_on c h)) (λ h. refl) (λ h. cost_by h.world h.event) run)

pub shares_none : (a b : Left) → b.dear ≡ a.dear → (ready : List ℕ) → SharesTurn ready [] a b
shares_none a b same ready = record { each = λ c. omega arith; all = omega (arith, same) }

times_one : (id c : ℕ) → times_among (id ∷ []) c ≡ cond (id == c) 1 0
times_one id c = alone (times_among (id ∷ []) c) (cond (id == c) 1 0) (sum_by-cons (λ n. cond (n == c) 1 0) id [])
  where
    alone : (s a : ℕ) → s ≡ a + 0 → s ≡ a
    alone s a sums = omega (arith, sums)

once : (few n left most times : ℕ) → few ≤ n → n + left ≤ most → times ≡ 1 → few ≤ most * times
once few n left most times le within is = subst (λ t. few ≤ most * t) (sym is) (omega (arith, le, within))

no_cost : (n m : ℕ) → n ≡ 0 → n ≤ m
no_cost n m is = omega (arith, is)

flip : (c id : ℕ) → (id == c) ≡ false → (c == id) ≡ false
flip c id off = by (c == id) refl
  where
    by : (b : Bool) → (c == id) ≡ b → (c == id) ≡ false
    by true e = absurd (not_both (id == c) (eq-eqb id c (sym (eqb-true c id e))) off)
    by false e = e

-- the run of one client, which begins with a whole part
pub shares_one : (id : ℕ) (run : List Happened) (a start b : Left) → AreOf id run → start ≡ record a { own = most_cost }
    → IsWithin run start b → SharesTurn (id ∷ []) run a b
shares_one id run a start b own is takes = record {
  each = λ c. by c (id == c) refl;
  all = subst (λ n. dear_in run + b.dear ≤ n) (ap (λ (l : Left). l.dear) is) takes.1;
}
  where
    whole : cost_in run + b.own ≤ most_cost
    whole = subst (λ n. cost_in run + b.own ≤ n) (ap (λ (l : Left). l.own) is) takes.0

    by : (c : ℕ) (t : Bool) → (id == c) ≡ t → cost_in (events_on c run) ≤ most_cost * times_among (id ∷ []) c
    by c true same =
        once (cost_in (events_on c run)) (cost_in run) b.own most_cost (times_among (id ∷ []) c) (fewer c run) whole
        (times_one id c ∙ ap (λ t. cond t 1 0) same)
    by c false other =
        no_cost (cost_in (events_on c run)) (most_cost * times_among (id ∷ []) c)
        (ap cost_in (none_on c run (all_off c id run (flip c id other) own)))

both : (m n k t x y z : ℕ) → z ≡ x + y → t ≡ n + k → x ≤ m * n → y ≤ m * k → z ≤ m * t
both m n k t x y z sums times one two =
    let apart = ap (λ l. m * l) times ∙ mul-add m n k in
    within x y z (m * n) (m * k) (m * t) sums apart one two
  where
    within : (x y z a b c : ℕ) → z ≡ x + y → c ≡ a + b → x ≤ a → y ≤ b → z ≤ c
    within x y z a b c sums apart one two = omega (arith, sums, apart, one, two)

together : (a b c m n k : ℕ) → k ≡ m + n → m + b ≤ a → n + c ≤ b → k + c ≤ a
together a b c m n k is one two = omega (arith, is, one, two)

pub shares_join : (ready more : List ℕ) (xs ys : List Happened) (a b c : Left) → SharesTurn ready xs a b → SharesTurn more ys b c
    → SharesTurn (ready ++ more) (xs ++ ys) a c
shares_join ready more xs ys a b c one two = record {
  each = λ k. both most_cost (times_among ready k) (times_among more k) (times_among (ready ++ more) k)
      (cost_in (events_on k xs)) (cost_in (events_on k ys)) (cost_in (events_on k (xs ++ ys))) (on_join k xs ys)
      (sum_by-append (λ n. cond (n == k) 1 0) ready more) (one.each k) (two.each k);
  all = together a.dear b.dear c.dear (dear_in xs) (dear_in ys) (dear_in (xs ++ ys))
      (sum_by-append (λ h. dear (cost_by h.world h.event)) xs ys) one.all two.all;
}

-- ---- clients, with what they cost

abbrev pub AllSharing : Renders → World → World → List ℕ → (ℕ → Option (List ℕ)) → (ℕ → Option (List ℕ)) → (ℕ → Type 0) → Table → Table → Left
    → Left → Bool → Type 0
AllSharing render w v ready came later ended s t l m follows =
    (a : ServesAll render w v ready came later ended s t) × SharesTurn ready a.run l m × HearsAll ready a.run s t
    × (follows ≡ true → AreEither ready a.run)

pub all_sharing_join : (render page : Renders) (w v u : World) (ready more : List ℕ) (came mid later : ℕ → Option (List ℕ))
    (ended closed : ℕ → Type 0) (r s t : Table) (l m n : Left) (follows : Bool) → page ≡ render → Stays ended closed
    → AllSharing render w v ready came mid ended r s l m follows → AllSharing page v u more mid later closed s t m n follows
    → AllSharing render w u (ready ++ more) came later closed r t l n follows
all_sharing_join render page w v u ready more came mid later ended closed r s t l m n follows same stays a b = (
  serves_all_join render page w v u ready more came mid later ended closed r s t same stays a.0 b.0,
  shares_join ready more a.0.run b.0.run l m n a.1 b.1,
  all_hear_join ready more a.0.run b.0.run r s t a.2 b.2,
  λ is. either_join ready more a.0.run b.0.run (a.3 is) (b.3 is),
)
