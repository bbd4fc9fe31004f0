-- One turn that halts: what can be its stop, from the three stops of too many or too few bytes and the refusals of header and body; and that what an
-- open turn settles stays, by the bytes that the tests look at.
use Prim.Native.Nat.{ℕ, ◌+◌, ◌-◌, ◌≤◌, ◌<◌}
use mathlib.Core.Path.{◌≡◌, refl, sym, ap, ◌∙◌, subst}
use mathlib.Core.Logic.{⊎_elim}
use mathlib.Core.List.{List, ◌++◌}
use mathlib.Core.Bool.{Bool, true, false, false≢true}
use native.Mathlib.Omega.{arith}
use lib.Dec.{eqb, leb, ltb}
use lib.ListN.{length, take, drop, length-append, get_or-append}
use lib.Seq.{take-append-le, drop-append-le}
use borrow.Author.Tests.{eq-eqb, ne_eqb, leb-true, leb-false, ltb-true, ltb-false}
use Rattle.std.specs.Prelude.{Ok, Err}
use Rattle.words.specs.Tests.{pick}
use Rattle.words.specs.Words.{byte_at, two_at, four_at}
use Rattle.words.specs.declared.Refusal.{Refusal}
use Rattle.words.proofs.Laws.{cases}
use Rattle.plan.specs.Plan.{total_of}
use Rattle.plan.specs.declared.Codes.{Codes}
use Rattle.plan.specs.declared.Plan.{Plan}
use Rattle.plan.specs.declared.Due.{Due}
use Rattle.bodies.specs.Bodies.{body_of}
use Rattle.bodies.specs.Named.{plan_of}
use Rattle.walk.specs.State.{next_due}
use Rattle.headers.specs.Header.{codes_are, header_tests, header_of}
use Rattle.turns.specs.Turn.{refused_at, on_fine, judge_of, ended_of, short_of, Turn}
use Rattle.walk.specs.Walk.{turn_of, next_of}
use Rattle.walk.specs.declared.State.{State}
use Rattle.turns.specs.declared.Stop.{Stop}
use Rattle.turns.specs.declared.Stop.TheVariants.{Wait, Pause, Complete, Refused}
use Rattle.turns.proofs.TurnLaws.{pass_long, judge_ended, judge_twelve, judge_fault, judge_part, judge_body}
use Rattle.verdicts.specs.Tests.{Verdict}

-- ---- the stops of a turn

pub pass≢halt : {x : Stop} → ◌≡◌ {A = Turn} (Ok tt) (Err x) → ⊥
pass≢halt e = cc

pub halt_same : {x y : Stop} → ◌≡◌ {A = Turn} (Err x) (Err y) → x ≡ y
halt_same e = cc

module _ (Q : Stop → Type 0) (o a : ℕ) (s₁ s₂ s₃ : Stop) (q₁ : Q s₁) (q₂ : Q s₂) (q₃ : Q s₃) (x : Stop) where
  halts : (i j k : Bool) (h t : Verdict) → ((y : Refusal) → h ≡ Err y → Q (refused_at o a y.number y.place))
      → ((y : Refusal) → t ≡ Err y → Q (refused_at o a y.number y.place))
      → pick i (Err s₁) (pick j (Err s₂) (on_fine h o a (pick k (Err s₃) (on_fine t o a (Ok tt))))) ≡ Err x → Q x
  halts true j k h t qh qt e = subst Q (halt_same e) q₁
  halts false true k h t qh qt e = subst Q (halt_same e) q₂
  halts false false k (Err y) t qh qt e = subst Q (halt_same e) (qh y refl)
  halts false false true (Ok u) t qh qt e = subst Q (halt_same e) q₃
  halts false false false (Ok u) (Err y) qh qt e = subst Q (halt_same e) (qt y refl)
  halts false false false (Ok u) (Ok v) qh qt e = absurd (pass≢halt e)

-- a stop of too many or too few bytes
ended_is : (Q : Stop → Type 0) (o a n : ℕ) (c : Bool) → Q (pick c Complete (Wait 0)) → Q (refused_at o a 9 0) → Q (ended_of o a n c)
unfolding ended_of
ended_is Q o a n c p q = go (eqb n 0)
  where
    go : (z : Bool) → Q (pick z (pick c Complete (Wait 0)) (refused_at o a 9 0))
    go true = p
    go false = q

short_is : (Q : Stop → Type 0) (o a : ℕ) (c : Bool) (n : ℕ) → Q (Wait n) → Q (refused_at o a 2 0) → Q (short_of o a c n)
unfolding short_of
short_is Q o a true n p q = q
short_is Q o a false n p q = p

module _ (Q : Stop → Type 0) (st : State) (b : List ℕ) (c : Bool) (x : Stop) where
  -- a halting turn's stop has the property Q where each of the stops that it can be has it
  pub halt_of : Q (pick c Complete (Wait 0)) → ((n : ℕ) → Q (Wait n)) → Q (refused_at (st.passed + 1) (next_due st).start 9 0)
      → Q (refused_at (st.passed + 1) (next_due st).start 2 0)
      → ((y : Refusal) → header_of (st.passed + 1) (next_due st).codes (next_due st).length b ≡ Err y
      → Q (refused_at (st.passed + 1) (next_due st).start y.number y.place))
      → ((y : Refusal) → body_of st.kind (next_due st).run st.plan st.passed (take (next_due st).length b) ≡ Err y
      → Q (refused_at (st.passed + 1) (next_due st).start y.number y.place))
      → turn_of st b c ≡ Err x → Q x
  unfolding judge_of
  halt_of qc qw q9 q2 qh qb e =
      let o : ℕ = st.passed + 1 in
      let a : ℕ = (next_due st).start in
      halts Q (st.passed + 1) (next_due st).start (ended_of o a (length b) c) (short_of o a c (12 - length b))
      (short_of o a c ((next_due st).length - length b))
      (ended_is Q o a (length b) c qc q9) (short_is Q o a c (12 - length b) (qw (12 - length b)) q2)
      (short_is Q o a c ((next_due st).length - length b) (qw ((next_due st).length - length b)) q2) x
      (leb (total_of st.kind st.plan) st.passed) (ltb (length b) 12) (ltb (length b) (next_due st).length)
      (header_of o (next_due st).codes (next_due st).length b)
      (body_of st.kind (next_due st).run st.plan st.passed (take (next_due st).length b)) qh qb e

  pub halt_is : Q (pick c Complete (Wait 0)) → ((n : ℕ) → Q (Wait n)) → ((n p : ℕ) → Q (refused_at (st.passed + 1) (next_due st).start n p))
      → turn_of st b c ≡ Err x → Q x
  halt_is qc qw qr e = halt_of qc qw (qr 9 0) (qr 2 0) (λ y h. qr y.number y.place) (λ y h. qr y.number y.place) e

pub wait≢pause : {n : ℕ} → Wait n ≡ Pause → ⊥
wait≢pause e = cc

pub wait≢complete : {n : ℕ} → Wait n ≡ Complete → ⊥
wait≢complete e = cc

pub wait≢refused : {n : ℕ} {x : Refusal} → Wait n ≡ Refused x → ⊥
wait≢refused e = cc

pub complete≢pause : Complete ≡ Pause → ⊥
complete≢pause e = cc

pub complete≢refused : {x : Refusal} → Complete ≡ Refused x → ⊥
complete≢refused e = cc

pub pause≢complete : Pause ≡ Complete → ⊥
pause≢complete e = cc

pub pause≢refused : {x : Refusal} → Pause ≡ Refused x → ⊥
pause≢refused e = cc

pub refused≢pause : {x : Refusal} → Refused x ≡ Pause → ⊥
refused≢pause e = cc

pub refused≢complete : {x : Refusal} → Refused x ≡ Complete → ⊥
refused≢complete e = cc

pub refused_same : {x y : Refusal} → Refused x ≡ Refused y → x ≡ y
refused_same e = cc

module _ (st : State) (b : List ℕ) where
  -- a turn never pauses
  pub never_pause : (c : Bool) (x : Stop) → turn_of st b c ≡ Err x → x ≡ Pause → ⊥
  never_pause c x = halt_is (λ y. y ≡ Pause → ⊥) st b c x (closing c) (λ n. wait≢pause) (λ n p. refused≢pause)
    where
      closing : (c : Bool) → pick c Complete (Wait 0) ≡ Pause → ⊥
      closing true = complete≢pause
      closing false = wait≢pause

  -- an open turn does not say complete
  pub open_turn : (x : Stop) → turn_of st b false ≡ Err x → x ≡ Complete → ⊥
  open_turn x = halt_is (λ y. y ≡ Complete → ⊥) st b false x wait≢complete (λ n. wait≢complete) (λ n p. refused≢complete)

  -- a turn's refusal is of the next record
  pub turn_ordinal : (c : Bool) (x : Stop) → turn_of st b c ≡ Err x → (y : Refusal) → x ≡ Refused y → y.«record» ≡ st.passed + 1
  turn_ordinal c x =
      halt_is (λ z. (y : Refusal) → z ≡ Refused y → y.«record» ≡ st.passed + 1) st b c x (closing c) (λ n y e. absurd (wait≢refused e))
      (λ n p y e. ap (λ (r : Refusal). r.«record») (sym (refused_same e)))
    where
      closing : (c : Bool) (y : Refusal) → pick c Complete (Wait 0) ≡ Refused y → y.«record» ≡ st.passed + 1
      closing true y e = absurd (complete≢refused e)
      closing false y e = absurd (wait≢refused e)

-- ---- what an open turn settles stays

-- whether a turn has settled the record: it passes or is refused
abbrev pub settled : Turn → Bool
settled (Ok u) = true
settled (Err (Refused x)) = true
settled (Err (Wait n)) = false
settled (Err Pause) = false
settled (Err Complete) = false

-- the header is the first twelve bytes
module _ (b ys : List ℕ) where
  byte_front : (i : ℕ) → i < length b → byte_at (b ++ ys) i ≡ byte_at b i
  byte_front i h = get_or-append b ys 0 i h

  four_front : (i : ℕ) → i + 4 ≤ length b → four_at (b ++ ys) i ≡ four_at b i
  unfolding four_at two_at
  four_front i h =
      rw (byte_front i (omega arith), byte_front (i + 1) (omega arith), byte_front (i + 2) (omega arith), byte_front (i + 2 + 1) (omega arith))

  module _ (h : 12 ≤ length b) where
    codes_front : (c : Codes) → codes_are (b ++ ys) c ≡ codes_are b c
    unfolding codes_are
    codes_front c = rw (byte_front 4 (omega arith), byte_front 5 (omega arith), byte_front 6 (omega arith), byte_front 7 (omega arith))

    pub header_front : (o : ℕ) (c : Codes) (l : ℕ) → header_of o c l (b ++ ys) ≡ header_of o c l b
    unfolding header_of header_tests
    header_front o c l = rw (four_front 0 (omega arith), four_front 8 (omega arith), codes_front c)

ended_left : (o a n : ℕ) (c : Bool) → (n ≡ 0 → ⊥) → ended_of o a n c ≡ refused_at o a 9 0
unfolding ended_of
ended_left o a n c h = simp (ne_eqb n 0 h)

ended_none : (o a n : ℕ) → n ≡ 0 → ended_of o a n false ≡ Wait 0
unfolding ended_of
ended_none o a n h = simp (eq-eqb n 0 h)

short_open : (o a n : ℕ) → short_of o a false n ≡ Wait n
unfolding short_of
short_open o a n = refl

module _ (kind : ℕ) (p : Plan) (k : ℕ) (s : Due) (b ys : List ℕ) (c : Bool) (e : settled (judge_of kind p k s b false) ≡ true) where
  longer : length b ≤ length (b ++ ys)
  longer = omega (arith, length-append b ys)

  unsettled : (n : ℕ) → judge_of kind p k s b false ≡ Err (Wait n) → ⊥
  unsettled n h = false≢true (sym (ap settled h) ∙ e)

  over : total_of kind p ≤ k → judge_of kind p k s (b ++ ys) c ≡ judge_of kind p k s b false
  over h =
      let some : length b ≡ 0 → ⊥ = λ z. unsettled 0 (judge_ended kind p k s b false h ∙ ap Err (ended_none s.ordinal s.start (length b) z)) in
      let more : length (b ++ ys) ≡ 0 → ⊥ = λ z. some (omega (arith, longer)) in
      judge_ended kind p k s (b ++ ys) c h
      ∙ ap Err (ended_left s.ordinal s.start (length (b ++ ys)) c more ∙ sym (ended_left s.ordinal s.start (length b) false some))
      ∙ sym (judge_ended kind p k s b false h)

  module _ (going : k < total_of kind p) (twelve : 12 ≤ length b) where
    twelve_more : 12 ≤ length (b ++ ys)
    twelve_more = omega (arith, longer)

    heads : header_of s.ordinal s.codes s.length (b ++ ys) ≡ header_of s.ordinal s.codes s.length b
    heads = header_front b ys twelve s.ordinal s.codes s.length

    by_header : (v : Verdict) → header_of s.ordinal s.codes s.length b ≡ v → judge_of kind p k s (b ++ ys) c ≡ judge_of kind p k s b false
    by_header (Err x) q =
        judge_fault kind p k s (b ++ ys) c going twelve_more x (heads ∙ q)
        ∙ sym (judge_fault kind p k s b false going twelve x q)
    by_header (Ok u) q = ⊎_elim part whole (cases (ltb (length b) s.length))
      where
        part : ltb (length b) s.length ≡ true → judge_of kind p k s (b ++ ys) c ≡ judge_of kind p k s b false
        part z =
            absurd
            (unsettled (s.length - length b)
            (judge_part kind p k s b false going twelve q (ltb-true _ _ z) ∙ ap Err (short_open s.ordinal s.start (s.length - length b))))

        whole : ltb (length b) s.length ≡ false → judge_of kind p k s (b ++ ys) c ≡ judge_of kind p k s b false
        whole z =
            let l : s.length ≤ length b = ltb-false (length b) s.length z in
            judge_body kind p k s (b ++ ys) c going twelve_more (heads ∙ q) (omega (arith, longer))
            ∙ ap (λ (r : List ℕ). on_fine (body_of kind s.run p k r) s.ordinal s.start (Ok tt)) (take-append-le s.length b ys l)
            ∙ sym (judge_body kind p k s b false going twelve q l)

  judge_stays : judge_of kind p k s (b ++ ys) c ≡ judge_of kind p k s b false
  judge_stays =
      ⊎_elim (λ z. over (leb-true _ _ z))
      (λ z.
      let going : k < total_of kind p = leb-false _ _ z in
      ⊎_elim
      (λ y.
      absurd
      (unsettled (12 - length b) (judge_twelve kind p k s b false going (ltb-true _ _ y) ∙ ap Err (short_open s.ordinal s.start (12 - length b)))))
      (λ y. by_header going (ltb-false (length b) 12 y) _ refl) (cases (ltb (length b) 12)))
      (cases (leb (total_of kind p) k))

-- a record that passes lies within the bytes
pub turn_room : (st : State) (b : List ℕ) (c : Bool) → turn_of st b c ≡ Ok tt → (next_due st).length ≤ length b
turn_room st b c e = pass_long st.kind st.plan st.passed (next_due st) b c e

module _ (st : State) (b ys : List ℕ) where
  -- one turn: a pass and a refusal by an open turn are the same for any further bytes, open or closed
  pub turn_stays : (c : Bool) → settled (turn_of st b false) ≡ true → turn_of st (b ++ ys) c ≡ turn_of st b false
  turn_stays c e = judge_stays st.kind st.plan st.passed (next_due st) b ys c e

  pub turn_refusal_stays : (c : Bool) (x : Refusal) → turn_of st b false ≡ Err (Refused x) → turn_of st (b ++ ys) c ≡ Err (Refused x)
  turn_refusal_stays c x e = turn_stays c (ap settled e) ∙ e

  pub turn_pass_stays : (c : Bool) → turn_of st b false ≡ Ok tt → turn_of st (b ++ ys) c ≡ Ok tt
  turn_pass_stays c e = turn_stays c (ap settled e) ∙ e

  -- the state behind a passed record, and the bytes behind it
  pub next_stays : turn_of st b false ≡ Ok tt → next_of st (b ++ ys) ≡ next_of st b
  unfolding next_of
  next_stays e =
      ap (λ (r : List ℕ). record { kind = st.kind; passed = st.passed + 1; plan = pick (eqb st.passed 0) (plan_of st.kind r) st.plan })
      (take-append-le (next_due st).length b ys (turn_room st b false e))

  pub rest_stays : turn_of st b false ≡ Ok tt → drop (next_due st).length (b ++ ys) ≡ drop (next_due st).length b ++ ys
  rest_stays e = drop-append-le (next_due st).length b ys (turn_room st b false e)
