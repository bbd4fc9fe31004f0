-- `arriving`: bytes that end at a record's end leave nothing unpassed when the walk waits, since a record that is whole by its own length, or as long
-- as is due, is never waited for; so a wait comes exactly when some accepted file begins with them, a refusal exactly when none does.
use Prim.Native.Nat.{ℕ, suc, ◌+◌, ◌-◌, ◌≤◌}
use mathlib.Core.Path.{◌≡◌, refl, sym, ap, ap₂, ◌∙◌, subst}
use mathlib.Core.List.{List, [], ◌∷◌, ◌++◌}
use mathlib.Core.Bool.{Bool, true, false}
use mathlib.Core.Logic.{◌↔◌, ◌⊎◌, inl, inr, ⊎_elim}
use native.Mathlib.Omega.{arith}
use lib.Dec.{eqb, leb}
use lib.ListN.{length, take, drop, length-append, get_or-append}
use lib.Seq.{take_at, drop-drop, drop_at, drop-append-add, length-take-le}
use borrow.Author.Tests.{eqb-true, ltb-true, ltb-false}
use Rattle.std.specs.Prelude.{Ok, Err}
use Rattle.words.specs.Tests.{pick}
use Rattle.words.specs.Words.{two_at, four_at, place_of}
use Rattle.plan.specs.Plan.{total_of, spot_of}
use Rattle.plan.specs.declared.Codes.{Codes}
use Rattle.plan.specs.declared.Plan.{Plan}
use Rattle.bodies.specs.Named.{plan_of}
use Rattle.bodies.specs.Bodies.{body_of}
use Rattle.verdicts.specs.Tests.{Verdict}
use Rattle.verdicts.proofs.Holding.{fine_holds}
use Rattle.walk.specs.State.{fresh, good_state, next_due, start_of}
use Rattle.headers.specs.Header.{header_tests, header_of}
use Rattle.turns.specs.Turn.{refused_at, ended_of, short_of, on_fine, judge_of, Turn}
use Rattle.walk.specs.Walk.{turn_of, next_of, stopped, more, bad_stop, walk_of}
use Rattle.walk.specs.declared.State.{State}
use Rattle.turns.specs.declared.Stop.{Stop}
use Rattle.turns.specs.declared.Stop.TheVariants.{Wait, Pause}
use Rattle.walk.specs.declared.Walked.{Walked}
use Rattle.turns.proofs.TurnLaws.{pass_parts}
use Rattle.promises.specs.Rules.{Kind, kind_number, concat}
use Rattle.promises.specs.Pieces.{used_of}
use Rattle.promises.specs.Arriving.{Own, begun, again, Starts, Waits, Refuses, Chunks, AtRecordEnd}
use Rattle.promises.proofs.Steps.{by_turns}
use Rattle.promises.proofs.Pieces.{used_within}
use Rattle.promises.proofs.Starts.{start_advances}
use Rattle.promises.proofs.Own.{reached}
use Rattle.promises.proofs.Arriving.{arriving_any}

-- a header that has no fault names the due length
header_length : (o : ℕ) (c : Codes) (long : ℕ) (b : List ℕ) → header_of o c long b ≡ Ok tt → four_at b 8 ≡ long
unfolding header_of header_tests
header_length o c long b e = let h = fine_holds (header_tests o c long b) e in eqb-true (four_at b 8) long h.1.1.0

-- the length field of a first part of at least twelve bytes
front : (r z : List ℕ) → 12 ≤ length r → four_at (r ++ z) 8 ≡ four_at r 8
unfolding four_at two_at
front r z h =
    rw (
      get_or-append r z 0 8 (omega arith),
      get_or-append r z 0 9 (omega arith),
      get_or-append r z 0 10 (omega arith),
      get_or-append r z 0 11 (omega arith),
    )

-- what an open turn that waits has seen
waited : (x y z : Bool) (h t : Verdict) (o a left m₁ m₂ m : ℕ)
    → pick x (Err (ended_of o a left false))
    (pick y (Err (short_of o a false m₁)) (on_fine h o a (pick z (Err (short_of o a false m₂)) (on_fine t o a (Ok tt))))) ≡ Err (Wait m)
    → (left ≡ 0) ⊎ ((y ≡ true) ⊎ ((h ≡ Ok tt) × (z ≡ true)))
unfolding ended_of short_of
waited true y z h t o a left m₁ m₂ m e = inl (go (eqb left 0) refl e)
  where
    go : (b : Bool) → eqb left 0 ≡ b → ◌≡◌ {A = Turn} (Err (pick b (Wait 0) (refused_at o a 9 0))) (Err (Wait m)) → left ≡ 0
    go true q f = eqb-true left 0 q
    go false q f = absurd cc
waited false true z h t o a left m₁ m₂ m e = inr (inl refl)
waited false false z (Err r) t o a left m₁ m₂ m e = absurd cc
waited false false true (Ok u) t o a left m₁ m₂ m e = inr (inr (refl, refl))
waited false false false (Ok u) (Ok v) o a left m₁ m₂ m e = absurd cc
waited false false false (Ok u) (Err r) o a left m₁ m₂ m e = absurd cc

-- a chunk of the state's next record: whole by its own header, or as long as is due
abbrev Chunk : State → List ℕ → Type 0
Chunk st r = (12 ≤ length r) × ((four_at r (place_of 9) ≡ length r) ⊎ (length r ≡ (next_due st).length))

-- before a chunk no turn waits
no_wait : (st : State) (r z : List ℕ) → Chunk st r → (m : ℕ) → turn_of st (r ++ z) false ≡ Err (Wait m) → ⊥
unfolding judge_of place_of
no_wait st r z w m e =
    let l = w.0 in
    let n = length-append r z in
    ⊎_elim (λ k. omega arith)
    (⊎_elim (λ k. let s = ltb-true (length (r ++ z)) 12 k in omega arith)
    (λ k.
    let q : four_at (r ++ z) 8 ≡ (next_due st).length =
    header_length (st.passed + 1) (next_due st).codes (next_due st).length (r ++ z) k.0 in
    let s = ltb-true (length (r ++ z)) (next_due st).length k.1 in
    ⊎_elim (λ o. omega (arith, front r z l)) (λ o. omega arith) w.1))
    (waited (leb (total_of st.kind st.plan) st.passed) _ _ _
    (body_of st.kind (next_due st).run st.plan st.passed (take (next_due st).length (r ++ z)))
    (st.passed + 1) (next_due st).start (length (r ++ z)) (12 - length (r ++ z)) ((next_due st).length - length (r ++ z)) m e)

-- ---- bytes that are chunks leave nothing unpassed when the walk waits

Nothing : ℕ → State → List ℕ → Walked → ℕ → Type 0
Nothing n st y w u = (rs : List (List ℕ)) → concat rs ≡ y → Chunks st.kind st.plan st.passed rs → Waits w.stop → drop u y ≡ []

nothing_halt : (n : ℕ) (st : State) (y : List ℕ) (x : Stop) → good_state st ≡ true → turn_of st y false ≡ Err x → Nothing (suc n) st y (stopped st x) 0
unfolding Nothing
nothing_halt n st y x g t [] e h (m, q) = sym e
nothing_halt n st y x g t (r ∷ rs) e h (m, q) = absurd (no_wait st r (concat rs) (h.0, h.1.0) m (ap (λ (b : List ℕ). turn_of st b false) e ∙ t ∙ ap Err q))

-- the plan behind a chunk that is the whole next record
next_chunk : (st : State) (r z : List ℕ) → length r ≡ (next_due st).length
    → (next_of st (r ++ z)).plan ≡ pick (eqb st.passed 0) (plan_of st.kind r) st.plan
unfolding next_of
next_chunk st r z e = ap (λ (y : List ℕ). pick (eqb st.passed 0) (plan_of st.kind y) st.plan) (take_at r z (next_due st).length e)

next_rest : (st : State) (y : List ℕ) → ((next_of st y).kind ≡ st.kind) × ((next_of st y).passed ≡ st.passed + 1)
unfolding next_of
next_rest st y = (refl, refl)

nothing_pass : (n : ℕ) (st : State) (y : List ℕ) (w : Walked) (u : ℕ) → good_state st ≡ true → turn_of st y false ≡ Ok tt
    → Nothing n (next_of st y) (drop (next_due st).length y) w u → Nothing (suc n) st y (more 1 w) ((next_due st).length + u)
unfolding Nothing place_of next_of
nothing_pass n st y w u g t ih [] e h k =
    let q = pass_parts st.kind st.plan st.passed (next_due st) y false t in
    let z = ltb-false (length y) 12 q.twelve in
    absurd (omega (arith, ap length e))
nothing_pass n st y w u g t ih (r ∷ rs) e h k =
    let q = pass_parts st.kind st.plan st.passed (next_due st) y false t in
    let s : length r ≡ (next_due st).length =
    ⊎_elim (λ o. sym o ∙ sym (front r (concat rs) h.0) ∙ ap (λ (b : List ℕ). four_at b 8) e ∙ header_length _ _ _ y q.head) (λ o. o) h.1.0 in
    let d : concat rs ≡ drop (next_due st).length y = sym (drop_at r (concat rs) (next_due st).length s) ∙ ap (drop (next_due st).length) e in
    let p : (next_of st y).plan ≡ pick (eqb st.passed 0) (plan_of st.kind r) st.plan =
    ap (λ (b : List ℕ). (next_of st b).plan) (sym e) ∙ next_chunk st r (concat rs) s in
    sym (drop-drop u (next_due st).length y) ∙ ih rs d (subst (λ (x : Plan). Chunks st.kind x (st.passed + 1) rs) (sym p) h.1.1) k

wait≢ : (m : ℕ) (x : Stop) → x ≡ Wait m → x ≡ bad_stop → ⊥
unfolding bad_stop
wait≢ m x e f = cc

nothing_left : (b : ℕ) (st : State) (bs : List ℕ) (rs : List (List ℕ)) → concat rs ≡ bs → Chunks st.kind st.plan st.passed rs
    → Waits (walk_of b st bs false).stop → drop (used_of b st bs false) bs ≡ []
unfolding Nothing
nothing_left =
    by_turns false Nothing (λ n s y g rs e h k. absurd (wait≢ k.0 bad_stop k.1 refl))
    (λ s y g rs e h k. absurd (let q = k.1 in cc)) nothing_halt nothing_pass

-- ---- a state of one's own stands as far on as its calls passed

fresh_start : (kind : Kind) → start_of (fresh (kind_number kind)) ≡ 0
unfolding start_of spot_of
fresh_start kind = go (good_state (fresh (kind_number kind)))
  where
    go : (b : Bool) → ◌≡◌ {A = ℕ} (pick b 0 0) 0
    go true = refl
    go false = refl

own_start : (kind : Kind) {st : State} {pre : List ℕ} → Own kind st pre → start_of st ≡ length pre
own_start kind begun = fresh_start kind
own_start kind (again {st} {pre} o b bs c) =
    start_advances b st bs c
    ∙ ap₂ (λ (i j : ℕ). i + j) (own_start kind o) (sym (length-take-le (used_of b st bs c) bs (used_within b st bs c)))
    ∙ sym (length-append pre (take (used_of b st bs c) bs))

-- the bytes from the file's first byte on end at a record's end: a wait leaves none unpassed
left_none : (kind : Kind) {st : State} {pre : List ℕ} → Own kind st pre → (b : ℕ) (bs : List ℕ) → AtRecordEnd kind (pre ++ bs)
    → Waits (walk_of b st bs false).stop → drop (used_of b st bs false) bs ≡ []
left_none kind {st} {pre} o b bs (rs, e, h) (m, q) =
    let r = reached kind o in
    let f = fresh (kind_number kind) in
    let w = r.walks b bs false in
    let n = nothing_left (r.passed + b) f (pre ++ bs) rs e h (m, ap (λ (x : Walked). x.stop) w ∙ q) in
    let s₁ = start_advances (r.passed + b) f (pre ++ bs) false in
    let s₂ = start_advances b st bs false in
    let s₃ = ap (λ (x : Walked). start_of x.state) w in
    let u : used_of (r.passed + b) f (pre ++ bs) false ≡ length pre + used_of b st bs false = omega (arith, s₁, s₂, s₃, fresh_start kind, own_start kind o) in
    sym (drop-append-add pre bs (used_of b st bs false)) ∙ ap (λ (i : ℕ). drop i (pre ++ bs)) (sym u) ∙ n

-- began fresh, only its own states, the last call open, no pause, at a record's end
pub arriving : (kind : Kind) {st : State} {pre : List ℕ} → Own kind st pre → (b : ℕ) (bs : List ℕ)
    → ((walk_of b st bs false).stop ≡ Pause → ⊥) → AtRecordEnd kind (pre ++ bs)
    → (Waits (walk_of b st bs false).stop ↔ Starts kind (pre ++ bs)) × (Refuses (walk_of b st bs false).stop ↔ (Starts kind (pre ++ bs) → ⊥))
arriving kind o b bs p a = arriving_any kind o b bs p (left_none kind o b bs a)
