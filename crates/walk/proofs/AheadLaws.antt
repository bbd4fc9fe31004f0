-- Lines that pass one after the other may be passed at once: by induction on how many, each is a turn that passes.
use Prim.Native.Nat.{ℕ, zero, suc, ◌+◌, ◌-◌, ◌*◌, ◌≤◌, ◌<◌}
use mathlib.Core.Path.{◌≡◌, refl, sym, ap, ap₂, ◌∙◌, subst}
use mathlib.Core.List.{List}
use mathlib.Core.Bool.{Bool, true}
use native.Mathlib.Omega.{arith}
use native.Mathlib.Nat.{zero-mul, suc-mul}
use lib.ListN.{length, drop}
use lib.Seq.{drop-drop}
use Rattle.std.specs.Prelude.{Ok}
use borrow.Author.Tests.{le-leb}
use Rattle.words.proofs.Laws.{both_make}
use Rattle.plan.specs.Plan.{image, plan_good, total_of, line_codes}
use Rattle.plan.specs.declared.Plan.{Plan}
use Rattle.plan.specs.declared.Spot.{Spot}
use Rattle.plan.specs.declared.Due.{Due}
use Rattle.plan.proofs.CodeLaws.{line_spot, line_due_lem, image_total}
use Rattle.plan.proofs.GoodLaws.{image_room, image_within, image_bounds}
use Rattle.image.specs.Image.{image_record}
use Rattle.bodies.specs.Bodies.{body_of, body_tests}
use Rattle.verdicts.specs.Tests.{Verdict}
use Rattle.turns.specs.Turn.{on_fine, judge_of}
use Rattle.ahead.specs.Lines.{lines_fine}
use Rattle.turns.proofs.TurnLaws.{judge_body}
use Rattle.ahead.proofs.LineLaws.{LineFine, LinesFine, head_fine, tail_fine, lines_few, lines_room, lines_are, rest, rest_is}
use Rattle.walk.specs.State.{good_state}
use Rattle.walk.specs.Walk.{turn_of, next_of, more, walk_of}
use Rattle.walk.specs.Ahead.{skipped, Ahead}
use Rattle.walk.specs.declared.State.{State}
use Rattle.walk.proofs.GoodLaws.{good_some, good_later}
use Rattle.walk.proofs.TurnLaws.{next_as_later}
use Rattle.walk.proofs.LoopLaws.{walk_pass, more_more, more_none}

-- the state of an image behind k records
abbrev behind : Plan → ℕ → State
behind p k = record { kind = image; passed = k; plan = p }

module _ (p : Plan) (good : plan_good image p ≡ true) where
  behind_good : (k : ℕ) → 1 ≤ k → k ≤ suc p.n → good_state (behind p k) ≡ true
  behind_good k h t =
      good_some (behind p k) (λ e. omega arith)
      ∙ both_make _ _ refl (both_make _ _ good (le-leb _ _ (subst (λ (i : ℕ). k ≤ i) (sym (image_total p)) t)))

  -- a line that holds what it must is a turn that passes
  line_turn : (k : ℕ) (b : List ℕ) (c : Bool) → k < p.n → LineFine p.sort p.w p.l (suc k) b → turn_of (behind p (suc k)) b c ≡ Ok tt
  unfolding body_of body_tests image_record
  line_turn k b c h f =
      let a = image_room p good in
      let s : Due = record { ordinal = suc k + 1; run = 1; codes = line_codes p.sort; length = p.l; start = 720 + k * p.l } in
      ap (λ (x : Due). judge_of image p (suc k) x b c) (line_due_lem p k h)
      ∙ judge_body image p (suc k) s b c (subst (λ (i : ℕ). suc k < i) (sym (image_total p)) (omega arith)) (omega (arith, a, f.whole)) f.head f.whole
      ∙ ap (λ (v : Verdict). on_fine v (suc k + 1) s.start (Ok tt)) f.body

  line_next : (k : ℕ) (b : List ℕ) → next_of (behind p (suc k)) b ≡ behind p (suc (suc k))
  line_next k b =
      sym (next_as_later (behind p (suc k)) b p (λ e. omega arith) refl)
      ∙ ap (behind p) (let e : suc k + 1 ≡ suc (suc k) = omega arith in e)

  pub ahead_walk : (c k m : ℕ) (b : List ℕ) (closed : Bool) → suc k + c ≤ suc p.n → LinesFine p.sort p.w p.l (suc k) c b
      → walk_of (c + m) (behind p (suc k)) b closed ≡ more c (walk_of m (behind p (suc k + c)) (drop (c * p.l) b) closed)
  ahead_walk zero k m b closed h f =
      let z : 0 + m ≡ m = omega arith in
      let y : suc k ≡ suc k + 0 = omega arith in
      ap (λ (i : ℕ). walk_of i (behind p (suc k)) b closed) z
      ∙ more_none (walk_of m (behind p (suc k)) b closed)
      ∙ ap (λ (i : ℕ). more 0 (walk_of m (behind p i) b closed)) y
      ∙ ap (λ (i : ℕ). more 0 (walk_of m (behind p (suc k + 0)) (drop i b) closed)) (sym (zero-mul p.l))
  ahead_walk (suc c) k m b closed h f =
      let n : suc c + m ≡ suc (c + m) = omega arith in
      let x : 1 + c ≡ suc c = omega arith in
      let y : suc (suc k) + c ≡ suc k + suc c = omega arith in
      let d : p.l + c * p.l ≡ suc c * p.l = omega (arith, suc-mul c p.l) in
      ap (λ (i : ℕ). walk_of i (behind p (suc k)) b closed) n
      ∙ walk_pass (behind p (suc k)) b closed (c + m) (behind_good (suc k) (omega arith) (omega arith))
      (line_turn k b closed (omega arith) (head_fine p.sort p.w p.l (suc k) c b f))
      ∙ ap (λ (x : Spot). more 1 (walk_of (c + m) (next_of (behind p (suc k)) b) (drop x.length b) closed)) (line_spot p k (omega arith))
      ∙ ap (λ (x : State). more 1 (walk_of (c + m) x (drop p.l b) closed)) (line_next k b)
      ∙ ap (more 1) (ahead_walk c (suc k) m (drop p.l b) closed (omega arith) (tail_fine p.sort p.w p.l (suc k) c b f))
      ∙ more_more 1 c (walk_of m (behind p (suc (suc k) + c)) (drop (c * p.l) (drop p.l b)) closed)
      ∙ ap₂ (λ (j i : ℕ). more j (walk_of m (behind p i) (drop (c * p.l) (drop p.l b)) closed)) x y
      ∙ ap (λ (x : List ℕ). more (suc c) (walk_of m (behind p (suc k + suc c)) x closed)) (drop-drop (c * p.l) p.l b ∙ ap (λ (i : ℕ). drop i b) d)

-- no record is passed at once
pub ahead_none : (st : State) (b : List ℕ) (most : ℕ) → good_state st ≡ true → Ahead st b most 0
ahead_none st b most g =
    let y : st.passed ≡ st.passed + 0 = omega arith in
    let s : st ≡ skipped st 0 = ap (λ (i : ℕ). record { kind = st.kind; passed = i; plan = st.plan }) y in
    let z = zero-mul st.plan.l in
    record {
      few = omega arith;
      small = omega arith;
      room = omega (arith, z);
      good = sym (ap good_state s) ∙ g;
      walks = λ m closed.
          let n : 0 + m ≡ m = omega arith in
          ap (λ (i : ℕ). walk_of i st b closed) n
          ∙ more_none (walk_of m st b closed)
          ∙ ap (λ (x : State). more 0 (walk_of m x b closed)) s
          ∙ ap (λ (i : ℕ). more 0 (walk_of m (skipped st 0) (drop i b) closed)) (sym z);
    }

-- the state of an image is known by its plan and how many records it has passed
module _ (st : State) (b : List ℕ) (most c k : ℕ) (i : st.kind ≡ image) (h : st.passed ≡ suc k) (pg : plan_good image st.plan ≡ true) where
  same_state : (n m : ℕ) → n ≡ m → record { kind = st.kind; passed = n; plan = st.plan } ≡ behind st.plan m
  same_state n m e = ap (λ (x : ℕ). record { kind = x; passed = n; plan = st.plan }) i ∙ ap (behind st.plan) e

  ahead_behind : c ≤ most → suc k + c ≤ suc st.plan.n → c * st.plan.l ≤ length b → LinesFine st.plan.sort st.plan.w st.plan.l (suc k) c b
      → Ahead st b most c
  ahead_behind few t room f =
      let e : st.passed + c ≡ suc k + c = omega arith in
      let s : skipped st c ≡ behind st.plan (suc k + c) = same_state (st.passed + c) (suc k + c) e in
      let n = image_bounds st.plan (image_within st.plan pg) in
      record {
        few = few;
        small = omega (arith, n.3);
        room = room;
        good = ap good_state s ∙ behind_good st.plan pg (suc k + c) (omega arith) t;
        walks = λ m closed.
            ap (λ (x : State). walk_of (c + m) x b closed) (same_state st.passed (suc k) h)
            ∙ ahead_walk st.plan pg c k m b closed t f
            ∙ ap (λ (x : State). more c (walk_of m x (drop (c * st.plan.l) b) closed)) (sym s);
      }

-- the lines of an image that pass one after the other, as the code counts them: at most `few`, which are no more than are left
pub ahead_lines : (st : State) (b : List ℕ) (most few c : ℕ) → good_state st ≡ true → st.kind ≡ image → (st.passed ≡ 0 → ⊥)
    → few ≤ most → st.passed + few ≤ suc st.plan.n → c ≡ lines_fine st.plan.sort st.plan.w st.plan.l st.passed few b → Ahead st b most c
ahead_lines st b most few c g i z less t e = subst (Ahead st b most) (sym e) (go st.passed refl)
  where
    sort : ℕ
    sort = st.plan.sort

    w : ℕ
    w = st.plan.w

    l : ℕ
    l = st.plan.l

    found : ℕ
    found = lines_fine sort w l st.passed few b

    go : (k : ℕ) → st.passed ≡ k → Ahead st b most found
    go zero h = absurd (z h)
    go (suc k) h =
        let n : found ≤ few = lines_few sort w l st.passed few b in
        ahead_behind st b most found k i h (subst (λ (x : ℕ). plan_good x st.plan ≡ true) i (good_later st g z).0) (omega arith) (omega arith)
        (lines_room sort w l st.passed few b)
        (subst (λ (x : ℕ). LinesFine sort w l x found b) h (lines_are sort w l st.passed few b))

-- what the code needs of an image's state
pub image_state : (st : State) → good_state st ≡ true → st.kind ≡ image → (st.passed ≡ 0 → ⊥) → (st.passed ≤ suc st.plan.n) × (st.plan.n ≤ 999999)
image_state st g i z =
    let q = good_later st g z in
    let pg = subst (λ (x : ℕ). plan_good x st.plan ≡ true) i q.0 in (
      subst (λ (x : ℕ). st.passed ≤ x) (image_total st.plan) (subst (λ (x : ℕ). st.passed ≤ total_of x st.plan) i q.1),
      (image_bounds st.plan (image_within st.plan pg)).3,
    )

-- ---- the walk's loop, which hands on `&bytes[at..]`

-- what is left of the walk behind the records passed at once
pub turn_ahead : (m n at c : ℕ) (st : State) (b : List ℕ) (closed : Bool) → n ≤ m → Ahead st (rest b at) (m - n) c
    → more n (walk_of (m - n) st (drop at b) closed) ≡ more (n + c) (walk_of (m - (n + c)) (skipped st c) (drop (at + c * st.plan.l) b) closed)
turn_ahead m n at c st b closed h a =
    let e : m - n ≡ c + (m - (n + c)) = omega (arith, a.few) in
    let long = c * st.plan.l in
    ap (λ (i : ℕ). more n (walk_of i st (drop at b) closed)) e
    ∙ ap (λ (x : List ℕ). more n (walk_of (c + (m - (n + c))) st x closed)) (sym (rest_is b at))
    ∙ ap (more n) (a.walks (m - (n + c)) closed)
    ∙ more_more n c (walk_of (m - (n + c)) (skipped st c) (drop long (rest b at)) closed)
    ∙ ap (λ (x : List ℕ). more (n + c) (walk_of (m - (n + c)) (skipped st c) x closed)) (ap (drop long) (rest_is b at) ∙ drop-drop long at b)
