-- One turn beside the record that is due: it refuses exactly with the first thing wrong there; by the order of a turn's tests, header and body each
-- finding the first of their rules.
use Prim.Native.Nat.{ℕ, suc, ◌+◌, ◌-◌, ◌≤◌, ◌<◌}
use mathlib.Core.Path.{◌≡◌, refl, sym, ap, ap₂, ◌∙◌, subst}
use mathlib.Core.Logic.{◌↔◌, ⊎_elim}
use mathlib.Core.List.{List, [], ◌∷◌}
use mathlib.Core.Bool.{Bool, true, false}
use native.Mathlib.Omega.{arith}
use lib.Dec.{eqb, ltb}
use lib.ListN.{length, take}
use borrow.Author.Tests.{eqb-false, ne_eqb, ltb-true, ltb-false}
use Rattle.std.specs.Prelude.{Ok, Err}
use Rattle.words.specs.Tests.{pick}
use Rattle.words.specs.declared.Refusal.{Refusal}
use Rattle.words.proofs.Laws.{cases}
use Rattle.plan.specs.Plan.{total_of}
use Rattle.plan.specs.declared.Plan.{Plan}
use Rattle.plan.specs.declared.Due.{Due}
use Rattle.headers.specs.Header.{header_of}
use Rattle.bodies.specs.Bodies.{body_of}
use Rattle.turns.specs.Turn.{Turn, refused_at, on_fine, judge_of, ended_of, short_of}
use Rattle.turns.specs.declared.Stop.TheVariants.{Wait, Complete, Refused}
use Rattle.turns.proofs.TurnLaws.{judge_ended, judge_twelve, judge_fault, judge_part, judge_body}
use Rattle.verdicts.specs.Tests.{Verdict}
use Rattle.promises.proofs.Turns.{halt_same, pass≢halt, refused_same, wait≢refused, complete≢refused}
use Rattle.refusals.specs.Refusals.{Asked, AllHold, header, Wrong, behind, short, head, part, body}
use Rattle.refusals.proofs.Finds.{Finds, finds_fine, finds_fault}

-- a refusal by its numbers
pub same_refusal : (x : Refusal) {o p : ℕ} → x.«record» ≡ o → x.place ≡ p → record { number = x.number; «record» = o; place = p } ≡ x
same_refusal x e f = ap₂ (λ (o p : ℕ). record { number = x.number; «record» = o; place = p }) (sym e) (sym f)

-- too few bytes: refused exactly where the file is closed
short_to : (Q : Refusal → Type 1) (o at n : ℕ) (c : Bool) (x : Refusal) → (c ≡ true → Q (record { number = 2; «record» = o; place = at + 0 }))
    → ◌≡◌ {A = Turn} (Err (short_of o at c n)) (Err (Refused x)) → Q x
unfolding short_of
short_to Q o at n true x q e = subst Q (refused_same (halt_same e)) (q refl)
short_to Q o at n false x q e = absurd (wait≢refused (halt_same e))

short_from : (o at n : ℕ) (c : Bool) → c ≡ true → ◌≡◌ {A = Turn} (Err (short_of o at c n)) (Err (refused_at o at 2 0))
unfolding short_of
short_from o at n c e = ap (λ (b : Bool). Err (pick b (refused_at o at 2 0) (Wait n))) e

module _ (kind : ℕ) (p : Plan) (k : ℕ) (s : Due) (b : List ℕ) (c : Bool) where
  -- a refusal of the record that is due there, where `next` is due: the first thing wrong, the record's ordinal, and its place in the file
  abbrev pub Told : List Asked → Refusal → Type 1
  Told next x = (q : ℕ) × Wrong c k b x.number q next × (x.«record» ≡ s.ordinal) × (x.place ≡ s.start + q)

  -- behind the last record
  module _ (over : total_of kind p ≤ k) where
    ended_to : (x : Refusal) → judge_of kind p k s b c ≡ Err (Refused x) → Told [] x
    unfolding ended_of
    ended_to x e = go (eqb (length b) 0) refl c (sym (judge_ended kind p k s b c over) ∙ e)
      where
        go : (z : Bool) → eqb (length b) 0 ≡ z → (d : Bool)
            → ◌≡◌ {A = Turn} (Err (pick z (pick d Complete (Wait 0)) (refused_at s.ordinal s.start 9 0))) (Err (Refused x)) → Told [] x
        go true q true f = absurd (complete≢refused (halt_same f))
        go true q false f = absurd (wait≢refused (halt_same f))
        go false q d f =
            let n = eqb-false (length b) 0 q in
            subst (Told []) (refused_same (halt_same f)) (0, behind (omega arith) refl refl, refl, refl)

    ended_from : (x : Refusal) → Told [] x → judge_of kind p k s b c ≡ Err (Refused x)
    unfolding ended_of
    ended_from x (q, behind h m z, o, a) =
        judge_ended kind p k s b c over
        ∙ ap (λ (t : Bool). Err (pick t (pick c Complete (Wait 0)) (refused_at s.ordinal s.start 9 0))) (ne_eqb (length b) 0 (λ e. omega arith))
        ∙ ap (λ (y : Refusal). Err (Refused y))
        (ap₂ (λ (n i : ℕ). record { number = n; «record» = s.ordinal; place = s.start + i }) (sym m) (sym z) ∙ same_refusal x o a)

    pub ended_is : (x : Refusal) → (judge_of kind p k s b c ≡ Err (Refused x)) ↔ Told [] x
    ended_is x = (ended_to x, ended_from x)

  -- a record is due there, whose tests find the first of its rules
  module _ (d : Asked) (ds : List Asked) (going : k < total_of kind p) (long : s.length ≡ d.long)
      (headed : Finds (header_of s.ordinal s.codes s.length b) (header (suc k) d.Codes d.long b))
      (bodied : s.length ≤ length b → Finds (body_of kind s.run p k (take s.length b)) (d.body k (take d.long b))) where
    told : (x : Refusal) (m q : ℕ) → Wrong c k b m q (d ∷ ds) → ◌≡◌ {A = Turn} (Err (refused_at s.ordinal s.start m q)) (Err (Refused x))
        → Told (d ∷ ds) x
    told x m q w e = subst (Told (d ∷ ds)) (refused_same (halt_same e)) (q, w, refl, refl)

    judge_to : (x : Refusal) → judge_of kind p k s b c ≡ Err (Refused x) → Told (d ∷ ds) x
    judge_to x e =
        ⊎_elim
        (λ h. let l = ltb-true (length b) 12 h in
        short_to (Told (d ∷ ds)) s.ordinal s.start (12 - length b) c x (λ z. (0, short l z refl refl, refl, refl))
        (sym (judge_twelve kind p k s b c going l) ∙ e))
        (λ h. by_header (ltb-false (length b) 12 h) (header_of s.ordinal s.codes s.length b) refl) (cases (ltb (length b) 12))
      where
        by_body : 12 ≤ length b → AllHold (header (suc k) d.Codes d.long b) → s.length ≤ length b → (v : Verdict)
            → body_of kind s.run p k (take s.length b) ≡ v → on_fine v s.ordinal s.start (Ok tt) ≡ Err (Refused x) → Told (d ∷ ds) x
        by_body w a l (Ok u) q f = absurd (pass≢halt f)
        by_body w a l (Err y) q f = told x y.number y.place (body w a (omega (arith, long)) ((bodied l).fault y q)) f

        by_header : 12 ≤ length b → (v : Verdict) → header_of s.ordinal s.codes s.length b ≡ v → Told (d ∷ ds) x
        by_header w (Err y) q =
            told x y.number y.place (head w (headed.fault y q)) (sym (judge_fault kind p k s b c going w y q) ∙ e)
        by_header w (Ok u) q =
            let a = headed.fine q in
            ⊎_elim
            (λ h. let l = ltb-true (length b) s.length h in
            short_to (Told (d ∷ ds)) s.ordinal s.start (s.length - length b) c x
            (λ z. (0, part w a (omega (arith, long)) z refl refl, refl, refl)) (sym (judge_part kind p k s b c going w q l) ∙ e))
            (λ h. let l = ltb-false (length b) s.length h in
            by_body w a l (body_of kind s.run p k (take s.length b)) refl (sym (judge_body kind p k s b c going w q l) ∙ e))
            (cases (ltb (length b) s.length))

    judge_from : (m q : ℕ) → Wrong c k b m q (d ∷ ds) → judge_of kind p k s b c ≡ Err (refused_at s.ordinal s.start m q)
    judge_from m q (short l z n i) =
        judge_twelve kind p k s b c going l ∙ short_from s.ordinal s.start (12 - length b) c z
        ∙ ap₂ (λ (x y : ℕ). Err (refused_at s.ordinal s.start x y)) (sym n) (sym i)
    judge_from m q (head w f) =
        let (y, e, n, i) = finds_fault _ _ headed m q f in
        judge_fault kind p k s b c going w y e ∙ ap₂ (λ (x y : ℕ). Err (refused_at s.ordinal s.start x y)) n i
    judge_from m q (part w a l z n i) =
        judge_part kind p k s b c going w (finds_fine _ _ headed a) (omega (arith, long))
        ∙ short_from s.ordinal s.start (s.length - length b) c z
        ∙ ap₂ (λ (x y : ℕ). Err (refused_at s.ordinal s.start x y)) (sym n) (sym i)
    judge_from m q (body w a l f) =
        let l' : s.length ≤ length b = omega (arith, long) in
        let (y, e, n, i) = finds_fault _ _ (bodied l') m q f in
        judge_body kind p k s b c going w (finds_fine _ _ headed a) l'
        ∙ ap (λ (v : Verdict). on_fine v s.ordinal s.start (Ok tt)) e
        ∙ ap₂ (λ (x y : ℕ). Err (refused_at s.ordinal s.start x y)) n i

    pub judge_is : (x : Refusal) → (judge_of kind p k s b c ≡ Err (Refused x)) ↔ Told (d ∷ ds) x
    judge_is x = (
      judge_to x,
      λ t. judge_from x.number t.0 t.1 ∙ ap (λ (y : Refusal). Err (Refused y)) (same_refusal x t.2 t.3),
    )
