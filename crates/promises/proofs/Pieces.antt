-- A file walked in pieces: a first open call and then a call on the bytes not passed and the new ones say what one call on all the bytes says; what a
-- turn passed it passes again before any further bytes.
use Prim.Native.Nat.{ℕ, zero, suc, ◌+◌, ◌≤◌}
use mathlib.Core.Path.{◌≡◌, refl, sym, ap, ap₂, ◌∙◌}
use mathlib.Core.List.{List, ◌++◌}
use mathlib.Core.Bool.{Bool, true, false, false≢true}
use mathlib.Core.Logic.{◌≢◌}
use native.Mathlib.Nat.{zero-add}
use native.Mathlib.Omega.{arith}
use lib.ListN.{length, drop, length-drop}
use lib.Seq.{drop-drop, drop-append-le}
use Rattle.std.specs.Prelude.{Ok, Err}
use Rattle.words.specs.declared.Refusal.{Refusal}
use Rattle.walk.specs.State.{good_state, next_due}
use Rattle.walk.specs.Walk.{turn_of, next_of, stopped, more, bad_stop, walk_of}
use Rattle.walk.specs.declared.State.{State}
use Rattle.turns.specs.declared.Stop.{Stop}
use Rattle.turns.specs.declared.Stop.TheVariants.{Pause, Refused}
use Rattle.walk.specs.declared.Walked.{Walked}
use Rattle.walk.proofs.LoopLaws.{walk_bad, walk_halt, walk_pass, more_more, more_none}
use Rattle.walk.proofs.TurnLaws.{good_next}
use Rattle.promises.specs.Pieces.{used_of}
use Rattle.promises.proofs.Steps.{by_turns}
use Rattle.promises.proofs.Turns.{turn_refusal_stays, turn_pass_stays, turn_room, next_stays, rest_stays, pause≢refused}

-- u bytes behind a passed record
onward : (st : State) (b ys : List ℕ) (u : ℕ) → turn_of st b false ≡ Ok tt
    → drop u (drop (next_due st).length b ++ ys) ≡ drop ((next_due st).length + u) (b ++ ys)
onward st b ys u t = ap (drop u) (sym (rest_stays st b ys t)) ∙ drop-drop u (next_due st).length (b ++ ys)

-- one call on all the bytes, against a call from where w ended, u bytes on
Joined : ℕ → State → List ℕ → Walked → ℕ → Type 0
Joined n st b w u = (d : ℕ) (ys : List ℕ) (e : Bool) → walk_of (w.count + d) st (b ++ ys) e ≡ more w.count (walk_of d w.state (drop u (b ++ ys)) e)

joined_none : (n : ℕ) (st : State) (b : List ℕ) (x : Stop) → Joined n st b (stopped st x) 0
unfolding Joined
joined_none n st b x d ys e = rw zero-add (more_none (walk_of d st (b ++ ys) e))

joined_pass : (n : ℕ) (st : State) (b : List ℕ) (w : Walked) (u : ℕ) → good_state st ≡ true → turn_of st b false ≡ Ok tt
    → Joined n (next_of st b) (drop (next_due st).length b) w u → Joined (suc n) st b (more 1 w) ((next_due st).length + u)
unfolding Joined
joined_pass n st b w u g t ih d ys e =
    let budget : w.count + 1 + d ≡ suc (w.count + d) = omega arith in
    let passed : 1 + w.count ≡ w.count + 1 = omega arith in
    ap (λ (k : ℕ). walk_of k st (b ++ ys) e) budget
    ∙ walk_pass st (b ++ ys) e (w.count + d) g (turn_pass_stays st b ys e t)
    ∙ ap₂ (λ (s : State) (r : List ℕ). more 1 (walk_of (w.count + d) s r e)) (next_stays st b ys t) (rest_stays st b ys t)
    ∙ ap (more 1) (ih d ys e)
    ∙ more_more 1 w.count (walk_of d w.state (drop u (drop (next_due st).length b ++ ys)) e)
    ∙ ap₂ (λ (k : ℕ) (r : List ℕ). more k (walk_of d w.state r e)) passed (onward st b ys u t)

-- the first call passed `count` records and `used_of` bytes: one call on all the bytes has the state and the stop of the second call, and `count` more records
pub in_pieces : (b : ℕ) (st : State) (bs : List ℕ) (d : ℕ) (ys : List ℕ) (e : Bool)
    → let w = walk_of b st bs false in walk_of (w.count + d) st (bs ++ ys) e ≡ more w.count (walk_of d w.state (drop (used_of b st bs false) (bs ++ ys)) e)
unfolding Joined
in_pieces b st bs =
    by_turns false Joined (λ n s y g. joined_none n s y bad_stop) (λ s y g. joined_none 0 s y Pause) (λ n s y x g t. joined_none (suc n) s y x)
    joined_pass b st bs

-- no more bytes are passed than there are
pub used_within : (b : ℕ) (st : State) (bs : List ℕ) (c : Bool) → used_of b st bs c ≤ length bs
used_within b st bs c =
    by_turns c (λ n s y w u. u ≤ length y) (λ n s y g. omega arith) (λ s y g. omega arith) (λ n s y x g t. omega arith)
    (λ n s y w u g t i. omega (arith, turn_room s y c t, length-drop (next_due s).length y)) b st bs

-- so the second call gets the bytes not passed, then the new ones
pub unpassed : (b : ℕ) (st : State) (bs ys : List ℕ) → drop (used_of b st bs false) (bs ++ ys) ≡ drop (used_of b st bs false) bs ++ ys
unpassed b st bs ys = drop-append-le (used_of b st bs false) bs ys (used_within b st bs false)

-- a refusal comes again from the state handed back
Again : ℕ → State → List ℕ → Walked → ℕ → Type 0
Again n st b w u = (x : Refusal) → w.stop ≡ Refused x → (ys : List ℕ) (c : Bool) (d : ℕ)
    → walk_of (suc d) w.state (drop u (b ++ ys)) c ≡ stopped w.state (Refused x)

again : (b : ℕ) (st : State) (bs : List ℕ) → Again b st bs (walk_of b st bs false) (used_of b st bs false)
unfolding Again
again =
    by_turns false Again (λ n s y g x e ys c d. walk_bad s (y ++ ys) c (suc d) g ∙ ap (stopped s) e) (λ s y g x e ys c d. absurd (pause≢refused e))
    (λ n s y z g t x e ys c d. walk_halt s (y ++ ys) c d (Refused x) g (turn_refusal_stays s y ys c x (t ∙ ap Err e)))
    (λ n s y w u g t i x e ys c d. ap (λ (r : List ℕ). walk_of (suc d) w.state r c) (sym (onward s y ys u t)) ∙ i x e ys c d)

-- asked again, with any further bytes and a budget of at least 1: the same number, record and place, and count 0
pub refusal_repeats : (b : ℕ) (st : State) (bs : List ℕ) (x : Refusal) → (walk_of b st bs false).stop ≡ Refused x
    → (d : ℕ) → 1 ≤ d → (ys : List ℕ) (c : Bool)
    → let st' = (walk_of b st bs false).state in walk_of d st' (drop (used_of b st bs false) (bs ++ ys)) c ≡ record { state = st'; count = 0; stop = Refused x }
unfolding Again
refusal_repeats b st bs x e zero h ys c = absurd (omega arith)
refusal_repeats b st bs x e (suc d) h ys c = again b st bs x e ys c d

-- the stop of a call that does not pause is the turn's at the state handed back, on the bytes not passed: a refused, waiting or complete record's
-- state is the one before it
pub last_turn : (b : ℕ) (st : State) (bs : List ℕ) (c : Bool) → good_state st ≡ true → (walk_of b st bs c).stop ≢ Pause
    → turn_of (walk_of b st bs c).state (drop (used_of b st bs c) bs) c ≡ Err (walk_of b st bs c).stop
last_turn b st bs c =
    by_turns c (λ n s y w u. good_state s ≡ true → w.stop ≢ Pause → turn_of w.state (drop u y) c ≡ Err w.stop)
    (λ n s y g h p. absurd (false≢true (sym g ∙ h))) (λ s y g h p. absurd (p refl)) (λ n s y x g t h p. t)
    (λ n s y w u g t i h p. rw (← drop-drop u (next_due s).length y) (i (good_next s y c h t) p)) b st bs
