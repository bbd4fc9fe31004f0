-- What a call hands back besides its stop, for any state, bytes and budget: the count is the state's difference; by induction over the turns.
use Prim.Native.Nat.{ℕ, ◌+◌, ◌≤◌}
use mathlib.Core.Path.{◌≡◌, refl, sym, ap, ◌∙◌}
use mathlib.Core.Logic.{◌≢◌}
use mathlib.Core.List.{List}
use mathlib.Core.Bool.{Bool, true, false}
use native.Mathlib.Omega.{arith}
use Rattle.std.specs.Prelude.{Err}
use Rattle.words.specs.declared.Refusal.{Refusal}
use Rattle.walk.specs.State.{good_state}
use Rattle.walk.specs.Walk.{bad_stop, walk_of}
use Rattle.walk.specs.declared.State.{State}
use Rattle.turns.specs.declared.Stop.TheVariants.{Wait, Pause, Complete, Refused}
use Rattle.walk.proofs.LoopLaws.{walk_bad}
use Rattle.walk.proofs.TurnLaws.{next_passed}
use Rattle.promises.proofs.Steps.{by_turns}
use Rattle.promises.proofs.Turns.{open_turn, turn_ordinal, never_pause, pause≢complete, pause≢refused, refused≢pause, refused≢complete}
use Rattle.promises.proofs.Turns.{refused_same, wait≢refused, wait≢pause}
use Rattle.promises.proofs.Passing.{closed_turn}

-- the count is the state's difference
pub counted : (b : ℕ) (st : State) (bs : List ℕ) (c : Bool) → (walk_of b st bs c).state.passed ≡ st.passed + (walk_of b st bs c).count
counted b st bs c =
    by_turns c (λ n s y w u. w.state.passed ≡ s.passed + w.count) (λ n s y g. omega arith) (λ s y g. omega arith) (λ n s y x g t. omega arith)
    (λ n s y w u g t e. omega (arith, next_passed s y)) b st bs

-- no more records are passed than the budget allows
pub count_within : (b : ℕ) (st : State) (bs : List ℕ) (c : Bool) → (walk_of b st bs c).count ≤ b
count_within b st bs c =
    by_turns c (λ n s y w u. w.count ≤ n) (λ n s y g. omega arith) (λ s y g. omega arith) (λ n s y x g t. omega arith)
    (λ n s y w u g t e. omega arith) b st bs

-- a bad state: refusal 11, record 0, place 0; the state given; nothing passed
pub bad_kept : (b : ℕ) (st : State) (bs : List ℕ) (c : Bool) → good_state st ≡ false
    → walk_of b st bs c ≡ record { state = st; count = 0; stop = Refused (record { number = 11; «record» = 0; place = 0 }) }
unfolding bad_stop
bad_kept b st bs c h = walk_bad st bs c b h

-- an open file is never complete
pub open_never_complete : (b : ℕ) (st : State) (bs : List ℕ) → (walk_of b st bs false).stop ≢ Complete
unfolding bad_stop
open_never_complete b st bs =
    by_turns false (λ n s y w u. w.stop ≢ Complete) (λ n s y g. refused≢complete) (λ s y g. pause≢complete) (λ n s y x g t. open_turn s y x t)
    (λ n s y w u g t e. e) b st bs

-- and a closed one never waits
pub closed_never_waits : (b : ℕ) (st : State) (bs : List ℕ) (m : ℕ) → (walk_of b st bs true).stop ≢ Wait m
unfolding bad_stop
closed_never_waits b st bs m =
    by_turns true (λ n s y w u. w.stop ≢ Wait m) (λ n s y g e. wait≢refused (sym e)) (λ s y g e. wait≢pause (sym e))
    (λ n s y x g t e. closed_turn s y m (t ∙ ap Err e)) (λ n s y w u g t e. e) b st bs

-- a refused record is the one behind the state handed back: the state is the one before that record
pub refused_ordinal : (b : ℕ) (st : State) (bs : List ℕ) (c : Bool) (x : Refusal) → (walk_of b st bs c).stop ≡ Refused x → x.number ≢ 11
    → x.«record» ≡ (walk_of b st bs c).state.passed + 1
unfolding bad_stop
refused_ordinal b st bs c =
    by_turns c (λ n s y w u. (x : Refusal) → w.stop ≡ Refused x → x.number ≢ 11 → x.«record» ≡ w.state.passed + 1)
    (λ n s y g x e h. absurd (h (ap (λ (r : Refusal). r.number) (sym (refused_same e))))) (λ s y g x e h. absurd (pause≢refused e))
    (λ n s y z g t x e h. turn_ordinal s y c z t x e) (λ n s y w u g t i. i) b st bs

-- a pause has used up the budget
pub pause_counted : (b : ℕ) (st : State) (bs : List ℕ) (c : Bool) → (walk_of b st bs c).stop ≡ Pause → (walk_of b st bs c).count ≡ b
unfolding bad_stop
pause_counted b st bs c =
    by_turns c (λ n s y w u. w.stop ≡ Pause → w.count ≡ n) (λ n s y g e. absurd (refused≢pause e)) (λ s y g e. refl)
    (λ n s y x g t e. absurd (never_pause s y c x t e)) (λ n s y w u g t i e. omega (arith, i e)) b st bs
