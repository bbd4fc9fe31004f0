-- A refusal in the words of document 01 stands for one case of each answer, with those numbers: each other case has another word.
use Prim.Native.Nat.{ℕ}
use mathlib.Core.Path.{◌≡◌, ap, ap₂, ◌∙◌}
use lib.IntN.{pos}
use Rattle.std.specs.Prelude.{Result, Ok, Err}
use Rattle.words.specs.Answer.{Answer, refused, refused_as}
use Rattle.words.specs.declared.Refusal.{Refusal}
use Rattle.fields.specs.Field.{field_as}
use Rattle.fields.specs.declared.Field.{Field}
use Rattle.fields.specs.declared.Field.TheVariants as field
use Rattle.turns.specs.declared.Stop.{Stop}
use Rattle.turns.specs.declared.Stop.TheVariants as stop
use Rattle.walk.specs.Said.{stop_as, beginning_as}
use Rattle.walk.specs.declared.State.{State}
use Rattle.lines.specs.View.{View}
use Rattle.lines.specs.Said.{unshown_as, view_as}
use Rattle.copies.specs.Row.{Copied}
use Rattle.copies.specs.Said.{copied_as}
use Rattle.sets.specs.Set.{Agreement}
use Rattle.sets.specs.Said.{agreement_as}
use Rattle.lines.specs.declared.Unshown.{Unshown}
use Rattle.lines.specs.declared.Unshown.TheVariants as unshown

pos_same : {m n : ℕ} → pos m ≡ pos n → m ≡ n
pos_same e = cc

-- two refusals with the same numbers
pub refusal_said : (y x : Refusal) → refused_as y ≡ refused_as x → y ≡ x
refusal_said y x e =
    let ns = ap (λ (a : Answer). a.numbers) e in
    let a : y.number ≡ x.number = pos_same cc in
    let b : y.«record» ≡ x.«record» = pos_same cc in
    let c : y.place ≡ x.place = pos_same cc in
    ap (λ (n : ℕ). record { number = n; «record» = y.«record»; place = y.place }) a
    ∙ ap₂ (λ (r p : ℕ). record { number = x.number; «record» = r; place = p }) b c

-- an answer of another word is no refusal
pub other : {a : Answer} (x : Refusal) → (a.word ≡ refused → ⊥) → a ≡ refused_as x → ⊥
other x n e = n (ap (λ (b : Answer). b.word) e)

pub said_refused : (y : Stop) (x : Refusal) → stop_as y ≡ refused_as x → y ≡ stop.Refused x
said_refused (stop.Wait n) x e = absurd (other x (λ w. cc) e)
said_refused stop.Pause x e = absurd (other x (λ w. cc) e)
said_refused stop.Complete x e = absurd (other x (λ w. cc) e)
said_refused (stop.Refused y) x e = ap stop.Refused (refusal_said y x e)

pub begun_refused : (y : Result State Refusal) (x : Refusal) → beginning_as y ≡ refused_as x → y ≡ Err x
begun_refused (Ok st) x e = absurd (other x (λ w. cc) e)
begun_refused (Err y) x e = ap (λ (r : Refusal). Err r) (refusal_said y x e)

unshown_refused : (y : Unshown) (x : Refusal) → unshown_as y ≡ refused_as x → y ≡ unshown.Refused x
unshown_refused (unshown.Wait n) x e = absurd (other x (λ w. cc) e)
unshown_refused (unshown.Refused y) x e = ap unshown.Refused (refusal_said y x e)

pub view_refused : (y : View) (x : Refusal) → view_as y ≡ refused_as x → y ≡ Err (unshown.Refused x)
view_refused (Ok v) x e = absurd (other x (λ w. cc) e)
view_refused (Err y) x e = ap (λ (z : Unshown). Err z) (unshown_refused y x e)

pub copy_refused : (y : Copied) (x : Refusal) → copied_as y ≡ refused_as x → y ≡ Err (unshown.Refused x)
copy_refused (Ok n) x e = absurd (other x (λ w. cc) e)
copy_refused (Err y) x e = ap (λ (z : Unshown). Err z) (unshown_refused y x e)

pub set_refused : (y : Agreement) (x : Refusal) → agreement_as y ≡ refused_as x → y ≡ Err x
set_refused (Ok u) x e = absurd (other x (λ w. cc) e)
set_refused (Err y) x e = ap (λ (r : Refusal). Err r) (refusal_said y x e)

pub field_refused : (y : Field) (x : Refusal) → field_as y ≡ refused_as x → y ≡ field.Refused x
field_refused (field.Value m n) x e = absurd (other x (λ w. cc) e)
field_refused field.Blank x e = absurd (other x (λ w. cc) e)
field_refused (field.Refused y) x e = ap field.Refused (refusal_said y x e)
