-- In an accepted image every line from 1 to n stands there, and so is shown: its record is record k of the file's lines, which lie end to end.
use Prim.Native.Nat.{ℕ, zero, suc, ◌+◌, ◌-◌, ◌*◌, ◌≤◌}
use mathlib.Core.Path.{◌≡◌, sym, ap, ◌∙◌, subst}
use mathlib.Core.List.{List, [], append-nil}
use native.Mathlib.Omega.{arith}
use lib.ListN.{length, take, drop, get_or, replicate}
use lib.Seq.{take_at, drop-append-add}
use Rattle.promises.specs.Rules.{image, Record, Line, Due, Follow, concat}
use Rattle.promises.specs.Newest.{Accepted, ImageDescriptor, line_due}
use Rattle.promises.specs.Shown.{line_start, line_record, Stands}
use Rattle.promises.proofs.Uniform.{uniform}

pub accepted_lines : (bs : List ℕ) (a : Accepted image bs) (k : ℕ) → 1 ≤ k → k ≤ a.plan.n → Stands bs k a.plan
accepted_lines bs a zero l h = absurd (omega arith)
accepted_lines bs a (suc j) l h =
    let p = a.plan in
    let size = a.begins.is.size in
    let d = line_due p in
    let one : 1 + j ≡ suc j = omega arith in
    let q = uniform p.n 1 j d [] a.rest (subst (λ (ds : List Due). Follow 1 ds a.rest) (sym (append-nil (replicate p.n d))) a.follows)
    (omega arith) in
    let e : line_start p (suc j) ≡ length a.first + j * p.l =
    (let z : suc j - 1 ≡ j = omega arith in ap (λ (i : ℕ). 720 + i * p.l) z ∙ ap (λ (i : ℕ). i + j * p.l) (sym size)) in
    let r : line_record p (suc j) bs ≡ get_or a.rest j [] =
    ap (λ (x : ℕ). take p.l (drop x bs)) e
    ∙ ap (λ (x : List ℕ). take p.l (drop (length a.first + j * p.l) x)) (sym a.are)
    ∙ ap (take p.l) (drop-append-add a.first (concat a.rest) (j * p.l))
    ∙ q.part in
    record {
      first = subst (λ (x : List ℕ). ImageDescriptor x p) (sym (ap (take 720) (sym a.are) ∙ take_at a.first (concat a.rest) 720 size)) a.begins;
      line =
          record {
            least = l;
            most = h;
            is = subst (Record (suc (suc j)) d.Codes p.l) (sym r) (subst (λ (o : ℕ). Record (suc o) d.Codes p.l (get_or a.rest j [])) one q.is);
            holds = subst (Line p.w (suc j)) (sym r) (subst (λ (o : ℕ). Line p.w o (get_or a.rest j [])) one q.holds);
          };
    }
