-- Records of one length, end to end: record i of a run stands i times that length behind its start. By induction over the run.
use Prim.Native.Nat.{ℕ, zero, suc, ◌+◌, ◌*◌, ◌<◌}
use mathlib.Core.Path.{◌≡◌, sym, ap, ◌∙◌, subst}
use mathlib.Core.List.{List, [], ◌∷◌, ◌++◌}
use native.Mathlib.Omega.{arith}
use native.Mathlib.Nat.{add-zero, suc-mul, zero-mul}
use lib.ListN.{length, get_or, take, drop, replicate}
use lib.Seq.{take_at, drop-append-add}
use Rattle.promises.specs.Rules.{Due, Record, Follow, concat}

-- record i of a run of m records, which are due before others
pub record At (k i : ℕ) (d : Due) (rs : List (List ℕ)) : Type 0 where
  pub is : Record (suc (k + i)) d.Codes d.long (get_or rs i [])
  pub holds : d.Holds (k + i) (get_or rs i [])
  pub part : take d.long (drop (i * d.long) (concat rs)) ≡ get_or rs i []

pub uniform : (m k i : ℕ) (d : Due) (ds : List Due) (rs : List (List ℕ)) → Follow k (replicate m d ++ ds) rs → i < m → At k i d rs
uniform zero k i d ds rs f h = absurd (omega arith)
uniform (suc m) k i d ds [] f h = absurd f
uniform (suc m) k zero d ds (r ∷ rs) f h =
    record {
      is = subst (λ (n : ℕ). Record (suc n) d.Codes d.long r) (sym (add-zero k)) f.0.0;
      holds = subst (λ (n : ℕ). d.Holds n r) (sym (add-zero k)) f.0.1;
      part = ap (λ (n : ℕ). take d.long (drop n (r ++ concat rs))) (zero-mul d.long) ∙ take_at r (concat rs) d.long f.0.0.size;
    }
uniform (suc m) k (suc i) d ds (r ∷ rs) f h =
    let q = uniform m (suc k) i d ds rs f.1 (omega arith) in
    let e : suc k + i ≡ k + suc i = omega arith in
    let n : suc i * d.long ≡ length r + i * d.long = (let a = suc-mul i d.long in let b = f.0.0.size in omega arith) in
    record {
      is = subst (λ (o : ℕ). Record (suc o) d.Codes d.long (get_or rs i [])) e q.is;
      holds = subst (λ (o : ℕ). d.Holds o (get_or rs i [])) e q.holds;
      part = ap (λ (x : ℕ). take d.long (drop x (r ++ concat rs))) n ∙ ap (take d.long) (drop-append-add r (concat rs) (i * d.long)) ∙ q.part;
    }
