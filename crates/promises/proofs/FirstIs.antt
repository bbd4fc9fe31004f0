-- `first_is`: a first record of the due length passes exactly where it is a first record of the rules, and the plan that the walk takes from it is
-- the rules' plan; kind by kind. `first_plan`: whatever plan the rules give it has the same numbers.
use Prim.Native.Nat.{ℕ}
use mathlib.Core.Path.{◌≡◌}
use mathlib.Core.List.{List}
use mathlib.Core.Logic.{◌↔◌}
use lib.ListN.{length}
use Rattle.std.specs.Prelude.{Ok}
use Rattle.plan.specs.Plan.{first_length, first_codes}
use Rattle.plan.specs.declared.Plan.{Plan}
use Rattle.bodies.specs.Bodies.{body_of}
use Rattle.bodies.specs.Named.{plan_of}
use Rattle.headers.specs.Header.{header_of}
use Rattle.promises.specs.Rules.{Kind, volume, leader, image, trailer, kind_number}
use Rattle.promises.specs.Edition.{newest}
use Rattle.promises.specs.Newest.{First}
use Rattle.promises.proofs.AnyEdition.{Same, same_self, first_size}
use Rattle.promises.proofs.FirstVolume.{volume_is}
use Rattle.promises.proofs.FirstLeader.{leader_is}
use Rattle.promises.proofs.FirstImage.{image_is}
use Rattle.promises.proofs.FirstTrailer.{trailer_is}

-- header and body of the first record have no fault
pub record Fault_free (kind : ℕ) (p : Plan) (r : List ℕ) : Type 0 where
  pub head : header_of 1 (first_codes kind) (first_length kind) r ≡ Ok tt
  pub body : body_of kind 0 p 0 r ≡ Ok tt

pub first_names : (kind : Kind) (p q : Plan) (r : List ℕ) → length r ≡ first_length (kind_number kind)
    → (Fault_free (kind_number kind) p r × Same kind (plan_of (kind_number kind) r) q) ↔ First kind r q
unfolding first_length plan_of
first_names volume p q r size = (
  λ h. (volume_is p q r size).0 (h.0.head, h.0.body, h.1),
  λ d. let h = (volume_is p q r size).1 d in (record { head = h.0; body = h.1 }, h.2),
)
first_names leader p q r size = (
  λ h. (leader_is p q r size).0 (h.0.head, h.0.body, h.1),
  λ d. let h = (leader_is p q r size).1 d in (record { head = h.0; body = h.1 }, h.2),
)
first_names image p q r size = (
  λ h. (image_is p q r size).0 (h.0.head, h.0.body, record { n = h.1.0; l = h.1.1; w = h.1.2; d = h.1.3; s = h.1.4; sort = h.1.5 }),
  λ d. let h = (image_is p q r size).1 d in (record { head = h.0; body = h.1 }, (h.2.n, h.2.l, h.2.w, h.2.d, h.2.s, h.2.sort)),
)
first_names trailer p q r size = (
  λ h. (trailer_is p q r size).0 (h.0.head, h.0.body),
  λ d. let h = (trailer_is p q r size).1 d in (record { head = h.0; body = h.1 }, tt),
)

pub first_is : (kind : Kind) (p : Plan) (r : List ℕ) → length r ≡ first_length (kind_number kind)
    → Fault_free (kind_number kind) p r ↔ First kind r (plan_of (kind_number kind) r)
first_is kind p r size = (
  λ h. (first_names kind p (plan_of (kind_number kind) r) r size).0 (h, same_self kind (plan_of (kind_number kind) r)),
  λ d. ((first_names kind p (plan_of (kind_number kind) r) r size).1 d).0,
)

-- a record leaves the rules one plan
pub first_plan : (kind : Kind) (q : Plan) (r : List ℕ) → First kind r q → Same kind (plan_of (kind_number kind) r) q
first_plan kind q r d = ((first_names kind q q r (first_size newest kind q r d)).1 d).1
