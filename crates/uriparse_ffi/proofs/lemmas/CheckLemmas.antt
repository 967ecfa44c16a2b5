-- What a byte tells of a fact, and a number of an order.
use Rattle.std.proofs.Common.{◌≡◌, ◌↔◌, ℕ, Bool, true, false, refl, of_z, to_z, w32}
use Rattle.std.specs.Prelude.{IsTrue}
use Rattle.std.specs.declared.cmp.Ordering.{Ordering}
use Rattle.std.specs.declared.cmp.Ordering.TheVariants.{Less, Equal, Greater}
use Rattle.std.proofs.lemmas.Bool.{false≢true}
use Rattle.uriparse_ffi.specs.Checks.{Tells, order_number}
use Rattle.uriparse_ffi.specs.Code.{truth}

pub tells : (P : Type 0) (r : Bool) (n : ℕ) → IsTrue r ↔ P → n ≡ truth r → Tells P n
tells P true n iff e = (λ h. e, λ no. absurd (no (iff.0 refl)))
tells P false n iff e = (λ h. absurd (false≢true (iff.1 h)), λ no. e)

-- the number of an order, written and read back
pub number_back : (o : Ordering) → to_z w32 (of_z w32 (order_number o)) ≡ order_number o
number_back Less = refl
number_back Equal = refl
number_back Greater = refl
