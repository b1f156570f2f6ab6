-- The numbers of what is read, and of what is answered after it. Assumes nothing.
use mathlib.Core.Path.{◌≡◌, refl, sym, ap}
use mathlib.Core.List.{List}
use Prim.Native.Nat.{ℕ}
use Rattle.std.specs.Prelude.{Result, Ok, Err}
use Rattle.std.specs.Result.{result_err}
use Rattle.refusals.specs.declared.Refusal.{Refusal}
use Rattle.refusals.specs.Numbered.{refusal_number, given_by}
use Rattle.refusals.specs.Tests.{answer}
use Rattle.refusals.proofs.Tests.{answer_some}
use Rattle.refusals.proofs.Told.{refusal_some, by_refusal}
use Rattle.request.specs.declared.Request.{Request}
use Rattle.request.specs.Numbered.{emptied, limit_number, known_told}
use Rattle.request.specs.Read.{limit_of, limited, read_of}

-- past one of rows 1 to 6 the limits are not looked at
pub refused_stays : (e : Refusal) → emptied (refusal_number e) ≡ limited (emptied (refusal_number e))
refused_stays e = ap (λ (n : ℕ). record { refusal = n; request = (emptied 0).request }) (sym (answer_some (λ n. n) _ (refusal_number e) (refusal_some e)))

-- and else they are beside the request
pub limit_read : (r : Request) (l : Result (Unit {0}) Refusal) → given_by l ≡ limit_of r.video r.sound
    → known_told (record { request = r; limit = result_err l }) ≡ limited (record { refusal = 0; request = r })
limit_read r (Ok u) h = rw (← h)
limit_read r (Err e) h = rw (← h)

-- the limit's number is the one given
pub limit_number_err : (l : Result (Unit {0}) Refusal) (n : ℕ) → given_by l ≡ n → limit_number (result_err l) ≡ n
limit_number_err (Ok u) n h = h
limit_number_err (Err e) n h = h

-- what a call answers that reads a request first: its refusal, or what f says of the request
module _ {X : Type 0} (refused : ℕ → X) (f : Request → X) (input : List ℕ) where
  pub read_refuses : (e : Refusal) (r : Request) → record { refusal = refusal_number e; request = r } ≡ read_of input
      → refused (refusal_number e) ≡ answer (read_of input).refusal refused (f (read_of input).request)
  read_refuses e r h = rw (← h) (by_refusal refused (f r) (refusal_number e) e refl)

  pub read_gives : (r : Request) → record { refusal = 0; request = r } ≡ read_of input → f r ≡ answer (read_of input).refusal refused (f (read_of input).request)
  read_gives r h = rw (← h) refl
